use Rattle.reading.proofs.Puts.{then_written}
use Rattle.codec.specs.Codes.{code, written_reads}
use Rattle.codec.specs.Pairs.{pair_code}
use Rattle.codec.proofs.pair.PairCoded.write.Goals as goal

pub returns : goal.returns
returns g c =
    let a = code g.A.Coded.look g.A.Weight.meaning g.A.Coded.bytes g.A.Coded.width g.met.A.Coded.wide g.met.A.Coded.back in
    let b = code g.B.Coded.look g.B.Weight.meaning g.B.Coded.bytes g.B.Coded.width g.met.B.Coded.wide g.met.B.Coded.back in
    let x = c.args.self in
    let wrote = then_written (a.wide x.first) c.in_ok-first.ensures.wrote c.in_ok-second.ensures.wrote in
    record { wrote = wrote; back = written_reads (pair_code a b) x wrote }
