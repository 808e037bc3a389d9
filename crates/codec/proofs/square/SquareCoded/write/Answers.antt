use Rattle.std.proofs.Common.{◌+◌, ◌++◌, add_assoc, append_assoc}
use Rattle.reading.proofs.Puts.{then_written}
use Rattle.codec.specs.Codes.{code, written_reads}
use Rattle.codec.specs.Pairs.{square_code, length_then}
use Rattle.codec.proofs.square.SquareCoded.write.Goals as goal

pub returns : goal.returns
returns g c =
    let k = code g.W.Coded.look g.W.Weight.meaning g.W.Coded.bytes g.W.Coded.width g.met.W.Coded.wide g.met.W.Coded.back in
    let n = k.width in
    let x = c.args.self in
    let b0 = k.bytes x.w00 in
    let b1 = k.bytes x.w01 in
    let b2 = k.bytes x.w10 in
    let b3 = k.bytes x.w11 in
    let two = length_then b0 b1 n n (k.wide x.w00) (k.wide x.w01) in
    let three = length_then (b0 ++ b1) b2 (n + n) n two (k.wide x.w10) in
    let all = then_written three (then_written two (then_written (k.wide x.w00) c.in_ok-n.ensures.wrote c.in_ok-n-2.ensures.wrote) c.in_ok-n-3.ensures.wrote) c.in_ok-n-4.ensures.wrote in
    let wrote = rw (append_assoc (b0 ++ b1) b2 b3, append_assoc b0 b1 (b2 ++ b3), add_assoc (n + n) n n, add_assoc n n (n + n)) at all in
    record { wrote = wrote; back = written_reads (square_code k) x wrote }
