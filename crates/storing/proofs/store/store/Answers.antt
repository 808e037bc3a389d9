use Rattle.std.proofs.Common.{◌≤◌, length, IfOk, rules}
use Rattle.std.proofs.lemmas.Result.{IfOk-weaker}
use Rattle.reading.specs.Splice.{Written}
use Rattle.codec.specs.Codes.{code}
use Rattle.storing.proofs.Backs.{bs, LoadsBack, loads_back}
use Rattle.storing.proofs.store.store.Goals as goal

pub returns-clause-back : goal.returns-clause-back
returns-clause-back g c =
    let k = code g.W.Coded.look g.W.Weight.meaning g.W.Coded.bytes g.W.Coded.width g.met.W.Coded.wide g.met.W.Coded.back in
    let s = c.args.draft.now in
    let ws = c.args.strip.now in
    let out = c.args.out.now in
    let next = c.write_all.new.out in
    let enough : length s.rules ≤ length ws = search rules in
    let written : IfOk c.ok_or-3.result (Written (length (bs k s ws)) (bs k s ws) out next) = search rules in
    IfOk-weaker c.ok_or-3.result (Written (length (bs k s ws)) (bs k s ws) out next) (LoadsBack k s ws next) (loads_back k s ws c.of.ensures.fits enough out next) written
