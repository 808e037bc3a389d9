use Rattle.std.proofs.Common.{arith}
use Rattle.std.proofs.lemmas.Grind.{common_steps}
use Rattle.storing.proofs.Writes.{written_on}
use Rattle.storing.proofs.store.write_all.Goals as goal

pub loop-call-preserved : goal.loop-call-preserved
loop-call-preserved g c = grind (arith, common_steps, written_on)
