use Rattle.std.proofs.Common.{arith}
use Rattle.relations.proofs.Rows.{rowed_yes, rowed_no, rowed_all}
use Rattle.relations.proofs.weight.united.Goals as goal
use Rattle.relations.proofs.weight.united.Goals.{then-picks-j-eq1, else-picks-j-eq1}

pub loop-j-preserved : goal.loop-j-preserved
loop-j-preserved c =
    elim c.if-picks-j-eq1.branch [
      | then-picks-j-eq1 w ↦ rw w.all-is (rowed_yes _ _ _ _ c.loop-j.invariant w.if-picks-j-eq1.true)
      | else-picks-j-eq1 w ↦ rw w.all-is (rowed_no _ _ _ _ c.loop-j.invariant w.if-picks-j-eq1.false)
    ]

pub returns : goal.returns
returns c = rowed_all _ _ c.loop-j.j _ (omega arith) c.loop-j.invariant
