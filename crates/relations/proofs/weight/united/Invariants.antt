use Rattle.relations.proofs.Rows.{Rowed}
use Rattle.relations.proofs.weight.united.Given as goal

abbrev pub invariant-loop-j : goal.invariant-loop-j
invariant-loop-j l = Rowed l.picks l.row-items l.j l.all
