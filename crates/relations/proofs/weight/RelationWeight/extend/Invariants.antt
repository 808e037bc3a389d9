use Rattle.relations.proofs.Rows.{Composing}
use Rattle.relations.proofs.weight.RelationWeight.extend.Given as goal

abbrev pub invariant-loop-row : goal.invariant-loop-row
invariant-loop-row l = Composing l.initial.row-items l.rows l.row-index l.row-items
