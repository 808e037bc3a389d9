use Rattle.relations.proofs.Pairs.{pairs_diagonal}
use Rattle.relations.proofs.weight.RelationWeight.one.Goals as goal

pub returns : goal.returns
returns c = record { means = λ t i j. pairs_diagonal i j t; own = pairs_diagonal }
