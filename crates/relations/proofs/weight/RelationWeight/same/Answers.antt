use Rattle.std.proofs.Common.{rules}
use Rattle.relations.proofs.Pairs.{value_decides, pairwise_decides}
use Rattle.relations.proofs.weight.RelationWeight.same.Goals as goal

pub returns-clause-means : goal.returns-clause-means
returns-clause-means c = value_decides _ c.args.self.0 c.args.other.0 (search rules) (search rules) (search rules)

pub returns-clause-pairwise : goal.returns-clause-pairwise
returns-clause-pairwise c = pairwise_decides _ c.args.self.0 c.args.other.0 (search rules) (search rules) (search rules)
