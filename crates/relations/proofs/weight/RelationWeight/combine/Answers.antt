use Rattle.relations.proofs.Pairs.{pairs_or}
use Rattle.relations.proofs.weight.RelationWeight.combine.Goals as goal

pub returns : goal.returns
returns c =
    let either = pairs_or c.args.self.0 c.args.other.0 in
    record { means = λ t i j. either i j t; either = either }
