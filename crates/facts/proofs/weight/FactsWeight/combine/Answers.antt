use Rattle.facts.specs.Records.{combine_means}
use Rattle.facts.proofs.weight.FactsWeight.combine.Goals as goal

pub returns-in-Some-Some-clause-means : goal.returns-in-Some-Some-clause-means
returns-in-Some-Some-clause-means c =
    let both = c.in-Some-Some in
    combine_means c.args.self c.args.other c.into.result both.first both.second c.combine.result
    (rw both.is-0 at c.known.ensures) both.ensures c.into.ensures c.combine.ensures.each
