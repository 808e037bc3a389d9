use Rattle.facts.specs.Records.{extend_means}
use Rattle.facts.proofs.weight.FactsWeight.extend.Goals as goal

pub returns-in-Some-Some-clause-means : goal.returns-in-Some-Some-clause-means
returns-in-Some-Some-clause-means c =
    let both = c.in-Some-Some in
    extend_means c.args.self c.args.other c.into.result both.first both.second c.extend.result
    (rw both.is-0 at c.known.ensures) both.ensures c.into.ensures c.extend.ensures.each
