use Rattle.std.proofs.Common.{◌≡◌, Decides, rules}
use Rattle.std.proofs.lemmas.Bool.Decides.{Decides-like}
use Rattle.facts.specs.Stored.{stored}
use Rattle.facts.specs.Records.{stored_means, means_stored}
use Rattle.facts.proofs.weight.FactsWeight.same.Goals as goal

pub returns-clause-means : goal.returns-clause-means
returns-clause-means c =
    let x = c.args.self in
    let y = c.args.other in
    let value : Decides c.eq.result (stored x ≡ stored y) = search rules in
    Decides-like c.eq.result (stored_means x y) (means_stored x y (search rules) (search rules) (search rules) (search rules)) value
