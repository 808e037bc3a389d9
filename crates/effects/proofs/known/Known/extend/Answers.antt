use Rattle.std.proofs.Common.{rules}
use Rattle.effects.proofs.Effects.{effects_later, extend_apart}
use Rattle.effects.proofs.known.Known.extend.Goals as goal

pub invariant_of-result : goal.invariant_of-result
invariant_of-result c = search (rules, extend_apart)

pub returns-clause-each : goal.returns-clause-each
returns-clause-each c = effects_later _ _ _ _ (search rules) (search rules)
