use Rattle.std.proofs.Common.{rules}
use Rattle.effects.proofs.Effects.{effects_either, combine_apart}
use Rattle.effects.proofs.known.Known.combine.Goals as goal

pub invariant_of-result : goal.invariant_of-result
invariant_of-result c = search (rules, combine_apart)

pub returns-clause-each : goal.returns-clause-each
returns-clause-each c = effects_either _ _ _ _
