use Rattle.std.proofs.Common.{◌∙◌, arith, rules}
use Rattle.relations.proofs.Pairs.{value_same}
use Rattle.worked.proofs.Cases.{no_way}
use Rattle.worked.proofs.no_way.Goals as goal

pub returns : goal.returns
returns c = value_same c.extend.result.0 0 (search rules) (omega arith) (c.extend.ensures.means ∙ no_way)
