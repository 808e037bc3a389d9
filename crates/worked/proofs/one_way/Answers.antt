use Rattle.std.proofs.Common.{◌∙◌, arith, rules}
use Rattle.relations.proofs.Pairs.{value_same}
use Rattle.worked.proofs.Cases.{one_way}
use Rattle.worked.proofs.one_way.Goals as goal

pub returns : goal.returns
returns c = value_same c.extend.result.0 0x08 (search rules) (omega arith) (c.extend.ensures.means ∙ one_way)
