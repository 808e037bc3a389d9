use Rattle.std.proofs.Common.{arith}
use Rattle.worked.proofs.Numbers.{shorter_number}
use Rattle.worked.proofs.side_by_side.Goals as goal

pub returns-clause-first : goal.returns-clause-first
returns-clause-first c =
    shorter_number c.combine.result.first.0 c.args.a.first.0 c.args.b.first.0 (omega arith) (omega arith) (omega arith) c.combine.ensures.first
