use Rattle.calls.proofs.Steps.{took_onto}
use Rattle.calls.proofs.make.make.Goals as goal

pub returns-in-Size : goal.returns-in-Size
returns-in-Size g c = rw c.in-Size.is (took_onto c.args.strip.now _ _ _ _ c.size.ensures.took)

pub returns-in-Arrow : goal.returns-in-Arrow
returns-in-Arrow g c = rw c.in-Arrow.is (took_onto c.args.strip.now _ _ _ _ c.arrow.ensures.took)

pub returns-in-Final : goal.returns-in-Final
returns-in-Final g c = rw c.in-Final.is (took_onto c.args.strip.now _ _ _ _ c.mark_final.ensures.took)
