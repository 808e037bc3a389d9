use Rattle.std.proofs.Common.{◌≡◌, ◌+◌, length}
use Rattle.calls.specs.Spell.{spells}
use Rattle.storing.specs.Left.{calls_left}
use Rattle.storing.proofs.store.all_fit.Given as goal

-- the bytes of the calls that have passed are what has gone of the room
abbrev pub invariant-loop-call : goal.invariant-loop-call
invariant-loop-call g l =
    (goal.iterator-loop-call g).can_next l.call-iterator
    × (goal.iterator-loop-call g).is_finite l.call-iterator
    × (l.rest + length (spells g.W.Coded.bytes (calls_left l.fn.calls)) ≡ l.room + length (spells g.W.Coded.bytes (calls_left l.call-iterator)))
