use Rattle.std.proofs.Common.{◌≡◌, ◌+◌, ◌++◌, length, take, drop}
use Rattle.reading.specs.Splice.{splice}
use Rattle.calls.specs.Spell.{spells}
use Rattle.storing.specs.Left.{calls_left}
use Rattle.storing.proofs.store.write_all.Given as goal

-- the calls that are left, written from `at` on, give the buffer that all calls give from the start on
abbrev pub invariant-loop-call : goal.invariant-loop-call
invariant-loop-call g l =
    (goal.iterator-loop-call g).can_next l.call-iterator
    × (goal.iterator-loop-call g).is_finite l.call-iterator
    × (l.at + length (spells g.W.Coded.bytes (calls_left l.call-iterator)) ≡ length (spells g.W.Coded.bytes (calls_left l.fn.calls)))
    × (take l.at l.out ++ splice (spells g.W.Coded.bytes (calls_left l.call-iterator)) (drop l.at l.out) ≡ splice (spells g.W.Coded.bytes (calls_left l.fn.calls)) l.initial.out)
