-- What an iterator has left.
use Rattle.std.specs.Prelude.{ℕ, List, map}
use Rattle.sheets.specs.declared.call.Call.{Call}
use Rattle.sheets.specs.Calls.{form_of, marked, listed}
use Rattle.storing.specs.declared.calls_of.Finals.{Finals}
use Rattle.storing.specs.declared.calls_of.Calls.{Calls}

-- the states of the flags that are set
abbrev pub finals_left : Finals → List ℕ
finals_left f = marked f.state f.flags.now

-- the calls, in stored order
abbrev pub calls_left : {W : Type 0} → Calls W → List (Call W)
calls_left c = listed c.size (map form_of c.rules.now) c.strip.now c.arrows.now (finals_left c.finals)
