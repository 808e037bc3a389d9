-- Storing: the bytes of the calls that make a sheet.
use Rattle.std.specs.Prelude.{◌≡◌, ℕ, cond, List, map, length, Ok, Err, Result, nat_le}
use Rattle.reading.specs.Splice.{splice}
use Rattle.sheets.specs.Sheet.{Sheet}
use Rattle.sheets.specs.Questions.{State}
use Rattle.faults.specs.declared.StoreFault.{StoreFault}
use Rattle.faults.specs.declared.StoreFault.TheVariants.{ShortStrip, NoRoom}
use Rattle.calls.specs.Spell.{stored}
use Rattle.loading.specs.Load.{Loaded}

-- what a store answers, and the buffer that it leaves
pub record Stored : Type 0 where
  pub answer : Result ℕ StoreFault
  pub buffer : List ℕ

abbrev pub refused : StoreFault → List ℕ → Stored
refused e out = record { answer = Err e; buffer = out }

-- the bytes bs at the front of a buffer, if they have room in it
abbrev pub put_in : List ℕ → List ℕ → Stored
put_in bs out = cond (nat_le (length bs) (length out)) (record { answer = Ok (length bs); buffer = splice bs out }) (refused NoRoom out)

-- a strip cell for each rule? room for all the bytes?
abbrev pub storing : {W : Type 0} → (W → List ℕ) → Sheet → List W → List ℕ → Stored
storing bytes s ws out = cond (nat_le (length s.rules) (length ws)) (put_in (stored bytes s ws) out) (refused ShortStrip out)

-- a load that took n bytes and led to the sheet of u, and to a strip that means the same as that of u
pub record LoadsAs {W V : Type 0} (meaning : W → V) (n : ℕ) (l : Loaded W) (u : State W) : Type 0 where
  pub whole : l.answer ≡ Ok n
  pub sheet : l.state.sheet ≡ u.sheet
  pub means : map meaning l.state.strip ≡ map meaning u.strip
