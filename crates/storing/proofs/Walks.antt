-- Calls counted through from the first on: how many bytes they have, what is left of a room, and what is written.
use Rattle.std.proofs.Common.{◌≡◌, ℕ, zero, suc, ◌+◌, ◌-◌, ◌≤◌, List, ◌∷◌, length, take, refl, ap, arith}
use Rattle.std.specs.List.{slice_get}
use Rattle.reading.specs.Splice.{splice}
use Rattle.sheets.specs.declared.call.Counts.{Counts}
use Rattle.sheets.specs.declared.call.Call.{Call}
use Rattle.sheets.specs.declared.call.Call.TheVariants.{Size}
use Rattle.calls.specs.Spell.{spells}

module _ {W : Type 0} where
  -- where the size is set, it is the first call
  pub sized_later : (c : Counts) (cs : List (Call W)) (i : ℕ) → (i ≡ 0 → ⊥) → slice_get cs (i - 1) ≡ slice_get (Size c ∷ cs) i
  sized_later c cs zero h = absurd (h refl)
  sized_later c cs (suc i) h = ap (slice_get cs) (omega arith)

module _ {W : Type 0} (bytes : W → List ℕ) (cs : List (Call W)) where
  -- how many bytes the first n calls have
  abbrev pub width_of : ℕ → ℕ
  width_of n = length (spells bytes (take n cs))

  -- the first n calls have their room, and `rest` of it is left
  pub record Fitted (room rest n : ℕ) : Type 0 where
    pub within : n ≤ length cs
    pub few : n ≤ width_of n
    pub taken : rest + width_of n ≡ room

  -- before the first call, the whole room is left
  pub fits_none : (room : ℕ) → Fitted room room 0
  fits_none room = record { within = omega arith; few = omega arith; taken = omega arith }

  -- the first n calls are written to the front of a buffer, and `at` says how many bytes they are
  pub record Writes (first now : List ℕ) (at n : ℕ) : Type 0 where
    pub within : n ≤ length cs
    pub few : n ≤ at
    pub count : at ≡ width_of n
    pub out : now ≡ splice (spells bytes (take n cs)) first

  -- before the first call, nothing is written
  pub writes_none : (first : List ℕ) → Writes first first 0 0
  writes_none first = record { within = omega arith; few = omega arith; count = refl; out = refl }
