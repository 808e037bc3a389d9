-- Bytes written to the front of a buffer.
use Rattle.std.specs.Prelude.{◌≡◌, ℕ, ◌<◌, ◌≤◌, List, ◌++◌, length, drop, Option, MatchOption}

-- a list with its first elements written over
abbrev pub splice : List ℕ → List ℕ → List ℕ
splice bs out = bs ++ drop (length bs) out

-- n bytes have no room, and nothing is written
pub record Full (n : ℕ) (before after : List ℕ) : Type 0 where
  pub short : length before < n
  pub same : after ≡ before

-- the n bytes bs are written, and m says how many they are
pub record Written (n : ℕ) (bs before after : List ℕ) (m : ℕ) : Type 0 where
  pub room : n ≤ length before
  pub count : m ≡ n
  pub put : after ≡ splice bs before

abbrev pub Wrote : (n : ℕ) (bs before after : List ℕ) → Option ℕ → Type 0
Wrote n bs before after r = MatchOption r (Full n before after) (Written n bs before after)
