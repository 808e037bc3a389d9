-- Bytes written into a buffer from a place on.
use Rattle.std.specs.Prelude.{◌≡◌, ℕ, ◌+◌, ◌<◌, ◌≤◌, List, ◌++◌, length, take, drop, Option, MatchOption}

-- a list with some of its elements written over
abbrev pub splice_at : ℕ → List ℕ → List ℕ → List ℕ
splice_at at bs out = take at out ++ (bs ++ drop (at + length bs) out)

-- n bytes from `at` on have no room, and nothing is written
pub record FullAt (at n : ℕ) (before after : List ℕ) : Type 0 where
  pub short : length before < at + n
  pub same : after ≡ before

-- the n bytes bs are written from `at` on, and end at `end`
pub record WrittenAt (at n : ℕ) (bs before after : List ℕ) (end : ℕ) : Type 0 where
  pub room : at + n ≤ length before
  pub next : end ≡ at + n
  pub put : after ≡ splice_at at bs before

abbrev pub WroteAt : (at n : ℕ) (bs before after : List ℕ) → Option ℕ → Type 0
WroteAt at n bs before after r = MatchOption r (FullAt at n before after) (WrittenAt at n bs before after)
