-- Where a reader stands.
use Rattle.std.specs.Prelude.{◌≡◌, ℕ, ◌+◌, Bool, cond, ◌&&◌, List, length, drop, nat_le}

-- the bytes that are not read yet, how many bytes stand before them, and how many entries those are
pub record Standing : Type 0 where
  pub left : List ℕ
  pub place : ℕ
  pub passed : ℕ

-- before the first entry of the input
abbrev pub start : List ℕ → Standing
start input = record { left = input; place = 0; passed = 0 }

-- behind the next n bytes, which are an entry
abbrev pub past : ℕ → Standing → Standing
past n r = record { left = drop n r.left; place = r.place + n; passed = r.passed + 1 }

-- whether n bytes are an entry, which has a kind and a body, and are left
abbrev pub passable : Standing → ℕ → Bool
passable r n = nat_le 2 n && nat_le n (length r.left)

-- what passing an entry of n bytes does: nothing, if it is not passable
pub record Passes (n : ℕ) (before after : Standing) (r : Bool) : Type 0 where
  pub says : r ≡ passable before n
  pub stands : after ≡ cond (passable before n) (past n before) before
