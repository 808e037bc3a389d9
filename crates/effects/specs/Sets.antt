-- Sets of the sixteen facts, a bit for each.
use Rattle.std.specs.Prelude.{ℕ, ◌-◌, bit_and, bit_or}

abbrev pub union : ℕ → ℕ → ℕ
union a b = bit_or a b

abbrev pub intersection : ℕ → ℕ → ℕ
intersection a b = bit_and a b

-- the facts that are not in the set
abbrev pub others : ℕ → ℕ
others a = 65535 - a

abbrev pub difference : ℕ → ℕ → ℕ
difference a b = intersection a (others b)
