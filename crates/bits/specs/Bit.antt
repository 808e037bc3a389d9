-- One bit of a number.
use Rattle.std.specs.Prelude.{ℕ, Bool, ◌==◌}
use Rattle.std.specs.Int.{bit_at}

-- whether bit k of n is set, counted from the lowest
abbrev pub bit : ℕ → ℕ → Bool
bit n k = bit_at n k == 1
