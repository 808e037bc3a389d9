-- What stored lengths mean.
use Rattle.std.proofs.Common.{◌≡◌, ℕ, ◌≤◌, ap, arith}
use Rattle.lengths.specs.Lengths.{Capped, capped, longest}

-- lengths in the range that mean one value are one
pub capped_same : (m n : ℕ) → m ≤ longest → n ≤ longest → capped m ≡ capped n → m ≡ n
capped_same m n p q e = let s = ap (λ (x : Capped). x.steps) e in omega arith
