-- What stored widths mean.
use Rattle.std.proofs.Common.{◌≡◌, ℕ, ◌≤◌, ap, arith}
use Rattle.bottleneck.specs.Widths.{Bounded, width, widest}

-- numbers in the range that mean one width are one
pub width_same : (m n : ℕ) → m ≤ widest → n ≤ widest → width m ≡ width n → m ≡ n
width_same m n p q e = let s = ap (λ (x : Bounded). x.units) e in omega arith
