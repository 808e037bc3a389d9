-- The number that is stored, by what it means.
use Rattle.std.proofs.Common.{◌≡◌, ℕ, ◌≤◌, min, ap, ◌∙◌, arith}
use Rattle.lengths.specs.Lengths.{capped, lengths, longest, summed}
use Rattle.worked.specs.Cases.{shortest_way}

pub shorter_number : (r a b : ℕ) → r ≤ longest → a ≤ longest → b ≤ longest → capped r ≡ lengths.combine (capped a) (capped b) → r ≡ min a b
shorter_number r a b p q s e = omega (arith, ap lengths.rank e)

within : (r : ℕ) → r ≤ longest → r ≡ min r longest
within r h = omega (arith, h)

step : (a x : ℕ) → summed (min a longest) (min x longest) ≡ summed a x
step a x = omega arith

pub way_number : (r a x b y : ℕ) → r ≤ longest
    → capped r ≡ lengths.combine (lengths.extend (capped a) (capped x)) (lengths.extend (capped b) (capped y))
    → r ≡ shortest_way a x b y
way_number r a x b y h e = within r h ∙ ap lengths.rank e ∙ (λ i. min (step a x i) (step b y i))
