-- The type of n indices, and what is asked of all of them.
use Rattle.std.specs.Prelude.{ℕ, zero, suc, ◌+◌, Bool, true, false, ◌&&◌, ◌||◌, ◌⊎◌}
use Rattle.std.proofs.Common.{inl, inr}

-- the indices below n: the first, and one for each index below n - 1
abbrev pub Upto : ℕ → Type 0
Upto zero = ⊥
Upto (suc n) = Unit {0} ⊎ Upto n

-- the number of an index, counted from 0
abbrev pub place : (n : ℕ) → Upto n → ℕ
place zero i = absurd i
place (suc n) (inl first) = 0
place (suc n) (inr i) = suc (place n i)

-- some index has it
abbrev pub some : (n : ℕ) → (Upto n → Bool) → Bool
some zero f = false
some (suc n) f = f (inl tt) || some n (λ i. f (inr i))

-- every index has it
abbrev pub every : (n : ℕ) → (Upto n → Bool) → Bool
every zero f = true
every (suc n) f = f (inl tt) && every n (λ i. f (inr i))

-- the sum over all indices
abbrev pub total : (n : ℕ) → (Upto n → ℕ) → ℕ
total zero f = 0
total (suc n) f = f (inl tt) + total n (λ i. f (inr i))
