-- Finite index types: their numbers, some, every and total.
use Rattle.std.proofs.Common.{◌≡◌, ℕ, zero, suc, ◌+◌, ◌*◌, ◌<◌, ◌≤◌, Bool, true, false, ◌&&◌, ◌||◌, eqb, Decides, sym, refl, ap, subst, inl, inr, suc-mul, arith}
use Rattle.std.proofs.Math.Bool.{and-true, and-false, or_assoc, or_comm, or-false, and-or_distrib_right}
use Rattle.std.proofs.lemmas.Bool.{false≢true, and_parts, and_from, or_cases, or_left, or_right}
use Rattle.std.proofs.Math.Dec.{eqb-zero-suc, eqb-suc-zero, eqb-suc-suc}
use Rattle.bits.specs.Upto.{Upto, place, some, every, total}

-- ---- the numbers of indices

pub place_below : (n : ℕ) (i : Upto n) → place n i < n
place_below zero i = absurd i
place_below (suc n) (inl first) = omega arith
place_below (suc n) (inr i) = omega (arith, place_below n i)

-- the index with the number k
abbrev pub at : (n k : ℕ) → k < n → Upto n
at zero k h = absurd (omega (arith, h))
at (suc n) zero h = inl tt
at (suc n) (suc k) h = inr (at n k (omega (arith, h)))

pub place_at : (n k : ℕ) (h : k < n) → place n (at n k h) ≡ k
place_at zero k h = absurd (omega (arith, h))
place_at (suc n) zero h = refl
place_at (suc n) (suc k) h = ap suc (place_at n k (omega (arith, h)))

-- two indices with one number are one
pub place_same : (n : ℕ) (i j : Upto n) → place n i ≡ place n j → i ≡ j
place_same zero i j e = absurd i
place_same (suc n) (inl a) (inl b) e = refl
place_same (suc n) (inl a) (inr j) e = absurd (omega (arith, e))
place_same (suc n) (inr i) (inl a) e = absurd (omega (arith, e))
place_same (suc n) (inr i) (inr j) e = ap inr (place_same n i j (omega (arith, e)))

-- what holds of every index holds of every number below n
pub by_place : (n : ℕ) (P : ℕ → Type 0) → ((i : Upto n) → P (place n i)) → (k : ℕ) → k < n → P k
by_place n P all k h = subst P (place_at n k h) (all (at n k h))

-- ---- some

pub some_none : (n : ℕ) → some n (λ i. false) ≡ false
some_none zero = refl
some_none (suc n) = some_none n

pub some_or : (n : ℕ) (f g : Upto n → Bool) → some n (λ i. f i || g i) ≡ (some n f || some n g)
some_or zero f g = refl
some_or (suc n) f g = grind (arith, some_or n (λ i. f (inr i)) (λ i. g (inr i)), or_assoc, or_comm)

pub and_some : (n : ℕ) (b : Bool) (f : Upto n → Bool) → some n (λ i. b && f i) ≡ (b && some n f)
and_some n true f = refl
and_some n false f = some_none n

pub some_and : (n : ℕ) (f : Upto n → Bool) (b : Bool) → some n (λ i. f i && b) ≡ (some n f && b)
some_and zero f b = refl
some_and (suc n) f b = grind (arith, some_and n (λ i. f (inr i)) b, and-or_distrib_right)

pub some_swap : (n m : ℕ) (f : Upto n → Upto m → Bool) → some n (λ i. some m (λ j. f i j)) ≡ some m (λ j. some n (λ i. f i j))
some_swap zero m f = sym (some_none m)
some_swap (suc n) m f =
    cc (some_swap n m (λ i j. f (inr i) j), some_or m (λ j. f (inl tt) j) (λ j. some n (λ i. f (inr i) j)))

-- the one index that is i has it
pub some_same : (n : ℕ) (i : Upto n) (f : Upto n → Bool) → some n (λ k. eqb (place n i) (place n k) && f k) ≡ f i
some_same zero i f = absurd i
some_same (suc n) (inl a) f = simp eqb-zero-suc (rw (some_none n) (or-false (f (inl tt))))
some_same (suc n) (inr i) f = simp (eqb-suc-zero, eqb-suc-suc) (some_same n i (λ k. f (inr k)))

pub same_some : (n : ℕ) (f : Upto n → Bool) (i : Upto n) → some n (λ k. f k && eqb (place n k) (place n i)) ≡ f i
same_some zero f i = absurd i
same_some (suc n) f (inl a) = simp (and-true, eqb-suc-zero, and-false) (rw (some_none n) (or-false (f (inl tt))))
same_some (suc n) f (inr i) = simp (eqb-zero-suc, eqb-suc-suc, and-false) (same_some n (λ k. f (inr k)) i)

-- the first of the indices that have it
pub some_true : (n : ℕ) (f : Upto n → Bool) → some n f ≡ true → (i : Upto n) × (f i ≡ true)
some_true zero f e = absurd (false≢true e)
some_true (suc n) f e =
    elim (or_cases (f (inl tt)) _ e) [
      | inl here ↦ (inl tt, here)
      | inr later ↦ let found = some_true n (λ i. f (inr i)) later in (inr found.0, found.1)
    ]

pub true_some : (n : ℕ) (f : Upto n → Bool) (i : Upto n) → f i ≡ true → some n f ≡ true
true_some zero f i e = absurd i
true_some (suc n) f (inl a) e = or_left _ _ e
true_some (suc n) f (inr i) e = or_right (f (inl tt)) _ (true_some n (λ i. f (inr i)) i e)

pub some_decides : (n : ℕ) (f : Upto n → Bool) → Decides (some n f) ((i : Upto n) × (f i ≡ true))
some_decides n f = (some_true n f, λ found. true_some n f found.0 found.1)

-- ---- every

pub every_true : (n : ℕ) (f : Upto n → Bool) → every n f ≡ true → (i : Upto n) → f i ≡ true
every_true zero f e i = absurd i
every_true (suc n) f e (inl a) = (and_parts (f (inl tt)) _ e).0
every_true (suc n) f e (inr i) = every_true n (λ i. f (inr i)) (and_parts (f (inl tt)) _ e).1 i

pub true_every : (n : ℕ) (f : Upto n → Bool) → ((i : Upto n) → f i ≡ true) → every n f ≡ true
true_every zero f h = refl
true_every (suc n) f h = and_from _ _ (h (inl tt)) (true_every n (λ i. f (inr i)) (λ i. h (inr i)))

pub every_decides : (n : ℕ) (f : Upto n → Bool) → Decides (every n f) ((i : Upto n) → f i ≡ true)
every_decides n f = (every_true n f, true_every n f)

-- ---- total

pub total_le : (n : ℕ) (f g : Upto n → ℕ) → ((i : Upto n) → f i ≤ g i) → total n f ≤ total n g
total_le zero f g h = omega arith
total_le (suc n) f g h = omega (arith, h (inl tt), total_le n (λ i. f (inr i)) (λ i. g (inr i)) (λ i. h (inr i)))

-- parts that are no larger and come to the same are the same
pub total_same : (n : ℕ) (f g : Upto n → ℕ) → ((i : Upto n) → f i ≤ g i) → total n f ≡ total n g → (i : Upto n) → f i ≡ g i
total_same zero f g h e i = absurd i
total_same (suc n) f g h e (inl a) =
    omega (arith, h (inl tt), total_le n (λ i. f (inr i)) (λ i. g (inr i)) (λ i. h (inr i)))
total_same (suc n) f g h e (inr i) =
    let rest = total_le n (λ i. f (inr i)) (λ i. g (inr i)) (λ i. h (inr i)) in
    total_same n (λ i. f (inr i)) (λ i. g (inr i)) (λ i. h (inr i)) (omega (arith, h (inl tt))) i

pub total_below : (n b : ℕ) (f : Upto n → ℕ) → ((i : Upto n) → f i ≤ b) → total n f ≤ n * b
total_below zero b f h = omega arith
total_below (suc n) b f h = rw suc-mul (omega (arith, h (inl tt), total_below n b (λ i. f (inr i)) (λ i. h (inr i))))

pub total_plus : (n : ℕ) (f g : Upto n → ℕ) → total n (λ i. f i + g i) ≡ total n f + total n g
total_plus zero f g = refl
total_plus (suc n) f g = omega (arith, total_plus n (λ i. f (inr i)) (λ i. g (inr i)))

pub total_const : (n b : ℕ) → total n (λ i. b) ≡ n * b
total_const zero b = omega arith
total_const (suc n) b = rw suc-mul (omega (arith, total_const n b))
