-- The lengths of shortest runs: combining takes the shorter, and extending adds, up to a longest length
-- that stands for no run at all.
use Rattle.std.specs.Prelude.{◌≡◌, ℕ, ◌+◌, ◌<◌, ◌≤◌, min, ◌≢◌}
use Rattle.std.proofs.Common.{ap, subst, arith}
use Rattle.std.proofs.Math.Bridge.{le_prop}
use Rattle.weights.specs.Semiring.{Semiring}

abbrev pub longest : ℕ
longest = 65535

-- the length of one run after another: a sum past the longest length stops there
abbrev pub summed : ℕ → ℕ → ℕ
summed m n = min (m + n) longest

pub record Capped : Type 0 where
  pub steps : ℕ
  pub within : steps ≤ longest

abbrev pub bounded : (n : ℕ) → n ≤ longest → Capped
bounded n h = record { steps = n; within = h }

-- what a stored number means
abbrev pub capped : ℕ → Capped
capped n = bounded (min n longest) (omega arith)

abbrev pub shorter : Capped → Capped → Capped
shorter x y = bounded (min x.steps y.steps) (omega (arith, x.within))

abbrev pub followed : Capped → Capped → Capped
followed x y = bounded (summed x.steps y.steps) (omega arith)

pub capped_is : (x y : Capped) → x.steps ≡ y.steps → x ≡ y
capped_is x y e =
    subst (λ (m : ℕ). (k : m ≤ longest) → x ≡ bounded m k) e (λ k. ap (bounded x.steps) (le_prop x.within k)) y.within

pub summed_assoc : (x y z : ℕ) → summed (summed x y) z ≡ summed x (summed y z)
summed_assoc x y z = omega arith

pub summed_min : (x y z : ℕ) → summed x (min y z) ≡ min (summed x y) (summed x z)
summed_min x y z = omega arith

pub min_summed : (x y z : ℕ) → summed (min x y) z ≡ min (summed x z) (summed y z)
min_summed x y z = omega arith

pub min_min : (x y z : ℕ) → min (min x y) z ≡ min x (min y z)
min_min x y z = omega arith

-- a length that combining has changed is a shorter one
pub shorter_falls : (x y : Capped) → (shorter x y ≢ x) → (shorter x y).steps < x.steps
shorter_falls x y ne =
    let fallen : (shorter x y).steps ≢ x.steps = λ e. ne (capped_is (shorter x y) x e) in omega arith

abbrev pub lengths : Semiring
lengths = record {
  Value = Capped;
  zero = capped longest;
  one = capped 0;
  combine = shorter;
  extend = followed;
  rank = λ x. x.steps;
  combine_assoc = λ x y z. capped_is _ _ (min_min x.steps y.steps z.steps);
  combine_comm = λ x y. capped_is _ _ (omega arith);
  combine_same = λ x. capped_is _ _ (omega arith);
  combine_zero = λ x. capped_is _ _ (omega (arith, x.within));
  extend_assoc = λ x y z. capped_is _ _ (summed_assoc x.steps y.steps z.steps);
  one_extend = λ x. capped_is _ _ (omega (arith, x.within));
  extend_one = λ x. capped_is _ _ (omega (arith, x.within));
  zero_extend = λ x. capped_is _ _ (omega arith);
  extend_zero = λ x. capped_is _ _ (omega arith);
  extend_combine = λ x y z. capped_is _ _ (summed_min x.steps y.steps z.steps);
  combine_extend = λ x y z. capped_is _ _ (min_summed x.steps y.steps z.steps);
  falls = shorter_falls;
}
