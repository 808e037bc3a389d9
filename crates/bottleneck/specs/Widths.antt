-- The widest bottleneck: combining takes the wider, and extending the narrower.
use Rattle.std.specs.Prelude.{◌≡◌, ℕ, ◌-◌, ◌<◌, ◌≤◌, min, max, ◌≢◌}
use Rattle.std.proofs.Common.{ap, subst, arith}
use Rattle.std.proofs.Math.Bridge.{le_prop}
use Rattle.weights.specs.Semiring.{Semiring}

abbrev pub widest : ℕ
widest = 65535

-- A value of the algebra carries its bound: of all numbers none is the widest, so extending would have no one.
pub record Bounded : Type 0 where
  pub units : ℕ
  pub within : units ≤ widest

abbrev pub bounded : (n : ℕ) → n ≤ widest → Bounded
bounded n h = record { units = n; within = h }

-- what a stored number means
abbrev pub width : ℕ → Bounded
width n = bounded (min n widest) (omega arith)

-- Two values are equal where their numbers are, so that every law below is one of numbers.
pub width_is : (x y : Bounded) → x.units ≡ y.units → x ≡ y
width_is x y e =
    subst (λ (m : ℕ). (k : m ≤ widest) → x ≡ bounded m k) e (λ k. ap (bounded x.units) (le_prop x.within k)) y.within

abbrev pub wider : Bounded → Bounded → Bounded
wider x y = bounded (max x.units y.units) (omega (arith, x.within, y.within))

abbrev pub narrower : Bounded → Bounded → Bounded
narrower x y = bounded (min x.units y.units) (omega (arith, x.within))

-- The rank has to fall where combining changes the left side, and here combining raises the number:
-- so the rank is what is left up to the widest.
abbrev pub left : Bounded → ℕ
left x = widest - x.units

pub left_falls : (x y : Bounded) → (wider x y ≢ x) → left (wider x y) < left x
left_falls x y ne =
    let raised : (wider x y).units ≢ x.units = λ e. ne (width_is (wider x y) x e) in omega (arith, x.within, y.within)

pub max_max : (x y z : ℕ) → max (max x y) z ≡ max x (max y z)
max_max x y z = omega arith

pub min_min : (x y z : ℕ) → min (min x y) z ≡ min x (min y z)
min_min x y z = omega arith

pub min_max : (x y z : ℕ) → min x (max y z) ≡ max (min x y) (min x z)
min_max x y z = omega arith

pub max_min : (x y z : ℕ) → min (max x y) z ≡ max (min x z) (min y z)
max_min x y z = omega arith

abbrev pub widths : Semiring
widths = record {
  Value = Bounded;
  zero = width 0;
  one = width widest;
  combine = wider;
  extend = narrower;
  rank = left;
  combine_assoc = λ x y z. width_is _ _ (max_max x.units y.units z.units);
  combine_comm = λ x y. width_is _ _ (omega arith);
  combine_same = λ x. width_is _ _ (omega arith);
  combine_zero = λ x. width_is _ _ (omega arith);
  extend_assoc = λ x y z. width_is _ _ (min_min x.units y.units z.units);
  one_extend = λ x. width_is _ _ (omega (arith, x.within));
  extend_one = λ x. width_is _ _ (omega (arith, x.within));
  zero_extend = λ x. width_is _ _ (omega arith);
  extend_zero = λ x. width_is _ _ (omega arith);
  extend_combine = λ x y z. width_is _ _ (min_max x.units y.units z.units);
  combine_extend = λ x y z. width_is _ _ (max_min x.units y.units z.units);
  falls = left_falls;
}
