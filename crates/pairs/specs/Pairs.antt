-- The semiring of two semirings side by side.
use Rattle.std.specs.Prelude.{◌≡◌, ℕ, ◌+◌, ◌<◌, ◌≢◌}
use Rattle.std.proofs.Common.{inl, inr, arith}
use Rattle.std.proofs.lemmas.Bool.{cases_lt}
use Rattle.weights.specs.Semiring.{Semiring}
use Rattle.weights.specs.Ranks.{unchanged, never_rises}

pub record Both (A B : Type 0) : Type 0 where
  pub left : A
  pub right : B

abbrev pub both : {A B : Type 0} → A → B → Both A B
both a b = record { left = a; right = b }

pub both_is : {A B : Type 0} {a a' : A} {b b' : B} → a ≡ a' → b ≡ b' → both a b ≡ both a' b'
both_is p q = λ i. record { left = p i; right = q i }

module _ (S R : Semiring) where
  abbrev pub pair_combine : Both S.Value R.Value → Both S.Value R.Value → Both S.Value R.Value
  pair_combine x y = both (S.combine x.left y.left) (R.combine x.right y.right)

  abbrev pub pair_rank : Both S.Value R.Value → ℕ
  pair_rank x = S.rank x.left + R.rank x.right

  pub pair_falls : (x y : Both S.Value R.Value) → (pair_combine x y ≢ x) → pair_rank (pair_combine x y) < pair_rank x
  pair_falls x y ne =
      elim (cases_lt (pair_rank (pair_combine x y)) (pair_rank x)) [
        | inl falls ↦ falls
        | inr stays ↦
            let l = never_rises S x.left y.left in
            let r = never_rises R x.right y.right in
            absurd (unchanged S x.left y.left (omega arith) (λ p.
            unchanged R x.right y.right (omega arith) (λ q. ne (both_is p q))))
      ]

abbrev pub pair : Semiring → Semiring → Semiring
pair S R = record {
  Value = Both S.Value R.Value;
  zero = both S.zero R.zero;
  one = both S.one R.one;
  combine = pair_combine S R;
  extend = λ x y. both (S.extend x.left y.left) (R.extend x.right y.right);
  rank = pair_rank S R;
  combine_assoc = λ x y z. both_is (S.combine_assoc x.left y.left z.left) (R.combine_assoc x.right y.right z.right);
  combine_comm = λ x y. both_is (S.combine_comm x.left y.left) (R.combine_comm x.right y.right);
  combine_same = λ x. both_is (S.combine_same x.left) (R.combine_same x.right);
  combine_zero = λ x. both_is (S.combine_zero x.left) (R.combine_zero x.right);
  extend_assoc = λ x y z. both_is (S.extend_assoc x.left y.left z.left) (R.extend_assoc x.right y.right z.right);
  one_extend = λ x. both_is (S.one_extend x.left) (R.one_extend x.right);
  extend_one = λ x. both_is (S.extend_one x.left) (R.extend_one x.right);
  zero_extend = λ x. both_is (S.zero_extend x.left) (R.zero_extend x.right);
  extend_zero = λ x. both_is (S.extend_zero x.left) (R.extend_zero x.right);
  extend_combine = λ x y z. both_is (S.extend_combine x.left y.left z.left) (R.extend_combine x.right y.right z.right);
  combine_extend = λ x y z. both_is (S.combine_extend x.left y.left z.left) (R.combine_extend x.right y.right z.right);
  falls = pair_falls S R;
}
