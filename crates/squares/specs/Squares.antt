-- The semiring of squares over a semiring, with rows and columns 0 and 1.
use Rattle.std.specs.Prelude.{◌≡◌, ℕ, ◌+◌, ◌<◌, ◌≢◌}
use Rattle.std.proofs.Common.{◌∙◌, inl, inr, arith}
use Rattle.std.proofs.lemmas.Bool.{cases_lt}
use Rattle.weights.specs.Semiring.{Semiring}
use Rattle.weights.specs.Ranks.{unchanged, never_rises}

pub record Quad (A : Type 0) : Type 0 where
  pub q00 : A
  pub q01 : A
  pub q10 : A
  pub q11 : A

abbrev pub quad : {A : Type 0} → A → A → A → A → Quad A
quad a b c d = record { q00 = a; q01 = b; q10 = c; q11 = d }

pub quad_is : {A : Type 0} {a b c d a' b' c' d' : A} → a ≡ a' → b ≡ b' → c ≡ c' → d ≡ d' → quad a b c d ≡ quad a' b' c' d'
quad_is p q r s = λ i. record { q00 = p i; q01 = q i; q10 = r i; q11 = s i }

-- one entry of a product: a row (a b) at a column (x y)
abbrev pub dot : (S : Semiring) → S.Value → S.Value → S.Value → S.Value → S.Value
dot S a b x y = S.combine (S.extend a x) (S.extend b y)

module _ (S : Semiring) where
  pub zero_combine : (a : S.Value) → S.combine S.zero a ≡ a
  zero_combine a = S.combine_comm S.zero a ∙ S.combine_zero a

  pub swap_in : (a b c d : S.Value) → S.combine (S.combine a b) (S.combine c d) ≡ S.combine (S.combine a c) (S.combine b d)
  swap_in a b c d = grind (arith, S.combine_assoc, S.combine_comm)

  pub dot_assoc : (a b x y z w p q : S.Value) → dot S (dot S a b x z) (dot S a b y w) p q ≡ dot S a b (dot S x y p q) (dot S z w p q)
  dot_assoc a b x y z w p q = grind (arith, S.combine_extend, S.extend_combine, S.extend_assoc, swap_in)

  pub dot_sum : (a b x y x' y' : S.Value) → dot S a b (S.combine x x') (S.combine y y') ≡ S.combine (dot S a b x y) (dot S a b x' y')
  dot_sum a b x y x' y' = grind (arith, S.extend_combine, swap_in)

  pub sum_dot : (a b a' b' x y : S.Value) → dot S (S.combine a a') (S.combine b b') x y ≡ S.combine (dot S a b x y) (dot S a' b' x y)
  sum_dot a b a' b' x y = grind (arith, S.combine_extend, swap_in)

  pub first_row : (x y : S.Value) → dot S S.one S.zero x y ≡ x
  first_row x y = grind (arith, S.one_extend, S.zero_extend, S.combine_zero)

  pub second_row : (x y : S.Value) → dot S S.zero S.one x y ≡ y
  second_row x y = grind (arith, S.zero_extend, S.one_extend, zero_combine)

  pub first_column : (a b : S.Value) → dot S a b S.one S.zero ≡ a
  first_column a b = grind (arith, S.extend_one, S.extend_zero, S.combine_zero)

  pub second_column : (a b : S.Value) → dot S a b S.zero S.one ≡ b
  second_column a b = grind (arith, S.extend_zero, S.extend_one, zero_combine)

  pub zeros_row : (x y : S.Value) → dot S S.zero S.zero x y ≡ S.zero
  zeros_row x y = grind (arith, S.zero_extend, S.combine_zero)

  pub zeros_column : (a b : S.Value) → dot S a b S.zero S.zero ≡ S.zero
  zeros_column a b = grind (arith, S.extend_zero, S.combine_zero)

  abbrev pub square_combine : Quad S.Value → Quad S.Value → Quad S.Value
  square_combine m n =
      quad (S.combine m.q00 n.q00) (S.combine m.q01 n.q01) (S.combine m.q10 n.q10) (S.combine m.q11 n.q11)

  abbrev pub square_rank : Quad S.Value → ℕ
  square_rank m = S.rank m.q00 + S.rank m.q01 + S.rank m.q10 + S.rank m.q11

  pub square_falls : (m n : Quad S.Value) → (square_combine m n ≢ m) → square_rank (square_combine m n) < square_rank m
  square_falls m n ne =
      elim (cases_lt (square_rank (square_combine m n)) (square_rank m)) [
        | inl falls ↦ falls
        | inr stays ↦
            let a = never_rises S m.q00 n.q00 in
            let b = never_rises S m.q01 n.q01 in
            let c = never_rises S m.q10 n.q10 in
            let d = never_rises S m.q11 n.q11 in
            absurd (unchanged S m.q00 n.q00 (omega arith) (λ p.
            unchanged S m.q01 n.q01 (omega arith) (λ q.
            unchanged S m.q10 n.q10 (omega arith) (λ r.
            unchanged S m.q11 n.q11 (omega arith) (λ s. ne (quad_is p q r s))))))
      ]

abbrev pub square : Semiring → Semiring
square S = record {
  Value = Quad S.Value;
  zero = quad S.zero S.zero S.zero S.zero;
  one = quad S.one S.zero S.zero S.one;
  combine = square_combine S;
  extend = λ m n. quad
      (dot S m.q00 m.q01 n.q00 n.q10) (dot S m.q00 m.q01 n.q01 n.q11)
      (dot S m.q10 m.q11 n.q00 n.q10) (dot S m.q10 m.q11 n.q01 n.q11);
  rank = square_rank S;
  combine_assoc = λ l m n. quad_is (S.combine_assoc l.q00 m.q00 n.q00) (S.combine_assoc l.q01 m.q01 n.q01) (S.combine_assoc l.q10 m.q10 n.q10) (S.combine_assoc l.q11 m.q11 n.q11);
  combine_comm = λ m n. quad_is (S.combine_comm m.q00 n.q00) (S.combine_comm m.q01 n.q01) (S.combine_comm m.q10 n.q10) (S.combine_comm m.q11 n.q11);
  combine_same = λ m. quad_is (S.combine_same m.q00) (S.combine_same m.q01) (S.combine_same m.q10) (S.combine_same m.q11);
  combine_zero = λ m. quad_is (S.combine_zero m.q00) (S.combine_zero m.q01) (S.combine_zero m.q10) (S.combine_zero m.q11);
  extend_assoc = λ l m n. quad_is
      (dot_assoc S l.q00 l.q01 m.q00 m.q01 m.q10 m.q11 n.q00 n.q10)
      (dot_assoc S l.q00 l.q01 m.q00 m.q01 m.q10 m.q11 n.q01 n.q11)
      (dot_assoc S l.q10 l.q11 m.q00 m.q01 m.q10 m.q11 n.q00 n.q10)
      (dot_assoc S l.q10 l.q11 m.q00 m.q01 m.q10 m.q11 n.q01 n.q11);
  one_extend = λ m. quad_is (first_row S m.q00 m.q10) (first_row S m.q01 m.q11) (second_row S m.q00 m.q10) (second_row S m.q01 m.q11);
  extend_one = λ m. quad_is (first_column S m.q00 m.q01) (second_column S m.q00 m.q01) (first_column S m.q10 m.q11) (second_column S m.q10 m.q11);
  zero_extend = λ m. quad_is (zeros_row S m.q00 m.q10) (zeros_row S m.q01 m.q11) (zeros_row S m.q00 m.q10) (zeros_row S m.q01 m.q11);
  extend_zero = λ m. quad_is (zeros_column S m.q00 m.q01) (zeros_column S m.q00 m.q01) (zeros_column S m.q10 m.q11) (zeros_column S m.q10 m.q11);
  extend_combine = λ l m n. quad_is
      (dot_sum S l.q00 l.q01 m.q00 m.q10 n.q00 n.q10)
      (dot_sum S l.q00 l.q01 m.q01 m.q11 n.q01 n.q11)
      (dot_sum S l.q10 l.q11 m.q00 m.q10 n.q00 n.q10)
      (dot_sum S l.q10 l.q11 m.q01 m.q11 n.q01 n.q11);
  combine_extend = λ l m n. quad_is
      (sum_dot S l.q00 l.q01 m.q00 m.q01 n.q00 n.q10)
      (sum_dot S l.q00 l.q01 m.q00 m.q01 n.q01 n.q11)
      (sum_dot S l.q10 l.q11 m.q10 m.q11 n.q00 n.q10)
      (sum_dot S l.q10 l.q11 m.q10 m.q11 n.q01 n.q11);
  falls = square_falls S;
}
