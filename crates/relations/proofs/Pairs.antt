-- The pairs that a number of 64 bits stores.
use Rattle.std.proofs.Common.{◌≡◌, ℕ, ◌+◌, ◌-◌, ◌*◌, ◌/◌, ◌%◌, ◌^◌, ◌<◌, Bool, true, cond, not, ◌&&◌, ◌||◌, eqb, bit_or, Decides, sym, refl, ap, ◌∙◌, arith}
use Rattle.std.specs.Int.Count.{ones}
use Rattle.std.proofs.Math.Bool.{and-eq-true_iff, beq}
use Rattle.std.proofs.Math.Nat.{div-add-mod}
use Rattle.std.proofs.lemmas.Nat.{div_below, mod_below}
use Rattle.std.specs.Cmp.{booleans_Decides}
use Rattle.std.proofs.lemmas.Bool.Decides.{Decides-like, Decides-at}
use Rattle.bits.specs.Bit.{bit}
use Rattle.bits.specs.Upto.{place, every, total}
use Rattle.bits.proofs.Bitwise.{bit-or, bit_not, bits_same}
use Rattle.bits.proofs.Counts.{total_rows}
use Rattle.bits.proofs.Uptos.{place_below, by_place, some_decides, every_true, total_plus}
use Rattle.relations.specs.Relations.{Flag, Value, diagonal, compose, absent, missing, pairs}

-- what holds of all pairs of flags holds of all pairs of numbers below 8
numbered : (P : ℕ → ℕ → Type 0) → ((i j : Flag) → P (place 8 i) (place 8 j)) → (i j : ℕ) → i < 8 → j < 8 → P i j
numbered P all i j h l = by_place 8 (λ i. P i j) (λ i. by_place 8 (λ j. P (place 8 i) j) (all i) j l) i h

-- one number for one relation
pub pairs_same : (a b : ℕ) → a < 2 ^ 64 → b < 2 ^ 64 → ((i j : Flag) → pairs a i j ≡ pairs b i j) → a ≡ b
pairs_same a b p q e =
    bits_same 64 a b p q
    (λ k h.
    let whole : 8 * (k / 8) + k % 8 ≡ k = div-add-mod k 8 in
    let row : k / 8 < 8 = div_below k 8 8 (omega arith) h in
    ap (bit a) (sym whole)
    ∙ numbered (λ i j. bit a (8 * i + j) ≡ bit b (8 * i + j)) e (k / 8) (k % 8) row (mod_below k 8 (omega arith))
    ∙ ap (bit b) whole)

pub value_same : (a b : ℕ) → a < 2 ^ 64 → b < 2 ^ 64 → pairs a ≡ pairs b → a ≡ b
value_same a b p q e = pairs_same a b p q (λ i j. ap (λ f. f i j) e)

-- comparing numbers compares their pairs, and the relations that they store
module _ (r : Bool) (a b : ℕ) (p : a < 2 ^ 64) (q : b < 2 ^ 64) (number : Decides r (a ≡ b)) where
  pub pairwise_decides : Decides r ((i j : Flag) → pairs a i j ≡ pairs b i j)
  pairwise_decides = Decides-like r (λ e i j. ap (λ (n : ℕ). pairs n i j) e) (pairs_same a b p q) number

  pub value_decides : Decides r (pairs a ≡ pairs b)
  value_decides = Decides-like r (ap pairs) (value_same a b p q) number

pub pairs_or : (a b : ℕ) (i j : Flag) → pairs (bit_or a b) i j ≡ (pairs a i j || pairs b i j)
pairs_or a b i j = bit-or a b (8 * place 8 i + place 8 j)

-- relations that are written out are compared pair by pair
pub each_pair : (a b : Value) → every 8 (λ i. every 8 (λ j. beq (a i j) (b i j))) ≡ true → (i j : Flag) → a i j ≡ b i j
each_pair a b e i j =
    (booleans_Decides (a i j) (b i j)).0
    (every_true 8 (λ j. beq (a i j) (b i j)) (every_true 8 (λ i. every 8 (λ j. beq (a i j) (b i j))) e i) j)

pub pairs_diagonal : (i j : Flag) → pairs 0x8040_2010_0804_0201 i j ≡ eqb (place 8 i) (place 8 j)
pairs_diagonal = each_pair (pairs 0x8040_2010_0804_0201) diagonal refl

-- a pair of a composition, by a way through it
pub composed : (a b : Value) (i k : Flag) → Decides (compose a b i k) ((j : Flag) × ((a i j ≡ true) × (b j k ≡ true)))
unfolding compose
composed a b i k =
    Decides-like (compose a b i k)
    (λ way. (way.0, (and-eq-true_iff (a i way.0) (b way.0 k)).0 way.1))
    (λ way. (way.0, (and-eq-true_iff (a i way.0) (b way.0 k)).1 way.1))
    (some_decides 8 (λ j. a i j && b j k))

pub pairs_composed : (n : ℕ) (a b : Value) → pairs n ≡ compose a b
    → (i k : Flag) → Decides (pairs n i k) ((j : Flag) × ((a i j ≡ true) × (b j k ≡ true)))
pairs_composed n a b e i k = Decides-at (pairs n i k) (compose a b i k) (λ t. e t i k) (composed a b i k)

-- ---- the rank

set_or_missing : (b : Bool) → missing b + cond b 1 0 ≡ 1
set_or_missing b = grind arith

clear_is_missing : (b : Bool) → cond (not b) 1 0 ≡ missing b
clear_is_missing b = grind arith

row_counts : (f : Flag → Bool) → total 8 (λ j. missing (f j)) + total 8 (λ j. cond (f j) 1 0) ≡ 8
row_counts f = sym (total_plus 8 (λ j. missing (f j)) (λ j. cond (f j) 1 0)) ∙ (λ t. total 8 (λ j. set_or_missing (f j) t))

counts : (a : Value) → absent a + total 8 (λ i. total 8 (λ j. cond (a i j) 1 0)) ≡ 64
unfolding absent
counts a =
    sym (total_plus 8 (λ i. total 8 (λ j. missing (a i j))) (λ i. total 8 (λ j. cond (a i j) 1 0)))
    ∙ (λ t. total 8 (λ i. row_counts (a i) t))

pub absent_and_ones : (n : ℕ) → n < 2 ^ 64 → absent (pairs n) + ones n ≡ 64
absent_and_ones n h = ap (λ (m : ℕ). absent (pairs n) + m) (sym (total_rows 8 8 n h)) ∙ counts (pairs n)

clear : (n k : ℕ) → n < 2 ^ 64 → k < 64 → missing (bit n k) ≡ cond (bit (2 ^ 64 - 1 - n) k) 1 0
clear n k h l = sym (ap (λ b. cond b 1 0) (bit_not 64 n k h l) ∙ clear_is_missing (bit n k))

-- the pairs that are missing are the bits that are clear
pub absent_is_zeros : (n : ℕ) → n < 2 ^ 64 → absent (pairs n) ≡ ones (2 ^ 64 - 1 - n)
unfolding absent
absent_is_zeros n h =
    (λ t. total 8 (λ i. total 8 (λ j. clear n (8 * place 8 i + place 8 j) h (omega (arith, place_below 8 i, place_below 8 j)) t)))
    ∙ total_rows 8 8 (2 ^ 64 - 1 - n) (omega arith)
