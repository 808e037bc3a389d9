-- Relations over eight flags: which pairs of flags are in one, and the semiring that they form.
use Rattle.std.specs.Prelude.{◌≡◌, ℕ, ◌+◌, ◌*◌, ◌<◌, ◌≤◌, Bool, true, false, ◌&&◌, ◌||◌, ◌==◌, ◌≢◌, List, slice_index}
use Rattle.std.proofs.Common.{sym, ◌∙◌, arith}
use Rattle.std.proofs.Math.Bool.{and_assoc, or_assoc, or_comm, or_self, or-false, and-false, and-or_distrib_left, and-or_distrib_right}
use Rattle.bits.specs.Bit.{bit}
use Rattle.bits.specs.Upto.{Upto, place, some, total}
use Rattle.bits.proofs.Uptos.{some_none, some_or, some_and, and_some, some_swap, some_same, same_some, total_le, total_same}
use Rattle.weights.specs.Semiring.{Semiring}

-- the flags 0 to 7
abbrev pub Flag : Type 0
Flag = Upto 8

-- a relation: for each pair of flags, whether it is in it
abbrev pub Value : Type 0
Value = Flag → Flag → Bool

abbrev pub empty : Value
empty = λ i j. false

-- each flag with itself
abbrev pub diagonal : Value
diagonal = λ i j. (place 8 i == place 8 j)

abbrev pub union : Value → Value → Value
union a b = λ i j. a i j || b i j

-- from i to k by way of some j
unfoldable pub compose : Value → Value → Value
compose a b = λ i k. some 8 (λ j. a i j && b j k)

abbrev pub missing : Bool → ℕ
missing true = 0
missing false = 1

-- how many pairs are not in it
unfoldable pub absent : Value → ℕ
absent a = total 8 (λ i. total 8 (λ j. missing (a i j)))

-- the relation that a number stores: the pair (i, j) is its bit 8 * i + j
abbrev pub pairs : ℕ → Value
pairs n = λ i j. bit n (8 * place 8 i + place 8 j)

-- The row is the union of the rows that the picks name. The flags of a row and of picks are their bits.
pub record IsUnionOfPicked (picks : ℕ) (rows : List ℕ) (row : ℕ) : Type 0 where
  pub flags : (k : Flag) → bit row (place 8 k) ≡ some 8 (λ j. bit picks (place 8 j) && bit (slice_index rows (place 8 j)) (place 8 k))

-- ---- the laws

pub compose_assoc : (a b c : Value) → compose (compose a b) c ≡ compose a (compose b c)
unfolding compose
compose_assoc a b c = λ t i l.
    (sym (λ u. some 8 (λ k. some_and 8 (λ j. a i j && b j k) (c k l) u))
    ∙ (λ u. some 8 (λ k. some 8 (λ j. and_assoc (a i j) (b j k) (c k l) u)))
    ∙ some_swap 8 8 (λ k j. a i j && (b j k && c k l))
    ∙ (λ u. some 8 (λ j. and_some 8 (a i j) (λ k. b j k && c k l) u))) t

pub compose_union : (a b c : Value) → compose a (union b c) ≡ union (compose a b) (compose a c)
unfolding compose
compose_union a b c = λ t i k.
    ((λ u. some 8 (λ j. and-or_distrib_left (a i j) (b j k) (c j k) u))
    ∙ some_or 8 (λ j. a i j && b j k) (λ j. a i j && c j k)) t

pub union_compose : (a b c : Value) → compose (union a b) c ≡ union (compose a c) (compose b c)
unfolding compose
union_compose a b c = λ t i k.
    ((λ u. some 8 (λ j. and-or_distrib_right (a i j) (b i j) (c j k) u))
    ∙ some_or 8 (λ j. a i j && c j k) (λ j. b i j && c j k)) t

pub diagonal_compose : (a : Value) → compose diagonal a ≡ a
unfolding compose
diagonal_compose a = λ t i k. some_same 8 i (λ j. a j k) t

pub compose_diagonal : (a : Value) → compose a diagonal ≡ a
unfolding compose
compose_diagonal a = λ t i k. same_some 8 (a i) k t

pub empty_compose : (a : Value) → compose empty a ≡ empty
unfolding compose
empty_compose a = λ t i k. some_none 8 t

pub compose_empty : (a : Value) → compose a empty ≡ empty
unfolding compose
compose_empty a = λ t i k. ((λ u. some 8 (λ j. and-false (a i j) u)) ∙ some_none 8) t

pub missing_le : (a b : Bool) → missing (a || b) ≤ missing a
missing_le a b = grind arith

pub missing_same : (a b : Bool) → missing (a || b) ≡ missing a → (a || b) ≡ a
missing_same a b e = grind arith

pub row_le : (a b : Value) (i : Flag) → total 8 (λ j. missing (union a b i j)) ≤ total 8 (λ j. missing (a i j))
row_le a b i = total_le 8 (λ j. missing (union a b i j)) (λ j. missing (a i j)) (λ j. missing_le (a i j) (b i j))

pub absent_le : (a b : Value) → absent (union a b) ≤ absent a
unfolding absent
absent_le a b = total_le 8 (λ i. total 8 (λ j. missing (union a b i j))) (λ i. total 8 (λ j. missing (a i j))) (row_le a b)

-- where no fewer pairs are absent, the union added none
pub absent_same : (a b : Value) → absent (union a b) ≡ absent a → union a b ≡ a
unfolding absent
absent_same a b e = λ t i j.
    missing_same (a i j) (b i j)
    (total_same 8 (λ j. missing (union a b i j)) (λ j. missing (a i j)) (λ j. missing_le (a i j) (b i j))
    (total_same 8 (λ i. total 8 (λ j. missing (union a b i j))) (λ i. total 8 (λ j. missing (a i j))) (row_le a b) e i) j) t

-- a number that is at most another, and not below it, is that number
pub not_below : (m n : ℕ) → m ≤ n → (m < n → ⊥) → m ≡ n
not_below m n h l = omega (arith, l)

pub absent_falls : (a b : Value) → (union a b ≢ a) → absent (union a b) < absent a
absent_falls a b ne =
    let fallen : absent (union a b) ≢ absent a = λ e. ne (absent_same a b e) in omega (arith, absent_le a b)

abbrev pub relations : Semiring
relations = record {
  Value = Value;
  zero = empty;
  one = diagonal;
  combine = union;
  extend = compose;
  rank = absent;
  combine_assoc = λ a b c t i j. or_assoc (a i j) (b i j) (c i j) t;
  combine_comm = λ a b t i j. or_comm (a i j) (b i j) t;
  combine_same = λ a t i j. or_self (a i j) t;
  combine_zero = λ a t i j. or-false (a i j) t;
  extend_assoc = compose_assoc;
  one_extend = diagonal_compose;
  extend_one = compose_diagonal;
  zero_extend = empty_compose;
  extend_zero = compose_empty;
  extend_combine = compose_union;
  combine_extend = union_compose;
  falls = absent_falls;
}
