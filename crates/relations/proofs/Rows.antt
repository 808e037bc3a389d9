-- Relations by their rows: row i of a relation is byte i of its number.
use Rattle.std.proofs.Common.{◌≡◌, ℕ, zero, suc, ◌+◌, ◌*◌, ◌/◌, ◌%◌, ◌^◌, ◌<◌, ◌≤◌, Bool, true, false, ◌&&◌, ◌||◌, List, length, get_or, bit_and, bit_or, slice_set, sym, refl, ap, ◌∙◌, subst, add-zero, add-one, arith, w64}
use Rattle.std.specs.Fn.{Called, Mut}
use Rattle.std.specs.Array.{MapsFrom, IsMapOf}
use Rattle.std.specs.Int.{to_le_bytes, from_le_bytes}
use Rattle.std.proofs.Math.Bool.{or-false, or_assoc}
use Rattle.std.proofs.lemmas.Grind.{common_steps}
use Rattle.std.proofs.Math.Decide.{dec_lt}
use Rattle.std.proofs.lemmas.List.{get_or-set_same, get_or-set_other, length-set}
use Rattle.std.proofs.lemmas.Nat.{and_mask, le_bytes_8}
use Rattle.std.proofs.lemmas.Bool.{eq-eqb, ne_eqb}
use Rattle.bits.specs.Bit.{bit}
use Rattle.bits.specs.Upto.{place, some}
use Rattle.bits.proofs.Bitwise.{bit-or, bit_mod, bit_shr}
use Rattle.bits.proofs.Uptos.{place_below}
use Rattle.relations.specs.Relations.{Flag, compose, pairs, IsUnionOfPicked}

-- ---- some number below n has it, counted up as a loop does

abbrev pub below : ℕ → (ℕ → Bool) → Bool
below zero f = false
below (suc n) f = below n f || f n

below_first : (n : ℕ) (f : ℕ → Bool) → below (suc n) f ≡ (f 0 || below n (λ k. f (suc k)))
below_first zero f = sym (or-false (f 0))
below_first (suc n) f = ap (λ b. b || f (suc n)) (below_first n f) ∙ or_assoc (f 0) (below n (λ k. f (suc k))) (f (suc n))

pub below_some : (n : ℕ) (f : ℕ → Bool) → below n f ≡ some n (λ i. f (place n i))
below_some zero f = refl
below_some (suc n) f = below_first n f ∙ ap (λ b. f 0 || b) (below_some n (λ k. f (suc k)))

-- ---- the rows that some picks name, united

module _ (picks : ℕ) (rows : List ℕ) where
  -- row j is picked, and has k
  abbrev pub Picked : Flag → ℕ → Bool
  Picked k j = bit picks j && bit (get_or rows j 0) (place 8 k)

  -- the first n rows are done
  abbrev pub Rowed : ℕ → ℕ → Type 0
  Rowed n all = (k : Flag) → bit all (place 8 k) ≡ below n (Picked k)

  -- row n, by whether it is picked
  turn : (n next : ℕ) (k : Flag) (b : Bool) → bit picks n ≡ b → bit next (place 8 k) ≡ (below n (Picked k) || (b && bit (get_or rows n 0) (place 8 k)))
      → bit next (place 8 k) ≡ below (n + 1) (Picked k)
  turn n next k b is e = rw (add-one, is) e

  pub rowed_yes : (n all : ℕ) → Rowed n all → bit_and (picks / 2 ^ n) 1 ≡ 1 → Rowed (n + 1) (bit_or all (get_or rows n 0))
  rowed_yes n all h set k =
      turn n _ k true (eq-eqb _ _ (sym (and_mask (picks / 2 ^ n) 1) ∙ set)) (bit-or all (get_or rows n 0) (place 8 k) ∙ (λ t. h k t || bit (get_or rows n 0) (place 8 k)))

  pub rowed_no : (n all : ℕ) → Rowed n all → (bit_and (picks / 2 ^ n) 1 ≡ 1 → ⊥) → Rowed (n + 1) all
  rowed_no n all h clear k =
      turn n all k false (ne_eqb _ _ (λ e. clear (and_mask (picks / 2 ^ n) 1 ∙ e))) (h k ∙ sym (or-false _))

  pub rowed_all : (n all : ℕ) → n ≡ 8 → Rowed n all → IsUnionOfPicked picks rows all
  rowed_all n all e h = record { flags = λ k. rw e at (h k) ∙ below_some 8 (Picked k) }

-- ---- what each call of a closure gave, where no call changes the closure

-- a fact that every call of a mapped closure gives holds of each item and what it became, for any array that is mapped
module _ {F A B : Type 0} {g : Mut F (A × Unit {0}) B} {f : F} (R : A → B → Type 0) (call : (x : A) (y : B) (q : F) → Called g f (x, tt) y q → R x y × (q ≡ f))
    (xs : List A) (ys : List B) (d : A) (e : B) where
  each_from : (i n j k : ℕ) → MapsFrom g f xs ys i n → j < n → k ≡ i + j → R (get_or xs k d) (get_or ys k e)
  each_from i zero j k m h is = absurd (omega arith)
  each_from i (suc n) zero k m h is = rw (is, add-zero, m.3.1 d, m.4.1 e) (call m.1 m.2 m.0 m.5).0
  each_from i (suc n) (suc j) k m h is =
      each_from (i + 1) n j k (subst (λ q. MapsFrom g q xs ys (i + 1) n) (call m.1 m.2 m.0 m.5).1 m.6) (omega arith) (omega arith)

  pub each_mapped : (n : ℕ) → IsMapOf g f xs ys n → (k : ℕ) → k < n → R (get_or xs k d) (get_or ys k e)
  each_mapped n m k h = each_from 0 n k k m.each h (omega arith)

-- ---- the rows of a composition, made one after the other in the place of the picks

-- the first n rows are made of the picks that stood there, and the picks behind them stand yet
pub record Composing (picks rows : List ℕ) (n : ℕ) (now : List ℕ) : Type 0 where
  pub long : length now ≡ length picks
  pub made : (i : ℕ) → i < n → IsUnionOfPicked (get_or picks i 0) rows (get_or now i 0) × (get_or now i 0 < 256)
  pub left : (i : ℕ) → n ≤ i → get_or now i 0 ≡ get_or picks i 0

-- the next row
pub composing_more : (picks rows : List ℕ) (n : ℕ) (now : List ℕ) (row : ℕ) → n < length now → Composing picks rows n now
    → IsUnionOfPicked (get_or now n 0) rows row → row < 256 → Composing picks rows (n + 1) (slice_set now n row)
composing_more picks rows n now row h c is small = record {
  long = length-set now n row ∙ c.long;
  made = λ i k.
      elim (dec_lt i n) [
        | yes lt ↦
            let e : get_or (slice_set now n row) i 0 ≡ get_or now i 0 = get_or-set_other now n i row 0 (λ q. omega (arith, q, lt)) in
            rw e (c.made i lt)
        | no ge ↦
            let q : i ≡ n = omega (arith, ge, k) in
            let e : get_or (slice_set now n row) n 0 ≡ row = get_or-set_same now n row 0 h in
            rw (q, e) (rw (c.left n (omega arith)) at is, small)
      ];
  left = λ i k. get_or-set_other now n i row 0 (λ q. omega (arith, q, k)) ∙ c.left i (omega (arith, k));
}

-- ---- the rows of a composition

row_is : (n : ℕ) (i : Flag) → get_or (to_le_bytes w64 n) (place 8 i) 0 ≡ n / 2 ^ (8 * place 8 i) % 2 ^ 8
row_is n i = grind arith

row_flag : (n : ℕ) (rows : List ℕ) → rows ≡ to_le_bytes w64 n → (i k : Flag) → bit (get_or rows (place 8 i) 0) (place 8 k) ≡ pairs n i k
row_flag n rows e i k =
    ap (λ l. bit (get_or l (place 8 i) 0) (place 8 k)) e
    ∙ ap (λ (m : ℕ). bit m (place 8 k)) (row_is n i)
    ∙ bit_mod (n / 2 ^ (8 * place 8 i)) 8 (place 8 k) (place_below 8 k)
    ∙ bit_shr n (8 * place 8 i) (place 8 k)

small_bytes : (bytes : List ℕ) → length bytes ≡ 8 → ((k : ℕ) → k < 8 → get_or bytes k 0 < 256) → (k : ℕ) → get_or bytes k 0 < 256
small_bytes bytes long small k = grind (arith, common_steps, small k)

pub rows_composed : (a b out : ℕ) (picks rows composed : List ℕ) → picks ≡ to_le_bytes w64 a → rows ≡ to_le_bytes w64 b → out ≡ from_le_bytes w64 composed
    → length composed ≡ 8 → ((i : ℕ) → i < 8 → IsUnionOfPicked (get_or picks i 0) rows (get_or composed i 0) × (get_or composed i 0 < 256))
    → pairs out ≡ compose (pairs a) (pairs b)
unfolding compose
rows_composed a b out picks rows composed p q r long each =
    let kept = sym (le_bytes_8 composed out long (small_bytes composed long (λ k h. (each k h).1)) r) in
    λ t i k.
    (sym (row_flag out composed kept i k)
    ∙ (each (place 8 i) (place_below 8 i)).0.flags k
    ∙ (λ u. some 8 (λ j. row_flag a picks p i j u && row_flag b rows q j k u))) t
