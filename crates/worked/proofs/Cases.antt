-- The worked cases.
use Rattle.std.proofs.Common.{◌≡◌, ℕ, zero, suc, Bool, List, [], ◌∷◌, refl, ap, inl, inr, arith}
use Rattle.bits.specs.Upto.{Upto}
use Rattle.relations.specs.Relations.{Flag, relations, compose, absent, pairs}
use Rattle.lengths.specs.Lengths.{lengths, capped_is}
use Rattle.effects.specs.Facts.{Fact, Effect, known, known_is, facts}
use Rattle.worked.specs.Cases.{WorkedCases}

-- ---- what is given for each index is compared by writing it out

abbrev listed : {A : Type 0} → (n : ℕ) → (Upto n → A) → List A
listed zero f = []
listed (suc n) f = f (inl tt) ∷ listed n (λ i. f (inr i))

at_each : {A : Type 0} (n : ℕ) (f g : Upto n → A) → listed n f ≡ listed n g → (i : Upto n) → f i ≡ g i
at_each zero f g e i = absurd i
at_each (suc n) f g e (inl a) = let first : f (inl tt) ≡ g (inl tt) = cc in first
at_each (suc n) f g e (inr i) = at_each n (λ i. f (inr i)) (λ i. g (inr i)) (cc) i

relation_is : (a b : Flag → Flag → Bool) → listed 8 (λ i. listed 8 (a i)) ≡ listed 8 (λ i. listed 8 (b i)) → a ≡ b
relation_is a b e = λ t i j. at_each 8 (a i) (b i) (at_each 8 (λ i. listed 8 (a i)) (λ i. listed 8 (b i)) e i) j t

effects_are : (f g : Fact → Effect) → listed 16 f ≡ listed 16 g → known f ≡ known g
effects_are f g e = known_is (at_each 16 f g e)

-- ---- the cases

pub one_way : relations.extend (pairs 0x02) (pairs 0x0800) ≡ pairs 0x08
unfolding compose
one_way = relation_is _ _ refl

pub no_way : relations.extend (pairs 0x0800) (pairs 0x02) ≡ pairs 0
unfolding compose
no_way = relation_is _ _ refl

-- their ranks differ
ways_differ : pairs 0x08 ≡ pairs 0 → ⊥
unfolding absent
ways_differ e = omega (arith, ap absent e)

pub worked : WorkedCases
worked = record {
  one_way = one_way;
  no_way = no_way;
  ways_differ = ways_differ;
  past_longest = capped_is _ _ refl;
  lengths_differ = λ e. omega (arith, ap lengths.rank e);
  last_word = effects_are _ _ refl;
  either = effects_are _ _ refl;
  facts_differ = λ e. omega (arith, ap facts.rank e);
}
