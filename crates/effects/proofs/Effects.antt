-- What unions, intersections and differences of sets do to each fact.
use Rattle.std.proofs.Common.{◌≡◌, ℕ, ◌^◌, ◌<◌, Bool, false, not, ◌&&◌, ◌||◌, bit_and, sym, ap, ◌∙◌, arith}
use Rattle.std.proofs.lemmas.Nat.{and_le_r, or_lt}
use Rattle.bits.specs.Bit.{bit}
use Rattle.bits.specs.Upto.{place}
use Rattle.bits.proofs.Bitwise.{bit_zero, bit-or, bit-and, bit_not, bits_same}
use Rattle.bits.proofs.Uptos.{place_below}
use Rattle.effects.specs.Facts.{Fact, effect, effects, either, later}
use Rattle.effects.specs.Sets.{union, intersection, others, difference}

-- ---- one fact, by whether it is in each of the four sets

effect_either : (am au bm bu : Bool) → effect (am || bm) (au && bu) ≡ either (effect am au) (effect bm bu)
effect_either am au bm bu = grind arith

effect_later : (am au bm bu : Bool) → effect (bm || (am && not bu)) (bu || (au && not bm)) ≡ later (effect am au) (effect bm bu)
effect_later am au bm bu = grind arith

apart_either : (am au bm bu : Bool) → (am && au) ≡ false → (bm && bu) ≡ false → ((am || bm) && (au && bu)) ≡ false
apart_either am au bm bu p q = grind arith

apart_later : (am au bm bu : Bool) → (am && au) ≡ false → (bm && bu) ≡ false → ((bm || (am && not bu)) && (bu || (au && not bm))) ≡ false
apart_later am au bm bu p q = grind arith

-- ---- sets

pub apart_bit : (m u : ℕ) → intersection m u ≡ 0 → (k : ℕ) → (bit m k && bit u k) ≡ false
apart_bit m u e k = sym (bit-and m u k) ∙ ap (λ (n : ℕ). bit n k) e ∙ bit_zero k

apart_from_bits : (m u : ℕ) → u < 2 ^ 16 → ((k : ℕ) → k < 16 → (bit m k && bit u k) ≡ false) → intersection m u ≡ 0
apart_from_bits m u l h =
    bits_same 16 (bit_and m u) 0 (omega (arith, and_le_r m u)) (omega arith) (λ k p. bit-and m u k ∙ h k p ∙ sym (bit_zero k))

-- b with what is in a and not in c
bit_more : (a b c k : ℕ) → c < 2 ^ 16 → k < 16 → bit (union b (difference a c)) k ≡ (bit b k || (bit a k && not (bit c k)))
bit_more a b c k l h =
    bit-or b (difference a c) k
    ∙ ap (λ t. bit b k || t) (bit-and a (others c) k ∙ ap (λ t. bit a k && t) (bit_not 16 c k l h))

more_small : (a b c : ℕ) → b < 2 ^ 16 → union b (difference a c) < 2 ^ 16
more_small a b c l = or_lt 16 b (difference a c) l (omega (arith, and_le_r a (others c)))

module _ (am au bm bu : ℕ) where
  pub effects_either : (k : Fact) → effects (union am bm) (intersection au bu) k ≡ either (effects am au k) (effects bm bu k)
  effects_either k =
      let n = place 16 k in
      (λ i. effect (bit-or am bm n i) (bit-and au bu n i)) ∙ effect_either (bit am n) (bit au n) (bit bm n) (bit bu n)

  pub combine_apart : bu < 2 ^ 16 → intersection am au ≡ 0 → intersection bm bu ≡ 0 → intersection (union am bm) (intersection au bu) ≡ 0
  combine_apart l p q =
      apart_from_bits (union am bm) (intersection au bu) (omega (arith, and_le_r au bu))
      (λ k h. (λ i. bit-or am bm k i && bit-and au bu k i) ∙ apart_either (bit am k) (bit au k) (bit bm k) (bit bu k) (apart_bit am au p k) (apart_bit bm bu q k))

  module _ (l : bm < 2 ^ 16) (l' : bu < 2 ^ 16) where
    pub effects_later : (k : Fact)
        → effects (union bm (difference am bu)) (union bu (difference au bm)) k ≡ later (effects am au k) (effects bm bu k)
    effects_later k =
        let n = place 16 k in
        let h = place_below 16 k in
        (λ i. effect (bit_more am bm bu n l' h i) (bit_more au bu bm n l h i))
        ∙ effect_later (bit am n) (bit au n) (bit bm n) (bit bu n)

    pub extend_apart : intersection am au ≡ 0 → intersection bm bu ≡ 0
        → intersection (union bm (difference am bu)) (union bu (difference au bm)) ≡ 0
    extend_apart p q =
        apart_from_bits (union bm (difference am bu)) (union bu (difference au bm)) (more_small au bu bm l')
        (λ k h. (λ i. bit_more am bm bu k l' h i && bit_more au bu bm k l h i) ∙ apart_later (bit am k) (bit au k) (bit bm k) (bit bu k) (apart_bit am au p k) (apart_bit bm bu q k))
