-- What stored records mean.
use Rattle.std.specs.Prelude.{◌≡◌, ℕ, ◌^◌, ◌<◌, Bool, true, false, ◌&&◌, ◌⊎◌, Decides, ◌==◌, ◌≢◌, refl}
use Rattle.std.specs.Bool.{beq}
use Rattle.std.specs.Cmp.{booleans_Decides}
use Rattle.std.proofs.Common.{sym, ◌∙◌, ap, arith, inl, inr}
use Rattle.std.proofs.lemmas.Bool.Decides.{Decides-like, Decides-and, Decides-eqb}
use Rattle.bits.specs.Bit.{bit}
use Rattle.bits.specs.Upto.{place}
use Rattle.bits.proofs.Bitwise.{bits_same}
use Rattle.bits.proofs.Uptos.{by_place}
use Rattle.facts.specs.declared.weight.Facts.{Facts}
use Rattle.effects.specs.declared.known.Known.{Known}
use Rattle.effects.specs.Facts.{Effect, unmakes, keeps, makes, Fact, Value, none, known, known_is, effect, effects, either, later, facts}
use Rattle.effects.specs.Sets.{union, intersection, difference}
use Rattle.facts.specs.Stored.{value_of, nothing, sets, is_known, stored, Proper, combined, extended}
use Rattle.effects.proofs.Effects.{apart_bit}

-- ---- records with a known value, and others

module _ (x : Facts) where
  pub value_known : is_known x ≡ true → value_of x ≡ known (effects x.made x.unmade)
  value_known e = rw e

  pub value_none : is_known x ≡ false → value_of x ≡ none
  value_none e = rw e

  -- a record is stored as its sets if it has a known value, and else as none
  pub stored_known : is_known x ≡ true → stored x ≡ sets x.made x.unmade
  stored_known e = rw e

  pub stored_none : is_known x ≡ false → stored x ≡ nothing
  stored_none e = rw e

  pub known_apart : is_known x ≡ true → intersection x.made x.unmade ≡ 0
  known_apart e = grind arith

pub sets_value : (m u : ℕ) → intersection m u ≡ 0 → value_of (sets m u) ≡ known (effects m u)
sets_value m u e = rw e

-- ---- what two known values come to

-- x has the known value k
abbrev Has : Facts → Known → Type 0
Has x k = (is_known x ≡ true) × (k.made ≡ x.made) × (k.unmade ≡ x.unmade)

has_value : (x : Facts) (k : Known) → Has x k → value_of x ≡ known (effects k.made k.unmade)
has_value x k h = value_known x h.0 ∙ sym (λ i. known (effects (h.1 i) (h.2 i)))

module _ (x y out : Facts) (a b r : Known) (hx : Has x a) (hy : Has y b) (is : out ≡ sets r.made r.unmade) where
  answer_value : value_of out ≡ known (effects r.made r.unmade)
  answer_value = ap value_of is ∙ sets_value r.made r.unmade r.apart

  -- the answer keeps the rule of stored records
  pub answer_proper : Proper out
  answer_proper = rw is r.apart

  pub combine_means : ((k : Fact) → effects r.made r.unmade k ≡ either (effects a.made a.unmade k) (effects b.made b.unmade k))
      → value_of out ≡ facts.combine (value_of x) (value_of y)
  combine_means each = answer_value ∙ known_is each ∙ sym (λ i. facts.combine (has_value x a hx i) (has_value y b hy i))

  pub extend_means : ((k : Fact) → effects r.made r.unmade k ≡ later (effects a.made a.unmade k) (effects b.made b.unmade k))
      → value_of out ≡ facts.extend (value_of x) (value_of y)
  extend_means each = answer_value ∙ known_is each ∙ sym (λ i. facts.extend (has_value x a hx i) (has_value y b hy i))

  -- where its sets come from those of the two, the answer is what combining or extending makes of the records
  pub combine_value : r.made ≡ union a.made b.made → r.unmade ≡ intersection a.unmade b.unmade → out ≡ combined x y
  combine_value m u = rw (is, m, u, hx.0, hy.0, hx.1, hx.2, hy.1, hy.2)

  pub extend_value : r.made ≡ union b.made (difference a.made b.unmade) → r.unmade ≡ union b.unmade (difference a.unmade b.made)
      → out ≡ extended x y
  extend_value m u = rw (is, m, u, hx.0, hy.0, hx.1, hx.2, hy.1, hy.2)

-- ---- records that mean the same

-- whether an effect makes its fact, and whether it unmakes it
pub is_makes : Effect → Bool
is_makes makes = true
is_makes keeps = false
is_makes unmakes = false

pub is_unmakes : Effect → Bool
is_unmakes makes = false
is_unmakes keeps = false
is_unmakes unmakes = true

-- they tell the sets that the effect came from
pub makes_effect : (m u : Bool) → is_makes (effect m u) ≡ m
unfolding is_makes
makes_effect m u = grind arith

pub unmakes_effect : (m u : Bool) → (m && u) ≡ false → is_unmakes (effect m u) ≡ u
unfolding is_unmakes
unmakes_effect m u p = grind arith

-- what the value does to a fact
pub does : Value → Fact → Effect
does none k = keeps
does (known f) k = f k

-- whether a value is none
pub is_none : Value → Bool
is_none none = true
is_none (known f) = false

-- none is no known value
pub none_known : (f : Fact → Effect) → none ≢ known f
none_known f e = cc

-- an effect tells the sets that it came from
effect_made : (m u m' u' : Bool) → effect m u ≡ effect m' u' → m ≡ m'
effect_made m u m' u' e = grind arith

effect_unmade : (m u m' u' : Bool) → effect m u ≡ effect m' u' → (m && u) ≡ false → (m' && u') ≡ false → u ≡ u'
effect_unmade m u m' u' e p p' = grind arith

module _ (m u m' u' : ℕ) (e : known (effects m u) ≡ known (effects m' u')) where
  effects_same : (k : Fact) → effects m u k ≡ effects m' u' k
  effects_same k = let f : effects m u ≡ effects m' u' = cc in ap (λ (f : Fact → Effect). f k) f

  made_same : m < 2 ^ 16 → m' < 2 ^ 16 → m ≡ m'
  made_same l l' =
      bits_same 16 m m' l l'
      (by_place 16 (λ n. bit m n ≡ bit m' n) (λ k. let n = place 16 k in effect_made (bit m n) (bit u n) (bit m' n) (bit u' n) (effects_same k)))

  unmade_same : u < 2 ^ 16 → u' < 2 ^ 16 → intersection m u ≡ 0 → intersection m' u' ≡ 0 → u ≡ u'
  unmade_same l l' p p' =
      bits_same 16 u u' l l'
      (by_place 16 (λ n. bit u n ≡ bit u' n)
      (λ k. let n = place 16 k in effect_unmade (bit m n) (bit u n) (bit m' n) (bit u' n) (effects_same k) (apart_bit m u p n) (apart_bit m' u' p' n)))

-- a test says yes or no
pub test : (b : Bool) → (b ≡ true) ⊎ (b ≡ false)
test true = inl refl
test false = inr refl

-- a record means what it is stored as
stored_value : (x : Facts) → value_of (stored x) ≡ value_of x
stored_value x = grind arith

module _ (x y : Facts) where
  pub stored_means : stored x ≡ stored y → value_of x ≡ value_of y
  stored_means e = sym (stored_value x) ∙ ap value_of e ∙ stored_value y

  pub means_stored : x.made < 2 ^ 16 → x.unmade < 2 ^ 16 → y.made < 2 ^ 16 → y.unmade < 2 ^ 16 → value_of x ≡ value_of y → stored x ≡ stored y
  means_stored xm xu ym yu e = grind (arith, made_same, unmade_same)

-- comparing two answers of tests decides whether they are equal
decides_beq : (b c : Bool) → Decides (beq b c) (b ≡ c)
decides_beq b c = booleans_Decides b c

-- records are compared field by field
abbrev alike : Facts → Facts → Bool
alike a b = (beq a.none b.none && a.made == b.made) && a.unmade == b.unmade

decides_alike : (a b : Facts) → Decides (alike a b) (a ≡ b)
decides_alike a b =
    Decides-like (alike a b)
    (λ h i. record { none = h.0.0 i; made = h.0.1 i; unmade = h.1 i })
    (λ e. rw e ((refl, refl), refl))
    (Decides-and _ _ (Decides-and _ _ (decides_beq a.none b.none) (Decides-eqb a.made b.made)) (Decides-eqb a.unmade b.unmade))

-- comparing the stored records compares what is stored, and the values
module _ (x y a b : Facts) (p : a ≡ stored x) (q : b ≡ stored y) where
  pub same_value : Decides (alike a b) (stored x ≡ stored y)
  same_value = Decides-like (alike a b) (λ e. cc) (λ e. cc) (decides_alike a b)

  pub same_means : x.made < 2 ^ 16 → x.unmade < 2 ^ 16 → y.made < 2 ^ 16 → y.unmade < 2 ^ 16 → Decides (alike a b) (value_of x ≡ value_of y)
  same_means xm xu ym yu = Decides-like (alike a b) (stored_means x y) (means_stored x y xm xu ym yu) same_value
