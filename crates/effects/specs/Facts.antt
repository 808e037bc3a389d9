-- What a run does to sixteen facts: each it makes, unmakes or keeps as it was; or there is no run at all.
use Rattle.std.specs.Prelude.{◌≡◌, ℕ, ◌<◌, ◌≤◌, Bool, true, false, cond, not, ◌&&◌, ◌==◌, ◌≢◌, bit_and, refl}
use Rattle.std.proofs.Common.{ap, arith}
use Rattle.bits.specs.Bit.{bit}
use Rattle.bits.specs.Upto.{Upto, place, total}
use Rattle.bits.proofs.Uptos.{total_le, total_same, total_below}
use Rattle.weights.specs.Semiring.{Semiring}

-- ---- one fact

pub data Effect : Type 0 where
  unmakes : Effect
  keeps : Effect
  makes : Effect

-- of either run: it makes the fact if one of them does, and unmakes it if both do
abbrev pub either : Effect → Effect → Effect
either makes b = makes
either keeps makes = makes
either keeps keeps = keeps
either keeps unmakes = keeps
either unmakes b = b

-- of one run after the other: what the second does, unless it keeps the fact
abbrev pub later : Effect → Effect → Effect
later a makes = makes
later a unmakes = unmakes
later a keeps = a

abbrev pub level : Effect → ℕ
level makes = 0
level keeps = 1
level unmakes = 2

pub either_assoc : (a b c : Effect) → either (either a b) c ≡ either a (either b c)
either_assoc a b c = grind arith

pub either_comm : (a b : Effect) → either a b ≡ either b a
either_comm a b = grind arith

pub either_same : (a : Effect) → either a a ≡ a
either_same a = grind arith

pub later_assoc : (a b c : Effect) → later (later a b) c ≡ later a (later b c)
later_assoc a b c = grind arith

pub keeps_later : (a : Effect) → later keeps a ≡ a
keeps_later a = grind arith

pub later_either : (a b c : Effect) → later a (either b c) ≡ either (later a b) (later a c)
later_either a b c = grind arith

pub either_later : (a b c : Effect) → later (either a b) c ≡ either (later a c) (later b c)
either_later a b c = grind arith

pub level_most : (a : Effect) → level a ≤ 2
level_most a = grind arith

pub level_falls : (a b : Effect) → level (either a b) ≤ level a
level_falls a b = grind arith

pub level_still : (a b : Effect) → level (either a b) ≡ level a → either a b ≡ a
level_still a b e = grind arith

-- ---- all facts

abbrev pub Fact : Type 0
Fact = Upto 16

pub data Value : Type 0 where
  none : Value
  known : (Fact → Effect) → Value

abbrev pub combine : Value → Value → Value
combine none y = y
combine (known f) none = known f
combine (known f) (known g) = known (λ k. either (f k) (g k))

abbrev pub extend : Value → Value → Value
extend none y = none
extend (known f) none = none
extend (known f) (known g) = known (λ k. later (f k) (g k))

abbrev pub rank : Value → ℕ
rank none = 33
rank (known f) = total 16 (λ k. level (f k))

pub known_is : {f g : Fact → Effect} → ((k : Fact) → f k ≡ g k) → known f ≡ known g
known_is h = ap known (λ i k. h k i)

pub combine_assoc : (x y z : Value) → combine (combine x y) z ≡ combine x (combine y z)
combine_assoc x y z = grind (arith, known_is, either_assoc)

pub combine_comm : (x y : Value) → combine x y ≡ combine y x
combine_comm x y = grind (arith, known_is, either_comm)

pub combine_same : (x : Value) → combine x x ≡ x
combine_same x = grind (arith, known_is, either_same)

pub combine_none : (x : Value) → combine x none ≡ x
combine_none x = grind arith

pub extend_assoc : (x y z : Value) → extend (extend x y) z ≡ extend x (extend y z)
extend_assoc x y z = grind (arith, known_is, later_assoc)

pub keeps_extend : (x : Value) → extend (known (λ k. keeps)) x ≡ x
keeps_extend x = grind (arith, known_is, keeps_later)

pub extend_keeps : (x : Value) → extend x (known (λ k. keeps)) ≡ x
extend_keeps x = grind arith

pub extend_none : (x : Value) → extend x none ≡ none
extend_none x = grind arith

pub extend_combine : (x y z : Value) → extend x (combine y z) ≡ combine (extend x y) (extend x z)
extend_combine x y z = grind (arith, known_is, later_either)

pub combine_extend : (x y z : Value) → extend (combine x y) z ≡ combine (extend x z) (extend y z)
combine_extend x y z = grind (arith, known_is, either_later)

pub rank_known : (f : Fact → Effect) → total 16 (λ k. level (f k)) ≤ 32
rank_known f = total_below 16 2 (λ k. level (f k)) (λ k. level_most (f k))

-- combining that leaves the levels as high leaves the effects
pub still : (f g : Fact → Effect) → total 16 (λ k. level (f k)) ≤ total 16 (λ k. level (either (f k) (g k)))
    → known (λ k. either (f k) (g k)) ≡ known f
still f g h =
    let falls : (k : Fact) → level (either (f k) (g k)) ≤ level (f k) = λ k. level_falls (f k) (g k) in
    let low : total 16 (λ k. level (either (f k) (g k))) ≤ total 16 (λ k. level (f k)) = total_le 16 _ _ falls in
    known_is (λ k. level_still (f k) (g k) (total_same 16 (λ k. level (either (f k) (g k))) (λ k. level (f k)) falls (omega (arith, h, low)) k))

pub falls : (x y : Value) → (combine x y ≢ x) → rank (combine x y) < rank x
falls none none ne = absurd (ne refl)
falls none (known g) ne = omega (arith, rank_known g)
falls (known f) none ne = absurd (ne refl)
falls (known f) (known g) ne =
    let fallen : rank (known f) ≤ rank (combine (known f) (known g)) → ⊥ = λ h. ne (still f g h) in omega arith

abbrev pub facts : Semiring
facts = record {
  Value = Value;
  zero = none;
  one = known (λ k. keeps);
  combine = combine;
  extend = extend;
  rank = rank;
  combine_assoc = combine_assoc;
  combine_comm = combine_comm;
  combine_same = combine_same;
  combine_zero = combine_none;
  extend_assoc = extend_assoc;
  one_extend = keeps_extend;
  extend_one = extend_keeps;
  zero_extend = λ x. refl;
  extend_zero = extend_none;
  extend_combine = extend_combine;
  combine_extend = combine_extend;
  falls = falls;
}

-- ---- what two sets of facts, and a record of them, mean

-- of a fact, by whether it is in the set that is made and in the one that is unmade
abbrev pub effect : Bool → Bool → Effect
effect true u = makes
effect false true = unmakes
effect false false = keeps

abbrev pub effects : ℕ → ℕ → Fact → Effect
effects made unmade k = effect (bit made (place 16 k)) (bit unmade (place 16 k))

-- no fact is in both sets
abbrev pub disjoint : ℕ → ℕ → Bool
disjoint made unmade = bit_and made unmade == 0

-- a record that breaks the rule means none
abbrev pub meant : Bool → ℕ → ℕ → Value
meant nothing made unmade = cond (not nothing && disjoint made unmade) (known (effects made unmade)) none
