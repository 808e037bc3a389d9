-- Facts as entries.
use Rattle.std.specs.Prelude.{◌≡◌, ℕ, ◌+◌, ◌*◌, ◌/◌, ◌%◌, ◌^◌, ◌<◌, ◌≤◌, Bool, true, false, cond, List, [], ◌∷◌, ◌++◌, length, Some, None, Ok, bit_and, slice_index, slice_index_or}
use Rattle.std.proofs.Common.{sym, ap, ◌∙◌, ⊎_elim, arith}
use Rattle.std.proofs.lemmas.Nat.{and_mod}
use Rattle.std.proofs.lemmas.Bool.{cases_Bool, eq-eqb}
use Rattle.bits.specs.Upto.{place}
use Rattle.bits.proofs.Bitwise.{bit_mod}
use Rattle.bits.proofs.Uptos.{place_below}
use Rattle.std.specs.Int.{bytes_high_first}
use Rattle.std.specs.Int.Digits.{number_from_digits}
use Rattle.reading.specs.Standing.{Standing, Passes}
use Rattle.codec.specs.Coded.{Read}
use Rattle.codec.specs.Codes.{Code}
use Rattle.codec.proofs.Leaves.{Remade, leaf_code, leaf_read, leaf_spelled, firsts, wide_firsts}
use Rattle.facts.specs.declared.weight.Facts.{Facts}
use Rattle.facts.specs.Entries.{body, facts_of, to_facts, look_facts}
use Rattle.effects.specs.Facts.{Fact, Value, known_is, effect, effects, disjoint}
use Rattle.facts.specs.Stored.{value_of, nothing, sets, is_known}
use Rattle.facts.specs.Records.{value_known, value_none, known_apart, sets_value}

-- the bodies of none and of a known value
abbrev pub none_body : List ℕ
none_body = 1 ∷ 0 ∷ 0 ∷ 0 ∷ 0 ∷ []

abbrev pub sets_body : ℕ → ℕ → List ℕ
sets_body m u = 0 ∷ (bytes_high_first 2 m ++ bytes_high_first 2 u)

pub body_known : (x : Facts) → is_known x ≡ true → body x ≡ sets_body x.made x.unmade
body_known x e = ap (λ b. cond b (sets_body x.made x.unmade) none_body) e

pub body_none : (x : Facts) → is_known x ≡ false → body x ≡ none_body
body_none x e = ap (λ b. cond b (sets_body x.made x.unmade) none_body) e

pub facts_of_sets : (m u : ℕ) → disjoint m u ≡ true → facts_of 0 m u ≡ Some (sets m u)
facts_of_sets m u e = ap (λ b. cond b (Some (sets m u)) None) e

-- two bytes keep all facts
abbrev pub kept : ℕ → ℕ
kept n = n / 256 % 256 * 256 + n % 256

pub kept_is : (n : ℕ) → kept n ≡ n % 2 ^ 16
kept_is n = omega arith

pub kept_apart : (m u : ℕ) → bit_and m u ≡ 0 → bit_and (kept m) (kept u) ≡ 0
kept_apart m u e = (λ i. bit_and (kept_is m i) (kept_is u i)) ∙ sym (and_mod m u 16) ∙ ap (λ (n : ℕ). n % 2 ^ 16) e

pub effects_kept : (m u : ℕ) (k : Fact) → effects (kept m) (kept u) k ≡ effects m u k
effects_kept m u k =
    (λ i. effects (kept_is m i) (kept_is u i) k)
    ∙ (λ i. effect (bit_mod m 16 (place 16 k) (place_below 16 k) i) (bit_mod u 16 (place 16 k) (place_below 16 k) i))

pub remade_known : (x : Facts) → is_known x ≡ true → Remade to_facts value_of (body x) (value_of x)
remade_known x e =
    let apart : bit_and (kept x.made) (kept x.unmade) ≡ 0 = kept_apart x.made x.unmade (known_apart x e) in
    record {
      weight = sets (kept x.made) (kept x.unmade);
      made = ap to_facts (body_known x e) ∙ facts_of_sets (kept x.made) (kept x.unmade) (eq-eqb _ 0 apart);
      means = sets_value (kept x.made) (kept x.unmade) apart ∙ known_is (effects_kept x.made x.unmade) ∙ sym (value_known x e);
    }

pub remade_none : (x : Facts) → is_known x ≡ false → Remade to_facts value_of (body x) (value_of x)
remade_none x e = record { weight = nothing; made = ap to_facts (body_none x e); means = sym (value_none x e) }

pub length_body : (x : Facts) → length (body x) ≡ 5
length_body x = ⊎_elim (λ e. ap length (body_known x e)) (λ e. ap length (body_none x e)) (cases_Bool (is_known x))

abbrev pub facts_code : Code Facts Value
facts_code =
    leaf_code to_facts 18 5 value_of body length_body (λ x. ⊎_elim (remade_known x) (remade_none x) (cases_Bool (is_known x)))

-- a reader that passed an entry of facts
module _ (before after : Standing) (l : List ℕ) (there : l ≡ before.left) (long : 6 ≤ length l) (kind : slice_index_or l 0 0 ≡ 18)
    (b : Bool) (passes : Passes 6 before after b) where
  -- has read what its body makes
  pub reads_facts : (x : Facts) → to_facts (firsts 1 5 l) ≡ Some x → Read look_facts before after (Ok x)
  reads_facts x e = leaf_read to_facts 18 5 before l there long kind after b x (omega arith) e passes

  -- and has passed the bytes that it is written as
  pub spells_facts : (x : Facts) → firsts 1 5 l ≡ body x → before.left ≡ (18 ∷ body x) ++ after.left
  spells_facts x e = leaf_spelled to_facts 18 5 before l there long kind after b (body x) (omega arith) e passes

-- the body of none, byte by byte
pub read_none : (l : List ℕ) → slice_index l 1 ≡ 1 → slice_index l 2 ≡ 0 → slice_index l 3 ≡ 0 → slice_index l 4 ≡ 0 → slice_index l 5 ≡ 0 → firsts 1 5 l ≡ none_body
read_none l p q r s t = rw (p, q, r, s, t)

module _ (l : List ℕ) (flag : slice_index_or l 1 0 ≡ 0) (m u : ℕ) (made : m ≡ slice_index l 2 * 256 + slice_index l 3) (unmade : u ≡ slice_index l 4 * 256 + slice_index l 5)
    (apart : disjoint m u ≡ true) where
  -- a body of two sets that have no fact in common is a known value
  pub read_sets : to_facts (firsts 1 5 l) ≡ Some (sets m u)
  read_sets = (λ i. facts_of (flag i) (sym made i) (sym unmade i)) ∙ facts_of_sets m u apart

  -- and it is the body that this value is written as
  pub spell_sets : ((k : ℕ) → slice_index l k < 256) → firsts 1 5 l ≡ body (sets m u)
  spell_sets small =
      let first : number_from_digits 256 (firsts 2 2 l) ≡ m = omega (arith, made) in
      let second : number_from_digits 256 (firsts 4 2 l) ≡ u = omega (arith, unmade) in
      (λ i. flag i ∷ ((sym (wide_firsts 2 2 l small) ∙ ap (bytes_high_first 2) first) i ++ (sym (wide_firsts 2 4 l small) ∙ ap (bytes_high_first 2) second) i))
      ∙ sym (body_known (sets m u) apart)

-- the entry of a known value, from the bytes of its sets
pub written_sets : (x : Facts) (m u : ℕ) (a b : List ℕ) → is_known x ≡ true → m ≡ x.made → u ≡ x.unmade → a ≡ bytes_high_first 2 m → b ≡ bytes_high_first 2 u
    → 18 ∷ 0 ∷ (firsts 0 2 a ++ firsts 0 2 b) ≡ 18 ∷ body x
written_sets x m u a b e p q s t = rw (s, t, p, q, e)
