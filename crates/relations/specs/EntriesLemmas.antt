-- Relations as entries.
use Rattle.std.specs.Prelude.{◌≡◌, ℕ, ◌+◌, ◌*◌, ◌%◌, ◌^◌, ◌<◌, ◌≤◌, Bool, List, ◌∷◌, ◌++◌, length, Some, Ok, slice_index, slice_index_or, refl}
use Rattle.std.proofs.Common.{sym, ap, ◌∙◌, arith}
use Rattle.std.specs.Int.{bytes_high_first}
use Rattle.std.specs.Int.Digits.{number_from_digits}
use Rattle.bits.specs.Bit.{bit}
use Rattle.bits.specs.Upto.{place}
use Rattle.bits.proofs.Bitwise.{bit_mod}
use Rattle.bits.proofs.Uptos.{place_below}
use Rattle.reading.specs.Standing.{Standing, Passes}
use Rattle.codec.specs.Coded.{Read}
use Rattle.codec.specs.Codes.{Code}
use Rattle.codec.proofs.Leaves.{leaf_code, leaf_read, leaf_spelled, firsts, wide_firsts}
use Rattle.relations.specs.Entries.{to_relation, look_relation}
use Rattle.relations.specs.Relations.{Flag, Value, pairs}
use Rattle.relations.specs.declared.weight.Relation.{Relation}

-- eight bytes keep all pairs
pub pairs_kept : (n : ℕ) (i j : Flag) → pairs (number_from_digits 256 (bytes_high_first 8 n)) i j ≡ pairs n i j
pairs_kept n i j =
    let k : ℕ = 8 * place 8 i + place 8 j in
    let all : number_from_digits 256 (bytes_high_first 8 n) ≡ n % 2 ^ 64 = omega arith in
    ap (λ (m : ℕ). bit m k) all ∙ bit_mod n 64 k (omega (arith, place_below 8 i, place_below 8 j))

abbrev pub relation_code : Code Relation Value
relation_code =
    leaf_code to_relation 16 8 (λ x. pairs x.0) (λ x. bytes_high_first 8 x.0)
    (λ x. refl)
    (λ x. record { weight = _; made = refl; means = λ t i j. pairs_kept x.0 i j t })

-- a reader that passed a relation's entry
module _ (before after : Standing) (l : List ℕ) (there : l ≡ before.left) (long : 9 ≤ length l) (kind : slice_index_or l 0 0 ≡ 16)
    (v : ℕ) (is : number_from_digits 256 (firsts 1 8 l) ≡ v) (b : Bool) (passes : Passes 9 before after b) where
  -- has read it
  pub reads_relation : Read look_relation before after (Ok (record { 0 = v }))
  reads_relation = leaf_read to_relation 16 8 before l there long kind after b (record { 0 = v }) (omega arith) (ap (λ n. Some (record { 0 = n })) is) passes

  -- and has passed the bytes that it is written as
  pub spells_relation : ((k : ℕ) → slice_index l k < 256) → before.left ≡ (16 ∷ bytes_high_first 8 v) ++ after.left
  spells_relation small =
      leaf_spelled to_relation 16 8 before l there long kind after b (bytes_high_first 8 v) (omega arith)
      (sym (wide_firsts 8 1 l small) ∙ ap (bytes_high_first 8) is) passes
