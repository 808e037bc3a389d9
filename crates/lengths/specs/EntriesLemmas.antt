-- Lengths as entries.
use Rattle.std.specs.Prelude.{◌≡◌, ℕ, ◌+◌, ◌*◌, ◌<◌, ◌≤◌, min, Bool, List, ◌∷◌, ◌++◌, length, Some, Ok, slice_index, slice_index_or, refl}
use Rattle.std.proofs.Common.{sym, ap, ◌∙◌, arith}
use Rattle.std.specs.Int.{bytes_high_first}
use Rattle.std.specs.Int.Digits.{number_from_digits}
use Rattle.reading.specs.Standing.{Standing, Passes}
use Rattle.codec.specs.Coded.{Read}
use Rattle.codec.specs.Codes.{Code}
use Rattle.codec.proofs.Leaves.{leaf_code, leaf_read, leaf_spelled, firsts, wide_firsts}
use Rattle.lengths.specs.Entries.{to_length, look_length}
use Rattle.lengths.specs.Lengths.{Capped, capped, capped_is, longest}
use Rattle.lengths.specs.declared.weight.Length.{Length}

abbrev pub length_code : Code Length Capped
length_code =
    leaf_code to_length 17 2 (λ x. capped x.0) (λ x. bytes_high_first 2 (min x.0 longest))
    (λ x. refl)
    (λ x. record { weight = _; made = refl; means = capped_is _ _ (omega arith) })

-- a reader that passed a length's entry
module _ (before after : Standing) (l : List ℕ) (there : l ≡ before.left) (long : 3 ≤ length l) (kind : slice_index_or l 0 0 ≡ 17)
    (v : ℕ) (is : v ≡ slice_index l 1 * 256 + slice_index l 2) (b : Bool) (passes : Passes 3 before after b) where
  -- the body is the number
  same : number_from_digits 256 (firsts 1 2 l) ≡ v
  same = omega (arith, is)

  -- has read it
  pub reads_length : Read look_length before after (Ok (record { 0 = v }))
  reads_length = leaf_read to_length 17 2 before l there long kind after b (record { 0 = v }) (omega arith) (ap (λ n. Some (record { 0 = n })) same) passes

  -- and has passed the bytes that it is written as
  pub spells_length : ((k : ℕ) → slice_index l k < 256) → before.left ≡ (17 ∷ bytes_high_first 2 (min v longest)) ++ after.left
  spells_length small =
      let fits : number_from_digits 256 (firsts 1 2 l) ≡ min v longest = omega (arith, is, small 1, small 2) in
      leaf_spelled to_length 17 2 before l there long kind after b (bytes_high_first 2 (min v longest)) (omega arith)
      (sym (wide_firsts 2 1 l small) ∙ ap (bytes_high_first 2) fits) passes

-- the entry of a length in the range
pub written_length : (v : ℕ) (bs : List ℕ) → v ≤ longest → bs ≡ bytes_high_first 2 v → 17 ∷ firsts 0 2 bs ≡ 17 ∷ bytes_high_first 2 (min v longest)
written_length v bs h e =
    let fits : min v longest ≡ v = omega arith in rw (e, fits)
