-- How many bits of a number are set, by indices.
use Rattle.std.proofs.Common.{◌≡◌, ℕ, zero, suc, ◌+◌, ◌*◌, ◌/◌, ◌%◌, ◌^◌, ◌<◌, cond, eqb, sym, ap, ◌∙◌, mul-suc, pow-suc, arith}
use Rattle.std.specs.Int.Count.{ones, ones_step, ones_cat, ones-le}
use Rattle.std.proofs.lemmas.Bool.Decides.{nat_tests}
use Rattle.std.proofs.lemmas.Nat.{mod_below, pow_pos, shr_below, shr_split}
use Rattle.std.proofs.lemmas.Nat.Bits.{bit_at_lowest, bit_at-suc}
use Rattle.bits.specs.Bit.{bit}
use Rattle.bits.specs.Upto.{Upto, place, total}
use Rattle.bits.proofs.Bitwise.{bit_shr, bit_mod}
use Rattle.bits.proofs.Uptos.{place_below}

lowest : (n : ℕ) → cond (bit n 0) 1 0 ≡ n % 2
lowest n = grind (arith, nat_tests, bit_at_lowest n)

next : (n k : ℕ) → bit n (suc k) ≡ bit (n / 2) k
next n k = ap (λ m. eqb m 1) (bit_at-suc n k)

-- the set bits of a number of w bits
pub total_bits : (w n : ℕ) → n < 2 ^ w → total w (λ i. cond (bit n (place w i)) 1 0) ≡ ones n
total_bits zero n h = omega (arith, ones-le 0 n h)
total_bits (suc w) n h = simp (lowest, next) (omega (arith, total_bits w (n / 2) (omega (arith, pow-suc 2 w)), ones_step n))

first_row : (w n : ℕ) → total w (λ j. cond (bit n (w * 0 + place w j)) 1 0) ≡ ones (n % 2 ^ w)
first_row w n =
    (λ t. total w (λ j. cond (in_row j t) 1 0)) ∙ total_bits w (n % 2 ^ w) (mod_below n (2 ^ w) (pow_pos w))
  where
    in_row : (j : Upto w) → bit n (w * 0 + place w j) ≡ bit (n % 2 ^ w) (place w j)
    in_row j = ap (bit n) (omega arith) ∙ sym (bit_mod n w (place w j) (place_below w j))

next_row : (w n p k : ℕ) → bit n (w * suc p + k) ≡ bit (n / 2 ^ w) (w * p + k)
next_row w n p k = ap (bit n) (omega (arith, mul-suc w p)) ∙ sym (bit_shr n w (w * p + k))

split : (w n : ℕ) → ones (n % 2 ^ w) + ones (n / 2 ^ w) ≡ ones n
split w n = omega (arith, ones_cat w (n / 2 ^ w) (n % 2 ^ w) (mod_below n (2 ^ w) (pow_pos w)), ap ones (shr_split n w))

-- the set bits of a number of m rows, each of w bits
pub total_rows : (m w n : ℕ) → n < 2 ^ (w * m) → total m (λ i. total w (λ j. cond (bit n (w * place m i + place w j)) 1 0)) ≡ ones n
total_rows zero w n h = omega (arith, ones-le (w * 0) n h)
total_rows (suc m) w n h =
    let rest = total_rows m w (n / 2 ^ w) (shr_below n (w * m) w (rw (← mul-suc) h)) in
    simp next_row (omega (arith, first_row w n, rest, split w n))
