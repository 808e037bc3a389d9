-- One bit of a number: of what shifts, masks, unions and complements leave.
use Rattle.std.proofs.Common.{◌≡◌, ℕ, ◌+◌, ◌-◌, ◌*◌, ◌/◌, ◌%◌, ◌^◌, ◌<◌, false, not, ◌&&◌, ◌||◌, eqb, sym, ap, ◌∙◌, arith}
use Rattle.std.specs.Int.Bits.{bit_and, bit_or}
use Rattle.std.proofs.lemmas.Bool.Decides.{nat_tests}
use Rattle.std.proofs.lemmas.Nat.{shr-shr, shl-shr, div-add-mod', pow_pos, pow_below, and-not}
use Rattle.std.proofs.lemmas.Nat.Bits.{bit_at-lt, bit_at-zero, bit_at_and, bit_at_or, bit_at_above, bit_at_cat_low, same_from_bits_below, and_pow}
use Rattle.bits.specs.Bit.{bit}

pub bit-or : (a b k : ℕ) → bit (bit_or a b) k ≡ (bit a k || bit b k)
bit-or a b k = grind (arith, nat_tests, bit_at_or a b k, bit_at-lt a k, bit_at-lt b k)

pub bit-and : (a b k : ℕ) → bit (bit_and a b) k ≡ (bit a k && bit b k)
bit-and a b k = grind (arith, nat_tests, bit_at_and a b k, bit_at-lt a k, bit_at-lt b k)

pub bit_zero : (k : ℕ) → bit 0 k ≡ false
bit_zero k = ap (λ n. eqb n 1) (bit_at-zero k)

pub bit_shr : (n s k : ℕ) → bit (n / 2 ^ s) k ≡ bit n (s + k)
bit_shr n s k = ap (λ m. eqb (m % 2) 1) (shr-shr n s k)

-- the bits below w are those of the remainder
pub bit_mod : (n w k : ℕ) → k < w → bit (n % 2 ^ w) k ≡ bit n k
bit_mod n w k h = ap (λ m. eqb m 1) (sym (bit_at_cat_low (n / 2 ^ w) w (n % 2 ^ w) k h)) ∙ ap (λ m. bit m k) (div-add-mod' n (2 ^ w))

-- a number below 2 ^ s has no bit from s on
pub bit_high : (n s k : ℕ) → n < 2 ^ s → bit n (s + k) ≡ false
bit_high n s k h = ap (λ m. eqb m 1) (bit_at_above n s (s + k) h (omega arith))

pub bit_shl : (n s k : ℕ) → bit (n * 2 ^ s) (s + k) ≡ bit n k
bit_shl n s k = ap (λ m. eqb (m % 2) 1) (sym (shr-shr (n * 2 ^ s) s k) ∙ ap (λ m. m / 2 ^ k) (shl-shr n s))

pub bit_below : (n s k : ℕ) → k < s → bit (n * 2 ^ s) k ≡ false
bit_below n s k h = grind (arith, nat_tests, bit_at_cat_low n s 0 k h, bit_at-zero k)

pub bits_same : (w n m : ℕ) → n < 2 ^ w → m < 2 ^ w → ((k : ℕ) → k < w → bit n k ≡ bit m k) → n ≡ m
bits_same w n m p q h = same_from_bits_below w n m p q (λ k l. grind (arith, nat_tests, h k l, bit_at-lt n k, bit_at-lt m k))

one_of_two : (a b p : ℕ) → a < 2 → b < 2 → 0 < p → a * p + b * p ≡ p → eqb a 1 ≡ not (eqb b 1)
one_of_two a b p small low some whole = grind (arith, nat_tests)

pub bit_not : (w x k : ℕ) → x < 2 ^ w → k < w → bit (2 ^ w - 1 - x) k ≡ not (bit x k)
bit_not w x k h l =
    one_of_two _ _ (2 ^ k) (bit_at-lt _ k) (bit_at-lt x k) (pow_pos k) (simp and_pow at (and-not w x (2 ^ k) h (pow_below k w l)))
