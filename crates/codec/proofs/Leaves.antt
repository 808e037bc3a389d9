-- Weights of one entry: a byte of kind k, and a body of n bytes that f makes a weight of, if it is one.
use Rattle.std.proofs.Common.{◌≡◌, ℕ, zero, suc, ◌+◌, ◌*◌, ◌/◌, ◌%◌, ◌^◌, ◌<◌, ◌≤◌, Bool, true, eqb, leb, List, [], ◌∷◌, ◌++◌, length, get_or, drop, Some, Ok, Option, sym, refl, ap, ◌∙◌, add-zero, pow-suc, arith, length-append, eq-eqb, le-leb}
use Rattle.std.specs.Int.{byte_at, bytes_high_first}
use Rattle.std.specs.Int.Digits.{number_from_digits, number_from_digits_after}
use Rattle.std.proofs.Math.Arith.{mod-mul}
use Rattle.std.proofs.Math.Nat.{div-div-eq-div-mul, one-le-pow, pow-succ', mul_assoc, add-mul, add_assoc}
use Rattle.std.proofs.lemmas.List.{take_at, drop_at, drop_more}
use Rattle.reading.specs.Standing.{Standing, past, Passes}
use Rattle.codec.specs.Look.{Look, due, judged, made_of}
use Rattle.codec.specs.Coded.{Read, Gives}
use Rattle.codec.specs.Codes.{Code}

-- n elements from i on
abbrev pub firsts : ℕ → ℕ → List ℕ → List ℕ
firsts i zero l = []
firsts i (suc n) l = get_or l i 0 ∷ firsts (i + 1) n l

-- they are n
pub length_firsts : (i n : ℕ) (l : List ℕ) → length (firsts i n l) ≡ n
length_firsts i zero l = refl
length_firsts i (suc n) l = ap suc (length_firsts (i + 1) n l)

-- what is left of a list is its next n elements, and what is left behind them
pub split_at : (n i : ℕ) (l : List ℕ) → i + n ≤ length l → drop i l ≡ firsts i n l ++ drop (i + n) l
split_at zero i l h = rw add-zero
split_at (suc n) i l h =
    let same : i + 1 + n ≡ i + suc n = omega arith in
    drop_more l i 0 (omega arith) ∙ ap (λ m. get_or l i 0 ∷ m) (rw same at (split_at n (i + 1) l (omega arith)))

-- an entry, its kind and its body apart
pub fronted : (k n : ℕ) (l : List ℕ) → n + 1 ≤ length l → get_or l 0 0 ≡ k → l ≡ k ∷ (firsts 1 n l ++ drop (n + 1) l)
fronted k n l long kind = let same : 0 + suc n ≡ n + 1 = omega arith in rw (same, kind) at (split_at (suc n) 0 l (omega arith))

-- a body that makes a weight of the value v
pub record Remade {W V : Type 0} (f : List ℕ → Option W) (meaning : W → V) (body : List ℕ) (v : V) : Type 0 where
  pub weight : W
  pub made : f body ≡ Some weight
  pub means : meaning weight ≡ v

-- an entry of the kind is read as its body
pub due_at : (k n : ℕ) (body rest : List ℕ) → length body ≡ n → due k n (k ∷ (body ++ rest)) ≡ record { answer = Ok body; used = n + 1; passed = 1; left = rest }
due_at k n body rest e =
    let room : leb n (length (body ++ rest)) ≡ true = le-leb _ _ (omega (arith, length-append body rest)) in
    let same : eqb k k ≡ true = eq-eqb k k refl in
    rw (same, room, take_at body rest n e, drop_at body rest n e)

-- where a reader stands that went past n bytes, an entry that was there
pub went_on : (r : Standing) (n : ℕ) (after : Standing) (b : Bool) → 2 ≤ n → n ≤ length r.left → Passes n r after b → after ≡ past n r
went_on r n after b h k p =
    let two : leb 2 n ≡ true = le-leb 2 n h in
    let room : leb n (length r.left) ≡ true = le-leb n (length r.left) k in
    rw (two, room) at p.stands

-- a reader that passed what was read
read_passed : {W : Type 0} (look : List ℕ → Look W) (n : ℕ) (before after : Standing) (w : W) → n ≤ length before.left
    → look before.left ≡ record { answer = Ok w; used = n; passed = 1; left = drop n before.left } → after ≡ past n before → Read look before after (Ok w)
read_passed look n before after w h q p = rw (q, p) (record { says = refl; stands = refl; within = h; gone = refl })

module _ {W : Type 0} (f : List ℕ → Option W) (k n : ℕ) where
  -- what an entry of the kind reads as
  entry_at : (body rest : List ℕ) (w : W) → length body ≡ n → f body ≡ Some w
      → made_of f (due k n) (k ∷ (body ++ rest)) ≡ record { answer = Ok w; used = n + 1; passed = 1; left = rest }
  entry_at body rest w e s = ap (λ x. judged f (k ∷ (body ++ rest)) x x.answer) (due_at k n body rest e) ∙ rw s

  -- a written entry reads as what its body makes
  pub leaf_back : (body rest : List ℕ) (w : W) → length body ≡ n → f body ≡ Some w → Gives (made_of f (due k n)) (k ∷ (body ++ rest)) w rest
  leaf_back body rest w e s =
      let q = entry_at body rest w e s in
      record { says = ap (λ x. x.answer) q; leaves = ap (λ x. x.left) q }

  module _ (before : Standing) (l : List ℕ) (there : l ≡ before.left) (long : n + 1 ≤ length l) (kind : get_or l 0 0 ≡ k) where
    -- what is left before it, as its kind, its body and what stands behind
    whole : before.left ≡ k ∷ (firsts 1 n l ++ drop (n + 1) before.left)
    whole = sym there ∙ fronted k n l long kind ∙ ap (λ m. k ∷ (firsts 1 n l ++ drop (n + 1) m)) there

    -- where a reader stands that passed it
    went : (after : Standing) (b : Bool) → 0 < n → Passes (n + 1) before after b → after ≡ past (n + 1) before
    went after b some p = went_on before (n + 1) after b (omega arith) (omega (arith, ap length there)) p

    -- a reader that passed an entry of the kind
    pub leaf_read : (after : Standing) (b : Bool) (w : W) → 0 < n → f (firsts 1 n l) ≡ Some w
        → Passes (n + 1) before after b → Read (made_of f (due k n)) before after (Ok w)
    leaf_read after b w some s p =
        read_passed (made_of f (due k n)) (n + 1) before after w (omega (arith, ap length there))
        (ap (made_of f (due k n)) whole ∙ entry_at (firsts 1 n l) (drop (n + 1) before.left) w (length_firsts 1 n l) s) (went after b some p)

    -- what it passed, byte for byte
    pub leaf_spelled : (after : Standing) (b : Bool) (body : List ℕ) → 0 < n → firsts 1 n l ≡ body
        → Passes (n + 1) before after b → before.left ≡ (k ∷ body) ++ after.left
    leaf_spelled after b body some e p = whole ∙ (λ i. k ∷ (e i ++ (sym (went after b some p) i).left))

-- a kind of one entry, from its body for each weight and what the body makes
abbrev pub leaf_code : {W V : Type 0} (f : List ℕ → Option W) (k n : ℕ) (meaning : W → V) (body : W → List ℕ)
    → ((x : W) → length (body x) ≡ n) → ((x : W) → Remade f meaning (body x) (meaning x)) → Code W V
leaf_code f k n meaning body long again = record {
  look = made_of f (due k n);
  meaning = meaning;
  bytes = λ x. k ∷ body x;
  width = n + 1;
  wide = λ x. omega (arith, long x);
  back = λ x rest.
      let r = again x in
      record { weight = r.weight; gives = leaf_back f k n (body x) rest r.weight (long x) r.made; means = r.means };
}

-- ---- bytes that were read, and the number that they are

module _ (l : List ℕ) (small : (k : ℕ) → get_or l k 0 < 256) where
  -- the digits behind a number take up the places below it
  above : (n i a : ℕ) → number_from_digits_after 256 a (firsts i n l) / 256 ^ n ≡ a
  above zero i a = omega arith
  above (suc n) i a =
      let b : ℕ = a * 256 + get_or l i 0 in
      let m : ℕ = number_from_digits_after 256 b (firsts (i + 1) n l) in
      rw (pow-suc 256 n, ← div-div-eq-div-mul m (256 ^ n) 256, above n (i + 1) b) (omega (arith, small i))

  -- the byte in the place above them is the low byte of that number
  next : (n i a : ℕ) → byte_at n (number_from_digits_after 256 a (firsts i n l)) ≡ a % 256
  next zero i a = refl
  next (suc n) i a = ap (λ (m : ℕ). m % 256) (above (suc n) i a)

  -- and the n bytes below it are the digits themselves
  bytes_firsts : (n i a : ℕ) → bytes_high_first n (number_from_digits_after 256 a (firsts i n l)) ≡ firsts i n l
  bytes_firsts zero i a = refl
  bytes_firsts (suc n) i a =
      let b : ℕ = a * 256 + get_or l i 0 in
      let low : b % 256 ≡ get_or l i 0 = omega (arith, small i) in
      λ t. (next n (i + 1) b ∙ low) t ∷ bytes_firsts n (i + 1) b t

-- bytes that were read are those of the number that they are
pub wide_firsts : (n i : ℕ) (l : List ℕ) → ((k : ℕ) → get_or l k 0 < 256) → bytes_high_first n (number_from_digits 256 (firsts i n l)) ≡ firsts i n l
wide_firsts n i l small = bytes_firsts l small n i 0

-- ---- the bytes of a number, and the number that they are

-- they are as many as asked for
pub length_wide : (n v : ℕ) → length (bytes_high_first n v) ≡ n
length_wide zero v = refl
length_wide (suc n) v = ap suc (length_wide n v)

-- byte i of a number
byte_is : (i v : ℕ) → byte_at i v ≡ v / 256 ^ i % 256
byte_is zero v = omega arith
byte_is (suc i) v = refl

-- what they add to the digits before them
number_behind : (n a v : ℕ) → number_from_digits_after 256 a (bytes_high_first n v) ≡ a * 256 ^ n + v % 256 ^ n
number_behind zero a v = omega arith
number_behind (suc n) a v =
    let b : ℕ = v / 256 ^ n % 256 in
    let more : v % (256 * 256 ^ n) ≡ b * 256 ^ n + v % 256 ^ n = mod-mul v (omega arith) (one-le-pow n 256 (omega arith)) in
    ap (λ (d : ℕ). number_from_digits_after 256 (a * 256 + d) (bytes_high_first n v)) (byte_is n v)
    ∙ number_behind n (a * 256 + b) v
    ∙ rw (pow-succ' 256 n, more, add-mul (a * 256) b (256 ^ n), mul_assoc a 256 (256 ^ n)) (add_assoc _ _ _)

-- the low part of the number, in that many bytes
pub number_wide : (n v : ℕ) → number_from_digits 256 (bytes_high_first n v) ≡ v % 256 ^ n
number_wide n v = number_behind n 0 v ∙ omega arith
