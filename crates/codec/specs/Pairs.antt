-- One reading after another.
use Rattle.std.specs.Prelude.{◌≡◌, ℕ, ◌+◌, List, ◌++◌, length, drop, IsErrAnd, Ok, Err, Result, refl}
use Rattle.std.proofs.Common.{sym, ap, subst, ◌∙◌, add-zero, add_assoc, append_assoc, arith, length-append, length-drop}
use Rattle.std.proofs.lemmas.List.{drop-drop}
use Rattle.reading.specs.declared.fault.EntryFault.{EntryFault}
use Rattle.codec.specs.Look.{Look, done, onward, and_then}
use Rattle.reading.specs.Standing.{Standing}
use Rattle.codec.specs.Coded.{behind, Follows, Read, Gives, pair_with, look_pair, with_one, with_two, with_three, look_square}
use Rattle.pairs.specs.Pairs.{Both, both, both_is}
use Rattle.squares.specs.Squares.{Quad, quad, quad_is}
use Rattle.pairs.specs.declared.pair.Pair.{Pair}
use Rattle.squares.specs.declared.square.Square.{Square}
use Rattle.codec.specs.Codes.{Code}

abbrev pub added : {W : Type 0} → ℕ → ℕ → Look W → Look W
added n m k = record { answer = k.answer; used = n + k.used; passed = m + k.passed; left = k.left }

pub then_ok : {V W : Type 0} (k : Look V) (f : V → List ℕ → Look W) (v : V) (l : List ℕ) → k.answer ≡ Ok v → k.left ≡ l → and_then k f ≡ added k.used k.passed (f v l)
then_ok k f v l e q = ap (onward k.used k.passed k.left f) e ∙ ap (λ m. added k.used k.passed (f v m)) q

pub then_err : {V W : Type 0} (k : Look V) (f : V → List ℕ → Look W) (e : EntryFault) → k.answer ≡ Err e
    → and_then k f ≡ record { answer = Err e; used = k.used; passed = k.passed; left = k.left }
then_err k f e q = ap (onward k.used k.passed k.left f) q

-- what two readers did, one after the other
pub follows_then : {V W : Type 0} (k : Look V) (m : Look W) (before mid after : Standing) {v : V} {r : Result W EntryFault}
    → Follows k before mid (Ok v) → Follows m mid after r → Follows (added k.used k.passed m) before after r
follows_then k m before mid after p q =
    let left : mid.left ≡ drop k.used before.left = ap (λ s. s.left) p.stands ∙ p.gone in
    record {
      says = q.says;
      stands = q.stands ∙ ap (λ s. behind s m) p.stands ∙ simp add_assoc;
      within = omega (arith, p.within, q.within, ap length left, length-drop k.used before.left);
      gone = q.gone ∙ ap (drop m.used) left ∙ drop-drop m.used k.used before.left;
    }

module _ {V W : Type 0} (f : List ℕ → Look V) (g : V → List ℕ → Look W) where
  abbrev both_looks : List ℕ → Look W
  both_looks l = and_then (f l) g

  pub gives_then : {l m n : List ℕ} {v : V} {w : W} → Gives f l v m → Gives (g v) m w n → Gives both_looks l w n
  gives_then {l} {m} {n} {v} {w} p q =
      let e = then_ok (f l) g v m p.says p.leaves in
      record { says = ap (λ k. k.answer) e ∙ q.says; leaves = ap (λ k. k.left) e ∙ q.leaves }

  pub read_then : (before mid after : Standing) {v : V} {r : Result W EntryFault} → Read f before mid (Ok v) → Read (g v) mid after r → Read both_looks before after r
  read_then before mid after {v} {r} p q =
      subst (λ k. Follows k before after r) (sym (then_ok (f before.left) g v mid.left (sym p.says) (ap (λ s. s.left) (sym p.stands))))
      (follows_then (f before.left) (g v mid.left) before mid after p q)

  -- a fault of the first is the fault of both
  pub read_stop : (before after : Standing) {e : EntryFault} → Read f before after (Err e) → Read both_looks before after (Err e)
  read_stop before after {e} p =
      subst (λ k. Follows k before after (Err e)) (sym (then_err (f before.left) g e (sym p.says)))
      (record { says = refl; stands = p.stands; within = p.within; gone = p.gone })

-- a fault that was handed on
pub read_fault : {W : Type 0} {k : Look W} {before after : Standing} {e : EntryFault} (r : Result W EntryFault)
    → IsErrAnd r (λ d. d ≡ e) → Follows k before after (Err e) → Follows k before after r
read_fault (Ok w) h p = absurd h
read_fault (Err d) h p = rw h p

pub gives_done : {W : Type 0} (w : W) (l : List ℕ) → Gives (done w) l w l
gives_done w l = record { says = refl; leaves = refl }

pub read_done : {W : Type 0} (w : W) (r : Standing) → Read (done w) r r (Ok w)
read_done w r = record { says = refl; stands = simp add-zero; within = omega arith; gone = refl }

-- the bytes of one after those of another
pub spelled_then : (a b l m n : List ℕ) → l ≡ a ++ m → m ≡ b ++ n → l ≡ (a ++ b) ++ n
spelled_then a b l m n p q = p ∙ ap (λ t. a ++ t) q ∙ sym (append_assoc a b n)

pub length_then : (a b : List ℕ) (n m : ℕ) → length a ≡ n → length b ≡ m → length (a ++ b) ≡ n + m
length_then a b n m p q = length-append a b ∙ (λ i. p i + q i)

abbrev pub pair_code : {X Y V W : Type 0} → Code X V → Code Y W → Code (Pair X Y) (Both V W)
pair_code A B = record {
  look = look_pair A.look B.look;
  meaning = λ x. both (A.meaning x.first) (B.meaning x.second);
  bytes = λ x. A.bytes x.first ++ B.bytes x.second;
  width = A.width + B.width;
  wide = λ x. length_then (A.bytes x.first) (B.bytes x.second) A.width B.width (A.wide x.first) (B.wide x.second);
  back = λ x rest.
      let q = B.back x.second rest in
      let p = A.back x.first (B.bytes x.second ++ rest) in
      record {
        weight = record { first = p.weight; second = q.weight };
        gives = rw append_assoc (gives_then A.look (pair_with B.look) p.gives
            (gives_then B.look (λ y. done (record { first = p.weight; second = y })) q.gives (gives_done _ rest)));
        means = both_is p.means q.means;
      };
}

abbrev pub square_code : {X V : Type 0} → Code X V → Code (Square X) (Quad V)
square_code A =
    let f = A.look in
    let b = A.bytes in
    let n = A.width in
    record {
      look = look_square f;
      meaning = λ x. quad (A.meaning x.w00) (A.meaning x.w01) (A.meaning x.w10) (A.meaning x.w11);
      bytes = λ x. b x.w00 ++ (b x.w01 ++ (b x.w10 ++ b x.w11));
      width = n + (n + (n + n));
      wide = λ x.
          length_then (b x.w00) (b x.w01 ++ (b x.w10 ++ b x.w11)) n (n + (n + n)) (A.wide x.w00)
          (length_then (b x.w01) (b x.w10 ++ b x.w11) n (n + n) (A.wide x.w01)
          (length_then (b x.w10) (b x.w11) n n (A.wide x.w10) (A.wide x.w11)));
      back = λ x rest.
          let s = A.back x.w11 rest in
          let r = A.back x.w10 (b x.w11 ++ rest) in
          let q = A.back x.w01 (b x.w10 ++ (b x.w11 ++ rest)) in
          let p = A.back x.w00 (b x.w01 ++ (b x.w10 ++ (b x.w11 ++ rest))) in
          record {
            weight = record { w00 = p.weight; w01 = q.weight; w10 = r.weight; w11 = s.weight };
            gives = simp append_assoc (gives_then f (with_one f) p.gives
                (gives_then f (with_two f p.weight) q.gives
                (gives_then f (with_three f p.weight q.weight) r.gives
                (gives_then f (λ d. done (record { w00 = p.weight; w01 = q.weight; w10 = r.weight; w11 = d })) s.gives (gives_done _ rest)))));
            means = quad_is p.means q.means r.means s.means;
          };
    }
