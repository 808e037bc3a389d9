-- What is read where no entry of the kind is whole.
use Rattle.std.proofs.Common.{◌≡◌, ℕ, ◌+◌, ◌<◌, true, false, leb, eqb, List, [], ◌∷◌, ◌++◌, length, get_or, None, Option, Err, refl, ap, add-zero, arith, length-append}
use Rattle.std.proofs.lemmas.Bool.{lt-leb, le-leb, eq-eqb, ne_eqb}
use Rattle.std.proofs.lemmas.List.{take_at}
use Rattle.reading.specs.declared.fault.EntryFault.{EntryFault}
use Rattle.reading.specs.declared.fault.EntryFault.TheVariants.{Cut, Due, NoValue}
use Rattle.reading.specs.Standing.{Standing}
use Rattle.codec.specs.Look.{Look, missed, due, judged, made_of}
use Rattle.codec.specs.Coded.{Read}

module _ (k n : ℕ) where
  -- an entry of the kind whose body is cut short
  pub due_cut : (l : List ℕ) → 0 < length l → length l < n + 1 → get_or l 0 0 ≡ k → due k n l ≡ missed Cut l
  due_cut [] some h e = absurd (omega arith)
  due_cut (b ∷ l) some h e =
      let short : leb n (length l) ≡ false = lt-leb n (length l) (omega arith) in
      let same : eqb b k ≡ true = eq-eqb b k e in
      rw (same, short)

  -- no entry of the kind
  pub due_other : (l : List ℕ) → (0 < length l → get_or l 0 0 ≡ k → ⊥) → due k n l ≡ missed Due l
  due_other [] h = refl
  due_other (b ∷ l) h =
      let other : eqb b k ≡ false = ne_eqb b k (h (omega arith)) in
      rw other

-- a reader that stays before a fault
pub read_missed : {W : Type 0} (look : List ℕ → Look W) (before : Standing) (e : EntryFault) → look before.left ≡ missed e before.left → Read look before before (Err e)
read_missed look before e q = rw q (record { says = refl; stands = simp add-zero; within = omega arith; gone = refl })

module _ {W : Type 0} (f : List ℕ → Option W) (k n : ℕ) (before : Standing) where
  -- the body is cut short
  pub leaf_cut : 0 < length before.left → length before.left < n + 1 → get_or before.left 0 0 ≡ k → Read (made_of f (due k n)) before before (Err Cut)
  leaf_cut some h e = read_missed (made_of f (due k n)) before Cut (ap (λ x. judged f before.left x x.answer) (due_cut k n before.left some h e))

  -- no entry of the kind is there
  pub leaf_due : (0 < length before.left → get_or before.left 0 0 ≡ k → ⊥) → Read (made_of f (due k n)) before before (Err Due)
  leaf_due h = read_missed (made_of f (due k n)) before Due (ap (λ x. judged f before.left x x.answer) (due_other k n before.left h))

  -- the body is no value of the kind
  pub leaf_refused : (body rest : List ℕ) → before.left ≡ k ∷ (body ++ rest) → length body ≡ n → f body ≡ None → Read (made_of f (due k n)) before before (Err NoValue)
  leaf_refused body rest e h s =
      let room : leb n (length (body ++ rest)) ≡ true = le-leb _ _ (omega (arith, length-append body rest)) in
      let same : eqb k k ≡ true = eq-eqb k k refl in
      read_missed (made_of f (due k n)) before NoValue (rw (e, same, room, take_at body rest n h, s))
