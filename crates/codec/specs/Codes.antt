-- A kind of weight with entries, as its functions on lists of bytes and their laws.
use Rattle.std.specs.Prelude.{◌≡◌, ℕ, ◌+◌, ◌≤◌, List, ◌++◌, length, drop, Some, None, Option}
use Rattle.std.proofs.Common.{sym, ap, ◌∙◌, arith}
use Rattle.std.proofs.lemmas.List.{drop_at}
use Rattle.codec.specs.Look.{Look}
use Rattle.reading.specs.Places.{WrittenAt, WroteAt}
use Rattle.reading.specs.Splice.{Written, Wrote}
use Rattle.reading.proofs.Puts.{drop_splice, drop_behind}
use Rattle.codec.specs.Coded.{ReadsAs, ReadsBack, ReadsBackAt}

pub record Code (W V : Type 0) : Type 0 where
  pub look : List ℕ → Look W
  pub meaning : W → V
  pub bytes : W → List ℕ
  pub width : ℕ
  pub wide : (x : W) → length (bytes x) ≡ width
  pub back : (x : W) (rest : List ℕ) → ReadsAs look meaning (meaning x) (bytes x ++ rest) rest

abbrev pub code : {W V : Type 0} (look : List ℕ → Look W) (meaning : W → V) (bytes : W → List ℕ) (width : ℕ)
    → ((x : W) → length (bytes x) ≡ width) → ((x : W) (rest : List ℕ) → ReadsAs look meaning (meaning x) (bytes x ++ rest) rest) → Code W V
code l m b n w k = record { look = l; meaning = m; bytes = b; width = n; wide = w; back = k }

-- a written weight reads as its value
module _ {W V : Type 0} (k : Code W V) (x : W) where
  pub written_reads : {before after : List ℕ} {n : ℕ} → Written k.width (k.bytes x) before after n → ReadsAs k.look k.meaning (k.meaning x) after (drop n after)
  written_reads {before} {after} {n} w =
      let behind : drop n after ≡ drop (length (k.bytes x)) before =
      ap (drop n) w.put ∙ drop_at (k.bytes x) (drop (length (k.bytes x)) before) n (k.wide x ∙ sym w.count) in
      rw (behind, w.put) (k.back x (drop (length (k.bytes x)) before))

  pub reads_back : (before after : List ℕ) (r : Option ℕ) → Wrote k.width (k.bytes x) before after r → ReadsBack k.look k.meaning (k.meaning x) after r
  reads_back before after None w = tt
  reads_back before after (Some n) w = written_reads w

-- a written weight reads as its value, wherever it was written
module _ {W V : Type 0} (k : Code W V) (x : W) (at : ℕ) (before after : List ℕ) where
  pub reads_there : (end : ℕ) → WrittenAt at k.width (k.bytes x) before after end → ReadsAs k.look k.meaning (k.meaning x) (drop at after) (drop end after)
  reads_there end w =
      let h : at ≤ length before = omega (arith, w.room) in
      let e : end ≡ at + length (k.bytes x) = omega (arith, w.next, k.wide x) in
      let front : drop at after ≡ k.bytes x ++ drop end before =
      ap (drop at) w.put ∙ drop_splice at (k.bytes x) before h ∙ ap (λ n. k.bytes x ++ drop n before) (sym e) in
      let behind : drop end after ≡ drop end before =
      (λ i. drop (e i) (w.put i)) ∙ drop_behind at (k.bytes x) before h ∙ ap (λ n. drop n before) (sym e) in
      rw (front, behind) (k.back x (drop end before))

  pub reads_back_at : (r : Option ℕ) → WroteAt at k.width (k.bytes x) before after r → ReadsBackAt k.look k.meaning (k.meaning x) at after r
  reads_back_at None w = tt
  reads_back_at (Some end) w = reads_there end w
