-- What reading the front of a list of bytes gives.
use Rattle.std.specs.Prelude.{ℕ, ◌+◌, cond, List, [], ◌∷◌, length, take, drop, Some, None, Ok, Err, Option, Result, ◌==◌, nat_le}
use Rattle.reading.specs.declared.fault.EntryFault.{EntryFault}
use Rattle.reading.specs.declared.fault.EntryFault.TheVariants.{Cut, Due, NoValue}

-- the answer, how many bytes and entries were passed for it, and what is left
pub record Look (W : Type 0) : Type 0 where
  pub answer : Result W EntryFault
  pub used : ℕ
  pub passed : ℕ
  pub left : List ℕ

-- a fault in the entry that is next: nothing is passed
abbrev pub missed : {W : Type 0} → EntryFault → List ℕ → Look W
missed e l = record { answer = Err e; used = 0; passed = 0; left = l }

-- a value for which nothing more is read
abbrev pub done : {W : Type 0} → W → List ℕ → Look W
done w l = record { answer = Ok w; used = 0; passed = 0; left = l }

abbrev pub onward : {V W : Type 0} → ℕ → ℕ → List ℕ → (V → List ℕ → Look W) → Result V EntryFault → Look W
onward n m l f (Err e) = record { answer = Err e; used = n; passed = m; left = l }
onward n m l f (Ok v) = let k = f v l in record { answer = k.answer; used = n + k.used; passed = m + k.passed; left = k.left }

-- one reading after another
abbrev pub and_then : {V W : Type 0} → Look V → (V → List ℕ → Look W) → Look W
and_then k f = onward k.used k.passed k.left f k.answer

-- an entry of the due kind, with a body of n bytes
abbrev pub due : ℕ → ℕ → List ℕ → Look (List ℕ)
due kind n [] = missed Due []
due kind n (b ∷ l) =
    cond (b == kind)
    (cond (nat_le n (length l)) (record { answer = Ok (take n l); used = n + 1; passed = 1; left = drop n l }) (missed Cut (b ∷ l)))
    (missed Due (b ∷ l))

-- what k read of l, as a value: where it is none, nothing is passed
abbrev pub valued : {V W : Type 0} → List ℕ → Look V → Option W → Look W
valued l k None = missed NoValue l
valued l k (Some w) = record { answer = Ok w; used = k.used; passed = k.passed; left = k.left }

abbrev pub judged : {V W : Type 0} → (V → Option W) → List ℕ → Look V → Result V EntryFault → Look W
judged f l k (Err e) = record { answer = Err e; used = k.used; passed = k.passed; left = k.left }
judged f l k (Ok v) = valued l k (f v)

-- a value made of what was read
abbrev pub made_of : {V W : Type 0} → (V → Option W) → (List ℕ → Look V) → List ℕ → Look W
made_of f look l = judged f l (look l) (look l).answer
