-- What the program finds in an input.
use Rattle.std.specs.Prelude.{ℕ, if◌then◌else◌, List, length, replicate, Ok, Err, vec_items, Result, nat_le}
use Rattle.codec.specs.Look.{Look}
use Rattle.sheets.specs.Sheet.{blank}
use Rattle.sheets.specs.Questions.{State, at}
use Rattle.faults.specs.declared.LoadFault.{LoadFault}
use Rattle.loading.specs.Load.{loading}
use Rattle.program.specs.declared.loaded.Loaded.{Loaded}
use Rattle.program.specs.declared.refusal.Refusal.{Refusal}
use Rattle.program.specs.declared.refusal.Refusal.TheVariants.{TooLong, Load}

-- the input leads to a sheet with a strip, or it is too long, or its load is refused
abbrev pub Outcome : Type 0 → Type 0
Outcome W = Result (State W) Refusal

abbrev pub found : {W : Type 0} → State W → Result ℕ LoadFault → Outcome W
found s (Ok used) = Ok s
found s (Err f) = Err (Load f)

-- what a load of the input leads to
abbrev pub load_outcome : {W : Type 0} → (List ℕ → Look W) → State W → List ℕ → Outcome W
load_outcome look s input =
    let l = loading look input s in
    found l.state l.answer

-- at most 16,384 bytes are loaded into a new draft, over a strip of 512 cells
abbrev pub outcome : {W : Type 0} → (List ℕ → Look W) → W → List ℕ → Outcome W
outcome look cell input = if nat_le (length input) 16384 then load_outcome look (at blank (replicate 512 cell)) input else Err TooLong

-- the outcome that an answer tells
abbrev pub outcome_of : {W : Type 0} → Result (Loaded W) Refusal → Outcome W
outcome_of (Ok x) = Ok (at x.draft (vec_items x.strip))
outcome_of (Err refusal) = Err refusal
