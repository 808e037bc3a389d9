-- The kinds of entries that spell calls.
use Rattle.std.specs.Prelude.{◌≡◌, ◌≢◌, ℕ, Result, MatchResult}
use Rattle.reading.specs.declared.fault.EntryFault.{EntryFault}
use Rattle.reading.specs.declared.fault.EntryFault.TheVariants.{Unknown}
use Rattle.calls.specs.declared.kind.Kind.{Kind}
use Rattle.calls.specs.declared.kind.Kind.TheVariants.{Size, Rule, Arrow, Final}

-- the byte that stands for a kind
abbrev pub code_of : Kind → ℕ
code_of Size = 1
code_of Rule = 2
code_of Arrow = 3
code_of Final = 4

-- how many bytes an entry of a kind has, its kind among them
abbrev pub width_of : Kind → ℕ
width_of Size = 5
width_of Rule = 7
width_of Arrow = 4
width_of Final = 2

-- the result is the kind of this byte, or a fault if no kind has it
abbrev pub Decodes : ℕ → Result Kind EntryFault → Type 0
Decodes byte r = MatchResult r (λ kind. code_of kind ≡ byte) (λ fault. (fault ≡ Unknown) × ((kind : Kind) → code_of kind ≢ byte))
