-- What the entry of a length reads as.
use Rattle.std.specs.Prelude.{ℕ, List, Some, Option}
use Rattle.std.specs.Int.Digits.{number_from_digits}
use Rattle.codec.specs.Look.{Look, due, made_of}
use Rattle.lengths.specs.declared.weight.Length.{Length}

-- every body is a length
abbrev pub to_length : List ℕ → Option Length
to_length body = Some (record { 0 = number_from_digits 256 body })

abbrev pub look_length : List ℕ → Look Length
look_length = made_of to_length (due 17 2)
