-- What the entry of a relation reads as.
use Rattle.std.specs.Prelude.{ℕ, List, Some, Option}
use Rattle.std.specs.Int.Digits.{number_from_digits}
use Rattle.codec.specs.Look.{Look, due, made_of}
use Rattle.relations.specs.declared.weight.Relation.{Relation}

-- every body is a relation
abbrev pub to_relation : List ℕ → Option Relation
to_relation body = Some (record { 0 = number_from_digits 256 body })

abbrev pub look_relation : List ℕ → Look Relation
look_relation = made_of to_relation (due 16 8)
