-- Facts as entries.
use Rattle.std.specs.Prelude.{ℕ, ◌+◌, ◌*◌, cond, ◌&&◌, List, [], ◌∷◌, ◌++◌, Some, None, Option, ◌==◌, slice_index}
use Rattle.std.specs.Int.{bytes_high_first}
use Rattle.codec.specs.Look.{Look, due, made_of}
use Rattle.facts.specs.declared.weight.Facts.{Facts}
use Rattle.effects.specs.Facts.{disjoint}
use Rattle.facts.specs.Stored.{nothing, sets, is_known}

-- the bytes behind the kind: a record that breaks the rule has those of none
abbrev pub body : Facts → List ℕ
body x = cond (is_known x) (0 ∷ (bytes_high_first 2 x.made ++ bytes_high_first 2 x.unmade)) (1 ∷ 0 ∷ 0 ∷ 0 ∷ 0 ∷ [])

-- none has both sets empty, and no other value has a fact in both
abbrev pub facts_of : ℕ → ℕ → ℕ → Option Facts
facts_of flag made unmade =
    cond (flag == 1 && (made == 0 && unmade == 0)) (Some nothing)
    (cond (flag == 0 && disjoint made unmade) (Some (sets made unmade)) None)

abbrev pub to_facts : List ℕ → Option Facts
to_facts b = facts_of (slice_index b 0) (slice_index b 1 * 256 + slice_index b 2) (slice_index b 3 * 256 + slice_index b 4)

abbrev pub look_facts : List ℕ → Look Facts
look_facts = made_of to_facts (due 18 5)
