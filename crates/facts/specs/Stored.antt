-- The stored record, and what combining and extending make of its fields.
use Rattle.std.specs.Prelude.{◌≡◌, ℕ, Bool, true, false, cond, not, ◌&&◌, MatchBool, refl}
use Rattle.facts.specs.declared.weight.Facts.{Facts}
use Rattle.effects.specs.Facts.{Value, disjoint, meant}
use Rattle.effects.specs.Sets.{union, intersection, difference}

abbrev pub value_of : Facts → Value
value_of x = meant x.none x.made x.unmade

-- the record of none
abbrev pub nothing : Facts
nothing = record { none = true; made = 0; unmade = 0 }

-- the record of a known value
abbrev pub sets : ℕ → ℕ → Facts
sets m u = record { none = false; made = m; unmade = u }

-- whether the record has a known value: one that breaks the rule has not
abbrev pub is_known : Facts → Bool
is_known x = not x.none && disjoint x.made x.unmade

-- the record as its value is stored
abbrev pub stored : Facts → Facts
stored x = cond (is_known x) (sets x.made x.unmade) nothing

-- the rule: none stores both sets empty, and else no fact is in both
abbrev pub Proper : Facts → Type 0
Proper x = MatchBool x.none ((x.made ≡ 0) × (x.unmade ≡ 0)) (intersection x.made x.unmade ≡ 0)

-- made is united, and unmade intersected
abbrev pub joined : Facts → Facts → Facts
joined x y = sets (union x.made y.made) (intersection x.unmade y.unmade)

abbrev pub combined : Facts → Facts → Facts
combined x y = cond (is_known x) (cond (is_known y) (joined x y) (stored x)) (stored y)

-- the second's sets, with what the first made and the second did not unmake, and the other way round
abbrev pub followed : Facts → Facts → Facts
followed x y =
    sets (union y.made (difference x.made y.unmade)) (union y.unmade (difference x.unmade y.made))

abbrev pub extended : Facts → Facts → Facts
extended x y = cond (is_known x && is_known y) (followed x y) nothing

-- One makes fact 0 and unmakes fact 1, the other does it the other way round.
pub extended_case : extended (sets 1 2) (sets 2 1) ≡ sets 2 1
extended_case = refl

pub combined_case : combined (sets 1 2) (sets 2 1) ≡ sets 3 0
combined_case = refl
