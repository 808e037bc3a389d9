-- The worked cases, as equations between values of the algebras.
use Rattle.std.specs.Prelude.{◌≡◌, ℕ, ◌+◌, min}
use Rattle.relations.specs.Relations.{relations, pairs}
use Rattle.lengths.specs.Lengths.{lengths, capped}
use Rattle.effects.specs.Facts.{facts}
use Rattle.facts.specs.Stored.{sets, value_of}

-- the shorter of two ways of two steps each: a and then x, or b and then y
abbrev pub shortest_way : ℕ → ℕ → ℕ → ℕ → ℕ
shortest_way a x b y = min (min (a + x) 65535) (min (b + y) 65535)

-- What the operations of each kind come to, and that two of its values differ: one value for all would keep
-- every equation.
pub record WorkedCases : Type 0 where
  pub one_way : relations.extend (pairs 0x02) (pairs 0x0800) ≡ pairs 0x08
  pub no_way : relations.extend (pairs 0x0800) (pairs 0x02) ≡ pairs 0
  pub ways_differ : pairs 0x08 ≡ pairs 0 → ⊥
  pub past_longest : lengths.extend (capped 65534) (capped 1) ≡ capped 65535
  pub lengths_differ : capped 65534 ≡ capped 65535 → ⊥
  pub last_word : facts.extend (value_of (sets 1 2)) (value_of (sets 2 1)) ≡ value_of (sets 2 1)
  pub either : facts.combine (value_of (sets 1 2)) (value_of (sets 2 1)) ≡ value_of (sets 3 0)
  pub facts_differ : value_of (sets 2 1) ≡ value_of (sets 3 0) → ⊥
