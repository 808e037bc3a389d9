-- What a sheet holds, and what may stand in it.
use Rattle.std.specs.Prelude.{◌≡◌, ℕ, ◌≤◌, Bool, true, false, cond, not, ◌&&◌, ltb, List, [], ◌∷◌, ◌++◌, length, drop, replicate, Some, None, Option, ◌==◌, nat_le, nat_lt}
use Rattle.std.specs.List.{list_all, list_any}
use Rattle.sheets.specs.declared.call.Counts.{Counts}
use Rattle.sheets.specs.declared.call.Right.{Right}
use Rattle.sheets.specs.declared.call.Right.TheVariants.{Pop, Swap, Push}
use Rattle.sheets.specs.declared.call.Rule.{Rule}
use Rattle.sheets.specs.declared.call.Arrow.{Arrow}

-- finals has a flag for each state number that there can be
pub record Sheet : Type 0 where
  pub counts : Option Counts
  pub rules : List Rule
  pub arrows : List Arrow
  pub finals : List Bool

abbrev pub blank : Sheet
blank = record { counts = None; rules = []; arrows = []; finals = replicate 32 false }

-- counts that are not set are 0
abbrev pub controls : Option Counts → ℕ
controls None = 0
controls (Some c) = c.controls

abbrev pub symbols : Option Counts → ℕ
symbols None = 0
symbols (Some c) = c.symbols

abbrev pub states : Option Counts → ℕ
states None = 0
states (Some c) = c.states

-- the counts are within their limits
abbrev pub few_controls : Counts → Bool
few_controls c = nat_le 1 c.controls && nat_le c.controls 8

abbrev pub few_symbols : Counts → Bool
few_symbols c = nat_le 1 c.symbols && nat_le c.symbols 256

abbrev pub few_states : Counts → Bool
few_states c = nat_le c.controls c.states && nat_le c.states 32

abbrev pub counts_fit : Option Counts → Bool
counts_fit None = true
counts_fit (Some c) = few_controls c && (few_symbols c && few_states c)

-- a right side from its length and two symbols, of which the unused are zero
abbrev pub right_of : ℕ → ℕ → ℕ → Option Right
right_of n a b =
    cond (n == 0) (cond (a == 0 && b == 0) (Some Pop) None)
    (cond (n == 1) (cond (b == 0) (Some (Swap a)) None)
    (cond (n == 2) (Some (Push a b)) None))

-- the symbols that a right side puts on the stack, top first
abbrev pub symbols_of : Right → List ℕ
symbols_of Pop = []
symbols_of (Swap a) = a ∷ []
symbols_of (Push a b) = a ∷ b ∷ []

-- a rule names controls and symbols that there are
abbrev pub rule_controls : Option Counts → ℕ → ℕ → Bool
rule_controls c p q = nat_lt p (controls c) && nat_lt q (controls c)

abbrev pub rule_symbols : Option Counts → ℕ → Right → Bool
rule_symbols c g r = nat_lt g (symbols c) && list_all (λ a. ltb a (symbols c)) (symbols_of r)

abbrev pub rule_fits : Option Counts → Rule → Bool
rule_fits c r = rule_controls c r.from r.to && rule_symbols c r.symbol r.right

-- an arrow names states and a symbol that there are, and leads to no control
abbrev pub arrow_states : Option Counts → Arrow → Bool
arrow_states c a = nat_lt a.from (states c) && nat_lt a.to (states c)

abbrev pub arrow_fits : Option Counts → Arrow → Bool
arrow_fits c a = arrow_states c a && (nat_lt a.symbol (symbols c) && nat_le (controls c) a.to)

abbrev pub same_arrow : Arrow → Arrow → Bool
same_arrow a b = a.from == b.from && (a.symbol == b.symbol && a.to == b.to)

abbrev pub has : List Arrow → Arrow → Bool
has xs a = list_any (λ x. same_arrow x a) xs

-- each arrow is another than those before it, which are given
abbrev pub new_after : List Arrow → List Arrow → Bool
new_after before [] = true
new_after before (a ∷ more) = not (has before a) && new_after (before ++ a ∷ []) more

-- a sheet whose parts have passed their questions
pub record Fits (s : Sheet) : Type 0 where
  pub limits : counts_fit s.counts ≡ true
  pub rules_fit : list_all (rule_fits s.counts) s.rules ≡ true
  pub rules_few : length s.rules ≤ 512
  pub arrows_fit : list_all (arrow_fits s.counts) s.arrows ≡ true
  pub arrows_new : new_after [] s.arrows ≡ true
  pub arrows_few : length s.arrows ≤ 128
  pub finals_all : length s.finals ≡ 32
  pub finals_fit : list_all not (drop (states s.counts) s.finals) ≡ true
