-- The questions that each addition has to pass, in their order, and what it then adds.
use Rattle.std.specs.Prelude.{◌≡◌, ℕ, Bool, true, false, cond, not, ◌&&◌, List, [], ◌∷◌, ◌++◌, length, is_some, Some, None, Ok, Err, Option, Result, nat_le, nat_lt, slice_index_or, slice_set}
use Rattle.sheets.specs.declared.call.Counts.{Counts}
use Rattle.sheets.specs.declared.call.Right.{Right}
use Rattle.sheets.specs.declared.call.Rule.{Rule}
use Rattle.sheets.specs.declared.call.RuleForm.{RuleForm}
use Rattle.sheets.specs.declared.call.Arrow.{Arrow}
use Rattle.sheets.specs.declared.call.Call.{Call}
use Rattle.sheets.specs.declared.call.Call.TheVariants.{Size, Rule as RuleCall, Arrow as ArrowCall, Final}
use Rattle.sheets.specs.declared.fault.SheetFault.{SheetFault}
use Rattle.sheets.specs.declared.fault.SheetFault.TheVariants.{Sized, Controls, Symbols, States, RightSide, NoControl, NoSymbol, NoRuleRoom, NoState, IntoControl, NotNew, NoArrowRoom}
use Rattle.sheets.specs.Sheet.{Sheet, controls, symbols, states, few_controls, few_symbols, few_states, right_of, rule_controls, rule_symbols, arrow_states, has}

-- a question: on to what follows, or its refusal
abbrev pub asked : {S : Type 0} → Bool → SheetFault → Result S SheetFault → Result S SheetFault
asked b e r = cond b r (Err e)

abbrev pub with_counts : Sheet → Counts → Sheet
with_counts s c = record { counts = Some c; rules = s.rules; arrows = s.arrows; finals = s.finals }

abbrev pub with_rule : Sheet → Rule → Sheet
with_rule s r = record { counts = s.counts; rules = s.rules ++ r ∷ []; arrows = s.arrows; finals = s.finals }

abbrev pub with_arrow : Sheet → Arrow → Sheet
with_arrow s a = record { counts = s.counts; rules = s.rules; arrows = s.arrows ++ a ∷ []; finals = s.finals }

abbrev pub with_final : Sheet → ℕ → Sheet
with_final s q = record { counts = s.counts; rules = s.rules; arrows = s.arrows; finals = slice_set s.finals q true }

abbrev pub size_step : Sheet → Counts → Result Sheet SheetFault
size_step s c =
    asked (not (is_some s.counts)) Sized
    (asked (few_controls c) Controls
    (asked (few_symbols c) Symbols
    (asked (few_states c) States
    (Ok (with_counts s c)))))

abbrev pub arrow_step : Sheet → Arrow → Result Sheet SheetFault
arrow_step s a =
    asked (arrow_states s.counts a) NoState
    (asked (nat_lt a.symbol (symbols s.counts)) NoSymbol
    (asked (nat_le (controls s.counts) a.to) IntoControl
    (asked (not (has s.arrows a)) NotNew
    (asked (nat_lt (length s.arrows) 128) NoArrowRoom
    (Ok (with_arrow s a))))))

abbrev pub final_step : Sheet → ℕ → Result Sheet SheetFault
final_step s q =
    asked (nat_lt q (states s.counts)) NoState
    (asked (not (slice_index_or s.finals q false)) NotNew
    (Ok (with_final s q)))

-- a sheet with its strip of weights
pub record State (W : Type 0) : Type 0 where
  pub sheet : Sheet
  pub strip : List W

abbrev pub at : {W : Type 0} → Sheet → List W → State W
at s t = record { sheet = s; strip = t }

abbrev pub rule_from : RuleForm → Right → Rule
rule_from f right = record { from = f.from; symbol = f.symbol; to = f.to; right = right }

module _ {W : Type 0} where
  abbrev pub shaped_step : State W → RuleForm → W → Option Right → Result (State W) SheetFault
  shaped_step s f w None = Err RightSide
  shaped_step s f w (Some right) =
      asked (rule_controls s.sheet.counts f.from f.to) NoControl
      (asked (rule_symbols s.sheet.counts f.symbol right) NoSymbol
      (asked (nat_lt (length s.sheet.rules) 512 && nat_lt (length s.sheet.rules) (length s.strip)) NoRuleRoom
      (Ok (at (with_rule s.sheet (rule_from f right)) (slice_set s.strip (length s.sheet.rules) w)))))

  -- the rule gets the next number, and its weight goes to the strip's cell of that number
  abbrev pub rule_step : State W → RuleForm → W → Result (State W) SheetFault
  rule_step s f w = shaped_step s f w (right_of f.length f.first f.second)

  abbrev pub onto : List W → Result Sheet SheetFault → Result (State W) SheetFault
  onto t (Ok s) = Ok (at s t)
  onto t (Err e) = Err e

  abbrev pub step : Call W → State W → Result (State W) SheetFault
  step (Size c) s = onto s.strip (size_step s.sheet c)
  step (RuleCall f w) s = rule_step s f w
  step (ArrowCall a) s = onto s.strip (arrow_step s.sheet a)
  step (Final q) s = onto s.strip (final_step s.sheet q)

-- a refused call leaves all as it is
abbrev pub kept : {S : Type 0} → S → Result S SheetFault → S
kept s (Ok t) = t
kept s (Err e) = s

abbrev pub told : {S A : Type 0} → A → Result S SheetFault → Result A SheetFault
told a (Ok t) = Ok a
told a (Err e) = Err e

-- a call that led where its step says, and answered a if it was not refused
pub record Took {S A : Type 0} (to : Result S SheetFault) (a : A) (before after : S) (r : Result A SheetFault) : Type 0 where
  pub state : after ≡ kept before to
  pub answer : r ≡ told a to
