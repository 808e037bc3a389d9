-- Calls in a row, and the calls that make a sheet again.
use Rattle.std.specs.Prelude.{◌≡◌, ℕ, ◌+◌, ◌≤◌, Bool, true, false, List, [], ◌∷◌, ◌++◌, map, length, drop, Some, None, Ok, Err, Option, Result}
use Rattle.sheets.specs.declared.call.Counts.{Counts}
use Rattle.sheets.specs.declared.call.Right.{Right}
use Rattle.sheets.specs.declared.call.Right.TheVariants.{Pop, Swap, Push}
use Rattle.sheets.specs.declared.call.Rule.{Rule}
use Rattle.sheets.specs.declared.call.RuleForm.{RuleForm}
use Rattle.sheets.specs.declared.call.Arrow.{Arrow}
use Rattle.sheets.specs.declared.call.Call.{Call}
use Rattle.sheets.specs.declared.call.Call.TheVariants.{Size, Rule as RuleCall, Arrow as ArrowCall, Final}
use Rattle.sheets.specs.declared.fault.SheetFault.{SheetFault}
use Rattle.sheets.specs.Sheet.{Sheet}
use Rattle.sheets.specs.Questions.{State, step}

abbrev pub bound : {S : Type 0} → (S → Result S SheetFault) → Result S SheetFault → Result S SheetFault
bound f (Ok t) = f t
bound f (Err e) = Err e

-- calls that are all taken, or the first refusal
abbrev pub replay : {W : Type 0} → List (Call W) → State W → Result (State W) SheetFault
replay [] s = Ok s
replay (c ∷ cs) s = bound (replay cs) (step c s)

-- a rule as it was handed in
abbrev pub right_length : Right → ℕ
right_length Pop = 0
right_length (Swap a) = 1
right_length (Push a b) = 2

abbrev pub right_first : Right → ℕ
right_first Pop = 0
right_first (Swap a) = a
right_first (Push a b) = a

abbrev pub right_second : Right → ℕ
right_second Pop = 0
right_second (Swap a) = 0
right_second (Push a b) = b

abbrev pub form_of : Rule → RuleForm
form_of r = record {
  from = r.from;
  symbol = r.symbol;
  to = r.to;
  length = right_length r.right;
  first = right_first r.right;
  second = right_second r.right;
}

-- the numbers of the flags that are set, rising, where the first flag has the number n
abbrev pub marked : ℕ → List Bool → List ℕ
marked n [] = []
marked n (true ∷ fs) = n ∷ marked (n + 1) fs
marked n (false ∷ fs) = marked (n + 1) fs

module _ {W : Type 0} where
  abbrev pub size_calls : Option Counts → List (Call W)
  size_calls None = []
  size_calls (Some c) = Size c ∷ []

  abbrev pub rule_calls : List RuleForm → List W → List (Call W)
  rule_calls [] ws = []
  rule_calls (f ∷ fs) [] = []
  rule_calls (f ∷ fs) (w ∷ ws) = RuleCall f w ∷ rule_calls fs ws

  abbrev pub listed : Option Counts → List RuleForm → List W → List Arrow → List ℕ → List (Call W)
  listed c fs ws ms qs = size_calls c ++ (rule_calls fs ws ++ (map ArrowCall ms ++ map Final qs))

  -- the calls that make the sheet: size if set, the rules with their weights, arrows, finals rising
  abbrev pub calls_of : Sheet → List W → List (Call W)
  calls_of s ws = listed s.counts (map form_of s.rules) ws s.arrows (marked 0 s.finals)

-- each is above those before it, and the first is n at least
abbrev pub Rising : ℕ → List ℕ → Type 0
Rising n [] = Unit {0}
Rising n (q ∷ qs) = (n ≤ q) × Rising (q + 1) qs

-- calls in stored order: a size if any, then rules, then arrows, then finals rising
pub record InOrder {W : Type 0} (cs : List (Call W)) : Type 0 where
  pub size : Option Counts
  pub forms : List RuleForm
  pub weights : List W
  pub arrows : List Arrow
  pub finals : List ℕ
  pub paired : length forms ≡ length weights
  pub rising : Rising 0 finals
  pub is : cs ≡ listed size forms weights arrows finals

-- the strip's cells from the first on with the weights ws in them
abbrev pub laid : {W : Type 0} → List W → List W → List W
laid ws strip = ws ++ drop (length ws) strip
