-- Calls as entries: how they are written, and what the front of a list of bytes reads as.
use Rattle.std.specs.Prelude.{ℕ, ◌+◌, ◌*◌, cond, List, [], ◌∷◌, ◌++◌, Some, ◌==◌, slice_index}
use Rattle.std.specs.Int.{bytes_high_first}
use Rattle.reading.specs.declared.fault.EntryFault.TheVariants.{Unknown}
use Rattle.codec.specs.Look.{Look, due, missed, done, and_then, made_of}
use Rattle.sheets.specs.Sheet.{Sheet}
use Rattle.sheets.specs.Calls.{calls_of}
use Rattle.sheets.specs.declared.call.Counts.{Counts}
use Rattle.sheets.specs.declared.call.RuleForm.{RuleForm}
use Rattle.sheets.specs.declared.call.Arrow.{Arrow}
use Rattle.sheets.specs.declared.call.Call.{Call}
use Rattle.sheets.specs.declared.call.Call.TheVariants.{Size, Rule as RuleCall, Arrow as ArrowCall, Final}

-- the bytes of a call's entries, where `bytes` writes a weight's
abbrev pub spell : {W : Type 0} → (W → List ℕ) → Call W → List ℕ
spell bytes (Size c) = 1 ∷ c.controls ∷ (bytes_high_first 2 c.symbols ++ c.states ∷ [])
spell bytes (RuleCall f w) = 2 ∷ f.from ∷ f.symbol ∷ f.to ∷ f.length ∷ f.first ∷ f.second ∷ bytes w
spell bytes (ArrowCall a) = 3 ∷ a.from ∷ a.symbol ∷ a.to ∷ []
spell bytes (Final q) = 4 ∷ q ∷ []

abbrev pub spells : {W : Type 0} → (W → List ℕ) → List (Call W) → List ℕ
spells bytes [] = []
spells bytes (c ∷ cs) = spell bytes c ++ spells bytes cs

-- what the body of an entry says
abbrev pub to_counts : List ℕ → Counts
to_counts b = record { controls = slice_index b 0; symbols = slice_index b 1 * 256 + slice_index b 2; states = slice_index b 3 }

abbrev pub to_form : List ℕ → RuleForm
to_form b = record { from = slice_index b 0; symbol = slice_index b 1; to = slice_index b 2; length = slice_index b 3; first = slice_index b 4; second = slice_index b 5 }

abbrev pub to_arrow : List ℕ → Arrow
to_arrow b = record { from = slice_index b 0; symbol = slice_index b 1; to = slice_index b 2 }

-- an entry of a kind, with a body of n bytes
abbrev pub look_entry : {V : Type 0} → (List ℕ → V) → ℕ → ℕ → List ℕ → Look V
look_entry f kind n = made_of (λ b. Some (f b)) (due kind n)

module _ {W : Type 0} where
  abbrev pub to_size : List ℕ → Call W
  to_size b = Size (to_counts b)

  abbrev pub to_arrow_call : List ℕ → Call W
  to_arrow_call b = ArrowCall (to_arrow b)

  abbrev pub to_final : List ℕ → Call W
  to_final b = Final (slice_index b 0)

  -- the weight of a rule
  abbrev pub look_weight : (List ℕ → Look W) → RuleForm → List ℕ → Look (Call W)
  look_weight look f l = and_then (look l) (λ w. done (RuleCall f w))

  abbrev pub look_rule : (List ℕ → Look W) → List ℕ → Look (Call W)
  look_rule look l = and_then (look_entry to_form 2 6 l) (look_weight look)

  abbrev pub look_kind : (List ℕ → Look W) → ℕ → List ℕ → Look (Call W)
  look_kind look kind l =
      cond (kind == 1) (look_entry to_size 1 4 l)
      (cond (kind == 2) (look_rule look l)
      (cond (kind == 3) (look_entry to_arrow_call 3 3 l)
      (cond (kind == 4) (look_entry to_final 4 1 l)
      (missed Unknown l))))

  -- the call that is next, by the kind of its entry
  abbrev pub look_call : (List ℕ → Look W) → List ℕ → Look (Call W)
  look_call look l = look_kind look (slice_index l 0) l

-- the bytes of a sheet, whose rules have the weights ws
abbrev pub stored : {W : Type 0} → (W → List ℕ) → Sheet → List W → List ℕ
stored bytes s ws = spells bytes (calls_of s ws)
