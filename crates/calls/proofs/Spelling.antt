-- The bytes of calls in a row, and the calls made in a row.
use Rattle.std.proofs.Common.{◌≡◌, ℕ, ◌<◌, ◌≤◌, List, [], ◌∷◌, ◌++◌, length, Ok, Err, Result, sym, refl, ap, ◌∙◌, append_assoc, append-nil, arith, length-append}
use Rattle.sheets.specs.declared.fault.SheetFault.{SheetFault}
use Rattle.sheets.specs.declared.call.Call.{Call}
use Rattle.sheets.specs.declared.call.Call.TheVariants.{Size, Rule as RuleCall, Arrow as ArrowCall, Final}
use Rattle.sheets.specs.Questions.{State, step}
use Rattle.sheets.specs.Calls.{bound, replay}
use Rattle.calls.specs.Spell.{spell, spells}

module _ {W : Type 0} (bytes : W → List ℕ) where
  pub spell_some : (c : Call W) → 0 < length (spell bytes c)
  spell_some (Size c) = omega arith
  spell_some (RuleCall f w) = omega arith
  spell_some (ArrowCall a) = omega arith
  spell_some (Final q) = omega arith

  pub spells_join : (xs ys : List (Call W)) → spells bytes (xs ++ ys) ≡ spells bytes xs ++ spells bytes ys
  spells_join [] ys = refl
  spells_join (x ∷ xs) ys = ap (λ l. spell bytes x ++ l) (spells_join xs ys) ∙ sym (append_assoc (spell bytes x) (spells bytes xs) (spells bytes ys))

  pub spells_push : (cs : List (Call W)) (c : Call W) → spells bytes (cs ++ c ∷ []) ≡ spells bytes cs ++ spell bytes c
  spells_push cs c = spells_join cs (c ∷ []) ∙ ap (λ l. spells bytes cs ++ l) (append-nil (spell bytes c))

  -- there are no more calls than bytes
  pub spells_long : (cs : List (Call W)) → length cs ≤ length (spells bytes cs)
  spells_long [] = omega arith
  spells_long (c ∷ cs) = omega (arith, spells_long cs, spell_some c, length-append (spell bytes c) (spells bytes cs))

pub same_ok : {S : Type 0} {s t : S} → ◌≡◌ {A = Result S SheetFault} (Ok s) (Ok t) → s ≡ t
same_ok q = cc

pub never_ok : {S : Type 0} {e : SheetFault} {t : S} → Err e ≡ Ok t → ⊥
never_ok q = let z : ◌≡◌ {A = ℕ} 0 1 = cc in omega arith

module _ {W : Type 0} where
  bound_join : (cs : List (Call W)) (c : Call W) (r : Result (State W) SheetFault) → ((s : State W) → replay (cs ++ c ∷ []) s ≡ bound (step c) (replay cs s)) → bound (replay (cs ++ c ∷ [])) r ≡ bound (step c) (bound (replay cs) r)
  bound_join cs c (Ok s) h = h s
  bound_join cs c (Err e) h = refl

  bound_none : (r : Result (State W) SheetFault) → bound (replay []) r ≡ r
  bound_none (Ok s) = refl
  bound_none (Err e) = refl

  pub replay_push : (cs : List (Call W)) (c : Call W) (s : State W) → replay (cs ++ c ∷ []) s ≡ bound (step c) (replay cs s)
  replay_push [] c s = bound_none (step c s)
  replay_push (d ∷ cs) c s = bound_join cs c (step d s) (replay_push cs c)
