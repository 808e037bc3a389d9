-- What fits goes on to fit when something is added.
use Rattle.std.proofs.Common.{◌≡◌, ℕ, zero, suc, Bool, true, not, ◌&&◌, List, [], ◌∷◌, ◌++◌, drop, Some, None, refl, arith}
use Rattle.std.proofs.lemmas.Grind.{common_steps}
use Rattle.std.specs.List.{list_all}
use Rattle.sheets.specs.declared.call.Counts.{Counts}
use Rattle.sheets.specs.declared.call.Rule.{Rule}
use Rattle.sheets.specs.declared.call.Arrow.{Arrow}
use Rattle.sheets.specs.Sheet.{Sheet, Fits, counts_fit, rule_fits, arrow_fits, has, new_after}
use Rattle.sheets.specs.Questions.{with_counts}

pub list_all-drop : {A : Type 0} (f : A → Bool) (n : ℕ) (xs : List A) → list_all f xs ≡ true → list_all f (drop n xs) ≡ true
list_all-drop f zero xs e = e
list_all-drop f (suc n) [] e = refl
list_all-drop f (suc n) (x ∷ xs) e = grind (arith, common_steps, list_all-drop f n xs)

-- an arrow is new behind others if it is none of them
pub new_after-push : (before xs : List Arrow) (a : Arrow) → new_after before (xs ++ a ∷ []) ≡ (new_after before xs && not (has (before ++ xs) a))
new_after-push before [] a = grind (arith, common_steps)
new_after-push before (x ∷ xs) a = grind (arith, common_steps, new_after-push (before ++ x ∷ []) xs a)

-- where the counts are not set, nothing fits
no_rules : (rs : List Rule) → list_all (rule_fits None) rs ≡ true → rs ≡ []
no_rules [] h = refl
no_rules (r ∷ rs) h = grind (arith, common_steps)

no_arrows : (xs : List Arrow) → list_all (arrow_fits None) xs ≡ true → xs ≡ []
no_arrows [] h = refl
no_arrows (x ∷ xs) h = grind (arith, common_steps)

-- so all goes on to fit when they are set
pub fits_with_counts : (s : Sheet) (c : Counts) → Fits s → s.counts ≡ None → counts_fit (Some c) ≡ true → Fits (with_counts s c)
fits_with_counts s c f e h = grind (arith, common_steps, no_rules, no_arrows, list_all-drop not)
