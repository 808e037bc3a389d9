use Rattle.std.proofs.Common.{◌≡◌, ℕ, zero, suc, ◌+◌, ◌-◌, ◌<◌, ◌≤◌, Bool, true, false, List, [], ◌∷◌, length, get_or, drop, arith, ap, ◌∙◌, sym, true≢false, length-drop}
use Rattle.std.proofs.lemmas.Grind.{common_steps}
use Rattle.std.proofs.lemmas.List.{drop_more, drop_all, take_all}
use Rattle.sheets.specs.Calls.{marked}
use Rattle.storing.proofs.calls_of.FinalsIterator.next.Goals as goal

-- none of the first n flags is set
abbrev Unset : List Bool → ℕ → Type 0
Unset fs n = (k : ℕ) → k < n → get_or fs k false ≡ false

marked_past : (n : ℕ) (fs : List Bool) (i : ℕ) → i ≤ length fs → Unset fs i → marked n fs ≡ marked (n + i) (drop i fs)
marked_past n fs zero h u = ap (λ m. marked m fs) (omega arith)
marked_past n [] (suc i) h u = absurd (omega arith)
marked_past n (true ∷ fs) (suc i) h u = absurd (true≢false (u 0 (omega arith)))
marked_past n (false ∷ fs) (suc i) h u =
    marked_past (n + 1) fs i (omega arith) (λ k l. u (suc k) (omega arith)) ∙ ap (λ m. marked m (drop i fs)) (omega arith)

marked_none : (n : ℕ) (fs : List Bool) → Unset fs (length fs) → marked n fs ≡ []
marked_none n fs u = marked_past n fs (length fs) (omega arith) u ∙ ap (marked (n + length fs)) (drop_all (length fs) fs (omega arith))

marked_first : (n : ℕ) (fs : List Bool) (i : ℕ) → i < length fs → get_or fs i false ≡ true → Unset fs i → marked n fs ≡ (n + i) ∷ marked (n + i + 1) (drop (i + 1) fs)
marked_first n fs i h s u =
    marked_past n fs i (omega arith) u ∙ ap (marked (n + i)) (drop_more fs i false h ∙ ap (λ b. b ∷ drop (i + 1) fs) s)

pub returns-in_err-ahead-clause-steps : goal.returns-in_err-ahead-clause-steps
returns-in_err-ahead-clause-steps c = grind (arith, common_steps, marked_none)

pub returns : goal.returns
returns c =
    let n = c.args.self.now.state in
    let fs = c.args.self.now.flags.now in
    let i = c.in_ok-ahead.ahead in
    let behind = drop (i + 1) fs in
    let whole = take_all (length fs - (i + 1)) behind (omega (arith, length-drop (i + 1) fs)) in
    let e = marked_first n fs i (grind (arith, common_steps)) (grind (arith, common_steps)) (λ k h. grind (arith, common_steps)) in
    record { steps = e ∙ ap (λ l. (n + i) ∷ marked (n + i + 1) l) (sym whole); goes = grind (arith, common_steps) }
