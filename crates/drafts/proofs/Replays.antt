-- A sheet that fits is made again by its own calls, and calls in stored order are the calls of what they make.
use Rattle.std.proofs.Common.{◌≡◌, ℕ, zero, suc, ◌+◌, ◌-◌, ◌<◌, ◌≤◌, Bool, true, false, not, List, [], ◌∷◌, ◌++◌, map, length, get_or, take, drop, set, replicate, Some, None, Ok, Err, Option, Result, refl, ap, ◌∙◌, arith, length-set}
use Rattle.std.proofs.lemmas.Grind.{common_steps}
use Rattle.std.proofs.lemmas.List.{get_or_at, set_at}
use Rattle.std.specs.List.{list_all}
use Rattle.sheets.specs.declared.call.Counts.{Counts}
use Rattle.sheets.specs.declared.call.Right.{Right}
use Rattle.sheets.specs.declared.call.Right.TheVariants.{Pop, Swap, Push}
use Rattle.sheets.specs.declared.call.Rule.{Rule}
use Rattle.sheets.specs.declared.call.RuleForm.{RuleForm}
use Rattle.sheets.specs.declared.call.Arrow.{Arrow}
use Rattle.sheets.specs.declared.call.Call.{Call}
use Rattle.sheets.specs.declared.call.Call.TheVariants.{Rule as RuleCall, Arrow as ArrowCall, Final}
use Rattle.sheets.specs.declared.fault.SheetFault.{SheetFault}
use Rattle.sheets.specs.Sheet.{Sheet, Fits, blank, states, counts_fit, right_of, rule_fits, arrow_fits, new_after}
use Rattle.sheets.specs.Questions.{State, at, step, shaped_step, rule_from}
use Rattle.sheets.specs.Calls.{bound, replay, right_length, right_first, right_second, form_of, marked, size_calls, rule_calls, listed, calls_of, Rising, InOrder, laid}
use Rattle.drafts.proofs.Fits.{list_all-drop}

-- the sheet with these parts
abbrev sheet_with : Option Counts → List Rule → List Arrow → List Bool → Sheet
sheet_with c rs ms fs = record { counts = c; rules = rs; arrows = ms; finals = fs }

-- n cells on, the weights ws
abbrev over : {W : Type 0} → ℕ → List W → List W → List W
over n ws l = take n l ++ (ws ++ drop (n + length ws) l)

over_more : {W : Type 0} (n : ℕ) (w : W) (ws l : List W) → n < length l → over (n + 1) ws (set l n w) ≡ over n (w ∷ ws) l
over_more n w ws l h = grind (arith, common_steps)

right_back : (r : Right) → right_of (right_length r) (right_first r) (right_second r) ≡ Some r
right_back Pop = refl
right_back (Swap a) = refl
right_back (Push a b) = refl

-- a form that spells a right side is the form of the rule with it
form_back : (f : RuleForm) (r : Right) → right_of f.length f.first f.second ≡ Some r → form_of (rule_from f r) ≡ f
form_back f Pop e = grind (arith, common_steps)
form_back f (Swap a) e = grind (arith, common_steps)
form_back f (Push a b) e = grind (arith, common_steps)

-- a flag that is set has a number below those from which on none is
flag_below : (n q : ℕ) (fs : List Bool) → list_all not (drop n fs) ≡ true → get_or fs q false ≡ true → q < n
flag_below n q [] h e = grind (arith, common_steps)
flag_below zero zero (b ∷ fs) h e = grind (arith, common_steps)
flag_below zero (suc q) (b ∷ fs) h e = grind (arith, common_steps, flag_below zero q fs)
flag_below (suc n) zero (b ∷ fs) h e = omega arith
flag_below (suc n) (suc q) (b ∷ fs) h e = omega (arith, flag_below n q fs h e)

-- marking a flag past all that are set
marked_none : (k : ℕ) (fs : List Bool) → list_all not fs ≡ true → marked k fs ≡ []
marked_none k [] h = refl
marked_none k (true ∷ fs) h = grind (arith, common_steps)
marked_none k (false ∷ fs) h = marked_none (k + 1) fs h

marked_set : (k n q : ℕ) (fs : List Bool) → list_all not (drop n fs) ≡ true → n ≤ q → q < length fs → marked k (set fs q true) ≡ marked k fs ++ (k + q) ∷ []
marked_set k n q [] h le lt = absurd (omega arith)
marked_set k (suc n) zero (b ∷ fs) h le lt = absurd (omega arith)
marked_set k zero q (true ∷ fs) h le lt = grind (arith, common_steps)
marked_set k zero zero (false ∷ fs) h le lt = grind (arith, common_steps, marked_none (k + 1) fs)
marked_set k zero (suc q) (false ∷ fs) h le lt = grind (arith, common_steps, marked_set (k + 1) zero q fs)
marked_set k (suc n) (suc q) (true ∷ fs) h le lt = grind (arith, common_steps, marked_set (k + 1) n q fs)
marked_set k (suc n) (suc q) (false ∷ fs) h le lt = grind (arith, common_steps, marked_set (k + 1) n q fs)

pub bound_ok : {S : Type 0} (f : S → Result S SheetFault) (r : Result S SheetFault) (u : S) → bound f r ≡ Ok u → (t : S) × (r ≡ Ok t) × (f t ≡ Ok u)
bound_ok f (Ok t) u q = (t, refl, q)
bound_ok f (Err e) u q = absurd (cc)

module _ {W : Type 0} where
  -- calls that add what fits are taken
  sized_taken : (c : Option Counts) (t : List W) (rest : List (Call W)) → counts_fit c ≡ true
      → replay (size_calls c ++ rest) (at blank t) ≡ replay rest (at (sheet_with c [] [] (replicate 32 false)) t)
  sized_taken None t rest h = refl
  sized_taken (Some c) t rest h = grind (arith, common_steps)

  rules_taken : (c : Option Counts) (fs : List Bool) (done rs : List Rule) (ws t : List W) (rest : List (Call W))
      → list_all (rule_fits c) rs ≡ true → length done + length rs ≤ 512 → length rs ≤ length ws → length done + length rs ≤ length t
      → replay (rule_calls (map form_of rs) ws ++ rest) (at (sheet_with c done [] fs) t)
      ≡ replay rest (at (sheet_with c (done ++ rs) [] fs) (over (length done) (take (length rs) ws) t))
  rules_taken c fs done [] ws t rest h few enough room = grind (arith, common_steps)
  rules_taken c fs done (r ∷ rs) [] t rest h few enough room = absurd (omega arith)
  rules_taken c fs done (r ∷ rs) (w ∷ ws) t rest h few enough room =
      grind (arith, common_steps, right_back r.right, rules_taken c fs (done ++ r ∷ []) rs ws (set t (length done) w) rest, over_more (length done) w (take (length rs) ws) t)

  arrows_taken : (c : Option Counts) (rs : List Rule) (fs : List Bool) (t : List W) (done ms : List Arrow) (rest : List (Call W))
      → list_all (arrow_fits c) ms ≡ true → new_after done ms ≡ true → length done + length ms ≤ 128
      → replay (map ArrowCall ms ++ rest) (at (sheet_with c rs done fs) t) ≡ replay rest (at (sheet_with c rs (done ++ ms) fs) t)
  arrows_taken c rs fs t done [] rest h new few = grind (arith, common_steps)
  arrows_taken c rs fs t done (a ∷ ms) rest h new few = grind (arith, common_steps, arrows_taken c rs fs t (done ++ a ∷ []) ms rest)

  finals_taken : (c : Option Counts) (rs : List Rule) (ms : List Arrow) (t : List W) (n : ℕ) (before fs : List Bool) → length before ≡ n → list_all not (drop (states c) (before ++ fs)) ≡ true
      → replay (map Final (marked n fs)) (at (sheet_with c rs ms (before ++ replicate (length fs) false)) t) ≡ Ok (at (sheet_with c rs ms (before ++ fs)) t)
  finals_taken c rs ms t n before [] e h = refl
  finals_taken c rs ms t n before (true ∷ fs) e h =
      let rest = replicate (length fs) false in
      let below : n < states c = flag_below (states c) n (before ++ true ∷ fs) h (get_or_at before true fs false n e) in
      grind (arith, common_steps, get_or_at before false rest false n e, set_at before false rest true n e, finals_taken c rs ms t (n + 1) (before ++ true ∷ []) fs)
  finals_taken c rs ms t n before (false ∷ fs) e h = grind (arith, common_steps, finals_taken c rs ms t (n + 1) (before ++ false ∷ []) fs)

  -- the calls of a sheet that fits make it again, on any strip that has a cell for each rule
  pub replays : (s : Sheet) (ws t : List W) → Fits s → length s.rules ≤ length ws → length s.rules ≤ length t
      → replay (calls_of s ws) (at blank t) ≡ Ok (at s (laid (take (length s.rules) ws) t))
  replays s ws t f enough room =
      let none = replicate 32 false in
      let strip = over 0 (take (length s.rules) ws) t in
      let finals : List (Call W) = map Final (marked 0 s.finals) in
      let arrows : List (Call W) = map ArrowCall s.arrows ++ finals in
      sized_taken s.counts t (rule_calls (map form_of s.rules) ws ++ arrows) f.limits
      ∙ rules_taken s.counts none [] s.rules ws t arrows f.rules_fit (omega arith) enough (omega arith)
      ∙ arrows_taken s.counts s.rules none strip [] s.arrows finals f.arrows_fit f.arrows_new (omega arith)
      ∙ (rw f.finals_all at (finals_taken s.counts s.rules s.arrows strip 0 [] s.finals refl f.finals_fit))
      ∙ grind (arith, common_steps)

  -- where calls that were taken led
  rule_led : (s u : State W) (f : RuleForm) (w : W) (o : Option Right) → right_of f.length f.first f.second ≡ o → shaped_step s f w o ≡ Ok u
      → (r : Rule) × (form_of r ≡ f) × (length s.sheet.rules < length s.strip)
      × (u ≡ at (sheet_with s.sheet.counts (s.sheet.rules ++ r ∷ []) s.sheet.arrows s.sheet.finals) (set s.strip (length s.sheet.rules) w))
  rule_led s u f w None e q = absurd (cc)
  rule_led s u f w (Some r) e q = (rule_from f r, form_back f r e, grind (arith, common_steps), grind (arith, common_steps))

  rules_led : (c : Option Counts) (fs : List Bool) (done : List Rule) (forms : List RuleForm) (ws t : List W) (rest : List (Call W)) (u : State W)
      → length forms ≡ length ws → replay (rule_calls forms ws ++ rest) (at (sheet_with c done [] fs) t) ≡ Ok u
      → (rs : List Rule) × (map form_of rs ≡ forms) × (replay rest (at (sheet_with c (done ++ rs) [] fs) (over (length done) ws t)) ≡ Ok u)
  rules_led c fs done [] [] t rest u l e = ([], refl, grind (arith, common_steps))
  rules_led c fs done [] (w ∷ ws) t rest u l e = absurd (omega arith)
  rules_led c fs done (f ∷ forms) [] t rest u l e = absurd (omega arith)
  rules_led c fs done (f ∷ forms) (w ∷ ws) t rest u l e =
      let s = at (sheet_with c done [] fs) t in
      let b = bound_ok (replay (rule_calls forms ws ++ rest)) (step (RuleCall f w) s) u e in
      let r = rule_led s b.0 f w (right_of f.length f.first f.second) refl b.1 in
      let i = rules_led c fs (done ++ r.0 ∷ []) forms ws (set t (length done) w) rest u (omega arith) (rw r.3 at b.2) in
      (r.0 ∷ i.0, cc, grind (arith, common_steps, over_more (length done) w ws t))

  arrows_led : (c : Option Counts) (rs : List Rule) (fs : List Bool) (t : List W) (done ms : List Arrow) (rest : List (Call W)) (u : State W)
      → replay (map ArrowCall ms ++ rest) (at (sheet_with c rs done fs) t) ≡ Ok u → replay rest (at (sheet_with c rs (done ++ ms) fs) t) ≡ Ok u
  arrows_led c rs fs t done [] rest u e = grind (arith, common_steps)
  arrows_led c rs fs t done (a ∷ ms) rest u e = grind (arith, common_steps, arrows_led c rs fs t (done ++ a ∷ []) ms rest u)

  finals_led : (c : Option Counts) (rs : List Rule) (ms : List Arrow) (t : List W) (n : ℕ) (qs : List ℕ) (fs : List Bool) (u : State W)
      → Rising n qs → states c ≤ length fs → list_all not (drop n fs) ≡ true → replay (map Final qs) (at (sheet_with c rs ms fs) t) ≡ Ok u
      → (gs : List Bool) × (marked 0 gs ≡ marked 0 fs ++ qs) × (u ≡ at (sheet_with c rs ms gs) t)
  finals_led c rs ms t n [] fs u up room none e = (fs, grind (arith, common_steps), cc)
  finals_led c rs ms t n (q ∷ qs) fs u up room none e =
      let below : q < states c = grind (arith, common_steps) in
      let i = finals_led c rs ms t (q + 1) qs (set fs q true) u up.1 (omega (arith, length-set fs q true)) (grind (arith, common_steps, list_all-drop not (q - n) (drop n fs))) (grind (arith, common_steps)) in
      (i.0, grind (arith, common_steps, marked_set 0 n q fs), i.2)

  rules_front : (fs : List RuleForm) (ws more : List W) → length fs ≡ length ws → rule_calls fs (ws ++ more) ≡ rule_calls fs ws
  rules_front [] ws more e = refl
  rules_front (f ∷ fs) [] more e = absurd (omega arith)
  rules_front (f ∷ fs) (w ∷ ws) more e = ap (λ l. RuleCall f w ∷ l) (rules_front fs ws more (omega arith))

  size_led : (c : Option Counts) (t : List W) (rest : List (Call W)) (u : State W) → replay (size_calls c ++ rest) (at blank t) ≡ Ok u
      → (states c ≤ 32) × (replay rest (at (sheet_with c [] [] (replicate 32 false)) t) ≡ Ok u)
  size_led None t rest u e = (omega arith, e)
  size_led (Some c) t rest u e = grind (arith, common_steps)

  again : (o : Option Counts) (forms : List RuleForm) (ws : List W) (ms : List Arrow) (qs : List ℕ) (t : List W) (u : State W) → length forms ≡ length ws → Rising 0 qs
      → replay (listed o forms ws ms qs) (at blank t) ≡ Ok u → calls_of u.sheet u.strip ≡ listed o forms ws ms qs
  again o forms ws ms qs t u paired up e =
      let none = replicate 32 false in
      let z = size_led o t _ u e in
      let x = rules_led o none [] forms ws t _ u paired z.1 in
      let y = arrows_led o x.0 none (over 0 ws t) [] ms _ u x.2 in
      let v = finals_led o x.0 ms (over 0 ws t) 0 qs none u up z.0 refl y in
      grind (arith, common_steps, rules_front forms ws (drop (0 + length ws) t) paired)

  -- calls in stored order that a new draft takes whole are the calls of the sheet that they make
  pub replayed_again : (cs : List (Call W)) (t : List W) (u : State W) → InOrder cs → replay cs (at blank t) ≡ Ok u → calls_of u.sheet u.strip ≡ cs
  replayed_again cs t u x e = rw x.is (again x.size x.forms x.weights x.arrows x.finals t u x.paired x.rising (rw x.is at e))
