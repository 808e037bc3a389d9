-- What is written reads as itself, by the meanings of the weights; so a stored sheet loads as itself.
use Rattle.std.proofs.Common.{◌≡◌, ℕ, zero, suc, ◌+◌, ◌*◌, ◌/◌, ◌%◌, ◌^◌, ◌<◌, ◌≤◌, Bool, true, false, ◌&&◌, ltb, leb, List, [], ◌∷◌, ◌++◌, map, length, take, drop, set, Some, None, Ok, Err, Option, Result, sym, refl, ap, ◌∙◌, arith, length-append}
use lib.ListN.{length-map}
use Rattle.std.specs.List.{All}
use Rattle.std.proofs.lemmas.List.{map-set, take_at}
use Rattle.std.proofs.lemmas.List.Elements.{All-nil, All-cons, All-head, All-tail, All-append, All-map}
use Rattle.std.proofs.lemmas.Bool.{and_parts, leb-true}
use Rattle.codec.specs.Look.{done}
use Rattle.codec.specs.Coded.{Gives}
use Rattle.reading.specs.Splice.{Written}
use Rattle.codec.specs.Codes.{Code}
use Rattle.codec.specs.Pairs.{gives_then, gives_done}
use Rattle.codec.proofs.Leaves.{leaf_back}
use Rattle.sheets.specs.declared.fault.SheetFault.{SheetFault}
use Rattle.sheets.specs.declared.fault.SheetFault.TheVariants.{NoControl, NoSymbol, NoRuleRoom}
use Rattle.sheets.specs.declared.call.Counts.{Counts}
use Rattle.sheets.specs.declared.call.Right.{Right}
use Rattle.sheets.specs.declared.call.RuleForm.{RuleForm}
use Rattle.sheets.specs.declared.call.Call.{Call}
use Rattle.sheets.specs.declared.call.Call.TheVariants.{Size, Rule as RuleCall, Arrow as ArrowCall, Final}
use Rattle.sheets.specs.Sheet.{Sheet, Fits, blank, few_controls, few_symbols, few_states, counts_fit, right_of, rule_controls, rule_symbols}
use Rattle.sheets.specs.Questions.{State, at, step, asked, onto, size_step, arrow_step, final_step, shaped_step, with_rule, rule_from}
use Rattle.sheets.specs.Calls.{bound, replay, form_of, marked, size_calls, rule_calls, calls_of, laid}
use Rattle.drafts.proofs.Replays.{bound_ok, replays}
use Rattle.faults.specs.declared.Spot.{Spot}
use Rattle.faults.specs.declared.LoadFault.{LoadFault}
use Rattle.calls.specs.Spell.{spell, spells, to_size, to_form, to_arrow_call, to_final, look_entry, look_weight, look_call}
use Rattle.loading.specs.Load.{Placed, Parsed, ends, spot_at, beyond, after, placed, read_on, parse, ended, made_on, run, loading}
use Rattle.calls.specs.Spell.{stored}
use Rattle.storing.specs.Store.{LoadsAs}
use Rattle.calls.proofs.Spelling.{spells_long, same_ok, never_ok}
use Rattle.loading.proofs.Turns.{parse_on}

-- a call with the meaning of its weight
abbrev meant : {W V : Type 0} → (W → V) → Call W → Call V
meant m (Size c) = Size c
meant m (RuleCall f w) = RuleCall f (m w)
meant m (ArrowCall a) = ArrowCall a
meant m (Final q) = Final q

-- a state with the meanings of its weights
abbrev seen : {W V : Type 0} → (W → V) → State W → State V
seen m s = at s.sheet (map m s.strip)

-- a count of symbols has two bytes, and all else one
abbrev Small : {W : Type 0} → Call W → Type 0
Small (Size c) = c.symbols < 2 ^ 16
Small (RuleCall f w) = Unit {0}
Small (ArrowCall a) = Unit {0}
Small (Final q) = Unit {0}

-- calls with the meanings of their weights, of those that were read
abbrev meant_calls : {W V : Type 0} → (W → V) → List (Placed W) → List (Call V)
meant_calls {W} m ps = map (λ (p : Placed W). meant m p.call) ps

module _ {W V : Type 0} (k : Code W V) where
  -- l reads as a call that means what c means, and leaves `rest`
  record CallBack (c : Call W) (l rest : List ℕ) : Type 0 where
    pub call : Call W
    pub gives : Gives (look_call k.look) l call rest
    pub means : meant k.meaning call ≡ meant k.meaning c

  alone : (f : List ℕ → Call W) (kind n : ℕ) (body rest : List ℕ) → length body ≡ n → Gives (look_entry f kind n) (kind ∷ (body ++ rest)) (f body) rest
  alone f kind n body rest e = leaf_back (λ b. Some (f b)) kind n body rest (f body) e refl

  call_back : (c : Call W) (rest : List ℕ) → Small c → CallBack c (spell k.bytes c ++ rest) rest
  call_back (Size c) rest h =
      let body = c.controls ∷ c.symbols / 256 % 256 ∷ c.symbols % 256 ∷ c.states ∷ [] in
      let g = alone to_size 1 4 body rest refl in
      let v : c.symbols / 256 % 256 * 256 + c.symbols % 256 ≡ c.symbols = omega (arith, h) in
      record {
        call = to_size body;
        gives = record { says = g.says; leaves = g.leaves };
        means = ap (λ n. Size (record { controls = c.controls; symbols = n; states = c.states })) v;
      }
  call_back (RuleCall f w) rest h =
      let body = f.from ∷ f.symbol ∷ f.to ∷ f.length ∷ f.first ∷ f.second ∷ [] in
      let b = k.back w rest in
      let g = gives_then (look_entry to_form 2 6) (look_weight k.look) (leaf_back (λ b. Some (to_form b)) 2 6 body (k.bytes w ++ rest) f refl refl)
      (gives_then k.look (λ v. done (RuleCall f v)) b.gives (gives_done _ rest)) in
      record { call = RuleCall f b.weight; gives = record { says = g.says; leaves = g.leaves }; means = ap (RuleCall f) b.means }
  call_back (ArrowCall a) rest h =
      let g = alone to_arrow_call 3 3 (a.from ∷ a.symbol ∷ a.to ∷ []) rest refl in
      record { call = ArrowCall a; gives = record { says = g.says; leaves = g.leaves }; means = refl }
  call_back (Final q) rest h =
      let g = alone to_final 4 1 (q ∷ []) rest refl in
      record { call = Final q; gives = record { says = g.says; leaves = g.leaves }; means = refl }

  goes_on : (c : Call W) (rest : List ℕ) → ends (spell k.bytes c ++ rest) ≡ false
  goes_on (Size c) rest = refl
  goes_on (RuleCall f w) rest = refl
  goes_on (ArrowCall a) rest = refl
  goes_on (Final q) rest = refl

  -- calls that were parsed whole, by their meanings
  record ParsedBack (cs : List (Call W)) (s : Spot) (p : Parsed W) : Type 0 where
    pub whole : p.fault ≡ None
    pub used : p.spot.place ≡ s.place + length (spells k.bytes cs)
    pub calls : meant_calls k.meaning p.calls ≡ map (meant k.meaning) cs

  parsed_back : (cs : List (Call W)) (n : ℕ) (s : Spot) → All Small cs → length cs ≤ n → ParsedBack cs s (parse k.look n s (spells k.bytes cs))
  parsed_back [] zero s z h = record { whole = refl; used = omega arith; calls = refl }
  parsed_back [] (suc n) s z h = record { whole = refl; used = omega arith; calls = refl }
  parsed_back (c ∷ cs) zero s z h = absurd (omega arith)
  parsed_back (c ∷ cs) (suc n) s z h =
      let rest = spells k.bytes cs in
      let l = spell k.bytes c ++ rest in
      let b = call_back c rest (All-head Small c cs z) in
      let t = beyond s l (look_call k.look l) in
      let p : parse k.look (suc n) s l ≡ after (placed s b.call ∷ []) (parse k.look n t rest) =
      parse_on k.look n s l (goes_on c rest)
      ∙ ap (read_on s t (parse k.look n t (look_call k.look l).left)) b.gives.says
      ∙ ap (λ r. after (placed s b.call ∷ []) (parse k.look n t r)) b.gives.leaves in
      let i = parsed_back cs n t (All-tail Small c cs z) (omega arith) in
      record {
        whole = ap (λ q. q.fault) p ∙ i.whole;
        used = ap (λ q. q.spot.place) p ∙ i.used ∙ omega (arith, ap length b.gives.leaves, length-append (spell k.bytes c) rest);
        calls = ap (λ q. meant_calls k.meaning q.calls) p ∙ (λ j. b.means j ∷ i.calls j);
      }

abbrev over : {S T : Type 0} → (S → T) → Result S SheetFault → Result T SheetFault
over f (Ok s) = Ok (f s)
over f (Err e) = Err e

over_ok : {S T : Type 0} (f : S → T) (r : Result S SheetFault) (t : T) → over f r ≡ Ok t → (s : S) × (r ≡ Ok s) × (f s ≡ t)
over_ok f (Ok s) t q = (s, refl, same_ok q)
over_ok f (Err e) t q = absurd (never_ok q)

asked_over : {S T : Type 0} (f : S → T) (b : Bool) (e : SheetFault) (r : Result S SheetFault) (k : Result T SheetFault) → k ≡ over f r → asked b e k ≡ over f (asked b e r)
asked_over f true e r k q = q
asked_over f false e r k q = refl

-- what a call does goes by the meanings of the weights
module _ {W V : Type 0} (m : W → V) where
  onto_over : (t : List W) (r : Result Sheet SheetFault) → onto (map m t) r ≡ over (seen m) (onto t r)
  onto_over t (Ok s) = refl
  onto_over t (Err e) = refl

  shaped_over : (s : State W) (f : RuleForm) (w : W) (o : Option Right) → shaped_step (seen m s) f (m w) o ≡ over (seen m) (shaped_step s f w o)
  shaped_over s f w None = refl
  shaped_over s f w (Some right) =
      let z = s.sheet in
      let n = length z.rules in
      let to : List V → State V = at (with_rule z (rule_from f right)) in
      let room : ℕ → Bool = λ l. ltb n 512 && ltb n l in
      let r3 : Result (State W) SheetFault = Ok (at (with_rule z (rule_from f right)) (set s.strip n w)) in
      let r2 = asked (room (length s.strip)) NoRuleRoom r3 in
      let r1 = asked (rule_symbols z.counts f.symbol right) NoSymbol r2 in
      let k3 : Result (State V) SheetFault = Ok (to (set (map m s.strip) n (m w))) in
      let e3 : k3 ≡ over (seen m) r3 = ap (λ l. Ok (to l)) (sym (map-set m s.strip n w)) in
      let e2 : asked (room (length (map m s.strip))) NoRuleRoom k3 ≡ over (seen m) r2 =
      ap (λ l. asked (room l) NoRuleRoom k3) (length-map s.strip m) ∙ asked_over (seen m) (room (length s.strip)) NoRuleRoom r3 k3 e3 in
      asked_over (seen m) (rule_controls z.counts f.from f.to) NoControl r1 _
      (asked_over (seen m) (rule_symbols z.counts f.symbol right) NoSymbol r2 _ e2)

  step_over : (c : Call W) (s : State W) → step (meant m c) (seen m s) ≡ over (seen m) (step c s)
  step_over (Size c) s = onto_over s.strip (size_step s.sheet c)
  step_over (RuleCall f w) s = shaped_over s f w (right_of f.length f.first f.second)
  step_over (ArrowCall a) s = onto_over s.strip (arrow_step s.sheet a)
  step_over (Final q) s = onto_over s.strip (final_step s.sheet q)

  replay_over : (cs : List (Call W)) (s u : State W) → replay cs s ≡ Ok u → replay (map (meant m) cs) (seen m s) ≡ Ok (seen m u)
  replay_over [] s u q = ap (λ t. Ok (seen m t)) (same_ok q)
  replay_over (c ∷ cs) s u q =
      let r = bound_ok (replay cs) (step c s) u q in
      ap (bound (replay (map (meant m) cs))) (step_over c s ∙ ap (over (seen m)) r.1) ∙ replay_over cs r.0 u r.2

  record Ran (ps : List (Placed W)) (a : Result ℕ LoadFault) (s : State W) (v : State V) : Type 0 where
    pub answer : (run ps a s).answer ≡ a
    pub state : seen m (run ps a s).state ≡ v

  run_over : (ps : List (Placed W)) (a : Result ℕ LoadFault) (s : State W) (v : State V) → replay (meant_calls m ps) (seen m s) ≡ Ok v → Ran ps a s v
  run_over [] a s v q = record { answer = refl; state = same_ok q }
  run_over (p ∷ ps) a s v q =
      let r = bound_ok (replay (meant_calls m ps)) (step (meant m p.call) (seen m s)) v q in
      let o = over_ok (seen m) (step p.call s) r.0 (sym (step_over p.call s) ∙ r.1) in
      let i = run_over ps a o.0 v (ap (replay (meant_calls m ps)) o.2 ∙ r.2) in
      let e : run (p ∷ ps) a s ≡ run ps a o.0 = ap (made_on p.spot s (run ps a)) o.1 in
      record { answer = ap (λ l. l.answer) e ∙ i.answer; state = ap (λ l. seen m l.state) e ∙ i.state }

module _ {W V : Type 0} (k : Code W V) where
  loads_as : (cs : List (Call W)) (s u : State W) → All Small cs → replay cs s ≡ Ok u → LoadsAs k.meaning (length (spells k.bytes cs)) (loading k.look (spells k.bytes cs) s) u
  loads_as cs s u z q =
      let l = spells k.bytes cs in
      let p = parse k.look (length l) (spot_at 1 0) l in
      let b = parsed_back k cs (length l) (spot_at 1 0) z (spells_long k.bytes cs) in
      let used : p.spot.place ≡ length l = omega (arith, b.used) in
      let r = run_over k.meaning p.calls (ended p.spot p.fault) s (seen k.meaning u)
      (ap (λ ds. replay ds (seen k.meaning s)) b.calls ∙ replay_over k.meaning cs s u q) in
      record {
        whole = r.answer ∙ ap (ended p.spot) b.whole ∙ ap Ok used;
        sheet = ap (λ v. v.sheet) r.state;
        means = ap (λ v. v.strip) r.state;
      }

-- the calls of a draft are small
module _ {W : Type 0} where
  small_size : (c : Option Counts) → counts_fit c ≡ true → All Small (size_calls {W = W} c)
  small_size None h = All-nil Small
  small_size (Some c) h =
      let a = and_parts (few_controls c) (few_symbols c && few_states c) h in
      let b = and_parts (few_symbols c) (few_states c) a.1 in
      let d = and_parts (leb 1 c.symbols) (leb c.symbols 256) b.0 in
      All-cons Small (Size c) [] (omega (arith, leb-true c.symbols 256 d.1)) (All-nil Small)

  small_rules : (fs : List RuleForm) (ws : List W) → All Small (rule_calls fs ws)
  small_rules [] ws = All-nil Small
  small_rules (f ∷ fs) [] = All-nil Small
  small_rules (f ∷ fs) (w ∷ ws) = All-cons Small (RuleCall f w) (rule_calls fs ws) tt (small_rules fs ws)

  small_calls : (s : Sheet) (ws : List W) → Fits s → All Small (calls_of s ws)
  small_calls s ws f =
      All-append Small _ _ (small_size s.counts f.limits)
      (All-append Small _ _ (small_rules (map form_of s.rules) ws)
      (All-append Small _ _ (All-map Small ArrowCall s.arrows (λ k e h. tt)) (All-map Small Final (marked 0 s.finals) (λ k e h. tt))))

-- what is written of a sheet, whose rules have the weights ws, loads as that sheet
module _ {W V : Type 0} (k : Code W V) (s : Sheet) (ws : List W) where
  abbrev pub bs : List ℕ
  bs = stored k.bytes s ws

  abbrev pub LoadsBack : List ℕ → ℕ → Type 0
  LoadsBack out n = (t : List W) → length s.rules ≤ length t → LoadsAs k.meaning n (loading k.look (take n out) (at blank t)) (at s (laid (take (length s.rules) ws) t))

  pub loads_back : Fits s → length s.rules ≤ length ws → (before out : List ℕ) (n : ℕ) → Written (length bs) bs before out n → LoadsBack out n
  loads_back f enough before out n w t room =
      let count : n ≡ length bs = omega (arith, w.count) in
      let front : take n out ≡ bs = ap (take n) w.put ∙ take_at bs (drop (length bs) before) n (sym count) in
      let r = loads_as k (calls_of s ws) (at blank t) (at s (laid (take (length s.rules) ws) t)) (small_calls s ws f) (replays s ws t f enough room) in
      rw (front, count) r
