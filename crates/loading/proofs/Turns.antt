-- One turn of a load.
use Rattle.std.proofs.Common.{◌≡◌, ℕ, zero, suc, ◌+◌, ◌-◌, ◌<◌, ◌≤◌, true, false, cond, List, [], ◌∷◌, ◌++◌, length, None, Ok, Err, Result, sym, refl, ap, ◌∙◌, append_assoc, append-nil, arith, length-append, length-drop}
use Rattle.std.proofs.lemmas.List.{nil_from_length, map_push}
use Rattle.reading.specs.declared.fault.EntryFault.{EntryFault}
use Rattle.codec.specs.Look.{Look}
use Rattle.reading.specs.Standing.{Standing, start}
use Rattle.codec.specs.Coded.{Read}
use Rattle.sheets.specs.declared.fault.SheetFault.{SheetFault}
use Rattle.sheets.specs.declared.call.Call.{Call}
use Rattle.sheets.specs.Sheet.{Sheet, blank}
use Rattle.sheets.specs.Questions.{State, at, step}
use Rattle.sheets.specs.Calls.{bound, replay, InOrder}
use Rattle.faults.specs.declared.Spot.{Spot}
use Rattle.faults.specs.declared.LoadFault.{LoadFault}
use Rattle.faults.specs.Faults.{of_entry, of_sheet}
use Rattle.calls.specs.Spell.{look_call, spell, spells}
use Rattle.loading.specs.Load.{ends, spot_at, spot_of, beyond, Placed, Parsed, stopped, after, placed, read_on, parse, parsed, calls_at, calls_in, Loaded, made_on, run, finish, loading, made_at, read_made, Called, Failed}
use Rattle.calls.specs.Spell.{stored}
use Rattle.drafts.proofs.Replays.{replayed_again}
use Rattle.calls.proofs.Spelling.{spell_some, spells_push, same_ok, never_ok, replay_push}

no_fault : {A B E : Type 0} {e : E} {t : A} → ◌≡◌ {A = Result A E} (Err e) (Ok t) → B
no_fault q = let z : ◌≡◌ {A = ℕ} 0 1 = cc in absurd (omega arith)

some_left : (l : List ℕ) → ends l ≡ false → 0 < length l
some_left [] e = let z : ◌≡◌ {A = ℕ} 0 1 = cc in absurd (omega arith)
some_left (b ∷ l) e = omega arith

-- some turn is left where some bytes are
fewer : (n m : ℕ) → 0 < m → m ≤ n → (k : ℕ) × (n ≡ suc k)
fewer zero m h e = absurd (omega arith)
fewer (suc k) m h e = (k, refl)

same_count : {n p m : ℕ} → n ≡ p → ◌≡◌ {A = Result ℕ LoadFault} (Ok n) (Ok m) → p ≡ m
same_count e q = cc

module _ {W : Type 0} (look : List ℕ → Look W) where
  parse_end : (n : ℕ) (s : Spot) (l : List ℕ) → ends l ≡ true → parse look n s l ≡ stopped s None
  parse_end zero s l e = refl
  parse_end (suc n) s l e =
      let k = look_call look l in
      let t = beyond s l k in
      ap (λ b. cond b (stopped s None) (read_on s t (parse look n t k.left) k.answer)) e

  pub parse_on : (n : ℕ) (s : Spot) (l : List ℕ) → ends l ≡ false
      → parse look (suc n) s l ≡ read_on s (beyond s l (look_call look l)) (parse look n (beyond s l (look_call look l)) (look_call look l).left) (look_call look l).answer
  parse_on n s l e =
      let k = look_call look l in
      let t = beyond s l k in
      ap (λ b. cond b (stopped s None) (read_on s t (parse look n t k.left) k.answer)) e

  -- where a reader stands that has read a call, or met a fault in one
  stands_beyond : (rd rd' : Standing) (r : Result (Call W) EntryFault) → Read (look_call look) rd rd' r → spot_of rd' ≡ beyond (spot_of rd) rd.left (look_call look rd.left)
  stands_beyond rd rd' r p =
      let k = look_call look rd.left in
      let count : rd'.passed + 1 ≡ rd.passed + 1 + k.passed = omega (arith, ap (λ s. s.passed) p.stands) in
      let place : rd'.place ≡ rd.place + (length rd.left - length k.left) =
      omega (arith, ap (λ s. s.place) p.stands, p.within, ap length p.gone, length-drop k.used rd.left) in
      (λ i. spot_at (count i) (place i))

module _ {W : Type 0} where
  on_run : (p : Spot) (ps qs : List (Placed W)) (a : Result ℕ LoadFault) (s t : State W) (r : Result (State W) SheetFault)
      → ((s : State W) → replay (calls_at ps) s ≡ Ok t → run (ps ++ qs) a s ≡ run qs a t)
      → bound (replay (calls_at ps)) r ≡ Ok t → made_on p s (run (ps ++ qs) a) r ≡ run qs a t
  on_run p ps qs a s t (Ok u) h q = h u q
  on_run p ps qs a s t (Err e) h q = absurd (never_ok q)

  -- calls that are all taken, and those behind them
  run_after : (ps qs : List (Placed W)) (a : Result ℕ LoadFault) (s t : State W) → replay (calls_at ps) s ≡ Ok t → run (ps ++ qs) a s ≡ run qs a t
  run_after [] qs a s t q = ap (run qs a) (same_ok q)
  run_after (p ∷ ps) qs a s t q = on_run p.spot ps qs a s t (step p.call s) (λ u. run_after ps qs a u t) q

  refused_here : (p : Spot) (f : State W → Loaded W) (s : State W) (e : LoadFault) (r : Result (State W) SheetFault) → made_at p r ≡ Err e → made_on p s f r ≡ record { state = s; answer = Err e }
  refused_here p f s e (Ok t) q = no_fault (sym q)
  refused_here p f s e (Err x) q = let same : of_sheet p x ≡ e = cc in ap (λ z. record { state = s; answer = Err z }) same

  -- a fault of the next call ends the load
  fault_ends : (p t : Spot) (rest : Parsed W) (s : State W) (e : LoadFault) (a : Result (Call W) EntryFault) → read_made p t s a ≡ Err e → finish (read_on p t rest a) s ≡ record { state = s; answer = Err e }
  fault_ends p t rest s e (Ok c) q = refused_here p (finish rest) s e (step c s) q
  fault_ends p t rest s e (Err f) q = let same : of_entry t f ≡ e = cc in ap (λ z. record { state = s; answer = Err z }) same

module _ {W : Type 0} (look : List ℕ → Look W) (by : W → List ℕ) (bytes : List ℕ) (first : State W) where
  -- what a load keeps from turn to turn: the calls before the reader are made
  pub record Keeps (rd : Standing) (s : State W) : Type 0 where
    pub before : List (Placed W)
    pub turns : ℕ
    pub enough : length rd.left ≤ turns
    pub parsing : parsed look bytes ≡ after before (parse look turns (spot_of rd) rd.left)
    pub led : replay (calls_at before) first ≡ Ok s
    pub spelled : bytes ≡ spells by (calls_at before) ++ rd.left
    pub place : rd.place + length rd.left ≡ length bytes

  pub starts : (rd : Standing) → rd ≡ start bytes → Keeps rd first
  starts rd e = rw e (record {
    before = [];
    turns = length bytes;
    enough = omega arith;
    parsing = refl;
    led = refl;
    spelled = refl;
    place = omega arith;
  })

  -- what is still to be done
  left_to_do : (rd : Standing) (s : State W) (x : Keeps rd s) → loading look bytes first ≡ finish (parse look x.turns (spot_of rd) rd.left) s
  left_to_do rd s x = ap (λ p. finish p first) x.parsing ∙ run_after x.before _ _ first s x.led

  pub record Turned (rd rd' : Standing) (t : State W) : Type 0 where
    pub keeps : Keeps rd' t
    pub less : length rd'.left < length rd.left

  pub turn : (rd rd' : Standing) (s t : State W) → Keeps rd s → ends rd.left ≡ false → Called look by rd rd' s t → Turned rd rd' t
  turn rd rd' s t x h c =
      let k = look_call look rd.left in
      let r = c.reads in
      let p = placed (spot_of rd) c.call in
      let more = fewer x.turns (length rd.left) (some_left rd.left h) x.enough in
      let less : length rd'.left < length rd.left = omega (arith, ap length c.spelled, length-append (spell by c.call) rd'.left, spell_some by c.call) in
      let beyond_it = stands_beyond look rd rd' (Ok c.call) r in
      let one : parse look x.turns (spot_of rd) rd.left ≡ after (p ∷ []) (parse look more.0 (spot_of rd') rd'.left) =
      ap (λ n. parse look n (spot_of rd) rd.left) more.1
      ∙ parse_on look more.0 (spot_of rd) rd.left h
      ∙ ap (read_on (spot_of rd) (beyond (spot_of rd) rd.left k) (parse look more.0 (beyond (spot_of rd) rd.left k) k.left)) (sym r.says)
      ∙ (λ i. after (p ∷ []) (parse look more.0 (sym beyond_it i) (sym r.stands i).left)) in
      let calls : calls_at (x.before ++ p ∷ []) ≡ calls_at x.before ++ c.call ∷ [] = map_push (λ (q : Placed W). q.call) x.before p in
      record {
        keeps = record {
          before = x.before ++ p ∷ [];
          turns = more.0;
          enough = omega (arith, more.1, x.enough, less);
          parsing = x.parsing ∙ ap (after x.before) one
              ∙ (λ i. record {
                calls = sym (append_assoc x.before (p ∷ []) (parse look more.0 (spot_of rd') rd'.left).calls) i;
                spot = (parse look more.0 (spot_of rd') rd'.left).spot;
                fault = (parse look more.0 (spot_of rd') rd'.left).fault;
              });
          led = ap (λ l. replay l first) calls ∙ replay_push (calls_at x.before) c.call first ∙ ap (bound (step c.call)) x.led ∙ c.takes;
          spelled = x.spelled ∙ ap (λ l. spells by (calls_at x.before) ++ l) c.spelled
              ∙ sym (append_assoc (spells by (calls_at x.before)) (spell by c.call) rd'.left)
              ∙ ap (λ l. l ++ rd'.left) (sym (spells_push by (calls_at x.before) c.call) ∙ ap (spells by) (sym calls));
          place = omega (arith, x.place, ap (λ s. s.place) r.stands, ap (λ s. length s.left) r.stands, r.within, ap length r.gone, length-drop k.used rd.left);
        };
        less = less;
      }

-- a load into the sheet s with its strip
module _ {W : Type 0} (look : List ℕ → Look W) (by : W → List ℕ) (bytes : List ℕ) (s : Sheet) (strip : List W) where
  -- what is promised of the state that a load leaves, and of its answer
  pub record Loads (u : State W) (r : Result ℕ LoadFault) : Type 0 where
    pub state : u ≡ (loading look bytes (at s strip)).state
    pub answer : r ≡ (loading look bytes (at s strip)).answer
    pub again : s ≡ blank → r ≡ Ok (length bytes) → InOrder (calls_in look bytes) → stored by u.sheet u.strip ≡ bytes

  stored_again : (rd : Standing) (u : State W) → Keeps look by bytes (at s strip) rd u → ends rd.left ≡ true → s ≡ blank → rd.place ≡ length bytes
      → InOrder (calls_in look bytes) → stored by u.sheet u.strip ≡ bytes
  stored_again rd u x h new all o =
      let calls : calls_in look bytes ≡ calls_at x.before =
      ap (λ p. calls_at p.calls) (x.parsing ∙ ap (after x.before) (parse_end look x.turns (spot_of rd) rd.left h)) ∙ ap calls_at (append-nil x.before) in
      let led : replay (calls_in look bytes) (at blank strip) ≡ Ok u = (λ i. replay (calls i) (at (sym new i) strip)) ∙ x.led in
      let none : rd.left ≡ [] = nil_from_length rd.left (omega (arith, x.place)) in
      ap (spells by) (replayed_again (calls_in look bytes) strip u o led ∙ calls)
      ∙ sym (append-nil (spells by (calls_at x.before))) ∙ ap (λ l. spells by (calls_at x.before) ++ l) (sym none) ∙ sym x.spelled

  pub at_end : (rd : Standing) (u : State W) (n : ℕ) → Keeps look by bytes (at s strip) rd u → ends rd.left ≡ true → n ≡ rd.place → Loads u (Ok n)
  at_end rd u n x h e =
      let k : loading look bytes (at s strip) ≡ record { state = u; answer = Ok rd.place } =
      left_to_do look by bytes (at s strip) rd u x ∙ ap (λ p. finish p u) (parse_end look x.turns (spot_of rd) rd.left h) in
      record {
        state = ap (λ l. l.state) (sym k);
        answer = ap Ok e ∙ ap (λ l. l.answer) (sym k);
        again = λ new all. stored_again rd u x h new (same_count e all);
      }

  pub at_fault : (rd : Standing) (t u : State W) (e : LoadFault) → Keeps look by bytes (at s strip) rd t → ends rd.left ≡ false → Failed look rd t u e → Loads u (Err e)
  at_fault rd t u e x h f =
      let more = fewer x.turns (length rd.left) (some_left rd.left h) x.enough in
      let k : loading look bytes (at s strip) ≡ record { state = u; answer = Err e } =
      left_to_do look by bytes (at s strip) rd t x
      ∙ ap (λ n. finish (parse look n (spot_of rd) rd.left) t) more.1
      ∙ ap (λ p. finish p t) (parse_on look more.0 (spot_of rd) rd.left h)
      ∙ fault_ends (spot_of rd) _ _ t e (look_call look rd.left).answer f.fault
      ∙ ap (λ v. record { state = v; answer = Err e }) (sym f.same) in
      record {
        state = ap (λ l. l.state) (sym k);
        answer = ap (λ l. l.answer) (sym k);
        again = λ new all. no_fault all;
      }
