-- Loading: the bytes are parsed into calls, and the calls are made.
use Rattle.std.specs.Prelude.{◌≡◌, ℕ, zero, suc, ◌+◌, ◌-◌, Bool, true, cond, List, [], ◌∷◌, ◌++◌, map, length, Some, None, Ok, Err, Option, Result, ◌==◌}
use Rattle.reading.specs.declared.fault.EntryFault.{EntryFault}
use Rattle.codec.specs.Look.{Look}
use Rattle.reading.specs.Standing.{Standing}
use Rattle.codec.specs.Coded.{Read}
use Rattle.sheets.specs.declared.fault.SheetFault.{SheetFault}
use Rattle.sheets.specs.declared.call.Call.{Call}
use Rattle.sheets.specs.Questions.{State, step}
use Rattle.faults.specs.declared.Spot.{Spot}
use Rattle.faults.specs.declared.LoadFault.{LoadFault}
use Rattle.faults.specs.Faults.{of_entry, of_sheet}
use Rattle.calls.specs.Spell.{look_call, spell}

-- a load ends with the bytes, or before an entry of kind 5
abbrev pub ends : List ℕ → Bool
ends [] = true
ends (b ∷ l) = b == 5

-- an entry's number, counted from 1, and where it begins, counted from 0
abbrev pub spot_at : ℕ → ℕ → Spot
spot_at e p = record { entry = e; place = p }

-- where the next entry of a reader is
abbrev pub spot_of : Standing → Spot
spot_of r = spot_at (r.passed + 1) r.place

-- the spot of what k left of l, which began at the spot s
abbrev pub beyond : {V : Type 0} → Spot → List ℕ → Look V → Spot
beyond s l k = spot_at (s.entry + k.passed) (s.place + (length l - length k.left))

-- a call and the spot of its entry
pub record Placed (W : Type 0) : Type 0 where
  pub spot : Spot
  pub call : Call W

-- the calls, where the reading stopped, and its fault if it did not stop at an end
pub record Parsed (W : Type 0) : Type 0 where
  pub calls : List (Placed W)
  pub spot : Spot
  pub fault : Option EntryFault

module _ {W : Type 0} where
  abbrev pub stopped : Spot → Option EntryFault → Parsed W
  stopped s f = record { calls = []; spot = s; fault = f }

  -- calls before those of p
  abbrev pub after : List (Placed W) → Parsed W → Parsed W
  after cs p = record { calls = cs ++ p.calls; spot = p.spot; fault = p.fault }

  abbrev pub placed : Spot → Call W → Placed W
  placed s c = record { spot = s; call = c }

  -- the call that was read at the spot s, before those of p; or its fault, which is at the spot t
  abbrev pub read_on : Spot → Spot → Parsed W → Result (Call W) EntryFault → Parsed W
  read_on s t p (Ok c) = after (placed s c ∷ []) p
  read_on s t p (Err f) = stopped t (Some f)

  -- n calls at most, of which the first has the spot s
  abbrev pub parse : (List ℕ → Look W) → ℕ → Spot → List ℕ → Parsed W
  parse look zero s l = stopped s None
  parse look (suc n) s l =
      let k = look_call look l in
      let t = beyond s l k in
      cond (ends l) (stopped s None) (read_on s t (parse look n t k.left) k.answer)

  -- a call has some bytes, so there are no more calls than bytes
  abbrev pub parsed : (List ℕ → Look W) → List ℕ → Parsed W
  parsed look bytes = parse look (length bytes) (spot_at 1 0) bytes

  abbrev pub calls_at : List (Placed W) → List (Call W)
  calls_at ps = map (λ p. p.call) ps

  -- the calls that bytes spell
  abbrev pub calls_in : (List ℕ → Look W) → List ℕ → List (Call W)
  calls_in look bytes = calls_at (parsed look bytes).calls

-- what a load leaves, and its answer
pub record Loaded (W : Type 0) : Type 0 where
  pub state : State W
  pub answer : Result ℕ LoadFault

-- the number of bytes used, or the fault
abbrev pub ended : Spot → Option EntryFault → Result ℕ LoadFault
ended s None = Ok s.place
ended s (Some f) = Err (of_entry s f)

module _ {W : Type 0} where
  -- on from where a call led, or its refusal, which is at the spot p
  abbrev pub made_on : Spot → State W → (State W → Loaded W) → Result (State W) SheetFault → Loaded W
  made_on p s f (Ok t) = f t
  made_on p s f (Err e) = record { state = s; answer = Err (of_sheet p e) }

  -- the calls in their order, up to one that is refused: what those before it added stays
  abbrev pub run : List (Placed W) → Result ℕ LoadFault → State W → Loaded W
  run [] a s = record { state = s; answer = a }
  run (c ∷ cs) a s = made_on c.spot s (run cs a) (step c.call s)

  abbrev pub finish : Parsed W → State W → Loaded W
  finish p s = run p.calls (ended p.spot p.fault) s

  abbrev pub loading : (List ℕ → Look W) → List ℕ → State W → Loaded W
  loading look bytes s = finish (parsed look bytes) s

  abbrev pub made_at : Spot → Result (State W) SheetFault → Result (State W) LoadFault
  made_at p (Ok t) = Ok t
  made_at p (Err e) = Err (of_sheet p e)

  abbrev pub read_made : Spot → Spot → State W → Result (Call W) EntryFault → Result (State W) LoadFault
  read_made p q s (Ok c) = made_at p (step c s)
  read_made p q s (Err f) = Err (of_entry q f)

  -- the next call alone: where it leads, or its fault
  abbrev pub next_call : (List ℕ → Look W) → Spot → List ℕ → State W → Result (State W) LoadFault
  next_call look p l s = read_made p (beyond p l (look_call look l)) s (look_call look l).answer

  -- the next call is read and taken
  pub record Called (look : List ℕ → Look W) (bytes : W → List ℕ) (before behind : Standing) (s t : State W) : Type 0 where
    pub call : Call W
    pub reads : Read (look_call look) before behind (Ok call)
    pub spelled : before.left ≡ spell bytes call ++ behind.left
    pub takes : step call s ≡ Ok t

  -- the next call is at fault, and nothing is added
  pub record Failed (look : List ℕ → Look W) (before : Standing) (s t : State W) (e : LoadFault) : Type 0 where
    pub fault : next_call look (spot_of before) before.left s ≡ Err e
    pub same : t ≡ s
