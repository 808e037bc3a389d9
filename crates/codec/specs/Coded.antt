-- What it is to read a weight, and what the layers read.
use Rattle.std.specs.Prelude.{◌≡◌, ℕ, ◌+◌, ◌<◌, ◌≤◌, List, length, drop, IfSome, MatchOption, Ok, Option, Result}
use Rattle.pairs.specs.declared.pair.Pair.{Pair}
use Rattle.squares.specs.declared.square.Square.{Square}
use Rattle.reading.specs.declared.fault.EntryFault.{EntryFault}
use Rattle.codec.specs.Look.{Look, done, and_then}
use Rattle.reading.specs.Standing.{Standing}

-- r is what a width leaves of a room, if it fits in it
abbrev pub RoomLeft : ℕ → ℕ → Option ℕ → Type 0
RoomLeft width room r = MatchOption r (room < width) (λ rest. rest + width ≡ room)

-- where a reader stands that stood at r and read what k says
abbrev pub behind : {W : Type 0} → Standing → Look W → Standing
behind r k = record { left = k.left; place = r.place + k.used; passed = r.passed + k.passed }

-- a reader has done what k says and answered with r: of what was left, the bytes that k used are gone, and no others
pub record Follows {W : Type 0} (k : Look W) (before after : Standing) (r : Result W EntryFault) : Type 0 where
  pub says : r ≡ k.answer
  pub stands : after ≡ behind before k
  pub within : k.used ≤ length before.left
  pub gone : k.left ≡ drop k.used before.left

-- what a reader has done that read by `look`
abbrev pub Read : {W : Type 0} → (List ℕ → Look W) → Standing → Standing → Result W EntryFault → Type 0
Read look before after r = Follows (look before.left) before after r

-- l reads as w and leaves `rest`
pub record Gives {W : Type 0} (look : List ℕ → Look W) (l : List ℕ) (w : W) (rest : List ℕ) : Type 0 where
  pub says : (look l).answer ≡ Ok w
  pub leaves : (look l).left ≡ rest

-- l reads as some weight of the value v and leaves `rest`
pub record ReadsAs {W V : Type 0} (look : List ℕ → Look W) (meaning : W → V) (v : V) (l rest : List ℕ) : Type 0 where
  pub weight : W
  pub gives : Gives look l weight rest
  pub means : meaning weight ≡ v

-- what was written to the front reads as a weight of the value v and leaves what stands behind
abbrev pub ReadsBack : {W V : Type 0} → (List ℕ → Look W) → (W → V) → V → List ℕ → Option ℕ → Type 0
ReadsBack look meaning v out r = IfSome r (λ n. ReadsAs look meaning v out (drop n out))

-- what was written from `at` on reads as a weight of the value v and leaves what stands behind
abbrev pub ReadsBackAt : {W V : Type 0} → (List ℕ → Look W) → (W → V) → V → ℕ → List ℕ → Option ℕ → Type 0
ReadsBackAt look meaning v at out r = IfSome r (λ end. ReadsAs look meaning v (drop at out) (drop end out))

-- the rest of a pair whose first part is x
abbrev pub pair_with : {X Y : Type 0} → (List ℕ → Look Y) → X → List ℕ → Look (Pair X Y)
pair_with g x l = and_then (g l) (λ y. done (record { first = x; second = y }))

abbrev pub look_pair : {X Y : Type 0} → (List ℕ → Look X) → (List ℕ → Look Y) → List ℕ → Look (Pair X Y)
look_pair f g l = and_then (f l) (pair_with g)

-- the rest of a square whose first parts are known
abbrev pub with_three : {X : Type 0} → (List ℕ → Look X) → X → X → X → List ℕ → Look (Square X)
with_three f a b c l = and_then (f l) (λ d. done (record { w00 = a; w01 = b; w10 = c; w11 = d }))

abbrev pub with_two : {X : Type 0} → (List ℕ → Look X) → X → X → List ℕ → Look (Square X)
with_two f a b l = and_then (f l) (with_three f a b)

abbrev pub with_one : {X : Type 0} → (List ℕ → Look X) → X → List ℕ → Look (Square X)
with_one f a l = and_then (f l) (with_two f a)

abbrev pub look_square : {X : Type 0} → (List ℕ → Look X) → List ℕ → Look (Square X)
look_square f l = and_then (f l) (with_one f)
