-- The algebra that weights of one kind mean: an idempotent semiring whose values have a rank that falls
-- wherever combining changes the left side.
use Rattle.std.specs.Prelude.{◌≡◌, ℕ, ◌<◌, List, [], ◌∷◌, ◌≢◌}

pub record Semiring : Type 1 where
  pub Value : Type 0
  pub zero : Value
  pub one : Value
  pub combine : Value → Value → Value
  pub extend : Value → Value → Value
  pub rank : Value → ℕ
  pub combine_assoc : (a b c : Value) → combine (combine a b) c ≡ combine a (combine b c)
  pub combine_comm : (a b : Value) → combine a b ≡ combine b a
  pub combine_same : (a : Value) → combine a a ≡ a
  pub combine_zero : (a : Value) → combine a zero ≡ a
  pub extend_assoc : (a b c : Value) → extend (extend a b) c ≡ extend a (extend b c)
  pub one_extend : (a : Value) → extend one a ≡ a
  pub extend_one : (a : Value) → extend a one ≡ a
  pub zero_extend : (a : Value) → extend zero a ≡ zero
  pub extend_zero : (a : Value) → extend a zero ≡ zero
  pub extend_combine : (a b c : Value) → extend a (combine b c) ≡ combine (extend a b) (extend a c)
  pub combine_extend : (a b c : Value) → extend (combine a b) c ≡ combine (extend a c) (extend b c)
  pub falls : (a b : Value) → (combine a b ≢ a) → rank (combine a b) < rank a

-- a absorbs b: combining b into a changes nothing
abbrev pub Absorbs : (S : Semiring) → S.Value → S.Value → Type 0
Absorbs S a b = S.combine a b ≡ a

-- all of them combined, and zero for none
abbrev pub join : (S : Semiring) → List S.Value → S.Value
join S [] = S.zero
join S (x ∷ xs) = S.combine x (join S xs)
