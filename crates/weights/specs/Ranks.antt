-- What the falling rank says of a combine that changes nothing.
use Rattle.std.specs.Prelude.{◌≤◌, ◌≢◌}
use Rattle.std.proofs.Common.{ap, inl, inr, arith}
use Rattle.std.proofs.lemmas.Bool.{cases_lt}
use Rattle.weights.specs.Semiring.{Semiring}

module _ (S : Semiring) where
  -- a part whose rank has not fallen cannot have changed
  pub unchanged : (a b : S.Value) → S.rank a ≤ S.rank (S.combine a b) → (S.combine a b ≢ a) → ⊥
  unchanged a b h ne = omega (arith, S.falls a b ne)

  pub never_rises : (a b : S.Value) → S.rank (S.combine a b) ≤ S.rank a
  never_rises a b =
      elim (cases_lt (S.rank a) (S.rank (S.combine a b))) [
        | inl rises ↦ absurd (unchanged a b (omega arith) (λ same. omega (arith, ap S.rank same)))
        | inr stays ↦ stays
      ]
