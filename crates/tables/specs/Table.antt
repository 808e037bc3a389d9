-- What a push leaves in a table.
use Rattle.std.specs.Prelude.{ℕ, cond, List, [], ◌∷◌, ◌++◌, length, nat_lt}

-- one item more at the end, if there are fewer than n
abbrev pub with_last : {T : Type 0} → ℕ → List T → T → List T
with_last n l x = cond (nat_lt (length l) n) (l ++ x ∷ []) l
