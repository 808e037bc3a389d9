-- Reading a rule.
use Rattle.std.proofs.Common.{◌≡◌, ℕ, List, get_or, Ok, Result, sym, subst}
use Rattle.reading.specs.declared.fault.EntryFault.{EntryFault}
use Rattle.reading.specs.Standing.{Standing}
use Rattle.codec.specs.Look.{Look}
use Rattle.codec.specs.Coded.{Follows, Read}
use Rattle.codec.specs.Pairs.{read_then}
use Rattle.sheets.specs.declared.call.RuleForm.{RuleForm}
use Rattle.sheets.specs.declared.call.Call.{Call}
use Rattle.calls.specs.Spell.{look_entry, to_form, look_weight, look_kind, look_call}

-- the form that the body of a rule's entry begins with
abbrev pub form_of : List ℕ → RuleForm
form_of b = record { from = get_or b 0 0; symbol = get_or b 1 0; to = get_or b 2 0; length = get_or b 3 0; first = get_or b 4 0; second = get_or b 5 0 }

-- a rule's own entry, then its weight
pub rule_read : {W : Type 0} (look : List ℕ → Look W) (form : RuleForm) (before mid after : Standing) (r : Result (Call W) EntryFault)
    → get_or before.left 0 0 ≡ 2 → Read (look_entry to_form 2 6) before mid (Ok form) → Read (look_weight look form) mid after r → Read (look_call look) before after r
rule_read look form before mid after r kind p q =
    subst (λ k. Follows (look_kind look k before.left) before after r) (sym kind)
    (read_then (look_entry to_form 2 6) (look_weight look) before mid after p q)
