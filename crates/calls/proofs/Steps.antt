-- What one call does, by the step that its contract names.
use Rattle.std.proofs.Common.{List, Ok, Err, Result, ap}
use Rattle.sheets.specs.declared.fault.SheetFault.{SheetFault}
use Rattle.sheets.specs.Sheet.{Sheet}
use Rattle.sheets.specs.Questions.{at, onto, Took}

-- a call that works on the sheet alone leaves the strip
pub took_onto : {W : Type 0} (strip : List W) (r : Result Sheet SheetFault) (before after : Sheet) (a : Result (Unit {0}) SheetFault)
    → Took r tt before after a → Took (onto strip r) tt (at before strip) (at after strip) a
took_onto strip (Ok s) before after a t = record { state = ap (λ k. at k strip) t.state; answer = t.answer }
took_onto strip (Err e) before after a t = record { state = ap (λ k. at k strip) t.state; answer = t.answer }
