use Rattle.std.proofs.Common.{length}
use Rattle.sheets.specs.Questions.{at}
use Rattle.loading.proofs.Turns.{Keeps}
use Rattle.loading.proofs.load.load.Given as goal

abbrev pub invariant-loop-draft : goal.invariant-loop-draft
invariant-loop-draft g l =
    Keeps g.W.Coded.look g.W.Coded.bytes l.bytes (at l.initial.draft l.initial.strip) l.reader (at l.draft l.strip)

abbrev pub decreases-loop-draft : goal.decreases-loop-draft
decreases-loop-draft g l = length l.reader.left
