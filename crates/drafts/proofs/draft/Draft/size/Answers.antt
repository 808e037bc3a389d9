use Rattle.std.proofs.Common.{arith}
use Rattle.std.proofs.lemmas.Grind.{common_steps}
use Rattle.drafts.specs.Draft.{sheet_of}
use Rattle.drafts.proofs.Fits.{fits_with_counts}
use Rattle.drafts.proofs.draft.Draft.size.Goals as goal

pub invariant_of-self : goal.invariant_of-self
invariant_of-self c = record {
  fits = fits_with_counts (sheet_of c.self.inside) c.args.counts c.self.invariant.fits (grind (arith, common_steps)) (grind (arith, common_steps));
  rules_room = c.self.invariant.rules_room;
  arrows_room = c.self.invariant.arrows_room;
}

pub returns-clause-fits : goal.returns-clause-fits
returns-clause-fits c = fits_with_counts (sheet_of c.self.inside) c.args.counts c.self.invariant.fits (grind (arith, common_steps)) (grind (arith, common_steps))
