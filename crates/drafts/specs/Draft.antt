-- What a draft is seen as, and what is true of its fields.
use Rattle.std.specs.Prelude.{◌≤◌, vec_items, vec_capacity}
use Rattle.sheets.specs.Sheet.{Sheet, Fits}
use Rattle.drafts.specs.declared.draft.Draft.TheInside.{Inside}
use Rattle.drafts.specs.declared.draft.TheConstants.{MOST_RULES, MOST_ARROWS}

-- the sheet that is written
abbrev pub sheet_of : Inside → Sheet
sheet_of d = record { counts = d.counts; rules = vec_items d.rules; arrows = vec_items d.arrows; finals = d.finals }

-- the sheet has passed its questions, and the vectors have room for all that may be added
pub record IsDraft (d : Inside) : Type 0 where
  pub fits : Fits (sheet_of d)
  pub rules_room : MOST_RULES ≤ vec_capacity d.rules
  pub arrows_room : MOST_ARROWS ≤ vec_capacity d.arrows
