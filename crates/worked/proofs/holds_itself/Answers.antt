use Rattle.pairs.specs.Pairs.{pair}
use Rattle.squares.specs.Squares.{square}
use Rattle.relations.specs.Relations.{relations}
use Rattle.lengths.specs.Lengths.{lengths}
use Rattle.worked.proofs.holds_itself.Goals as goal

pub returns : goal.returns
returns c = c.absorbs.ensures.1 ((pair (square lengths) relations).combine_same _)
