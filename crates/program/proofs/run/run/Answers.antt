use Rattle.std.proofs.Common.{◌≤◌, length, arith}
use Rattle.std.proofs.lemmas.Bool.{le-leb}
use Rattle.program.proofs.run.run.Goals as goal

pub returns : goal.returns
returns g c =
    let short : length c.args.input.now ≤ 16384 = omega arith in (
      c.zero-cell.result,
      c.zero-cell.ensures,
      rw (le-leb _ _ short) (rw (c.in_ok-new.ensures, c.in_ok-strip_of.ensures) at c.load_into.ensures),
    )
