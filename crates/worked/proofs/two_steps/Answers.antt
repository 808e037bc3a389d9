use Rattle.std.proofs.Common.{rules}
use Rattle.worked.proofs.Numbers.{way_number}
use Rattle.worked.proofs.two_steps.Goals as goal

pub returns : goal.returns
returns c =
    let a = c.args.a in
    let b = c.args.b in
    let r = c.extend.result in
    let is = c.extend.ensures in
    record {
      w00 = way_number r.w00.0 a.w00.0 b.w00.0 a.w01.0 b.w10.0 (search rules) is.w00;
      w01 = way_number r.w01.0 a.w00.0 b.w01.0 a.w01.0 b.w11.0 (search rules) is.w01;
      w10 = way_number r.w10.0 a.w10.0 b.w00.0 a.w11.0 b.w10.0 (search rules) is.w10;
      w11 = way_number r.w11.0 a.w10.0 b.w01.0 a.w11.0 b.w11.0 (search rules) is.w11;
    }
