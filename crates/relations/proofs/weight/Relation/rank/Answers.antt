use Rattle.std.proofs.Common.{◌^◌, ◌<◌, sym, ◌∙◌, arith, rules}
use Rattle.relations.proofs.Pairs.{absent_and_ones, absent_is_zeros}
use Rattle.relations.proofs.weight.Relation.rank.Goals as goal

pub returns : goal.returns
returns c =
    let fits : c.args.self.0 < 2 ^ 64 = search rules in
    let zeros = c.count_zeros.ensures.value ∙ sym (absent_is_zeros c.args.self.0 fits) in
    record { number = omega (arith, zeros, absent_and_ones c.args.self.0 fits); falling = zeros }
