use Rattle.std.proofs.Common.{arith}
use Rattle.relations.specs.Relations.{pairs}
use Rattle.relations.proofs.Pairs.{pairs_composed}
use Rattle.relations.proofs.Rows.{composing_more, rows_composed}
use Rattle.relations.proofs.weight.RelationWeight.extend.Goals as goal

pub loop-row-preserved : goal.loop-row-preserved
loop-row-preserved c =
    composing_more _ _ _ _ _ (omega (arith, c.loop-row-test.true)) c.loop-row.invariant c.united.ensures (omega arith)

pub returns : goal.returns
returns c =
    let a = c.args.self.0 in
    let b = c.args.other.0 in
    let out = c.from_le_bytes.result in
    let rows = c.to_le_bytes-rows.result in
    let composed = c.loop-row.row-items in
    let made = rows_composed a b out _ rows composed c.to_le_bytes-composed.ensures c.to_le_bytes-rows.ensures c.from_le_bytes.ensures (omega arith)
    (λ i h. c.loop-row.invariant.made i (omega arith)) in
    record { means = made; way = pairs_composed out (pairs a) (pairs b) made }
