use Rattle.std.proofs.Common.{sym}
use Rattle.std.proofs.lemmas.Result.{err_from_is_err_and}
use Rattle.std.proofs.lemmas.Bool.{not-true, not-false}
use Rattle.sheets.specs.Questions.{at}
use Rattle.loading.proofs.Turns.{starts, turn, at_end, at_fault}
use Rattle.loading.proofs.load.load.Goals as goal

pub loop-draft-init : goal.loop-draft-init
loop-draft-init g c =
    starts g.W.Coded.look g.W.Coded.bytes c.args.bytes.now (at c.args.draft.now c.args.strip.now) c.new-reader.result c.new-reader.ensures

pub loop-draft-preserved : goal.loop-draft-preserved
loop-draft-preserved g c =
    (turn g.W.Coded.look g.W.Coded.bytes c.args.bytes.now (at c.args.draft.now c.args.strip.now) c.loop-draft.reader c.load_call.new.from
    (at c.loop-draft.draft c.loop-draft.strip) (at c.load_call.new.draft c.load_call.new.strip)
    c.loop-draft.invariant (not-true _ (sym c.loop-draft-test.ensures)) c.in_ok-load_call.ensures).keeps

pub loop-draft-smaller : goal.loop-draft-smaller
loop-draft-smaller g c =
    (turn g.W.Coded.look g.W.Coded.bytes c.args.bytes.now (at c.args.draft.now c.args.strip.now) c.loop-draft.reader c.load_call.new.from
    (at c.loop-draft.draft c.loop-draft.strip) (at c.load_call.new.draft c.load_call.new.strip)
    c.loop-draft.invariant (not-true _ (sym c.loop-draft-test.ensures)) c.in_ok-load_call.ensures).less

pub returns-in_err-load_call : goal.returns-in_err-load_call
returns-in_err-load_call g c =
    let p = err_from_is_err_and c.from_residual.result c.from_residual.ensures.1 in
    let k = at_fault g.W.Coded.look g.W.Coded.bytes c.args.bytes.now c.args.draft.now c.args.strip.now c.loop-draft.reader
    (at c.loop-draft.draft c.loop-draft.strip) (at c.load_call.new.draft c.load_call.new.strip) c.in_err-load_call.field-0.0
    c.loop-draft.invariant (not-true _ (sym c.loop-draft-test.ensures)) c.in_err-load_call.ensures in
    rw (p.1, p.2) (record { state = k.state; answer = k.answer; again = k.again })

pub returns : goal.returns
returns g c =
    let k = at_end g.W.Coded.look g.W.Coded.bytes c.args.bytes.now c.args.draft.now c.args.strip.now c.loop-draft.reader
    (at c.loop-draft.draft c.loop-draft.strip) c.place.result c.loop-draft.invariant (not-false _ (sym c.loop-draft-test.ensures)) c.place.ensures.place in
    record { state = k.state; answer = k.answer; again = k.again }
