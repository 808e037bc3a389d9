use Rattle.std.proofs.Common.{◌≡◌, ◌-◌, length, take, drop, rules, arith, length-drop}
use Rattle.std.proofs.lemmas.List.{take_all}
use Rattle.calls.specs.declared.kind.Kind.TheVariants.{Size, Rule, Arrow, Final}
use Rattle.calls.proofs.OneCall.{form_of, rule_read}
use Rattle.calls.proofs.read.read_call.Goals as goal

pub returns-in_err-kind-clause-reads : goal.returns-in_err-kind-clause-reads
returns-in_err-kind-clause-reads g c =
    let other = c.in_err-kind.ensures.1 in
    search (rules, other Size, other Rule, other Arrow, other Final)

pub returns-in_err-weight-in-Rule-len6-up-clause-reads : goal.returns-in_err-weight-in-Rule-len6-up-clause-reads
returns-in_err-weight-in-Rule-len6-up-clause-reads g c =
    rule_read g.W.Coded.look (form_of (drop 1 c.rest.result.now)) c.args.from.now c.pass-in-Rule-len6-up.new.self c.read.new.from _ (search rules) (search rules) (search rules)

pub returns-in_ok-weight-in-Rule-len6-up-clause-reads : goal.returns-in_ok-weight-in-Rule-len6-up-clause-reads
returns-in_ok-weight-in-Rule-len6-up-clause-reads g c =
    let l = c.rest.result.now in
    let body : take (length l - 1) (drop 1 l) ≡ drop 1 l = take_all (length l - 1) (drop 1 l) (omega (arith, length-drop 1 l)) in
    rw body (rule_read g.W.Coded.look (form_of (drop 1 l)) c.args.from.now c.pass-in-Rule-len6-up.new.self c.read.new.from _ (search rules) (search rules) (search rules))
