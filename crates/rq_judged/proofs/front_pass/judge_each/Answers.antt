use Rattle.std.proofs.Common.{[], refl, subst, arith}
use Rattle.rq_model.specs.Machine.{run}
use Rattle.rq_front.specs.declared.spans.Span.{Span}
use Rattle.rq_judged.specs.Passes.{IsVerdict}
use Rattle.rq_judged.proofs.Readings.{one_more, stops_unlawful, stops_unread, all_judged}
use Rattle.rq_judged.proofs.front_pass.judge_each.Goals as goal

abbrev none : Span
none = record { start = 0; len = 0 }

pub loop-lawful-init : goal.loop-lawful-init
loop-lawful-init c = λ version s stands. ([], record { records = tt; lawful = refl; spelled = refl; judge = stands })

pub loop-lawful-preserved : goal.loop-lawful-preserved
loop-lawful-preserved c = λ version s stands.
    let (kept, are) = c.loop-lawful.invariant version s stands in
    one_more version s c.args.bytes.now c.args.spans.now c.loop-lawful.lawful none (omega (arith, c.loop-lawful-test.true))
    c.loop-lawful.judge c.judge_one.new.judge kept are
    (subst (IsVerdict version (run s kept) _ c.judge_one.new.judge) c.in-Lawful.is
    (c.in_ok-judge_one.ensures.verdict version (run s kept) are.judge))

pub returns-in-Unlawful-clause-judged : goal.returns-in-Unlawful-clause-judged
returns-in-Unlawful-clause-judged c = λ version s stands.
    let (kept, are) = c.loop-lawful.invariant version s stands in
    stops_unlawful version s c.args.bytes.now c.args.spans.now c.loop-lawful.lawful none (omega (arith, c.loop-lawful-test.true))
    c.loop-lawful.judge c.judge_one.new.judge kept are
    (subst (IsVerdict version (run s kept) _ c.judge_one.new.judge) c.in-Unlawful.is
    (c.in_ok-judge_one.ensures.verdict version (run s kept) are.judge))

pub returns-in-NoRecord-clause-judged : goal.returns-in-NoRecord-clause-judged
returns-in-NoRecord-clause-judged c = λ version s stands.
    let (kept, are) = c.loop-lawful.invariant version s stands in
    stops_unread version s c.args.bytes.now c.args.spans.now c.loop-lawful.lawful none (omega (arith, c.loop-lawful-test.true))
    c.loop-lawful.judge c.judge_one.new.judge kept are
    (subst (IsVerdict version (run s kept) _ c.judge_one.new.judge) c.in-NoRecord.is
    (c.in_ok-judge_one.ensures.verdict version (run s kept) are.judge))

pub returns-clause-judged : goal.returns-clause-judged
returns-clause-judged c = λ version s stands.
    let is = c.loop-lawful.invariant version s stands in
    all_judged version s c.args.bytes.now c.args.spans.now c.loop-lawful.lawful c.loop-lawful.judge is.0
    (omega (arith, c.loop-lawful-test.false)) is.1
