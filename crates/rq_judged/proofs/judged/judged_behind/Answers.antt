use Rattle.std.proofs.Common.{◌∙◌, ℕ, List, refl, subst, arith}
use Rattle.rq_record.specs.Views.{version_of}
use Rattle.rq_front.specs.Chains.{bodies_at}
use Rattle.rq_front.specs.declared.spans.Span.{Span}
use Rattle.rq_model.specs.StateSpelling.{carried_next}
use Rattle.rq_judged.specs.Checkpoints.{IsBegun}
use Rattle.rq_judged.specs.Passes.{AreJudged}
use Rattle.rq_judged.specs.Views.{why_of}
use Rattle.rq_judged.proofs.Checkpoints.{IsJudgedFrom, judged_from}
use Rattle.rq_judged.proofs.judged.judged_behind.Goals as goal
use Rattle.rq_judged.proofs.judged.judged_behind.Goals.{After-end_of-end}

judged : (c : After-end_of-end) (offset : ℕ) (is : IsBegun carried_next c.args.bytes.now offset c.args.begun.now)
    → IsJudgedFrom carried_next c.args.bytes.now offset c.args.begun.now is.kept c.judge_each.new.judge
    c.in_ok-reach.reach.lawful c.end_of-end.result.0 (why_of c.end_of-end.result.1)
judged c offset is =
    let b = c.args.bytes.now in
    let x = c.args.begun.now in
    let version = version_of x.version in
    let are = subst (λ (ss : List Span). AreJudged version x.state
    (bodies_at b ss) c.judge_each.new.judge c.in_ok-reach.reach) c.deref.ensures.value
    (c.in_ok-reach.ensures.judged version x.state c.in_ok-judge.ensures.stands) in
    judged_from c.frames_are_right.ensures.right c.frames_join.ensures.frames c.one_front.ensures.from_run carried_next b
    offset x is c.judge_each.new.judge c.in_ok-reach.reach are
    (c.end_of-end.result.0, why_of c.end_of-end.result.1) c.end_of-end.ensures

pub before-requires-clause-after : goal.before-requires-clause-after
before-requires-clause-after c = omega (arith, (judged c c.requires.0 c.requires.1).past)

pub before-requires-clause-within : goal.before-requires-clause-within
before-requires-clause-within c = (judged c c.requires.0 c.requires.1).within

pub returns-clause-judged : goal.returns-clause-judged
returns-clause-judged c = λ offset begun.
    let is = judged ((goal.at.returns-clause-judged c).After-end_of-end) offset begun in
    record {
      is = record {
        version = version_of c.args.begun.now.version;
        base = c.args.begun.now.state;
        kept = begun.kept;
        after = is.after;
        front = is.from.front;
        ends = is.from.ends;
        used = is.from.used;
        count = is.count;
        last = c.before-2.ensures ∙ is.from.last;
        judge = is.judge;
      };
      begins = refl;
      few = is.few;
    }
