use Rattle.std.proofs.Common.{◌≡◌, ◌++◌, ◌+◌, ◌-◌, ℕ, List, length, drop, refl, sym, ap, subst, ◌∙◌, arith}
use Rattle.rq_model.specs.Records.{Two}
use Rattle.rq_model.specs.Frames.{frames, header, start, before, IsBodyLength}
use Rattle.rq_model.proofs.Restarts.{header_long}
use Rattle.rq_restart.specs.Upgrades.{HaveFrames, bodies_in}
use Rattle.rq_judged.proofs.Starts.{framed}
use Rattle.rq_restart.proofs.Upgradings.{IsNext, header_ends, next_at, one_chained, all_chained}
use Rattle.rq_restart.proofs.upgrades.chained_anew.Goals as goal
use Rattle.rq_restart.proofs.upgrades.chained_anew.Goals.{In_ok-header_of, In-loop}

begun : (c : In_ok-header_of) → c.header_of.new.out.items ≡ header Two
begun c = c.in_ok-header_of.ensures ∙ ap (λ (z : List ℕ). z ++ header Two) c.in_ok-out.ensures.items

next : (c : In-loop) → IsNext c.args.bytes.now c.loop.at (c.args.count - (c.loop.counter + 1))
next c = next_at c.args.bytes.now c.loop.at (c.args.count - c.loop.counter) (c.args.count - (c.loop.counter + 1))
    (omega (arith, c.loop-test.true)) c.loop.invariant.chained.stand

pub loop-init : goal.loop-init
loop-init c =
    let out = begun c in
    let last = header_ends c.header_of.new.out.items out in
    let all : c.args.count ≡ c.args.count - 0 = omega arith in
    record {
      some = omega (arith, ap length out, header_long Two);
      chained = record {
        stand = subst (λ (n : ℕ). HaveFrames n (drop 40 c.args.bytes.now)) all c.requires;
        chained = λ i. out i ++ frames (last i) (bodies_in (sym all i) (drop 40 c.args.bytes.now));
      };
    }

pub body_at-body-requires : goal.body_at-body-requires
body_at-body-requires c = (next c).frame

pub append_next-requires-clause-body : goal.append_next-requires-clause-body
append_next-requires-clause-body c =
    let step = next (goal.at.append_next-requires-clause-body c).In-loop in
    subst (λ (n : ℕ). IsBodyLength n) (sym (ap length c.body_at-body.ensures ∙ step.long)) step.frame.in_range

pub overflow_add-at-in-loop : goal.overflow_add-at-in-loop
overflow_add-at-in-loop c =
    let step = next (goal.at.overflow_add-at-in-loop c).In-loop in
    let size = ap length c.body_at-body.ensures ∙ step.long in
    omega (arith, step.room, size)

pub loop-preserved : goal.loop-preserved
loop-preserved c =
    let b = c.args.bytes.now in
    let left = c.args.count - c.loop.counter in
    let more = c.args.count - (c.loop.counter + 1) in
    let body = c.body_at-body.result.now in
    let old = c.loop.out.items in
    let new = c.append_next.new.out.items in
    let last = before (length old) old in
    let whole = header Two ++ frames (start Two) (bodies_in c.args.count (drop 40 b)) in
    let is = framed old new last body c.in_ok-append_next.ensures.bytes in
    record {
      some = is.long;
      chained = one_chained b c.loop.at left more (c.loop.at + (36 + length body)) old last whole body new
          (before (length new) new)
          (omega (arith, c.loop-test.true)) c.loop.invariant.chained c.body_at-body.ensures refl
          c.in_ok-append_next.ensures.bytes is.last;
    }

pub returns-clause-chained : goal.returns-clause-chained
returns-clause-chained c =
    let b = c.args.bytes.now in
    let out = c.loop.out.items in
    let whole = header Two ++ frames (start Two) (bodies_in c.args.count (drop 40 b)) in
    all_chained b c.loop.at (c.args.count - c.loop.counter) out (before (length out) out) whole
    (omega (arith, c.loop-test.false)) c.loop.invariant.chained
