use Rattle.std.proofs.Common.{◌+◌, ◌<◌, ◌≤◌, ◌++◌, length, sym, ap, ◌∙◌, subst, arith, List, drop}
use Rattle.std.specs.List.{AllByRecursion}
use Rattle.rq_model.specs.Queues.{Part, Move}
use Rattle.rq_model.specs.Redo.{GoesWell, sent}
use Rattle.rq_model.proofs.Lists.{each_weaker}
use Rattle.rq_queue.proofs.Ops.{first_of_rest}
use Rattle.rq_queue.proofs.Steps.{op_done, op_sent, op_well}
use Rattle.rq_queue.proofs.queue_redo.catch_up.Goals as goal

pub act-requires : goal.act-requires
act-requires c =
    let op = c.at-op.result in
    let ms = c.requires.well.0 in
    let here : c.loop-done.done < length c.args.ops.now = omega (arith, c.len.ensures) in
    let later : op.place ≤ c.args.until = omega arith in
    record {
      ready = (op_well c.redo_goes_well.ensures.steps c.loop-done.part c.args.ops.now c.loop-done.done op ms here
          (c.at-op.ensures c.at-op.result)
          (each_weaker (λ m. c.args.until ≤ m.place) (λ m. op.place ≤ m.place)
          (λ m k. omega arith) ms c.requires.well.1)
          (c.loop-done.invariant.well ms c.requires.well.1 c.requires.well.2)).0;
    }

pub loop-done-preserved : goal.loop-done-preserved
loop-done-preserved c =
    let done = c.loop-done.done in
    let op = c.at-op.result in
    let here : done < length c.args.ops.now = omega (arith, c.len.ensures) in
    let later : op.place ≤ c.args.until = omega arith in
    let since : (ms : List Move) → AllByRecursion (λ m. c.args.until ≤ m.place) ms
    → AllByRecursion (λ m. op.place ≤ m.place) ms
    = λ ms h. each_weaker (λ m. c.args.until ≤ m.place) (λ m. op.place ≤ m.place) (λ m k. omega arith) ms h in
    record {
      bound = omega arith;
      well = λ ms h w. subst (λ (p : Part). GoesWell p (drop (done + 1) c.args.ops.now) ms)
          (sym c.in_ok-act.ensures.part)
          ((op_well c.redo_goes_well.ensures.steps c.loop-done.part c.args.ops.now done op ms here (c.at-op.ensures c.at-op.result)
          (since ms h) (c.loop-done.invariant.well ms h w)).1);
      redone = λ ms h. c.loop-done.invariant.redone ms h
          ∙ op_done c.redo_steps.ensures c.loop-done.part c.act.new.self c.args.ops.now done op ms here
          (c.at-op.ensures c.at-op.result) c.in_ok-act.ensures.part (since ms h);
      sent = λ ms h. c.loop-done.invariant.sent ms h
          ∙ op_sent c.redo_steps.ensures c.loop-done.part c.act.new.self c.args.ops.now done op ms
          c.loop-done.sent.items c.act.new.sent.items here (c.at-op.ensures c.at-op.result) c.in_ok-act.ensures.part
          (c.in_ok-act.ensures.sent ∙ ap (λ (xs : List Move). xs ++ sent op.place op.does c.loop-done.part)
          c.make_room.ensures.same) (since ms h);
    }

pub returns-then-place-until-clause-stops : goal.returns-then-place-until-clause-stops
returns-then-place-until-clause-stops c op rest e =
    let same = c.at-op.ensures op ∙ first_of_rest c.args.ops.now c.loop-done.done op rest e in
    omega (arith, c.if-place-until.true, c.place.ensures, ap (λ o. o.place) same)
