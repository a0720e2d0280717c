use Rattle.std.proofs.Common.{arith, ◌∙◌, ◌<◌, [], get_or, refl, sym, subst}
use Rattle.rq_model.specs.Records.{Abort}
use Rattle.rq_standing.specs.Parts.{Sends}
use Rattle.rq_standing.proofs.UnitEnds.{end_next, sends_next, none_sent, room_next}
use Rattle.rq_standing.proofs.parts.abort_all.Goals as goal

pub loop-queue-init : goal.loop-queue-init
loop-queue-init c = record {
  size = refl;
  ended = λ q. refl;
  sends = λ ts send. subst (Sends [] ts) (sym c.new-sent.ensures.items) (none_sent ts);
}

pub abort_on-requires : goal.abort_on-requires
abort_on-requires c = record {
  room = λ within.
      let q = get_or c.args.queues.now c.loop-queue.queue-index 0 in
      room_next c.args.place c.args.unit.0 _ c.args.parts.now.items c.loop-queue.parts.items c.loop-queue.invariant.ended q
      (c.requires.room q (subst (λ n. q < n) c.loop-queue.invariant.size within));
}

pub loop-queue-preserved : goal.loop-queue-preserved
loop-queue-preserved c =
    let before = c.loop-queue.invariant in
    record {
      size = c.in_ok-abort_on.ensures.size ∙ before.size;
      ended = end_next c.args.place (Abort c.args.unit.0)
          (c.step_by_parts.ensures.ends.aborts_once c.args.place c.args.unit.0) _ 0 _ _ _ _
          (omega (arith, c.loop-queue-test.true)) before.size before.ended c.in_ok-abort_on.ensures.aborted;
      sends = λ ts send. sends_next c.step_by_parts.ensures.ends c.args.place c.args.unit.0 _ 0 _ _ _ _ _ ts
          (omega (arith, c.loop-queue-test.true)) before.size before.ended send c.in_ok-abort_on.ensures.sent
          (before.sends ts send);
    }
