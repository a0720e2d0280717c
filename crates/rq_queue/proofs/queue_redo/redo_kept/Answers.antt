use Rattle.std.proofs.Common.{sym, ap, ◌∙◌, ◌++◌, subst, List}
use Rattle.rq_model.specs.Queues.{Move}
use Rattle.rq_model.specs.Redo.{all_sent}
use Rattle.rq_queue.specs.Case.{AreRising}
use Rattle.rq_queue.proofs.Cases.{goes_well, arrivals_rise, redone_part, sent_moves}
use Rattle.rq_queue.proofs.queue_redo.redo_kept.Goals as goal

pub redo_in_order-requires-clause-well : goal.redo_in_order-requires-clause-well
redo_in_order-requires-clause-well c =
    goes_well c.redo_goes_well.ensures.well c.requires.0 c.requires.1 c.requires.2 c.args.part c.args.ops.now
    c.args.arrivals.items c.requires.3

pub redo_in_order-requires-clause-rising : goal.redo_in_order-requires-clause-rising
redo_in_order-requires-clause-rising c =
    subst AreRising (sym c.requires.3.are_arrivals) (arrivals_rise c.requires.1 c.requires.2 c.args.part.queue)

pub returns-clause-redone : goal.returns-clause-redone
returns-clause-redone c = λ version s rs k.
    let ops = c.args.ops.now in
    let ms = c.args.arrivals.items in (
      c.in_ok-redo_in_order.ensures.part ∙ redone_part c.projection.ensures version s rs c.args.part ops ms k,
      c.shrink_to_fit.ensures.items ∙ (c.in_ok-redo_in_order.ensures.sent
          ∙ (ap (λ (sent : List Move). sent ++ all_sent c.args.part ops ms) c.new-sent.ensures.items
          ∙ sent_moves c.projection.ensures version s rs c.args.part ops ms k)),
    )
