use Rattle.std.proofs.Common.{◌≡◌, ◌<◌, ◌≤◌, drop, sym, ap, ◌∙◌, subst, arith, List, ◌∷◌, ◌++◌, reverse}
use Rattle.std.specs.List.{AllByRecursion}
use Rattle.rq_model.specs.Queues.{Part, Op, Move}
use Rattle.rq_model.specs.Redo.{GoesWell, redone, all_sent}
use Rattle.rq_model.proofs.Lists.{each_weaker}
use Rattle.rq_queue.specs.Case.{AreRising}
use Rattle.rq_queue.proofs.Doing.{popped}
use Rattle.rq_queue.proofs.Steps.{arrived, arrived_well}
use Rattle.rq_queue.proofs.queue_redo.redo_in_order.Goals as goal

pub catch_up-requires-clause-well : goal.catch_up-requires-clause-well
catch_up-requires-clause-well c =
    let m = c.in-Some.arrival in
    let left = reverse c.pop.new.self.items in
    let back = popped c.loop-arrival.arrivals.items c.pop.new.self.items m c.in-Some.ensures.items in
    let since : AllByRecursion (λ n. c.place.result ≤ n.place) (m ∷ left)
    = (
      omega arith,
      each_weaker (λ n. m.place ≤ n.place) (λ n. c.place.result ≤ n.place) (λ n h. omega arith) left
          (subst AreRising back c.loop-arrival.invariant.rising).0,
    ) in
    let well = subst (GoesWell c.loop-arrival.part (drop c.loop-arrival.done c.args.ops.now)) back
    c.loop-arrival.invariant.well in
    (m ∷ left, since, well)

pub receive-requires : goal.receive-requires
receive-requires c =
    let m = c.in-Some.arrival in
    let left = reverse c.pop.new.self.items in
    let back = popped c.loop-arrival.arrivals.items c.pop.new.self.items m c.in-Some.ensures.items in
    let since : AllByRecursion (λ n. c.place.result ≤ n.place) (m ∷ left)
    = (
      omega arith,
      each_weaker (λ n. m.place ≤ n.place) (λ n. c.place.result ≤ n.place) (λ n h. omega arith) left
          (subst AreRising back c.loop-arrival.invariant.rising).0,
    ) in
    let well = subst (GoesWell c.loop-arrival.part (drop c.loop-arrival.done c.args.ops.now)) back
    c.loop-arrival.invariant.well in
    let rest_ops = drop c.in_ok-done.done c.args.ops.now in
    let stops : (op : Op) (ops : List Op) → rest_ops ≡ op ∷ ops → m.place < op.place
    = λ op ops e. let s : c.place.result < op.place = c.in_ok-done.ensures.stops op ops e in omega arith in
    let then = arrived_well c.redo_goes_well.ensures.steps c.catch_up.new.part rest_ops m left stops
    (c.in_ok-done.ensures.well (m ∷ left) since well) in
    record { new = then.0 }

pub loop-arrival-preserved : goal.loop-arrival-preserved
loop-arrival-preserved c =
    let m = c.in-Some.arrival in
    let left = reverse c.pop.new.self.items in
    let back = popped c.loop-arrival.arrivals.items c.pop.new.self.items m c.in-Some.ensures.items in
    let since : AllByRecursion (λ n. c.place.result ≤ n.place) (m ∷ left)
    = (
      omega arith,
      each_weaker (λ n. m.place ≤ n.place) (λ n. c.place.result ≤ n.place) (λ n h. omega arith) left
          (subst AreRising back c.loop-arrival.invariant.rising).0,
    ) in
    let well = subst (GoesWell c.loop-arrival.part (drop c.loop-arrival.done c.args.ops.now)) back
    c.loop-arrival.invariant.well in
    let rest_ops = drop c.in_ok-done.done c.args.ops.now in
    let stops : (op : Op) (ops : List Op) → rest_ops ≡ op ∷ ops → m.place < op.place
    = λ op ops e. let s : c.place.result < op.place = c.in_ok-done.ensures.stops op ops e in omega arith in
    let then = arrived_well c.redo_goes_well.ensures.steps c.catch_up.new.part rest_ops m left stops
    (c.in_ok-done.ensures.well (m ∷ left) since well) in
    record {
      bound = c.in_ok-done.ensures.bound;
      rising = (subst AreRising back c.loop-arrival.invariant.rising).1;
      well = subst (λ (q : Part). GoesWell q rest_ops left) (sym c.in_ok-receive.ensures.part) then.1;
      redone = c.loop-arrival.invariant.redone
          ∙ (ap (redone c.loop-arrival.part (drop c.loop-arrival.done c.args.ops.now)) back
          ∙ (c.in_ok-done.ensures.redone (m ∷ left) since
          ∙ ((arrived c.redo_steps.ensures c.catch_up.new.part rest_ops m left stops).0
          ∙ ap (λ (q : Part). redone q rest_ops left) (sym c.in_ok-receive.ensures.part))));
      sent = c.loop-arrival.invariant.sent
          ∙ (ap (λ (ms : List Move). c.loop-arrival.sent.items
          ++ all_sent c.loop-arrival.part (drop c.loop-arrival.done c.args.ops.now) ms) back
          ∙ (c.in_ok-done.ensures.sent (m ∷ left) since
          ∙ ap (λ (x : List Move). c.catch_up.new.sent.items ++ x)
          ((arrived c.redo_steps.ensures c.catch_up.new.part rest_ops m left stops).1
          ∙ ap (λ (q : Part). all_sent q rest_ops left) (sym c.in_ok-receive.ensures.part))));
    }
