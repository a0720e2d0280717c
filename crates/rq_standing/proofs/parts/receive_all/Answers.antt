use Rattle.std.proofs.Common.{◌∙◌, ap, arith, reverse, subst, sym, List}
use Rattle.std.proofs.lemmas.List.{reverse-reverse}
use Rattle.rq_model.specs.Queues.{Move}
use Rattle.rq_standing.proofs.UnitEnds.{AreLeft, all_left, none_left, next_new, left_next, popped}
use Rattle.rq_standing.proofs.parts.receive_all.Goals as goal

pub loop-arrival-init : goal.loop-arrival-init
loop-arrival-init c = subst (λ (ms : List Move). AreLeft ms c.args.arrivals.items c.args.parts.now.items c.args.parts.now.items)
    (sym (ap reverse c.reverse.ensures.items ∙ reverse-reverse c.args.arrivals.items))
    (all_left c.args.arrivals.items c.args.parts.now.items c.requires.new)

pub receive_on-requires : goal.receive_on-requires
receive_on-requires c = record {
  new = next_new c.in-Some.arrival (reverse c.pop.new.self.items) c.args.arrivals.items c.args.parts.now.items
      c.loop-arrival.parts.items
      (subst (λ (ms : List Move). AreLeft ms c.args.arrivals.items c.args.parts.now.items c.loop-arrival.parts.items)
      (popped c.loop-arrival.coming.items c.pop.new.self.items c.in-Some.arrival c.in-Some.ensures.items)
      c.loop-arrival.invariant);
}

pub loop-arrival-preserved : goal.loop-arrival-preserved
loop-arrival-preserved c = left_next c.in-Some.arrival (reverse c.pop.new.self.items) c.args.arrivals.items
    c.args.parts.now.items c.loop-arrival.parts.items c.receive_on.new.parts.items
    (subst (λ (ms : List Move). AreLeft ms c.args.arrivals.items c.args.parts.now.items c.loop-arrival.parts.items)
    (popped c.loop-arrival.coming.items c.pop.new.self.items c.in-Some.arrival c.in-Some.ensures.items)
    c.loop-arrival.invariant)
    c.in_ok-receive_on.ensures.size c.in_ok-receive_on.ensures.received

pub returns-clause-received : goal.returns-clause-received
returns-clause-received c = none_left c.args.arrivals.items c.loop-arrival.coming.items c.args.parts.now.items
    c.loop-arrival.parts.items (omega (arith, c.loop-arrival.coming.ok.0, c.in_default.ensures.cases.0))
    c.loop-arrival.invariant
