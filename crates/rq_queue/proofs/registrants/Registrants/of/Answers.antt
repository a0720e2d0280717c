use Rattle.std.proofs.Common.{◌∙◌, ap, map, sym, subst, List}
use Rattle.rq_model.specs.States.{Registrant}
use Rattle.rq_queue.specs.Roll.{IsRoll, registrant_of, entry_of}
use Rattle.rq_queue.proofs.Registered.{own_rise, own_again, first_begins, second_begins, second_ends}
use Rattle.rq_queue.proofs.registrants.Registrants.of.Goals as goal

pub fill-requires-clause-rise : goal.fill-requires-clause-rise
fill-requires-clause-rise c = subst (λ (rs : List Registrant). IsRoll (map entry_of rs)) (sym c.registrants_of-own.ensures)
    (own_rise c.args.queue.0 c.args.state.now.registrants c.is_well_formed.ensures.registrants_rise)

pub fill-requires-clause-early : goal.fill-requires-clause-early
fill-requires-clause-early c = c.none-all.ensures ∙ first_begins (map entry_of c.registrants_of-own.result.now)

pub fill-requires-2-clause-rise : goal.fill-requires-2-clause-rise
fill-requires-2-clause-rise c = subst (λ (rs : List Registrant). IsRoll (map entry_of rs)) (sym c.registrants_of-own.ensures)
    (own_rise c.args.queue.0 c.args.state.now.registrants c.is_well_formed.ensures.registrants_rise)

pub fill-requires-2-clause-early : goal.fill-requires-2-clause-early
fill-requires-2-clause-early c = c.in_ok-fill.ensures.done ∙ second_begins (map entry_of c.registrants_of-own.result.now)

pub returns-clause-done : goal.returns-clause-done
returns-clause-done c = ap (map (registrant_of c.args.queue.0)) (c.in_ok-fill-2.ensures.done
    ∙ (second_ends (map entry_of c.registrants_of-own.result.now) ∙ ap (map entry_of) c.registrants_of-own.ensures))
    ∙ own_again c.args.queue.0 c.args.state.now.registrants
