use Rattle.std.proofs.Common.{◌≡◌, ap, ◌∙◌}
use Rattle.rq_exchange.proofs.Words.{State, id_before, registrant_before, state_in_order, place_before, IsRedoneTo}
use Rattle.rq_exchange.proofs.Words.{members, is_same}
use Rattle.rq_state.specs.Inside.{state_of}
use Rattle.rq_state.specs.Laws.{HasSame}
use Rattle.rq_exchange.proofs.gathered.AllRedone.gather.Goals.{In_ok-fields}
use Rattle.rq_exchange.proofs.gathered.AllRedone.gather.Goals as goal

same : (c : In_ok-fields) (t : State) → IsRedoneTo t c.args.self → HasSame t (state_of c.in_ok-fields.fields)
same c t all =
    let poured = c.in_ok-fields.ensures.poured t all.parts in
    let whole = c.parts_make_the_state.ensures t all.well in
    record {
      next = poured.next ∙ all.fields.next;
      greatest = poured.greatest ∙ all.fields.greatest;
      committed = poured.committed ∙ all.fields.committed;
      aborted = poured.aborted ∙ all.fields.aborted;
      definitions = rw poured.definitions all.fields.definitions;
      units = is_same _ _ (rw poured.units all.fields.units);
      registrants = members registrant_before _ _ _ _ (ap (λ (s : State). s.registrants) whole)
          all.fields.registrants (rw all.every at poured.registrants);
      elements = members id_before _ _ _ _ (ap (λ (s : State). s.elements) whole) all.fields.elements
          (rw all.every at poured.elements);
      notes = members place_before _ _ _ _ (ap (λ (s : State). s.notes) whole) all.fields.notes
          (rw all.every at poured.notes);
    }

-- the fields, put in order, are the state that all is redone to
ordered : (c : In_ok-fields) (t : State) → IsRedoneTo t c.args.self
    → state_in_order (state_of c.in_ok-fields.fields) ≡ t
ordered c t all = c.any_order_makes_the_state.ensures t (state_of c.in_ok-fields.fields) all.well (same c t all)

pub build_kept-requires : goal.build_kept-requires
build_kept-requires c =
    let all = c.requires.redone in
    rw (ordered (goal.at.build_kept-requires c).In_ok-fields all.0 all.1) all.1.well

pub returns-clause-state : goal.returns-clause-state
returns-clause-state c = λ t all. c.in_ok-state.ensures.built
    ∙ ordered (goal.at.returns-clause-state c).In_ok-fields t all
