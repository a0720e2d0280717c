use Rattle.std.proofs.Common.{◌≡◌, ◌<◌, ◌≤◌, ◌^◌, ◌∙◌, length, map, ap, sym, subst}
use Rattle.std.specs.List.{flat_map}
use Rattle.std.proofs.lemmas.List.{length-map}
use Rattle.rq_model.specs.Queues.{Part}
use Rattle.rq_model.specs.States.{State}
use Rattle.rq_model.specs.StateSpelling.{state_bytes}
use Rattle.rq_state.specs.Spelling.{IsWritten}
use Rattle.rq_state.specs.Views.{unit_of}
use Rattle.rq_standing.specs.Stands.{HoldsState}
use Rattle.rq_standing.proofs.Together.{registrants_together}
use Rattle.rq_standing.proofs.Units.{keys_are}
use Rattle.rq_standing.proofs.queues.Queues.spell.Goals as goal
use Rattle.rq_standing.proofs.queues.Queues.spell.Goals.{After-deref-6}

-- the state whose members are lent
abbrev lent : After-deref-6 → State
lent c = record {
  next = c.args.self.now.next;
  greatest = c.args.self.now.greatest;
  committed = c.args.self.now.committed;
  aborted = c.args.self.now.aborted;
  definitions = c.deref-2.result.now;
  units = map unit_of c.deref-3.result.now;
  registrants = c.deref-4.result.now;
  elements = c.deref-5.result.now;
  notes = c.deref-6.result.now;
}

lent_is : (c : After-deref-6) (t : State) → HoldsState c.args.self.now t → lent c ≡ t
lent_is c t holds = λ i. record {
  next = holds.next i;
  greatest = holds.greatest i;
  committed = holds.committed i;
  aborted = holds.aborted i;
  definitions = (c.deref-2.ensures.value ∙ holds.definitions) i;
  units = (ap (map unit_of) c.deref-3.ensures.value ∙ c.in_ok-units.ensures.numbers
      ∙ keys_are c.args.self.now.units t holds.well c.in_ok-units.ensures.ordered holds.units) i;
  registrants = (c.deref-4.ensures.value ∙ c.in_ok-registrants.ensures.lent
      ∙ ap (flat_map (λ (p : Part). p.registrants)) c.deref.ensures.value
      ∙ registrants_together c.parts_make_the_state.ensures t c.args.self.now.parts.items holds.well holds.parts
      holds.size) i;
  elements = (c.deref-5.ensures.value ∙ c.in_ok-elements.ensures.lent t holds) i;
  notes = (c.deref-6.ensures.value ∙ c.in_ok-notes.ensures.lent t holds) i;
}

pub returns : goal.returns
returns c = λ t holds. subst (λ (s : State). IsWritten (state_bytes s) c.spell_lent.result)
    (lent_is ((goal.at.returns c).After-deref-6) t holds) c.spell_lent.ensures
