-- The state that queues hold, and what a machine makes of a record.
use Rattle.std.specs.Prelude.{◌≡◌, true, false}
use Rattle.std.specs.BTreeMap.{keys, IsOrdered}
use Rattle.std.specs.List.{flat_map}
use Rattle.std.specs.Ordering.{nat_cmp}
use Rattle.rq_model.specs.Records.{Record, Version}
use Rattle.rq_model.specs.Queues.{Part}
use Rattle.rq_model.specs.States.{State, id_before}
use Rattle.rq_model.specs.Machine.{is_lawful, step}
use Rattle.rq_lawful.specs.Breaks.{Breaks}
use Rattle.rq_state.specs.Orders.{put_in_order, place_before}
use Rattle.rq_state.specs.Views.{id_of}
use Rattle.rq_standing.specs.Stands.{HoldsState, taken}
use Rattle.rq_standing.specs.declared.queues.Queues.{Queues}
use Rattle.rq_standing.specs.declared.taken.Taken.{Taken}
use Rattle.rq_standing.specs.declared.taken.Taken.TheVariants.{Unlawful, Done}

-- the members of all parts, elements by id and notes by place
abbrev pub state_in : Queues → State
state_in x = record {
  next = x.next;
  greatest = x.greatest;
  committed = x.committed;
  aborted = x.aborted;
  definitions = x.definitions.items;
  units = keys x.units.named;
  registrants = flat_map (λ (p : Part). p.registrants) x.parts.items;
  elements = put_in_order id_before (flat_map (λ (p : Part). p.elements) x.parts.items);
  notes = put_in_order place_before (flat_map (λ (p : Part). p.notes) x.parts.items);
}

-- they hold that state, and no other
pub record HoldOneState (x : Queues) : Type 0 where
  pub holds : HoldsState x (state_in x)
  pub rising : IsOrdered nat_cmp x.units.named

-- the record breaks this rule, or it is lawful and took this element
abbrev pub IsDone : Version → State → Record → Taken → Type 0
IsDone version s r (Unlawful rule) = (is_lawful version s r ≡ false) × Breaks version s r rule
IsDone version s r (Done element) = (is_lawful version s r ≡ true) × (id_of element ≡ taken s r)

-- the state after the record, if it was done
abbrev pub state_after : State → Record → Taken → State
state_after s r (Unlawful rule) = s
state_after s r (Done element) = step s r
