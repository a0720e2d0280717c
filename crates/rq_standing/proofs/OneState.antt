-- Queues hold no state but one.
use Rattle.std.proofs.Common.{◌≡◌, ◌∙◌, Bool, true, false, not, Option, None, is_some, sym, ap, subst, refl}
use Rattle.std.specs.BTreeMap.{IsOrdered}
use Rattle.std.specs.List.{flat_map}
use Rattle.std.specs.Ordering.{nat_cmp}
use Rattle.std.proofs.lemmas.Bool.{false≢true}
use Rattle.std.proofs.lemmas.List.Sorted.{IsPermutation-refl}
use Rattle.rq_model.specs.Queues.{Part}
use Rattle.rq_model.specs.States.{State}
use Rattle.rq_state.specs.Laws.{PartsMakeTheState, AnyOrderMakesTheState}
use Rattle.rq_standing.specs.Machines.{state_in, HoldOneState}
use Rattle.rq_standing.specs.Stands.{HoldsState}
use Rattle.rq_standing.specs.declared.queues.Queues.{Queues}
use Rattle.rq_standing.proofs.Together.{registrants_together, elements_in_order, notes_in_order}
use Rattle.rq_standing.proofs.Units.{keys_are}

pub one_state : PartsMakeTheState → AnyOrderMakesTheState → (x : Queues) (s : State) → IsOrdered nat_cmp x.units.named
    → HoldsState x s → state_in x ≡ s
one_state law any x s rising holds = λ i. record {
  next = holds.next i;
  greatest = holds.greatest i;
  committed = holds.committed i;
  aborted = holds.aborted i;
  definitions = holds.definitions i;
  units = keys_are x.units s holds.well rising holds.units i;
  registrants = registrants_together law s x.parts.items holds.well holds.parts holds.size i;
  elements = elements_in_order law any s x.parts.items (flat_map (λ (p : Part). p.elements) x.parts.items) holds.well
      holds.parts holds.size (IsPermutation-refl (flat_map (λ (p : Part). p.elements) x.parts.items)) i;
  notes = notes_in_order law s x.parts.items holds.well holds.parts holds.size i;
}

-- so what holds a state is one, and is seen as it
pub are_one : PartsMakeTheState → AnyOrderMakesTheState → (x : Queues) (s : State) → IsOrdered nat_cmp x.units.named
    → HoldsState x s → HoldOneState x
are_one law any x s rising holds = record {
  holds = subst (HoldsState x) (sym (one_state law any x s rising holds)) holds;
  rising = rising;
}

-- where no rule is broken
pub lawful_then : {X : Type 0} (rule : Option X) (lawful : Bool) → rule ≡ None → is_some rule ≡ not lawful → lawful ≡ true
lawful_then rule true none is = refl
lawful_then rule false none is = absurd (false≢true (ap is_some (sym none) ∙ is))
