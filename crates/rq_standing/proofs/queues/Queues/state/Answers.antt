use Rattle.std.proofs.Common.{◌≡◌, List, length, map, sym, ap, ◌∙◌, ◌++◌, subst, Vec, Global, IsPermutation}
use Rattle.rq_model.specs.States.{State, Definition, id_before, registrant_before}
use Rattle.rq_model.specs.WellFormed.{IsWellFormed}
use Rattle.rq_model.specs.Queues.{Part, part_of}
use Rattle.rq_state.specs.Laws.{gathered, HasSame}
use Rattle.rq_record.specs.declared.record.UnitNo.{UnitNo}
use Rattle.rq_state.specs.Views.{unit_of}
use Rattle.rq_state.specs.Inside.{state_of}
use Rattle.rq_state.specs.Orders.{state_in_order, place_before}
use Rattle.rq_queue.proofs.Gathered.{members, is_same}
use Rattle.rq_standing.specs.Parts.{ArePartsOf}
use Rattle.rq_standing.specs.Stands.{HoldsState}
use Rattle.rq_standing.proofs.Units.{keys_are}
use Rattle.rq_standing.proofs.queues.Queues.state.Goals as goal
use Rattle.rq_standing.proofs.queues.Queues.state.Goals.{In_ok-fields}

same : (c : In_ok-fields) (t : State) → HoldsState c.args.self.now t → HasSame t (state_of c.in_ok-fields.fields)
same c t holds =
    let size : length c.deref-2.result.now ≡ length t.definitions =
    ap (λ (ps : List Part). length ps) c.deref-2.ensures.value ∙ holds.size in
    let poured = c.in_ok-fields.ensures.poured t size
    (subst (ArePartsOf t) (sym c.deref-2.ensures.value) holds.parts) in
    let whole = c.parts_make_the_state.ensures t holds.well in
    record {
      next = poured.next ∙ holds.next;
      greatest = poured.greatest ∙ holds.greatest;
      committed = poured.committed ∙ holds.committed;
      aborted = poured.aborted ∙ holds.aborted;
      definitions = ap (λ (v : Vec Definition Global). v.items) poured.definitions
          ∙ c.in_ok-definitions.ensures.copied ∙ c.deref.ensures.value ∙ holds.definitions;
      units = is_same t.units (map unit_of c.in_ok-fields.fields.units.items)
          (ap (λ (v : Vec UnitNo Global). map unit_of v.items) poured.units
          ∙ (c.in_ok-units.ensures.numbers
          ∙ keys_are c.args.self.now.units t holds.well c.in_ok-units.ensures.ordered holds.units));
      registrants = members registrant_before t.registrants
          (gathered (λ (p : Part). p.registrants) (part_of t) (length t.definitions)) c.new.result.items
          c.in_ok-fields.fields.registrants.items (ap (λ (s : State). s.registrants) whole) c.new.ensures.items
          (subst (λ m. IsPermutation (c.new.result.items ++ gathered (λ (p : Part). p.registrants) (part_of t) m)
          c.in_ok-fields.fields.registrants.items) size poured.registrants);
      elements = members id_before t.elements (gathered (λ (p : Part). p.elements) (part_of t) (length t.definitions))
          c.new-2.result.items c.in_ok-fields.fields.elements.items
          (ap (λ (s : State). s.elements) whole) c.new-2.ensures.items
          (subst (λ m. IsPermutation (c.new-2.result.items ++ gathered (λ (p : Part). p.elements) (part_of t) m)
          c.in_ok-fields.fields.elements.items) size poured.elements);
      notes = members place_before t.notes (gathered (λ (p : Part). p.notes) (part_of t) (length t.definitions))
          c.new-3.result.items c.in_ok-fields.fields.notes.items (ap (λ (s : State). s.notes) whole) c.new-3.ensures.items
          (subst (λ m. IsPermutation (c.new-3.result.items ++ gathered (λ (p : Part). p.notes) (part_of t) m)
          c.in_ok-fields.fields.notes.items) size poured.notes);
    }

-- the fields, put in order, are the state
ordered : (c : In_ok-fields) (t : State) → HoldsState c.args.self.now t → state_in_order (state_of c.in_ok-fields.fields) ≡ t
ordered c t holds =
    c.any_order_makes_the_state.ensures t (state_of c.in_ok-fields.fields) holds.well (same c t holds)

pub build_kept-requires : goal.build_kept-requires
build_kept-requires c =
    let d = (goal.at.build_kept-requires c).In_ok-fields in
    subst IsWellFormed (sym (ordered d c.requires.0 c.requires.1)) c.requires.1.well

pub returns-clause-state : goal.returns-clause-state
returns-clause-state c = λ t holds. c.in_ok-state.ensures.built
    ∙ ordered (goal.at.returns-clause-state c).In_ok-fields t holds
