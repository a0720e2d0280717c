use Rattle.std.proofs.Common.{◌==◌, ◌++◌, ℕ, not, filter, sym, ap, ◌∙◌, subst, List}
use Rattle.std.specs.Map.{values_of}
use Rattle.std.specs.Ordering.{nat_cmp}
use Rattle.std.proofs.lemmas.Cmp.{nat_cmp_total}
use Rattle.rq_model.specs.Machine.{closed_notes}
use Rattle.rq_model.specs.States.{Note}
use Rattle.rq_model.proofs.Lists.{each_filter}
use Rattle.rq_state.specs.Orders.{key_cmp}
use Rattle.rq_queue.specs.Noted.{Apart, NoteEntry, AreKept, by_place, filed, has_place, left}
use Rattle.rq_queue.specs.declared.whose.Whose.TheVariants.{OfUnit}
use Rattle.rq_queue.proofs.ByNumber.{apart_front, rising_sorted}
use Rattle.rq_queue.proofs.Noting.{all_filed, others_filed, left_all, values_left, values_drawn, filtered_by_place}
use Rattle.rq_queue.proofs.Noting.{place_of}
use Rattle.rq_queue.proofs.Registered.{same_number}
use Rattle.rq_queue.proofs.notes.Notes.take.Goals as goal

pub invariant_of-self : goal.invariant_of-self
invariant_of-self c =
    let notes = c.self.inside in
    record {
      by_place = c.drawn.ensures.in_order;
      by_unit = c.drawn.ensures.some (λ e. has_place e.0 (filed nat_cmp e.1.unit notes.units.entries))
          c.self.invariant.by_unit;
      by_name = c.drawn.ensures.some (λ e. has_place e.0 (filed key_cmp (e.1.queue, e.1.name) notes.names.entries))
          c.self.invariant.by_name;
    }

pub invariant_of-self-2 : goal.invariant_of-self-2
invariant_of-self-2 c =
    let notes = c.self.inside in
    let es = notes.all.entries in
    let unit = c.args.unit in
    let own = λ (n : Note). n.unit == unit.0 in
    let others = c.in_ok-own.ensures.left
    ∙ (ap (λ (ps : List ℕ). left (OfUnit unit) ps es) (c.places_of-places.ensures)
    ∙ left_all (OfUnit unit) (filed nat_cmp unit.0 notes.units.entries) es
    (all_filed nat_cmp nat_cmp_total (λ (m : Note). m.unit) unit.0 own
    (λ n. same_number unit.0 n.unit) notes.units.entries es c.self.invariant.by_unit)) in
    subst (λ (xs : List NoteEntry). AreKept xs c.unfiled.new.index.entries notes.names.entries) (sym others)
    (record {
      by_place = filtered_by_place (λ (e : NoteEntry). not (own e.1)) es c.self.invariant.by_place;
      by_unit = others_filed nat_cmp nat_cmp_total (λ (m : Note). m.unit) unit.0 own
          (λ n. same_number unit.0 n.unit) notes.units.entries c.unfiled.new.index.entries
          c.unfiled.ensures.others es c.self.invariant.by_unit;
      by_name = each_filter _ _ es c.self.invariant.by_name;
    })

pub order-requires : goal.order-requires
order-requires c = rising_sorted place_of c.in_ok-own.own.items
    (apart_front place_of c.in_ok-own.own.items (values_of c.drawn.new.all.entries) c.in_ok-own.ensures.apart)

pub returns-clause-others : goal.returns-clause-others
returns-clause-others c =
    let notes = c.self.inside in
    let es = notes.all.entries in
    let unit = c.args.unit in
    let own = λ (n : Note). n.unit == unit.0 in
    ap values_of (c.in_ok-own.ensures.left
    ∙ ap (λ (ps : List ℕ). left (OfUnit unit) ps es) (c.places_of-places.ensures))
    ∙ (values_left (OfUnit unit) (filed nat_cmp unit.0 notes.units.entries) es
    (all_filed nat_cmp nat_cmp_total (λ (m : Note). m.unit) unit.0 own
    (λ n. same_number unit.0 n.unit) notes.units.entries es c.self.invariant.by_unit)
    ∙ ap (closed_notes unit.0) c.self.view_is)

pub returns-clause-taken : goal.returns-clause-taken
returns-clause-taken c =
    let notes = c.self.inside in
    let es = notes.all.entries in
    let unit = c.args.unit in
    let own = λ (n : Note). n.unit == unit.0 in
    let drawn = c.in_ok-own.own.items in
    let rest = c.in_ok-own.ensures.left ∙ ap (λ (ps : List ℕ). left (OfUnit unit) ps es)
    (c.places_of-places.ensures) in
    c.order.ensures
    ∙ (values_drawn (OfUnit unit) (filed nat_cmp unit.0 notes.units.entries) es
    (all_filed nat_cmp nat_cmp_total (λ (m : Note). m.unit) unit.0 own
    (λ n. same_number unit.0 n.unit) notes.units.entries es c.self.invariant.by_unit)
    drawn c.in_ok-own.ensures.own
    (subst (λ (xs : List NoteEntry). Apart (drawn ++ values_of xs)) rest c.in_ok-own.ensures.apart)
    (ap (λ (xs : List NoteEntry). by_place (drawn ++ values_of xs)) (sym rest) ∙ c.in_ok-own.ensures.together)
    ∙ ap (filter own) c.self.view_is)
