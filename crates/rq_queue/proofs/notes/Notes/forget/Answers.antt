use Rattle.std.proofs.Common.{◌≡◌, ℕ, not, sym, ap, ◌∙◌, subst, List, [], if◌then◌else◌}
use Rattle.std.specs.Map.{values_of}
use Rattle.std.specs.Ordering.{is_eq}
use Rattle.rq_model.specs.Machine.{unnoted}
use Rattle.rq_model.specs.States.{Note, is_note_of}
use Rattle.rq_model.proofs.Lists.{each_filter}
use Rattle.rq_state.specs.Orders.{key_cmp}
use Rattle.rq_state.proofs.InOrder.{key_total}
use Rattle.rq_queue.specs.Noted.{NoteEntry, AreKept, filed, left}
use Rattle.rq_queue.specs.declared.whose.Whose.TheVariants.{OfRegistrant}
use Rattle.rq_queue.proofs.Noting.{all_filed, others_filed, left_all, values_left, filtered_by_place}
use Rattle.rq_queue.proofs.Registered.{note_at}
use Rattle.rq_queue.proofs.notes.Notes.forget.Goals as goal

pub invariant_of-self : goal.invariant_of-self
invariant_of-self c =
    let notes = c.self.inside in
    let es = notes.all.entries in
    let k : ℕ × List ℕ = (c.args.queue.0, c.args.name.now) in
    let own = is_note_of c.args.queue.0 c.args.name.now in
    let is_filed = λ (j : ℕ × List ℕ). (m : ℕ × List ℕ) → filed key_cmp m c.unfiled-places.new.index.entries
    ≡ (if is_eq (key_cmp j m) then [] else filed key_cmp m notes.names.entries) in
    let others = c.notes_without.ensures ∙ (ap (λ (ps : List ℕ). left (OfRegistrant c.args.queue c.args.name.now) ps es)
    (c.deref.ensures.value
    ∙ (c.unfiled-places.ensures.places ∙ ap (λ (j : ℕ × List ℕ). filed key_cmp j notes.names.entries)
    c.in_ok-key.ensures.key))
    ∙ left_all (OfRegistrant c.args.queue c.args.name.now) (filed key_cmp k notes.names.entries) es
    (all_filed key_cmp key_total (λ (m : Note). (m.queue, m.name)) k own
    (note_at k) notes.names.entries es c.self.invariant.by_name)) in
    subst (λ (xs : List NoteEntry). AreKept xs notes.units.entries c.unfiled-places.new.index.entries) (sym others)
    (record {
      by_place = filtered_by_place (λ (e : NoteEntry). not (own e.1)) es c.self.invariant.by_place;
      by_unit = each_filter _ _ es c.self.invariant.by_unit;
      by_name = others_filed key_cmp key_total (λ (m : Note). (m.queue, m.name)) k own
          (note_at k) notes.names.entries c.unfiled-places.new.index.entries
          (subst is_filed c.in_ok-key.ensures.key c.unfiled-places.ensures.others) es c.self.invariant.by_name;
    })

pub returns-clause-done : goal.returns-clause-done
returns-clause-done c =
    let notes = c.self.inside in
    let es = notes.all.entries in
    let k : ℕ × List ℕ = (c.args.queue.0, c.args.name.now) in
    let own = is_note_of c.args.queue.0 c.args.name.now in
    ap values_of (c.notes_without.ensures ∙ ap (λ (ps : List ℕ). left (OfRegistrant c.args.queue c.args.name.now) ps es)
    (c.deref.ensures.value
    ∙ (c.unfiled-places.ensures.places ∙ ap (λ (j : ℕ × List ℕ). filed key_cmp j notes.names.entries)
    c.in_ok-key.ensures.key)))
    ∙ (values_left (OfRegistrant c.args.queue c.args.name.now) (filed key_cmp k notes.names.entries) es
    (all_filed key_cmp key_total (λ (m : Note). (m.queue, m.name)) k own
    (note_at k) notes.names.entries es c.self.invariant.by_name)
    ∙ ap (unnoted c.args.queue.0 c.args.name.now) c.self.view_is)
