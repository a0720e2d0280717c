use Rattle.std.proofs.Common.{◌<◌, ◌++◌, ◌∷◌, [], sym, ap, ◌∙◌, subst, List}
use Rattle.std.specs.BTreeMap.{insert_entry}
use Rattle.std.specs.List.{AllByRecursion}
use Rattle.std.specs.Map.{values_of}
use Rattle.std.specs.Ordering.{nat_cmp}
use Rattle.std.proofs.lemmas.Cmp.{nat_cmp_total}
use Rattle.rq_model.specs.States.{Note}
use Rattle.rq_state.specs.Orders.{key_cmp}
use Rattle.rq_state.proofs.InOrder.{key_total}
use Rattle.rq_queue.specs.Noted.{NoteEntry, AreKept}
use Rattle.rq_queue.proofs.Noting.{added_last, values_last, last_by_place, filed_last, same_filed, still_filed}
use Rattle.rq_queue.proofs.notes.Notes.push.Goals as goal

pub invariant_of-self : goal.invariant_of-self
invariant_of-self c = record {
  by_place = c.self.invariant.by_place;
  by_unit = same_filed nat_cmp nat_cmp_total (λ (m : Note). m.unit) c.self.inside.units.entries
      c.file.new.index.entries c.in_err-file.ensures.same c.self.inside.all.entries c.self.invariant.by_unit;
  by_name = c.self.invariant.by_name;
}

pub invariant_of-self-in_err-file-2 : goal.invariant_of-self-in_err-file-2
invariant_of-self-in_err-file-2 c = record {
  by_place = c.self.invariant.by_place;
  by_unit = still_filed nat_cmp nat_cmp_total (λ (m : Note). m.unit) _ _ c.self.inside.units.entries
      c.file.new.index.entries c.in_ok-file.ensures.filed c.self.inside.all.entries c.self.invariant.by_unit;
  by_name = same_filed key_cmp key_total (λ (m : Note). (m.queue, m.name)) c.self.inside.names.entries
      c.file-2.new.index.entries c.in_err-file-2.ensures.same c.self.inside.all.entries c.self.invariant.by_name;
}

pub invariant_of-self-in_err-insert : goal.invariant_of-self-in_err-insert
invariant_of-self-in_err-insert c =
    subst (λ (es : List NoteEntry). AreKept es c.file.new.index.entries c.file-2.new.index.entries)
    (sym c.in_err-insert.ensures.err)
    (record {
      by_place = c.self.invariant.by_place;
      by_unit = still_filed nat_cmp nat_cmp_total (λ (m : Note). m.unit) _ _ c.self.inside.units.entries
          c.file.new.index.entries c.in_ok-file.ensures.filed c.self.inside.all.entries c.self.invariant.by_unit;
      by_name = still_filed key_cmp key_total (λ (m : Note). (m.queue, m.name)) _ _ c.self.inside.names.entries
          c.file-2.new.index.entries c.in_ok-file-2.ensures.filed c.self.inside.all.entries c.self.invariant.by_name;
    })

pub invariant_of-self-2 : goal.invariant_of-self-2
invariant_of-self-2 c =
    let n = c.args.n in
    let notes = c.self.inside in
    let below = subst (AllByRecursion (λ (m : Note). m.last.place < n.last.place)) (sym c.self.view_is) c.requires in
    let added = c.in_ok-insert.ensures.entries
    ∙ ((λ i. insert_entry nat_cmp notes.all.entries (c.place-place.ensures i) (c.in_ok-kept.ensures.kept i))
    ∙ added_last n notes.all.entries c.self.invariant.by_place below) in
    subst (λ (es : List NoteEntry). AreKept es c.file.new.index.entries c.file-2.new.index.entries) (sym added)
    (record {
      by_place = last_by_place n notes.all.entries c.self.invariant.by_place below;
      by_unit = filed_last nat_cmp nat_cmp_total (λ (m : Note). m.unit) n c.unit-unit.result.0 c.place-place.result
          c.unit-unit.ensures c.place-place.ensures notes.units.entries c.file.new.index.entries
          c.in_ok-file.ensures.filed notes.all.entries c.self.invariant.by_unit;
      by_name = filed_last key_cmp key_total (λ (m : Note). (m.queue, m.name)) n c.in_ok-key.key c.place-place.result
          (c.in_ok-key.ensures.key ∙ c.key.ensures) c.place-place.ensures notes.names.entries
          c.file-2.new.index.entries c.in_ok-file-2.ensures.filed notes.all.entries c.self.invariant.by_name;
    })

pub returns-clause-done : goal.returns-clause-done
returns-clause-done c =
    let n = c.args.n in
    let es = c.self.inside.all.entries in
    let below = subst (AllByRecursion (λ (m : Note). m.last.place < n.last.place)) (sym c.self.view_is) c.requires in
    ap values_of (c.in_ok-insert.ensures.entries
    ∙ ((λ i. insert_entry nat_cmp es (c.place-place.ensures i) (c.in_ok-kept.ensures.kept i))
    ∙ added_last n es c.self.invariant.by_place below))
    ∙ (values_last n es ∙ ap (λ (ns : List Note). ns ++ n ∷ []) c.self.view_is)
