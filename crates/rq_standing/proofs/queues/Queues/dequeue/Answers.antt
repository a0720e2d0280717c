use Rattle.std.proofs.Common.{◌≡◌, ◌<◌, ◌+◌, ◌^◌, ◌∙◌, sym, subst, ap, refl, option_map}
use Rattle.std.specs.List.{AllByRecursion}
use Rattle.rq_model.specs.Records.{Dequeue}
use Rattle.rq_model.specs.States.{Element, Note}
use Rattle.rq_model.specs.Machine.{best}
use Rattle.rq_model.specs.Queues.{Part, notes_at}
use Rattle.rq_standing.specs.declared.queues.Queues.{Queues}
use Rattle.rq_standing.proofs.Acting.{defined, one_moved}
use Rattle.rq_standing.proofs.Units.{operation, units_engaged}
use Rattle.rq_standing.proofs.queues.Queues.dequeue.Goals as goal

pub dequeue_on-requires-clause-within : goal.dequeue_on-requires-clause-within
dequeue_on-requires-clause-within c =
    let s = c.requires.may.1 in
    let may = c.requires.may.2 in
    let q = c.args.queue.0 in
    subst (λ n. q < n) (sym may.holds.size)
    (defined c.requires.may.0 s (Dequeue c.args.unit.0 q c.args.by.now) q may.holds.well may.lawful refl)

pub dequeue_on-requires-clause-homes : goal.dequeue_on-requires-clause-homes
dequeue_on-requires-clause-homes c =
    let s = c.requires.may.1 in
    let may = c.requires.may.2 in
    let q = c.args.queue.0 in
    let r = Dequeue c.args.unit.0 q c.args.by.now in
    let here = defined c.requires.may.0 s r q may.holds.well may.lawful refl in
    subst (λ (p : Part). AllByRecursion (λ (e : Element). e.home ≡ q) p.elements) (sym (may.holds.parts q here))
    (c.step_by_parts.ensures.step.ready s r q may.holds.well
    (subst (λ n. n + 1 < 2 ^ 64) may.holds.next c.requires.room) refl).homes

pub dequeue_on-requires-clause-notes : goal.dequeue_on-requires-clause-notes
dequeue_on-requires-clause-notes c =
    let s = c.requires.may.1 in
    let may = c.requires.may.2 in
    let q = c.args.queue.0 in
    let r = Dequeue c.args.unit.0 q c.args.by.now in
    let here = defined c.requires.may.0 s r q may.holds.well may.lawful refl in
    subst (λ (p : Part). AllByRecursion (λ (n : Note). n.last.place < c.args.self.now.next) p.notes) (sym (may.holds.parts q here))
    (subst (λ next. AllByRecursion (λ (n : Note). n.last.place < next) (notes_at q s.notes)) (sym may.holds.next)
    (c.step_by_parts.ensures.step.ready s r q may.holds.well
    (subst (λ n. n + 1 < 2 ^ 64) may.holds.next c.requires.room) refl).notes)

pub returns-clause-moved : goal.returns-clause-moved
returns-clause-moved c = λ version s may.
    let u = c.args.unit.0 in
    let q = c.args.queue.0 in
    let r = Dequeue u q c.args.by.now in
    let law = c.step_by_parts.ensures.step in
    let engaged = c.in_ok-engage.ensures in
    let it = operation r u q refl refl in
    let x = c.args.self.now in
    let y : Queues = record x { parts = c.dequeue_on.new.parts } in
    one_moved law s r q x y c.engage.new.self may.holds refl refl c.in_ok-id.ensures.size c.in_ok-id.ensures.acted
    (units_engaged law s r u q x.units c.engage.new.self refl it (it.opened version s may.lawful) engaged.opened engaged.engaged
    may.holds.units)

pub returns-clause-took : goal.returns-clause-took
returns-clause-took c = λ version s may.
    let q = c.args.queue.0 in
    let r = Dequeue c.args.unit.0 q c.args.by.now in
    c.in_ok-id.ensures.took
    ∙ ap (λ (p : Part). option_map (λ (e : Element). e.id) (best q p.elements))
    (may.holds.parts q (defined version s r q may.holds.well may.lawful refl))
    ∙ ap (option_map (λ (e : Element). e.id)) (c.step_by_parts.ensures.step.takes s q)
