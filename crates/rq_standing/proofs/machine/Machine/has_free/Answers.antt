use Rattle.std.proofs.Common.{◌≡◌, ◌≤◌, ◌∙◌, ◌&&◌, length, sym, ap, subst, rules}
use Rattle.std.specs.Prelude.{◌==◌}
use Rattle.std.specs.List.{AllByRecursion, list_any}
use Rattle.std.proofs.lemmas.Bool.{eqb-true}
use Rattle.rq_model.specs.Machine.{is_free_at}
use Rattle.rq_model.specs.Queues.{Part}
use Rattle.rq_model.specs.States.{Element}
use Rattle.rq_model.specs.WellFormed.{IsWellFormed}
use Rattle.rq_model.proofs.Lists.{each_passes}
use Rattle.rq_standing.proofs.Looks.{free_found, none_free_at}
use Rattle.rq_standing.proofs.machine.Machine.has_free.Goals as goal

pub is_free-requires : goal.is_free-requires
is_free-requires c =
    subst (λ (p : Part). AllByRecursion (λ (e : Element). e.home ≡ p.queue) p.elements) (sym c.part.ensures)
    (each_passes (λ (e : Element). e.home ≡ c.args.queue.0) (λ (e : Element). e.home == c.args.queue.0)
    (λ e t. eqb-true e.home c.args.queue.0 t) c.args.self.now.elements)

pub returns-then-queue-len : goal.returns-then-queue-len
returns-then-queue-len c =
    let past : length c.args.self.now.definitions ≤ c.args.queue.0 = search rules in
    sym (none_free_at c.args.self.now c.args.queue.0 c.args.id.0
    (subst IsWellFormed c.self.view_is c.self.invariant.holds.well) past)

pub returns : goal.returns
returns c =
    c.is_free.ensures
    ∙ ap (λ (p : Part). list_any (λ e. is_free_at p.queue e && (e.id == c.args.id.0)) p.elements) c.part.ensures
    ∙ free_found c.args.queue.0 c.args.id.0 c.args.self.now.elements
