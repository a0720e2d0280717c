use Rattle.std.proofs.Common.{◌≡◌, ◌≤◌, ◌∙◌, length, sym, ap, subst, rules}
use Rattle.std.specs.Prelude.{◌==◌}
use Rattle.std.specs.List.{AllByRecursion}
use Rattle.std.proofs.lemmas.Bool.{eqb-true}
use Rattle.rq_model.specs.Machine.{best}
use Rattle.rq_model.specs.Queues.{Part}
use Rattle.rq_model.specs.States.{Element}
use Rattle.rq_model.specs.WellFormed.{IsWellFormed}
use Rattle.rq_model.proofs.Lists.{each_passes}
use Rattle.rq_standing.proofs.Looks.{nothing_free}
use Rattle.rq_standing.proofs.machine.Machine.first.Goals as goal

pub returns-then-queue-len : goal.returns-then-queue-len
returns-then-queue-len c =
    let past : length c.args.self.now.definitions ≤ c.args.queue.0 = search rules in
    sym (nothing_free c.step_by_parts.ensures.step c.args.self.now c.args.queue.0
    (subst IsWellFormed c.self.view_is c.self.invariant.holds.well) past)

pub returns : goal.returns
returns c =
    c.first.ensures c.args.queue.0 (subst (λ (p : Part). AllByRecursion (λ (e : Element). e.home ≡ c.args.queue.0) p.elements)
    (sym c.part.ensures) (each_passes (λ (e : Element). e.home ≡ c.args.queue.0) (λ (e : Element). e.home == c.args.queue.0)
    (λ e t. eqb-true e.home c.args.queue.0 t) c.args.self.now.elements))
    ∙ ap (λ (p : Part). best c.args.queue.0 p.elements) c.part.ensures
    ∙ c.step_by_parts.ensures.step.takes c.args.self.now c.args.queue.0
