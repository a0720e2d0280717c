use Rattle.std.proofs.Common.{◌≡◌, List, map, sym, ap, subst, Bor, length, arith}
use Rattle.std.specs.Prelude.{◌==◌}
use Rattle.std.specs.List.{AllByRecursion}
use Rattle.std.proofs.lemmas.Bool.{eqb-true}
use Rattle.rq_model.specs.Queues.{Part}
use Rattle.rq_model.specs.States.{Element}
use Rattle.rq_model.proofs.Lists.{each_passes}
use Rattle.rq_queue.specs.Firsts.{AreFirst}
use Rattle.rq_live.specs.Managers.{AreFirstFree, stand_of}
use Rattle.rq_live.proofs.Managing.{first_free, none_free}
use Rattle.rq_live.proofs.manager.Manager.first_elements.Goals as goal

pub first_elements-requires : goal.first_elements-requires
first_elements-requires g c =
    subst (λ (p : Part). AllByRecursion (λ (e : Element). e.home ≡ p.queue) p.elements) (sym c.part.ensures)
    (each_passes (λ (e : Element). e.home ≡ c.args.queue.0) (λ (e : Element). e.home == c.args.queue.0)
    (λ e t. eqb-true e.home c.args.queue.0 t) c.args.self.now.kernel.machine.elements)

pub returns-clause-elements : goal.returns-clause-elements
returns-clause-elements g c =
    let es : List Element = map (λ (e : Bor Element). e.now) c.in_ok-first.first.items in
    first_free (stand_of g.D.Device.written g.D.Device.synced g.D.Device.doubted g.D.Device.failed c.args.self.now)
    c.args.queue.0 c.args.most es
    (subst (λ (p : Part). AreFirst c.args.most p.queue p.elements es) c.part.ensures c.in_ok-first.ensures.first)

pub returns-then-queue-definitions-clause-elements : goal.returns-then-queue-definitions-clause-elements
returns-then-queue-definitions-clause-elements g c =
    let m = (stand_of g.D.Device.written g.D.Device.synced g.D.Device.doubted g.D.Device.failed c.args.self.now) in
    subst (AreFirstFree m c.args.queue.0 c.args.most)
    (ap (map (λ (e : Bor Element). e.now)) (sym c.new.ensures.items))
    (none_free c.runs_are_well_formed.ensures.start c.runs_are_well_formed.ensures.runs m c.args.queue.0 c.args.most
    (omega (arith, ap length c.definitions.ensures, c.if-queue-definitions.true)))
