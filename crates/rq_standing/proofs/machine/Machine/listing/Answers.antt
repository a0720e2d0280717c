use Rattle.std.proofs.Common.{◌≡◌, sym, subst, map}
use Rattle.std.specs.Prelude.{◌==◌}
use Rattle.std.specs.List.{AllByRecursion}
use Rattle.std.proofs.lemmas.Bool.{eqb-true}
use Rattle.rq_model.specs.Queues.{Part}
use Rattle.rq_model.specs.Reports.{IsListing}
use Rattle.rq_model.specs.States.{Element}
use Rattle.rq_model.proofs.Lists.{each_passes}
use Rattle.rq_standing.proofs.Looks.{listing_of}
use Rattle.rq_standing.proofs.machine.Machine.listing.Goals as goal

pub listing-requires : goal.listing-requires
listing-requires c =
    subst (λ (p : Part). AllByRecursion (λ (e : Element). e.home ≡ p.queue) p.elements) (sym c.part.ensures)
    (each_passes (λ (e : Element). e.home ≡ c.args.queue.0) (λ (e : Element). e.home == c.args.queue.0)
    (λ e t. eqb-true e.home c.args.queue.0 t) c.args.self.now.elements)

pub returns-clause-listed : goal.returns-clause-listed
returns-clause-listed c = listing_of c.args.queue.0 c.args.self.now.elements (map (λ e. e.now) c.in_ok-free.free.items)
    (subst (λ (p : Part). IsListing p.queue p.elements (map (λ e. e.now) c.in_ok-free.free.items)) c.part.ensures
    c.in_ok-free.ensures.listed)
