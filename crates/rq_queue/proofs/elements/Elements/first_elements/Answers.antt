use Rattle.std.proofs.Common.{◌≡◌, sym, subst, List}
use Rattle.std.specs.List.{AllByRecursion}
use Rattle.std.specs.Map.{values_of}
use Rattle.rq_model.specs.States.{Element}
use Rattle.rq_model.specs.Reports.{IsListing}
use Rattle.rq_queue.proofs.Listing.{free_is_listing}
use Rattle.rq_queue.proofs.elements.Elements.first_elements.Goals as goal

pub returns-clause-first : goal.returns-clause-first
returns-clause-first c =
    let es = values_of c.self.inside.free.entries in (
      es,
      subst (λ (all : List Element). IsListing c.args.queue.0 all es) c.self.view_is
          (free_is_listing c.args.queue.0 c.self.inside c.self.invariant c.len.ensures.ordered
          (subst (AllByRecursion (λ (e : Element). e.home ≡ c.args.queue.0)) (sym c.self.view_is) c.requires)),
      c.in_ok-free.ensures.lent,
    )
