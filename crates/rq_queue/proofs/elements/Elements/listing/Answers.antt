use Rattle.std.proofs.Common.{◌≡◌, ◌≤◌, ◌∙◌, sym, subst, arith, List, length, map, take_all}
use Rattle.std.specs.List.{AllByRecursion}
use Rattle.std.specs.Map.{values_of}
use Rattle.std.proofs.lemmas.List.{length-map}
use Rattle.rq_model.specs.States.{Element}
use Rattle.rq_model.specs.Reports.{IsListing}
use Rattle.rq_queue.specs.Kept.{Entry}
use Rattle.rq_queue.specs.Listed.{elements_inside}
use Rattle.rq_queue.proofs.Listing.{free_is_listing}
use Rattle.rq_queue.proofs.elements.Elements.listing.Goals as goal

pub returns-clause-listed : goal.returns-clause-listed
returns-clause-listed c =
    let es = values_of c.self.inside.free.entries in
    let n = length-map c.self.inside.free.entries (λ (x : Entry). x.1) in
    let all : length es ≤ c.len.result = omega (arith, n, c.len.ensures.len) in
    subst (λ (es : List Element). IsListing c.args.queue.0 es (map (λ e. e.now) c.in_ok-free.free.items)) c.self.view_is
    (subst (λ (es : List Element). IsListing c.args.queue.0 (elements_inside c.self.inside) es)
    (sym (c.in_ok-free.ensures.lent ∙ take_all c.len.result es all))
    (free_is_listing c.args.queue.0 c.self.inside c.self.invariant c.len.ensures.ordered
    (subst (AllByRecursion (λ (e : Element). e.home ≡ c.args.queue.0)) (sym c.self.view_is) c.requires)))
