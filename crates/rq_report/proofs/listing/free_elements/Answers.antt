use Rattle.std.proofs.Common.{List, Bor, IsPermutation, subst, ap, length, arith}
use Rattle.rq_model.specs.States.{Element}
use Rattle.rq_report.proofs.Ahead.{lent_is_listing}
use Rattle.rq_report.proofs.listing.free_elements.Goals as goal

pub returns : goal.returns
returns c =
    let moved = subst (λ (xs : List (Bor Element)). IsPermutation xs c.sort.new.found) c.deref_mut.ensures.value
    c.sort.ensures.permutation in
    lent_is_listing c.args.queue.0 c.args.state.now.elements c.in_ok-found.found.items c.sort.new.found
    c.in_ok-found.found.len c.next.ensures.well_formed.elements_rise c.in_ok-found.ensures moved c.sort.ensures.sorted
    (omega (arith, c.deref_mut.ensures.len, ap length c.deref_mut.ensures.value))
