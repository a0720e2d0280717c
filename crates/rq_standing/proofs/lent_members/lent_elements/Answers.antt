use Rattle.std.proofs.Common.{◌≡◌, ◌<◌, ◌+◌, ◌++◌, ◌∷◌, [], List, length, take, sym, ap, ◌∙◌, subst, arith}
use Rattle.std.proofs.Common.{IsPermutation}
use Rattle.std.specs.List.{flat_map}
use Rattle.std.proofs.lemmas.List.{flat_map_more, take_more}
use Rattle.std.proofs.lemmas.List.Sorted.{IsPermutation-trans, IsPermutation-append_left}
use Rattle.rq_model.specs.Queues.{Part}
use Rattle.rq_model.specs.States.{Element}
use Rattle.rq_standing.proofs.lent_members.lent_elements.Goals as goal

pub loop-part-preserved : goal.loop-part-preserved
loop-part-preserved c =
    let f = λ (p : Part). p.elements in
    let i = c.loop-part.part-index in
    let parts = c.args.parts.now in
    let part = c.part-item.result in
    let lent = c.loop-part.lent.items in
    let new = c.lend_elements.new.lent.items in
    let within : i < length parts = omega (arith, c.loop-part-test.true) in
    let is : take (i + 1) parts ≡ take i parts ++ part ∷ [] =
    take_more parts i part within ∙ ap (λ (p : Part). take i parts ++ p ∷ []) (sym c.part-item.is) in
    subst (λ (xs : List Element). IsPermutation xs new)
    (flat_map_more f [] (take i parts) part ∙ ap (flat_map f) (sym is))
    (IsPermutation-trans (flat_map f (take i parts) ++ part.elements) (lent ++ part.elements) new
    (IsPermutation-append_left part.elements (flat_map f (take i parts)) lent c.loop-part.invariant)
    c.in_ok-lend_elements.ensures.lent)
