use Rattle.std.proofs.Common.{◌≡◌, ◌+◌, ap, ◌∙◌, sym, arith, length, length-append}
use Rattle.std.specs.Map.{values_of}
use Rattle.std.proofs.lemmas.List.{length-map}
use Rattle.std.proofs.lemmas.List.Sorted.{length_permutation}
use Rattle.rq_queue.specs.Kept.{items_of}
use Rattle.rq_queue.specs.Listed.{contents, elements_inside}
use Rattle.rq_queue.specs.declared.elements.Elements.TheInside.{Inside}
use Rattle.rq_queue.proofs.Sorting.{same_elements}
use Rattle.rq_queue.proofs.elements.Elements.room_left.Goals as goal

counted : (a : Inside) → length (elements_inside a) ≡ length a.free.entries + length (items_of a.marked.entries)
counted a = length_permutation (contents a) (elements_inside a) (same_elements (contents a))
    ∙ (length-append (values_of a.free.entries) (items_of a.marked.entries)
    ∙ ap (λ n. n + length (items_of a.marked.entries)) (length-map a.free.entries (λ e. e.1)))

pub returns-in_err-left : goal.returns-in_err-left
returns-in_err-left c =
    let n = ap length (sym c.self.view_is) ∙ counted c.self.inside in
    grind (arith, n)

pub returns : goal.returns
returns c =
    let n = ap length (sym c.self.view_is) ∙ counted c.self.inside in
    grind (arith, n)
