use Rattle.std.proofs.Common.{◌++◌, List, sym, subst}
use Rattle.std.specs.List.{filter}
use Rattle.std.specs.List.Sorted.{IsPermutation}
use Rattle.std.proofs.lemmas.List.Sorted.{IsPermutation-sym, IsPermutation-append_right}
use Rattle.rq_model.specs.Queues.{is_marked}
use Rattle.rq_model.specs.States.{Element}
use Rattle.rq_queue.proofs.part.Part.lend_marked_by.Goals as goal

pub returns-clause-lent : goal.returns-clause-lent
returns-clause-lent c =
    let before = c.args.lent.now.items in
    let marked = filter (λ (e : Element). is_marked c.args.unit.0 e.mark) c.args.self.now.elements in
    subst (λ (xs : List Element). IsPermutation (before ++ marked) xs) (sym c.in_ok-lend_list.ensures.lent)
    (IsPermutation-append_right before marked c.marked_by.result.now
    (IsPermutation-sym c.marked_by.result.now marked c.marked_by.ensures))
