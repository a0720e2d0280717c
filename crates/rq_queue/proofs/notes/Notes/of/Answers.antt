use Rattle.std.proofs.Common.{◌<◌, ◌++◌, sym, ap, ◌∙◌, subst, List, reverse}
use Rattle.rq_model.specs.States.{Note}
use Rattle.rq_queue.specs.Noted.{Rises}
use Rattle.rq_queue.proofs.Doing.{popped}
use Rattle.rq_queue.proofs.ByNumber.{all_before}
use Rattle.rq_queue.proofs.notes.Notes.of.Goals as goal

pub push-requires : goal.push-requires
push-requires c =
    let n = c.in-Some.n in
    let left = c.next_of.new.list.items in
    all_before (λ (a b : Note). a.last.place < b.last.place) c.loop-n.all n (reverse left)
    (subst Rises (sym c.loop-n.invariant ∙ ap (λ (xs : List Note). c.loop-n.all ++ xs)
    (popped c.loop-n.coming.items left n c.in-Some.ensures.taken)) c.requires)
