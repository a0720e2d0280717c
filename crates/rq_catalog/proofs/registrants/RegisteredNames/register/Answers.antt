use Rattle.std.proofs.Common.{◌≡◌, ◌∙◌, cond, true, ℕ, List, slice_set}
use Rattle.rq_catalog.specs.Grounds.{key_eq, is_registered_in, is_on_roll}
use Rattle.rq_catalog.proofs.Knowing.{changed, same_names, if_err}
use Rattle.rq_catalog.proofs.registrants.RegisteredNames.register.Goals as goal

pub returns-clause-registered : goal.returns-clause-registered
returns-clause-registered c = λ k.
    changed _ _ _ _ _ _ _ c.in_ok-reach.ensures.reached c.index_mut.ensures.value c.in_ok-insert.ensures.updates.0 k
    ∙ (λ i. cond (key_eq (c.args.queue, c.in_ok-name.ensures.kept i) k) true (c.in_ok-reach.ensures.same k i))

pub returns-in_err-insert-clause-kept : goal.returns-in_err-insert-clause-kept
returns-in_err-insert-clause-kept c =
    let kept : (k : ℕ × List ℕ)
    → is_on_roll (slice_set c.reach.new.self.by_queue.items c.args.queue c.insert.new.self) k
    ≡ is_registered_in c.args.self.now k =
    λ k. same_names _ _ _ _ _ c.in_ok-reach.ensures.reached c.index_mut.ensures.value c.in_err-insert.ensures.err k
    ∙ c.in_ok-reach.ensures.same k in
    if_err _ _ kept
