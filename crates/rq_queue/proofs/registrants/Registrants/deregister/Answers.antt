use Rattle.std.proofs.Common.{ap, ◌∙◌, map, ℕ, List}
use Rattle.std.specs.Cmp.Lexicographic.{slice_cmp}
use Rattle.std.specs.Ordering.{nat_cmp}
use Rattle.std.proofs.lemmas.Cmp.{nat_list_cmp_total}
use Rattle.rq_model.specs.Machine.{deregistered}
use Rattle.rq_queue.specs.Roll.{RollEntry, registrant_of}
use Rattle.rq_queue.proofs.Roll.{up_of}
use Rattle.rq_queue.proofs.Registered.{deregistered_then}
use Rattle.rq_queue.proofs.registrants.Registrants.deregister.Goals as goal

pub invariant_of-self : goal.invariant_of-self
invariant_of-self c = up_of (slice_cmp nat_cmp) nat_list_cmp_total _ c.remove.ensures.ordered

pub returns-clause-done : goal.returns-clause-done
returns-clause-done c = λ queue.
    let es = c.self.inside.lasts.entries in
    ap (map (registrant_of queue)) c.remove.ensures.entries
    ∙ (deregistered_then queue c.in_ok-key.key es c.self.invariant
    ∙ (ap (λ (name : List ℕ). deregistered queue name (map (registrant_of queue) es)) c.in_ok-key.ensures.kept
    ∙ ap (λ (es : List RollEntry). deregistered queue c.args.name.now (map (registrant_of queue) es)) c.self.view_is))
