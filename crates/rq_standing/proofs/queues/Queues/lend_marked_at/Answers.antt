use Rattle.std.proofs.Common.{◌≤◌, ◌<◌, ◌++◌, ◌∙◌, List, length, ap, subst, rules}
use Rattle.std.specs.List.{filter}
use Rattle.std.specs.List.Sorted.{IsPermutation}
use Rattle.rq_model.specs.Queues.{Part, is_marked}
use Rattle.rq_model.specs.States.{Element}
use Rattle.rq_standing.specs.Parts.{part_at}
use Rattle.rq_standing.proofs.Ending.{marked_at, nothing_at}
use Rattle.rq_standing.proofs.queues.Queues.lend_marked_at.Goals as goal

pub returns-then-queue-len-clause-lent : goal.returns-then-queue-len-clause-lent
returns-then-queue-len-clause-lent c =
    let past : length c.args.self.now.parts.items ≤ c.args.queue = search rules in
    λ s holds. nothing_at c.args.self.now s c.args.unit.0 c.args.queue c.args.lent.now.items holds past

pub returns-clause-lent : goal.returns-clause-lent
returns-clause-lent c =
    let within : c.args.queue < length c.args.self.now.parts.items = search rules in
    λ s holds. marked_at c.args.self.now s c.args.unit.0 c.args.queue c.args.lent.now.items c.lend_marked_by.new.lent.items
    holds within (subst (λ (p : Part). IsPermutation
    (c.args.lent.now.items ++ filter (λ (e : Element). is_marked c.args.unit.0 e.mark) p.elements)
    c.lend_marked_by.new.lent.items)
    (c.part_here.ensures ∙ ap (λ (ps : List Part). part_at ps c.args.queue) c.deref.ensures.value) c.in_ok-lend_marked_by.ensures.lent)
