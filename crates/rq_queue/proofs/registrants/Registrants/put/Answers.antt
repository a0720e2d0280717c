use Rattle.std.proofs.Common.{◌∙◌}
use Rattle.std.specs.BTreeMap.{insert_entry}
use Rattle.std.specs.Cmp.Lexicographic.{slice_cmp}
use Rattle.std.specs.Ordering.{nat_cmp}
use Rattle.std.proofs.lemmas.Cmp.{nat_list_cmp_total}
use Rattle.rq_queue.proofs.Roll.{up_of}
use Rattle.rq_queue.proofs.registrants.Registrants.put.Goals as goal

pub invariant_of-self-2 : goal.invariant_of-self-2
invariant_of-self-2 c = up_of (slice_cmp nat_cmp) nat_list_cmp_total _ c.in_ok-insert.ensures.ordered

pub returns-clause-done : goal.returns-clause-done
returns-clause-done c =
    c.in_ok-insert.ensures.entries
    ∙ (λ i. insert_entry (slice_cmp nat_cmp) (c.self.view_is i)
    ((c.in_ok-name.ensures.kept ∙ c.name-2.ensures ∙ c.name.ensures) i)
    ((c.in_ok-last.ensures.kept ∙ c.last.ensures) i))
