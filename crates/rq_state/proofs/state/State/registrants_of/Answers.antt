use Rattle.std.proofs.Common.{◌≡◌, ◌∙◌, true, ap, subst, sym, rules, take}
use Rattle.std.specs.Prelude.{nat_lt, nat_le}
use Rattle.std.proofs.lemmas.List.Sorted.{IsPartitionPoint-from_clause}
use Rattle.rq_model.specs.States.{Registrant, registrant_before}
use Rattle.rq_model.specs.Queues.{registrants_at}
use Rattle.rq_model.specs.WellFormed.{Ordered}
use Rattle.rq_state.proofs.Searched.{parted_below, parted_above, own_part}
use Rattle.rq_state.proofs.state.State.registrants_of.Goals as goal

pub returns : goal.returns
returns c =
    let queue = c.args.queue.0 in
    let all = c.registrants-all.result.now in
    let first = c.partition_point.result in
    let up = subst (Ordered (λ a b. registrant_before a b ≡ true)) (sym c.registrants-all.ensures)
    c.is_well_formed.ensures.registrants_rise in
    let below = IsPartitionPoint-from_clause (λ (r : Registrant). nat_lt r.queue queue) _ _
    c.partition_point.ensures.partitioned (parted_below queue all up) (λ a r q k. search rules) in
    let upto = IsPartitionPoint-from_clause (λ (r : Registrant). nat_le r.queue queue) _ _
    c.partition_point-2.ensures.partitioned
    (rw (c.split_at.ensures.back) (parted_above queue first all up)) (λ a r q k. search rules) in
    c.split_at-2.ensures.front
    ∙ (ap (take c.partition_point-2.result) c.split_at.ensures.back
    ∙ (own_part queue first c.partition_point-2.result all below (rw (← c.split_at.ensures.back) upto)
    ∙ ap (registrants_at queue) c.registrants-all.ensures))
