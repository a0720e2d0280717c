use Rattle.std.proofs.Common.{◌≡◌, ◌<◌, ℕ, Bool, true, false, List, get_or, length, sym, subst, rules}
use Rattle.std.specs.BTreeSet.{contains}
use Rattle.std.specs.List.Sorted.{IsPermutation}
use Rattle.std.specs.Ordering.{nat_cmp}
use Rattle.rq_model.specs.States.{Element}
use Rattle.rq_standing.specs.Ends.{marked_where}
use Rattle.rq_standing.proofs.Ending.{none_of, nothing_seen, seen_more, has_more, was_there, was_not, same_tests, again, one_more}
use Rattle.rq_standing.proofs.queues.Queues.lent_of.Goals as goal

pub loop-queue-init : goal.loop-queue-init
loop-queue-init c = record {
  lent = λ s holds. subst (λ (es : List Element). IsPermutation
      (marked_where c.args.unit.0 (contains nat_cmp c.new-seen.result) s.elements) es) (sym c.new-lent.ensures.items)
      (none_of c.args.unit.0 (contains nat_cmp c.new-seen.result) s.elements
      (nothing_seen c.new-seen.result c.new-seen.ensures.empty));
  seen = nothing_seen c.new-seen.result c.new-seen.ensures.empty;
}

pub loop-queue-preserved-then-not-branch : goal.loop-queue-preserved-then-not-branch
loop-queue-preserved-then-not-branch c =
    let old = c.loop-queue.seen in
    let new = c.insert.new.self in
    let q = get_or c.args.queues.now c.loop-queue.queue-index 0 in
    let within : c.loop-queue.queue-index < length c.args.queues.now = search rules in
    record {
      lent = λ s holds. subst (λ (es : List Element). IsPermutation es c.loop-queue.lent.items)
          (sym (same_tests c.args.unit.0 (contains nat_cmp old) (contains nat_cmp new) s.elements
          (again (contains nat_cmp old) (contains nat_cmp new) q (has_more old new q c.in_ok-insert.ensures.updates)
          (was_there c.in_ok-insert.field-0 (contains nat_cmp old q) c.in_ok-insert.ensures.added c.if-not-branch.true))))
          (c.loop-queue.invariant.lent s holds);
      seen = seen_more old new c.args.queues.now c.loop-queue.queue-index within c.in_ok-insert.ensures.updates
          c.loop-queue.invariant.seen;
    }

pub loop-queue-preserved : goal.loop-queue-preserved
loop-queue-preserved c =
    let old = c.loop-queue.seen in
    let new = c.insert.new.self in
    let q = get_or c.args.queues.now c.loop-queue.queue-index 0 in
    let within : c.loop-queue.queue-index < length c.args.queues.now = search rules in
    record {
      lent = λ s holds. one_more c.args.unit.0 (contains nat_cmp old) (contains nat_cmp new) q s.elements c.loop-queue.lent.items
          c.lend_marked_at.new.lent.items (has_more old new q c.in_ok-insert.ensures.updates)
          (was_not c.in_ok-insert.field-0 (contains nat_cmp old q) c.in_ok-insert.ensures.added c.if-not-branch.false)
          (c.loop-queue.invariant.lent s holds) (c.in_ok-lend_marked_at.ensures.lent s holds);
      seen = seen_more old new c.args.queues.now c.loop-queue.queue-index within c.in_ok-insert.ensures.updates
          c.loop-queue.invariant.seen;
    }
