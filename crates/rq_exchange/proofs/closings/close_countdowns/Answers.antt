use Rattle.std.proofs.Common.{◌≡◌, length, map, sym, ◌∙◌}
use Rattle.rq_exchange.proofs.Words.{at, WorkDone, AreColumns, map-map, All-map}
use Rattle.rq_exchange.proofs.Working.{columns_own, columns_tell, columns_show}
use Rattle.rq_exchange.proofs.closings.close_countdowns.Goals.{In_ok-columns}
use Rattle.rq_exchange.proofs.closings.close_countdowns.Goals as goal

pub columns-requires : goal.columns-requires
columns-requires c = rw c.in_ok-rows.ensures.passes (All-map (λ r. length r.items ≡ c.len.result)
    (λ (k : WorkDone). k.passes) c.args.kept.items
    (λ i d lt. (c.requires.kept i d lt).each ∙ sym (c.len.ensures ∙ c.args.chain.countdowns.ok.0)))

-- the columns of the passes that the threads have kept
turned : (c : In_ok-columns) → AreColumns (map (λ (k : WorkDone). k.passes) c.args.kept.items)
    (length c.args.chain.countdowns.items) c.in_ok-columns.columns.items
turned c = rw (c.in_ok-rows.ensures.passes, c.len.ensures ∙ c.args.chain.countdowns.ok.0) at
    c.in_ok-columns.ensures.columns

pub close_all-requires : goal.close_all-requires
close_all-requires c = record {
  own = columns_own (λ (k : WorkDone). k.passes) _ _ _ c.requires.kept c.requires.passes c.requires.some
      (turned (goal.at.close_all-requires c).In_ok-columns);
}

pub returns-clause-settled : goal.returns-clause-settled
returns-clause-settled c = columns_tell (λ (k : WorkDone). k.passes) _ _ _ c.requires.kept c.requires.passes
    c.requires.some (turned (goal.at.returns-clause-settled c).In_ok-columns) c.in_ok-closings.ensures.settled

pub returns-clause-course : goal.returns-clause-course
returns-clause-course c =
    let course = c.of-course.ensures in
    record {
      redone = rw (course.redone, c.in_ok-rows.ensures.done, map-map);
      told = λ x there. rw (course.closings, course.slots, c.in_ok-closings.ensures.histories)
          (columns_show (λ (k : WorkDone). k.passes) _ _ _ c.requires.kept c.requires.passes c.requires.some
          (turned (goal.at.returns-clause-course c).In_ok-columns) (at c.args.chain.slots.items x) there);
    }
