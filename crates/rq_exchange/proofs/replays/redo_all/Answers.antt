use Rattle.std.proofs.Common.{All, length, arith, Vec, Global}
use Rattle.rq_exchange.proofs.Words.{All-map, AreBare, HasKept, IsRedone, WorkDone, map-map, records_of, run}
use Rattle.rq_exchange.specs.declared.outboxes.Redone.{Redone}
use Rattle.rq_exchange.proofs.Courses.{starts_by_last, whole}
use Rattle.rq_exchange.proofs.Pairs.{all_second}
use Rattle.rq_exchange.proofs.replays.redo_all.Goals.{In_ok-all}
use Rattle.rq_exchange.proofs.replays.redo_all.Goals as goal

pub close_countdowns-requires-clause-kept : goal.close_countdowns-requires-clause-kept
close_countdowns-requires-clause-kept g c = all_second (HasKept c.args.job.now c.in_ok-chain.chain) _
    (λ s k h. h.passes) _ _ c.in_ok-kept.ensures.kept.keep

-- what all threads redid is right
done : (g : _) (c : In_ok-all g) → All (λ done. All (IsRedone c.args.job.now) done.items) c.in_ok-all.all.items
done g c = rw c.in_ok-all.ensures.done (All-map (λ (done : Vec Redone Global). All (IsRedone c.args.job.now) done.items)
    (λ (k : WorkDone). k.done) c.in_ok-kept.kept.items (all_second (HasKept c.args.job.now c.in_ok-chain.chain) _
    (λ s k h. h.done) _ _ c.in_ok-kept.ensures.kept.keep))

pub placed-requires : goal.placed-requires
placed-requires g c = let all = done g (goal.at.placed-requires g c).In_ok-all in
    record { within = λ i v lt j d l. (all i v lt j d l).0 }

-- the tasks are the queues without sources
bare_in : (g : _) (c : In_ok-all g)
    → AreBare c.args.job.now.sources.now (length c.args.job.now.definitions.now) c.deref.result.now
bare_in g c = rw (← c.requires.job.tables, c.deref.ensures.value) c.in_ok-tasks.ensures.tasks

pub returns-clause-parts : goal.returns-clause-parts
returns-clause-parts g c = λ x near.
    let d = (goal.at.returns-clause-parts g c).In_ok-all in
    let one = whole _ _ c.in_ok-chain.ensures.chain _ (bare_in g d) _ c.in_ok-kept.ensures.kept
    c.in_ok-all.ensures.settled x (omega (arith, near, c.in_ok-parts.ensures.size)) in
    c.in_ok-parts.ensures.placed (run c.args.job.now.state.now (records_of c.args.job.now))
    (λ i v lt j e l. (done g d i v lt j e l).1) x (rw (c.in_ok-all.ensures.done, map-map) (omega (arith, one)))

pub returns-clause-course : goal.returns-clause-course
returns-clause-course g c =
    let bare = bare_in g (goal.at.returns-clause-course g c).In_ok-all in
    starts_by_last _ _ c.requires.job c.in_ok-chain.ensures.chain _ bare _ c.in_ok-kept.ensures.kept
    c.in_ok-all.ensures.settled _ c.in_ok-all.ensures.course
