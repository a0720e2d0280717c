use Rattle.std.proofs.Common.{◌≡◌, map, length, arith, ap, ◌∙◌, rules, [], slice_index_or}
use Rattle.rq_exchange.proofs.Words.{length-set, times, deal_of, taken_of, AreHandedBack, HasKept}
use Rattle.rq_record.specs.declared.fault.Fault.TheVariants.{Resources}
use Rattle.rq_exchange.proofs.Pairs.{pairs_at, pairs_long}
use Rattle.rq_exchange.proofs.Working.{taken_over}
use Rattle.rq_exchange.proofs.crew.all_kept.Goals.{In_ok-seats}
use Rattle.rq_exchange.proofs.crew.all_kept.Goals as goal

pub run_seats-requires-clause-workers : goal.run_seats-requires-clause-workers
run_seats-requires-clause-workers g c κs within =
    c.in_ok-workers.ensures.workers c.args.chain.now c.in_ok-room.room c.in_ok-room.ensures.seats c.requires.rows

pub run_seats-requires-clause-bare : goal.run_seats-requires-clause-bare
run_seats-requires-clause-bare g c κs within = λ x h.
    let deal = c.in_ok-room.ensures.deal x in
    let bare = c.requires.tasks.no_other x (omega (arith, deal, h)) in
    (omega (arith, bare.0, c.requires.job.tables), bare.1)

pub returns-in_err-seats-clause-refused : goal.returns-in_err-seats-clause-refused
returns-in_err-seats-clause-refused g c =
    let why : c.in_err-seats.field-0.0 ≡ Resources =
    c.in_err-seats.ensures.refused c.args.job.now c.args.chain.now c.in_ok-room.room c.in_ok-ended.ensures.1 in
    search rules

back : (g : _) (c : In_ok-seats g) → AreHandedBack c.args.job.now c.args.chain.now c.in_ok-room.room
    (length c.in_ok-ended.ended.items) c.in_ok-seats.seats.items c.in_ok-seats.kept.items
back g c = c.in_ok-seats.ensures.back c.args.job.now c.args.chain.now c.in_ok-room.room c.in_ok-ended.ensures.1

-- as many threads as rows of passes
workers : (g : _) (c : In_ok-seats g) → length c.in_ok-ended.ended.items ≡ c.len.result
workers g c = c.in_ok-ended.ensures.0 ∙ c.in_ok-workers.ensures.count ∙ c.in_ok-room.ensures.count.1

threads : (g : _) (c : In_ok-seats g) → length c.in_ok-seats.kept.items ≡ length c.args.rows.items
threads g c = omega (arith, (back g c).many, workers g c, c.len.ensures, c.args.rows.ok.0)

pub close-left-requires-clause-seats : goal.close-left-requires-clause-seats
close-left-requires-clause-seats g c = (back g (goal.at.close-left-requires-clause-seats g c).In_ok-seats).seats

pub close-left-requires-clause-all : goal.close-left-requires-clause-all
close-left-requires-clause-all g c =
    let d = (goal.at.close-left-requires-clause-all g c).In_ok-seats in
    omega (arith, (back g d).each, workers g d, c.in_ok-room.ensures.count.0, c.in_ok-seats.seats.ok.0)

pub index_mut-requires : goal.index_mut-requires
index_mut-requires g c =
    omega (arith, threads g (goal.at.index_mut-requires g c).In_ok-seats, c.requires.count.0, c.in_ok-seats.kept.ok.0)

-- the first thread has what it took
pub finish-requires : goal.finish-requires
finish-requires g c =
    let d = (goal.at.finish-requires g c).In_ok-seats in
    let keep = (back g d).keep in
    let long = pairs_long (HasKept c.args.job.now c.args.chain.now) _ _ keep in
    let first : HasKept c.args.job.now c.args.chain.now (slice_index_or (map taken_of c.in_ok-seats.seats.items) 0 [])
    c.index_mut.result.now = rw c.index_mut.ensures.value (pairs_at (HasKept c.args.job.now c.args.chain.now) _ _ keep 0
    [] c.index_mut.result.now (omega (arith, long, threads g d, c.requires.count.0))) in
    record {
      job = c.requires.job;
      chain = c.requires.chain;
      passes = first.passes;
      done = first.done;
      bare = λ x h.
          let deal = c.in_ok-room.ensures.deal x in
          let left = c.close-left.ensures.ledger x in
          let bare = c.requires.tasks.no_other x (omega (arith, left, ap (times x) c.left.ensures.left, deal, h)) in
          (omega (arith, bare.0, c.requires.job.tables), bare.1);
    }

pub returns-clause-kept : goal.returns-clause-kept
returns-clause-kept g c =
    let d = (goal.at.returns-clause-kept g c).In_ok-seats in
    taken_over c.args.job.now c.args.chain.now _ _ c.left.result.now c.args.tasks.now (deal_of c.in_ok-room.room) _ _
    (back g d).keep (omega (arith, threads g d, c.requires.count.0)) c.index_mut.ensures.value
    (λ s keeps. record {
      passes = c.in_ok-finish.ensures.passes;
      done = c.in_ok-finish.ensures.done;
      follows = c.in_ok-finish.ensures.follows s keeps.follows;
    })
    (rw (← c.close-left.ensures.takens, c.left.ensures.left) c.close-left.ensures.ledger) c.in_ok-room.ensures.deal

pub returns-clause-count : goal.returns-clause-count
returns-clause-count g c = length-set c.in_ok-seats.kept.items 0 c.finish.new.kept
    ∙ threads g (goal.at.returns-clause-count g c).In_ok-seats
