use Rattle.std.proofs.Common.{◌≡◌, rules}
use Rattle.rq_exchange.proofs.Words.{Works, HasEnded, length_push, All-push, IsSeatOf, HasKept, map-append}
use Rattle.rq_exchange.proofs.Pairs.{pairs_push}
use Rattle.rq_exchange.proofs.Loops.{next_has, all_came}
use Rattle.rq_exchange.proofs.crew.handed_back.Goals as goal

pub loop-one-preserved : goal.loop-one-preserved
loop-one-preserved c = λ job chain room all.
    let works = next_has _ _ c.next.new.self c.args.ended.items (cc) (cc) c.loop-one.yielded c.loop-one.yielded_by
    (Works job chain room) all c.in-Some.is c.next.ensures.steps in
    let has : HasEnded job chain room c.in_ok-seat.field-0 = rw c.in_ok-seat.was at works in
    let i = c.loop-one.invariant job chain room all in
    rw (c.in_ok-push.ensures.items, c.in_ok-push-2.ensures.items) (record {
      each = rw (length_push, i.each, length_push);
      many = rw (length_push, i.many, length_push);
      seats = All-push (IsSeatOf room) c.loop-one.seats.items _ i.seats has.seat;
      keep = rw map-append (pairs_push (HasKept job chain) _ _ _ _ i.keep has.keeps);
    })

pub returns-clause-back : goal.returns-clause-back
returns-clause-back c = λ job chain room all.
    let came : c.loop-one.yielded ≡ c.args.ended.items = search (rules, all_came) in
    rw came at (c.loop-one.invariant job chain room all)
