use Rattle.std.proofs.Common.{◌≡◌, length, Vec, Global, ◌∙◌}
use Rattle.rq_exchange.proofs.Words.{length_push, map_push}
use Rattle.rq_exchange.proofs.Pairs.{some_of}
use Rattle.rq_exchange.proofs.Loops.{next_has}
use Rattle.rq_exchange.proofs.columns.columns.Goals as goal

pub loop-row-preserved : goal.loop-row-preserved
loop-row-preserved g c =
    let i = c.loop-row.invariant in
    let long : length c.in-Some.row.items ≡ c.args.count =
    next_has _ _ c.next.new.self c.args.rows.items (cc) (cc) c.loop-row.yielded c.loop-row.yielded_by
    (λ (r : Vec g.row.T.Denot Global). length r.items ≡ c.args.count) c.requires c.in-Some.is c.next.ensures.steps in
    record {
      len = c.spread.ensures.len ∙ i.len;
      long = λ k d lt.
          let x = some_of c.in-Some.row.items k (rw long lt) in
          rw (c.in_ok-spread.ensures.spread k d d x (rw i.len lt), length_push, i.long k d lt, length_push);
      each = λ k d x lt. rw (c.in_ok-spread.ensures.spread k d d x (rw i.len lt), i.each k d x lt, map_push);
    }
