use Rattle.std.proofs.Common.{drop, ap, ◌∙◌, arith}
use Rattle.rq_journal.proofs.Numbers.{counted, few}
use Rattle.rq_journal.proofs.growths.Growth.behind_carried.Goals as goal

pub numbered_before-requires : goal.numbered_before-requires
numbered_before-requires g c =
    let is = c.in_ok-front.ensures in
    (is.version, is.base, is.kept, is.after, drop c.in_ok-front.front.end.used c.args.bytes.now, is.front)

pub overflow_add-next : goal.overflow_add-next
overflow_add-next g c =
    let is = c.in_ok-front.ensures in
    let before = c.numbered_before.ensures is.version is.base is.kept is.after
    (drop c.in_ok-front.front.end.used c.args.bytes.now) is.front in
    omega (arith, before, few c.args.bytes.now c.in_ok-front.front is)

pub returns : goal.returns
returns g c =
    let is = c.in_ok-front.ensures in
    let before = c.numbered_before.ensures is.version is.base is.kept is.after
    (drop c.in_ok-front.front.end.used c.args.bytes.now) is.front in
    record {
      opens = record {
        front = c.in_ok-front.front;
        judged = is;
        end = c.numbered.ensures.end;
        grown = c.numbered.ensures.from c.args.bytes.now 72 is
            (omega (arith, before, counted c.args.bytes.now c.in_ok-front.front is));
      };
    }
