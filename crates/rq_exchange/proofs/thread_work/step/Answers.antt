use Rattle.std.proofs.Common.{◌≤◌, length, append-nil, rules, arith}
use Rattle.rq_exchange.proofs.Words.{map_push, web_of}
use Rattle.rq_exchange.proofs.Handing.{ends}
use Rattle.rq_exchange.proofs.thread_work.step.Goals as goal

pub returns-then-error-job-clause-tells : goal.returns-then-error-job-clause-tells
returns-then-error-job-clause-tells g c = λ starts t.
    let none : length c.args.job.now.definitions.now ≤ c.error_of-error.result = search rules in
    rw (c.in_ok-push.ensures.items, map_push, c.in_ok-one.ensures.queue, append-nil)
    (ends (web_of c.args.job.now c.args.chain.now) c.requires.chain.web c.args.queue
    (omega (arith, none, c.error_of-error.ensures)) starts _ _ _ t)

pub returns-in-Some-clause-tells : goal.returns-in-Some-clause-tells
returns-in-Some-clause-tells g c = λ starts t.
    rw (c.in_ok-push.ensures.items, map_push, c.in_ok-one.ensures.queue) (c.in-Some.ensures.tells starts _ _ t)

pub returns-in-None-clause-tells : goal.returns-in-None-clause-tells
returns-in-None-clause-tells g c = λ starts t.
    rw (c.in_ok-push.ensures.items, map_push, c.in_ok-one.ensures.queue) (c.in-None.ensures.tells starts _ _ t)
