use Rattle.std.proofs.Common.{rules, ◌≡◌, ◌++◌, ◌∷◌, [], append-nil, arith, None}
use Rattle.rq_exchange.proofs.thread_work.follow.Goals as goal

pub loop-error-preserved : goal.loop-error-preserved
loop-error-preserved g c =
    let i = c.loop-error.invariant in
    let next = rw c.in-Some.is at c.in_ok-error.ensures.next in (
      c.in_ok-error.ensures.passes,
      omega (arith, next.0, i.1),
      next.1,
      (λ old. c.in_ok-error.ensures.done (i.3 old)),
      (λ starts f. rw c.in-Some.is at (c.in_ok-error.ensures.tells (starts ++ c.args.start ∷ []) (i.4 starts f))),
    )

pub returns-clause-follows : goal.returns-clause-follows
returns-clause-follows g c = λ starts f.
    let none : c.in_ok-error.field-0 ≡ None = search rules in
    rw (none, append-nil) at
    (c.in_ok-error.ensures.tells (starts ++ c.args.start ∷ []) (c.loop-error.invariant.4 starts f))
