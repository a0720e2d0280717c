use Rattle.std.proofs.Common.{length}
use Rattle.rq_live.specs.Kernels.{StandsWithin}
use Rattle.rq_reopen.specs.declared.found_log.FoundLog.{FoundLog}
use Rattle.rq_reopen.specs.Openings.{GoesOnAt, IsExactlyFound}
use Rattle.rq_reopen.proofs.Behind.{found_so, so_found, headed_so, goes_on_at, is_exactly_found, stands_within}
use Rattle.rq_reopen.proofs.found_log.FoundLog.of.Goals as goal

pub returns-clause-finds : goal.returns-clause-finds
returns-clause-finds g c =
    found_so c.args.left.now c.in_ok-front.front c.behind.result c.in_ok-front.ensures c.behind.ensures.found
    c.behind.ensures.refused

pub returns-clause-within : goal.returns-clause-within
returns-clause-within g c =
    so_found (λ (l : FoundLog). StandsWithin l.kernel (length c.args.left.now)) c.args.left.now c.behind.result
    (returns-clause-finds g c) (λ l is. stands_within c.args.left.now l is)

pub returns-clause-survives : goal.returns-clause-survives
returns-clause-survives g c =
    so_found (GoesOnAt c.args.left.now) c.args.left.now c.behind.result (returns-clause-finds g c)
    (λ l is. goes_on_at c.crash_leaves.ensures.synced c.crash_leaves.ensures.commit c.args.left.now l is)

pub returns-clause-headed : goal.returns-clause-headed
returns-clause-headed g c =
    headed_so c.crash_leaves.ensures.headed c.args.left.now c.behind.result (returns-clause-finds g c)

pub returns-clause-exact : goal.returns-clause-exact
returns-clause-exact g c =
    so_found (IsExactlyFound c.args.left.now) c.args.left.now c.behind.result (returns-clause-finds g c)
    (λ l is. is_exactly_found c.crash_leaves.ensures.beginning c.one_front.ensures.front c.args.left.now l is)
