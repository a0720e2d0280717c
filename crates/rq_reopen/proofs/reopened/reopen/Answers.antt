use Rattle.rq_reopen.proofs.Found.{survives_so, mishap_so, exact_so}
use Rattle.rq_reopen.proofs.reopened.reopen.Goals as goal

pub returns-clause-survives : goal.returns-clause-survives
returns-clause-survives g c =
    survives_so c.crash_leaves.ensures.synced c.crash_leaves.ensures.commit c.args.left.now c.restart.result
    c.restart.ensures

pub returns-clause-exact : goal.returns-clause-exact
returns-clause-exact g c =
    exact_so c.crash_leaves.ensures.beginning c.one_report.ensures.restart c.args.left.now c.restart.result
    c.restart.ensures

pub returns-clause-headed : goal.returns-clause-headed
returns-clause-headed g c = mishap_so c.crash_leaves.ensures.headed c.args.left.now c.restart.result c.restart.ensures
