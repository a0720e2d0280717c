use Rattle.rq_tool.proofs.Plans.{plan_of}
use Rattle.rq_tool.proofs.words.plan.Goals as goal

pub returns : goal.returns
returns c =
    plan_of c.args.workers.now c.args.grain.now c.in_ok-workers.workers c.in_ok-grain.grain c.new.result
    c.in_ok-workers.ensures.0 c.in_ok-grain.ensures.0 c.in_ok-workers.ensures.1 c.in_ok-grain.ensures.1
    c.new.ensures.range c.new.ensures.plan
