use Rattle.rq_model.specs.Frames.{last_of, start}
use Rattle.rq_model.specs.States.{empty}
use Rattle.rq_model.specs.Machine.{run}
use Rattle.rq_judged.proofs.FrontEnds.{found}
use Rattle.rq_judged.proofs.ends.FrontEnd.of.Goals as goal

pub rule_behind-requires : goal.rule_behind-requires
rule_behind-requires g c =
    let is = c.in_ok-front.ensures in
    (is.version, run empty is.records, is.judge, last_of (start is.version) is.records, is.ends)

pub returns : goal.returns
returns g c =
    found c.numbers_after.ensures c.runs_are_well_formed.ensures.start c.args.bytes.now c.in_ok-front.front
    c.in_ok-front.ensures _ c.numbers_of.ensures.next
    (record {
      used = c.numbers_of.ensures.used;
      total = c.numbers_of.ensures.total;
      why = c.numbers_of.ensures.why;
      rule = c.in_ok-rule.ensures.rule;
    })
