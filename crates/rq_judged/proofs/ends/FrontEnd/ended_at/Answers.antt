use Rattle.std.proofs.Common.{◌∷◌, ap, arith}
use Rattle.rq_model.specs.Records.{Checkpoint}
use Rattle.rq_model.specs.Frames.{last_of, before}
use Rattle.rq_model.specs.States.{State}
use Rattle.rq_model.specs.Machine.{run}
use Rattle.rq_judged.proofs.FrontEnds.{found_at}
use Rattle.rq_judged.proofs.ends.FrontEnd.ended_at.Goals as goal

pub judged_behind-requires : goal.judged_behind-requires
judged_behind-requires g c = (c.args.offset, c.in_ok-begun.ensures)

pub rule_behind-requires : goal.rule_behind-requires
rule_behind-requires g c =
    let is = (c.in_ok-front.ensures.judged c.args.offset c.in_ok-begun.ensures).is in (
      is.version,
      run is.base (Checkpoint is.kept ∷ is.after),
      is.judge,
      last_of (before c.args.offset c.args.bytes.now) (Checkpoint is.kept ∷ is.after),
      is.ends,
    )

pub overflow_add-number : goal.overflow_add-number
overflow_add-number g c =
    let h = c.in_ok-front.ensures.judged c.args.offset c.in_ok-begun.ensures in
    omega (arith, c.next.ensures.next, c.in_ok-begun.ensures.spells.next, h.few, h.is.front.short)

pub returns : goal.returns
returns g c =
    let h = c.in_ok-front.ensures.judged c.args.offset c.in_ok-begun.ensures in
    let next = ap (λ (s : State). s.next) h.begins in
    found_at c.numbers_after.ensures c.args.bytes.now c.args.offset c.in_ok-front.front h.is _
    (omega (arith, next, c.next.ensures.next, c.numbers_of.ensures.next))
    (record {
      used = c.numbers_of.ensures.used;
      total = c.numbers_of.ensures.total;
      why = c.numbers_of.ensures.why;
      rule = c.in_ok-rule.ensures.rule;
    })
