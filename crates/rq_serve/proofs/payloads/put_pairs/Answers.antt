use Rattle.std.proofs.Common.{arith, ◌∙◌}
use Rattle.std.proofs.lemmas.List.{length-set}
use Rattle.rq_serve.proofs.Pairs.{one_more}
use Rattle.rq_serve.proofs.payloads.put_pairs.Goals as goal

pub loop-at-preserved : goal.loop-at-preserved
loop-at-preserved c = (
  length-set c.loop-at.bytes c.loop-at.at _ ∙ c.loop-at.invariant.0,
  one_more c.args.digits.now c.loop-at.bytes c.loop-at.at c.digit_value-high.result c.digit_value-low.result
      _ _ _ (omega arith) (omega arith) c.digit_value-high.ensures c.digit_value-low.ensures
      c.greater.ensures c.greater-most.ensures c.loop-at.invariant.1,
)
