use Rattle.std.proofs.Common.{arith, rules}
use Rattle.std.proofs.lemmas.Grind.{common_steps}
use Rattle.rq_tool.proofs.Reading.{counts_on}
use Rattle.rq_tool.proofs.input.counted.Goals as goal

pub loop-total-preserved : goal.loop-total-preserved
loop-total-preserved g c =
    let remaining = g.I.Input.remaining in
    record {
      faults = first_of (search rules, grind (arith, common_steps));
      count =
          counts_on (remaining c.args.input.now) (remaining c.loop-total.input)
          (remaining c.read.new.self) c.args.read c.loop-total.total c.in_ok-more.more c.read.new.piece
          c.loop-total.invariant.count c.in_ok-more.ensures.bytes.0 c.in_ok-more.ensures.bound;
      limit = first_of (search rules, grind (arith, common_steps));
      piece = first_of (search rules, grind (arith, common_steps));
    }
