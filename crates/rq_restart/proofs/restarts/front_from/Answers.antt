use Rattle.std.proofs.Common.{ℕ, ◌≤◌, List, arith, subst}
use Rattle.rq_judged.specs.Checkpoints.{IsBegun}
use Rattle.rq_restart.proofs.restarts.front_from.Goals as goal

pub returns : goal.returns
returns g c =
    let begun = c.in_ok-begun.begun in
    let is = subst (λ (b : List ℕ). IsBegun c.args.most b c.args.offset begun) c.as_slice.ensures c.in_ok-begun.ensures in
    record {
      chain = begun.found;
      begun = is;
      found = record {
        short = is.chain.short;
        behind = is.chain.after;
        well = is.spells.keeps;
        next = omega (arith, is.spells.next, c.requires);
        units = is.spells.counted.units;
        front = c.in_ok-front.ensures.front c.args.offset is.chain;
        analysis = c.in_ok-front.ensures.analysis;
      };
    }
