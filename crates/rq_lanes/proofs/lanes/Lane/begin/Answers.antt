use Rattle.std.proofs.Common.{◌*◌, ◌/◌, ◌++◌, ℕ, List, drop, ap, sym, ◌∙◌, arith}
use Rattle.sha2.specs.Sha256.{padding}
use Rattle.rq_lanes.specs.Messages.{text}
use Rattle.rq_lanes.proofs.Blocks.{length-text}
use Rattle.rq_lanes.proofs.Holding.{rest_of_text}
use Rattle.rq_lanes.proofs.lanes.Lane.begin.Goals as goal

pub returns-clause-fills : goal.returns-clause-fills
returns-clause-fills c count =
    let b = c.args.bytes.now in
    let m = c.args.message in
    let long = length-text b m (omega arith) in
    let rest = rest_of_text b m (omega arith) in
    record {
      within = c.requires.within;
      count = count;
      tail = c.put_last_blocks.ensures ∙ ap (λ (x : List ℕ). x ++ padding m.len) rest
          ∙ ap (λ (n : ℕ). drop (m.len / 64 * 64) (text b m) ++ padding n) (sym long);
    }
