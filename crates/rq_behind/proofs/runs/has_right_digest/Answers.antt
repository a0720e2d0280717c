use Rattle.std.proofs.Common.{◌≡◌, ◌+◌, ◌-◌, ◌↔◌, arith, rules, IsTrue}
use Rattle.std.specs.Prelude.{slice_range}
use Rattle.sha2.specs.Sha256.{sha256}
use Rattle.rq_front.proofs.Framing.{right_exactly}
use Rattle.rq_behind.proofs.runs.has_right_digest.Goals as goal

pub returns : goal.returns
returns c =
    let b = c.args.bytes.now in
    let at = c.args.at in
    let len = c.args.len in
    let exactly = right_exactly b at len (λ i. omega (arith, c.type_inv.bytes i)) c.requires.after c.requires.frame
    c.requires.size in
    let same : IsTrue c.eq.result
    ↔ (sha256 (slice_range b (at - 32) (at + 4 + len)) ≡ slice_range b (at + 4 + len) (at + 36 + len)) =
    search rules in
    (λ true. exactly.0 (same.0 true), λ right. same.1 (exactly.1 right))
