use Rattle.std.proofs.Common.{ℕ, List, ◌++◌, ◌∙◌, ap, sym, Option, append_assoc}
use Rattle.std.specs.Io.KnownBytes.{append_known}
use Rattle.rq_device.proofs.Known.{append_known_twice}
use Rattle.rq_device.proofs.windows.settle.Goals as goal

pub loop-rest-preserved : goal.loop-rest-preserved
loop-rest-preserved g c =
    let inv = c.loop-rest.invariant in
    let written = g.D.Device.written in
    let piece = c.split_at.result.0.now in
    let more = c.split_at.result.1.now in (
      c.in_ok-settle_piece.ensures.fails,
      inv.1 ++ piece,
      inv.2 ∙ ap (λ (x : List ℕ). inv.1 ++ x) c.split_at.ensures.by_index.0 ∙ sym (append_assoc inv.1 piece more),
      c.in_ok-settle_piece.ensures.bytes ∙ ap (λ (k : Option (List ℕ)). append_known k piece) inv.3
          ∙ append_known_twice (written c.args.device.now) inv.1 piece,
      λ left h. inv.4 left (c.in_ok-settle_piece.ensures.keeps left h),
      c.in_ok-settle_piece.ensures.synced,
      c.in_ok-settle_piece.ensures.doubts ∙ inv.6,
    )
