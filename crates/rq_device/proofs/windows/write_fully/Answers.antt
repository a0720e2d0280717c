use Rattle.std.proofs.Common.{ℕ, List, ◌++◌, take, ◌∙◌, ap, sym, Option, arith}
use Rattle.std.specs.Io.KnownBytes.{append_known}
use Rattle.rq_device.proofs.Known.{append_known_twice, front_grows}
use Rattle.rq_device.proofs.windows.write_fully.Goals as goal

pub loop-rest-preserved : goal.loop-rest-preserved
loop-rest-preserved g c =
    let inv = c.loop-rest.invariant in
    let n = c.in_ok-count.count in
    let written = g.D.Device.written in
    let piece : List ℕ = take n c.loop-rest.rest.now in (
      c.in_ok-count.ensures.fails,
      inv.1 ++ piece,
      front_grows c.args.bytes.now inv.1 c.loop-rest.rest.now n inv.2
          ∙ ap (λ (x : List ℕ). (inv.1 ++ piece) ++ x) (sym c.split_at.ensures.back),
      c.in_ok-count.ensures.bytes ∙ ap (λ (k : Option (List ℕ)). append_known k piece) inv.3
          ∙ append_known_twice (written c.args.device.now) inv.1 piece,
      λ left h. inv.4 left (c.in_ok-count.ensures.keeps left h),
      omega (arith, inv.5, c.in_ok-count.ensures.counts),
      c.in_ok-count.ensures.doubts ∙ inv.6,
    )
