use Rattle.std.proofs.Common.{ℕ, List, ◌++◌, take, ◌∙◌, ap, sym}
use Rattle.rq_report.proofs.Streams.{appends_more, front_grows}
use Rattle.rq_report.proofs.writers.write_all.Goals as goal

pub loop-rest-preserved : goal.loop-rest-preserved
loop-rest-preserved g c =
    let inv = c.loop-rest.invariant in
    let n = c.in_ok-written.written in
    let held = g.W.Output.contents in
    let piece : List ℕ = take n c.loop-rest.rest.now in (
      c.in_ok-written.ensures.ok ∙ inv.0,
      inv.1 ++ piece,
      front_grows c.args.text.now inv.1 c.loop-rest.rest.now n inv.2
          ∙ ap (λ (x : List ℕ). (inv.1 ++ piece) ++ x) (sym c.split_at.ensures.back),
      appends_more (held c.args.output.now) (held c.loop-rest.output)
          (held c.write.new.self) inv.1 piece inv.3 c.in_ok-written.ensures.bytes,
    )
