use Rattle.std.proofs.Common.{rules, ℕ, ◌+◌, List, ◌++◌, string_bytes, drop, subst, ◌∙◌}
use Rattle.std.specs.List.{flat_map}
use Rattle.std.specs.Io.KnownBytes.{Appends}
use Rattle.rq_report.specs.Streams.{Delivers}
use Rattle.rq_report.proofs.Streams.{appends_more, piece_next, piece_fails}
use Rattle.rq_report.proofs.writers.write_pieces.Goals as goal

pub returns-in_err-write_all : goal.returns-in_err-write_all
returns-in_err-write_all g c =
    let inv = c.loop-piece.invariant in
    let held = g.W.Output.contents in
    let pieces = c.args.pieces.now in
    let i = c.loop-piece.piece-index in
    let piece = c.piece-item.result in
    let next = piece_next string_bytes pieces i piece
    (flat_map string_bytes pieces) inv.1 c.loop-piece-test.true c.piece-item.is inv.2 in
    let fails = subst (λ (x : List ℕ). Delivers (g.W.Output.faults c.loop-piece.output)
    (g.W.Output.faults c.write_all.new.output) (held c.loop-piece.output)
    (held c.write_all.new.output) x c.write_all.result) c.as_bytes.ensures.value c.write_all.ensures in
    let here = piece_fails _ _ _ _ _ _ (flat_map string_bytes pieces) inv.1 (string_bytes piece)
    (flat_map string_bytes (drop (i + 1) pieces)) c.write_all.result c.in_err-write_all.field-0.0
    c.in_err-write_all.was next inv.0 inv.3 fails in
    search (rules, here, c.in_err-write_all.was, c.from_residual.ensures)

pub loop-piece-preserved : goal.loop-piece-preserved
loop-piece-preserved g c =
    let inv = c.loop-piece.invariant in
    let held = g.W.Output.contents in
    let pieces = c.args.pieces.now in
    let i = c.loop-piece.piece-index in
    let piece : List ℕ = string_bytes c.piece-item.result in
    let next = piece_next string_bytes pieces i c.piece-item.result
    (flat_map string_bytes pieces) inv.1 c.loop-piece-test.true c.piece-item.is inv.2 in
    let written : Appends (held c.loop-piece.output) (held c.write_all.new.output) piece =
    subst (λ (x : List ℕ). Appends (held c.loop-piece.output) (held c.write_all.new.output) x)
    c.as_bytes.ensures.value c.in_ok-write_all.ensures.1 in (
      c.in_ok-write_all.ensures.0 ∙ inv.0,
      inv.1 ++ piece,
      next,
      appends_more (held c.args.output.now) (held c.loop-piece.output)
          (held c.write_all.new.output) inv.1 piece inv.3 written,
    )
