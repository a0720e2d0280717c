use Rattle.std.proofs.Common.{◌+◌, List, refl, sym, subst, arith}
use Rattle.rq_front.proofs.InPieces.{side_more}
use Rattle.rq_front.specs.Walks.{AreSideBySide}
use Rattle.rq_front.specs.declared.digests.Piece.{Piece}
use Rattle.rq_front.proofs.digests.cut.Goals as goal

pub pieces-preserved : goal.pieces-preserved
pieces-preserved c =
    let end = c.pieces.done + c.piece_of.result in
    let p : Piece = record { from = c.pieces.done; to = end } in
    let side = side_more 0 c.pieces.pieces.items c.pieces.done end p c.pieces.invariant.1 refl (omega arith) refl in (
      omega (arith, c.piece_of.ensures.high),
      subst (λ (ps : List Piece). AreSideBySide 0 ps end) (sym c.in_ok-push.ensures.items) side,
    )
