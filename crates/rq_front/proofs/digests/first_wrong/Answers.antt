use Rattle.std.proofs.Common.{◌≡◌, ◌<◌, ◌^◌, length, get_or, ℕ, List, Bool, sym, ap, ◌∙◌, subst, arith, rules, Bor, map}
use Rattle.std.proofs.Common.{Some}
use Rattle.std.specs.Prelude.{All}
use Rattle.std.specs.List.{AllZip}
use Rattle.std.proofs.lemmas.List.{take_rest}
use Rattle.std.proofs.lemmas.List.Elements.{All-drop, All-nil}
use Rattle.rayon.specs.Lists.{first_true, iter_slice}
use Rattle.rayon.specs.declared.slice.Iter.{Iter}
use Rattle.rayon.proofs.ToStd.{slice-AllZip}
use Rattle.rq_front.proofs.InPieces.{IsWithin, all_within, Tells, none_wrong, first_piece, IsFirstPiece, not_all_right}
use Rattle.rq_front.proofs.InPieces.{first_of_all}
use Rattle.rq_front.specs.Walks.{AreSideBySide, IsRight, IsSpanOf, IsFirstWrong}
use Rattle.rq_front.specs.declared.digests.Piece.{Piece}
use Rattle.rq_front.specs.declared.spans.Span.{Span}
use Rattle.rq_front.proofs.digests.first_wrong.Goals as goal

pub position_first-requires-clause-items : goal.position_first-requires-clause-items
position_first-requires-clause-items g c κs within =
    let items = ap (λ (it : Iter Piece). iter_slice it) c.with_min_len.ensures.base ∙ c.par_iter.ensures in
    let each = subst (All (IsWithin (length c.args.spans.now))) (sym items)
    (all_within c.in-Ok.pieces.items (length c.args.spans.now) c.in-Ok.ensures) in
    λ k d lt x e. (c.requires.inside, subst (IsWithin (length c.args.spans.now)) (sym e) (each k d lt))

pub returns-in_err-index-clause-none : goal.returns-in_err-index-clause-none
returns-in_err-index-clause-none g c =
    let b = c.args.bytes.now in
    let items = ap (λ (it : Iter Piece). iter_slice it) c.with_min_len.ensures.base ∙ c.par_iter.ensures in
    let told = c.in_err-index.ensures in
    let zip = slice-AllZip told.0 c.in-Ok.pieces.items (told.2 ∙ items) (Tells b c.args.spans.now) told.1 told.3 in
    rw c.from_residual.ensures
    (none_wrong b c.args.spans.now 0 c.in-Ok.pieces.items told.1 c.in-Ok.ensures (All-nil (IsRight b)) zip
    (sym told.4))

-- the piece that was found
at_piece : (b : List ℕ) (spans : List Span) (ps : List Piece) (it there : Iter Piece) (k : ℕ) (p : Piece) → it ≡ there
    → iter_slice there ≡ ps → length ps < 2 ^ 64
    → AreSideBySide 0 ps (length spans)
    → (zs : List (Bor Piece)) × (ts : List Bool) × (map (λ (z : Bor Piece). z.now) zs ≡ iter_slice it)
    × AllZip (λ (z : Bor Piece) t. Tells b spans z.now t) zs ts × (Some k ≡ first_true ts)
    → (k < length ps) × IsFirstPiece b spans (get_or ps k p).from
at_piece b spans ps it there k p same slice lt side told =
    let items = ap (λ (x : Iter Piece). iter_slice x) same ∙ slice in
    let zip = slice-AllZip told.0 ps (told.2 ∙ items) (Tells b spans) told.1 told.3 in
    first_piece b spans 0 ps told.1 k p lt side (All-nil (IsRight b)) zip (sym told.4)

pub index-requires : goal.index-requires
index-requires g c =
    let d : Piece = record { from = 0; to = 0 } in
    let found = at_piece c.args.bytes.now c.args.spans.now c.in-Ok.pieces.items _ _ c.in_ok-index.index d
    c.with_min_len.ensures.base c.par_iter.ensures (omega arith) c.in-Ok.ensures c.in_ok-index.ensures in
    omega (arith, found.0)

-- it begins after right spans
begins : (b : List ℕ) (spans : List Span) (ps : List Piece) (it there : Iter Piece) (k : ℕ) (p : Piece) → it ≡ there
    → iter_slice there ≡ ps → length ps < 2 ^ 64
    → AreSideBySide 0 ps (length spans)
    → (zs : List (Bor Piece)) × (ts : List Bool) × (map (λ (z : Bor Piece). z.now) zs ≡ iter_slice it)
    × AllZip (λ (z : Bor Piece) t. Tells b spans z.now t) zs ts × (Some k ≡ first_true ts)
    → p ≡ get_or ps k p → IsFirstPiece b spans p.from
begins b spans ps it there k p same slice lt side told is =
    subst (λ (q : Piece). IsFirstPiece b spans q.from) (sym is)
    (at_piece b spans ps it there k p same slice lt side told).1

pub offset_bounds-spans-start : goal.offset_bounds-spans-start
offset_bounds-spans-start g c = let p =
    begins c.args.bytes.now c.args.spans.now c.in-Ok.pieces.items _ _ c.in_ok-index.index c.index.result.now
    c.with_min_len.ensures.base c.par_iter.ensures
    (omega arith) c.in-Ok.ensures c.in_ok-index.ensures c.index.ensures in omega (arith, p.within)

pub slice_bounds-wrong_in-count : goal.slice_bounds-wrong_in-count
slice_bounds-wrong_in-count g c = let p =
    begins c.args.bytes.now c.args.spans.now c.in-Ok.pieces.items _ _ c.in_ok-index.index c.index.result.now
    c.with_min_len.ensures.base c.par_iter.ensures
    (omega arith) c.in-Ok.ensures c.in_ok-index.ensures c.index.ensures in omega (arith, p.within)

pub slice_bounds-wrong_in-start : goal.slice_bounds-wrong_in-start
slice_bounds-wrong_in-start g c = let p =
    begins c.args.bytes.now c.args.spans.now c.in-Ok.pieces.items _ _ c.in_ok-index.index c.index.result.now
    c.with_min_len.ensures.base c.par_iter.ensures
    (omega arith) c.in-Ok.ensures c.in_ok-index.ensures c.index.ensures in search (rules, p.within)

pub wrong_in-requires-2 : goal.wrong_in-requires-2
wrong_in-requires-2 g c =
    let rest = take_rest c.args.spans.now c.index.result.now.from in
    subst (All (IsSpanOf c.args.bytes.now)) (sym rest)
    (All-drop (IsSpanOf c.args.bytes.now) c.index.result.now.from c.args.spans.now c.requires.inside)

pub returns-in_err-index-2-clause-none : goal.returns-in_err-index-2-clause-none
returns-in_err-index-2-clause-none g c =
    let p = begins c.args.bytes.now c.args.spans.now c.in-Ok.pieces.items _ _ c.in_ok-index.index c.index.result.now
    c.with_min_len.ensures.base c.par_iter.ensures
    (omega arith) c.in-Ok.ensures c.in_ok-index.ensures c.index.ensures in
    let rest = take_rest c.args.spans.now c.index.result.now.from in
    let all = subst (All (IsRight c.args.bytes.now)) rest c.in_err-index-2.ensures.none in
    absurd (not_all_right c.args.bytes.now c.args.spans.now c.index.result.now.from p all)

pub returns-clause-some : goal.returns-clause-some
returns-clause-some g c =
    let p = begins c.args.bytes.now c.args.spans.now c.in-Ok.pieces.items _ _ c.in_ok-index.index c.index.result.now
    c.with_min_len.ensures.base c.par_iter.ensures
    (omega arith) c.in-Ok.ensures c.in_ok-index.ensures c.index.ensures in
    let rest = take_rest c.args.spans.now c.index.result.now.from in
    let first = subst (λ (ss : List Span). IsFirstWrong c.args.bytes.now ss c.in_ok-index-2.index) rest
    c.in_ok-index-2.ensures.some in
    first_of_all c.args.bytes.now c.args.spans.now c.index.result.now.from c.in_ok-index-2.index p first
