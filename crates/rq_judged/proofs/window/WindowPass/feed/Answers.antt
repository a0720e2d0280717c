use Rattle.std.proofs.Common.{arith}
use Rattle.std.proofs.lemmas.Result.{IfErr-weaker, on_ok_weaker}
use Rattle.rq_judged.proofs.Pieces.{has_place, same_total}
use Rattle.rq_judged.proofs.window.WindowPass.feed.Goals as goal

pub take-requires-clause-short : goal.take-requires-clause-short
take-requires-clause-short g c =
    let (o, x, h) = c.requires.follows in
    let f = c.args.self.now in
    let (after, within, small, short, head) = has_place o x f h in
    let same = same_total o x f c.make_room.new.self h (c.make_room.ensures.kept o x h) in
    omega (arith, same, short, c.if-more-saturating_sub.false, c.saturating_sub.ensures)

pub returns-clause-taken : goal.returns-clause-taken
returns-clause-taken g c =
    on_ok_weaker c.take.result (λ taken. λ o x h. taken o x (c.make_room.ensures.kept o x h)) c.take.ensures.taken

pub returns-clause-kept : goal.returns-clause-kept
returns-clause-kept g c =
    IfErr-weaker c.take.result _ _ (λ e kept. λ o x h. kept o x (c.make_room.ensures.kept o x h)) c.take.ensures.kept
