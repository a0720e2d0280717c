use Rattle.std.proofs.Common.{arith, ap, ◌∙◌, ◌≡◌, ◌+◌, ◌++◌, Some}
use Rattle.rq_pool.proofs.Countdowns.Words.{All-pop}
use Rattle.rq_pool.proofs.Countdowns.Joins.{begins, goes_on, joins}
use Rattle.rq_pool.proofs.countdown.joined.join_all.Goals as goal

pub loop-pass-init : goal.loop-pass-init
loop-pass-init g c = let e = c.in-Some.ensures.items in let own = c.retire-seat.ensures in let m =
    ap (λ m. m.0) own.1 in
    let b = begins (λ p. p.seat.me.0) c.args.passes.items c.pop.new.self.items c.in-Some.first c.retire-seat.result.me.0
    e m in (
      (All-pop (λ p. p.seat.table_id ≡ c.args.board.now.table_id) _ _ (Some c.in-Some.first) e c.requires.own.0).0,
      own.0,
      ap (λ m. m.1) own.1,
      ap (λ v. v.at) m ∙ c.in-Some.first.rests.0,
      (let p = ap (λ v. v.parts) m in let q = c.in-Some.first.rests.1 in omega arith),
      b,
    )

pub join_seat-requires : goal.join_seat-requires
join_seat-requires g c = let i = c.loop-pass.invariant in let other = c.retire-other.ensures in (
  i.1,
  other.0,
  ap (λ m. m.1) other.1,
  c.requires.own.1,
  joins g.T.Fits.fits c.args.board.now.key _ _ _ _ i.4 i.3
      (ap (λ m. m.0.at) other.1 ∙ c.in-Some-pop.pass.rests.0),
)

pub loop-pass-preserved : goal.loop-pass-preserved
loop-pass-preserved g c = let i = c.loop-pass.invariant in let other = c.retire-other.ensures in let now =
    c.join_seat.ensures in let w = ap (λ m. m.0) other.1 in let v = ap (λ m. m.0) now.2 in
    let e = c.in-Some-pop.ensures.items in let more = ap (λ u. c.loop-pass.seat.me.0.parts + u.parts) w in
    let b = goes_on (λ p. p.seat.me.0) c.args.passes.items c.loop-pass.passes.items c.pop-in-loop-pass.new.self.items
    c.in-Some-pop.pass c.loop-pass.seat.me.0 c.join_seat.new.seat.me.0 e
    (ap (λ u. u.parts) v ∙ more) (ap (λ u. u.made) v ∙ ap (λ u. u.made ++ c.loop-pass.seat.me.0.made) w)
    (ap (λ u. u.refused) v ∙ ap (λ u. u.refused ++ c.loop-pass.seat.me.0.refused) w) i.5 in (
      (All-pop (λ p. p.seat.table_id ≡ c.args.board.now.table_id) _ _ (Some c.in-Some-pop.pass) e i.0).0,
      now.0 ∙ i.1,
      ap (λ m. m.1) now.2 ∙ i.2,
      ap (λ u. u.at) v,
      (let p = ap (λ u. u.parts) v in let q = i.4 in omega arith),
      b,
    )
