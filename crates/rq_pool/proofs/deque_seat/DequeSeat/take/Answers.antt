use Rattle.std.proofs.Common.{◌∷◌, [], vec_len, vec_capacity, ap, arith}
use Rattle.rq_pool.proofs.Words.{length-append, lists_of}
use Rattle.rq_pool.proofs.Taking.{no_more, of_the_deal}
use Rattle.rq_pool.proofs.deque_seat.DequeSeat.take.Goals as goal

pub push_reserved-requires : goal.push_reserved-requires
push_reserved-requires c = let same = c.in-Some.ensures.same.0 in let l = ap (λ v. vec_len v) same in let k =
    ap (λ v. vec_capacity v) same in let room = c.requires.seat.reserved in
    let few = no_more (lists_of c.args.room.now) _ _ _ _ c.in-Some.ensures.some in
    omega (arith, length-append c.args.self.now.taken.items (c.in-Some.x ∷ []))

pub returns-clause-dealt : goal.returns-clause-dealt
returns-clause-dealt c = of_the_deal (lists_of c.args.room.now) _ _ _ _ _ c.in-Some.ensures.some

pub returns-clause-fewer : goal.returns-clause-fewer
returns-clause-fewer c =
    omega (
      arith,
      no_more (lists_of c.args.room.now) _ _ _ _ c.in-Some.ensures.some,
      length-append c.args.self.now.taken.items (c.in-Some.x ∷ []),
    )
