use Rattle.std.proofs.Common.{◌<◌, ◌∷◌, [], ◌++◌, length, map, get_or, ap, sym, ◌∙◌, arith}
use Rattle.rq_pool.proofs.Words.{length-map, get_or-map, list_in, stolen, ids_of, map-set}
use Rattle.rq_pool.proofs.Taking.{stole}
use Rattle.rq_pool.proofs.Sources.{less_than_dealt}
use Rattle.rq_pool.proofs.deque_seat.DequeSeat.steal.Goals as goal

pub returns-in-Some-clause-some : goal.returns-in-Some-clause-some
returns-in-Some-clause-some c =
    let inside : c.loop-j.j < length c.loop-j.self.sources.items = omega arith in
    let inv = c.loop-j.invariant in let got = c.in-Some.ensures.some in
    let is = got.0 ∙ ap (λ xs. xs ++ c.in-Some.x ∷ []) (ap stolen c.index_mut.ensures.value
    ∙ sym (get_or-map stolen c.loop-j.self.sources.items c.loop-j.j c.index_mut.result.now [] inside)
    ∙ ap (λ xss. get_or xss c.loop-j.j []) inv.stolens) in
    let less = less_than_dealt c.loop-j.self.sources.items (ids_of c.args.room.now) c.loop-j.j c.index_mut.result.now
    (stolen c.steal.new.self) (inv.sources ∙ c.requires.sources) inside c.index_mut.ensures.value got.1 in
    rw (map-set stolen c.loop-j.self.sources.items c.loop-j.j c.steal.new.self, inv.stolens, inv.number, inv.owner)
    (stole (map list_in (ids_of c.args.room.now)) c.args.self.now.number _
    (map stolen c.args.self.now.sources.items) c.args.self.now.taken.items
    (c.in-Some.x ∷ []) (stolen c.steal.new.self) c.loop-j.j c.requires.holds
    (λ e. c.if-j-self.false (e ∙ sym inv.number))
    (let l = ap length inv.stolens in omega (arith, length-map c.loop-j.self.sources.items stolen)) is less)
