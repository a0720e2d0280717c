use Rattle.std.proofs.Common.{rules}
use Rattle.std.proofs.lemmas.List.Sorted.{answers_always}
use Rattle.rq_state.proofs.InOrder.{numbers_are}
use Rattle.rq_state.proofs.orders.order.Goals as goal

pub returns : goal.returns
returns g c = numbers_are g.M.Ordinal.ordinal_of _ _ c.sort_unstable_by_key.ensures.permutation
    (c.sort_unstable_by_key.ensures.sorted g.M.Ordinal.ordinal_of (answers_always _ _ _ (λ f a r g h. search rules)))
    c.requires
