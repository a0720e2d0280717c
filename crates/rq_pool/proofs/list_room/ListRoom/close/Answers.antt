use Rattle.std.proofs.Common.{◌≡◌, ◌∷◌, [], ◌++◌, ap, subst, ◌∙◌, map, vec_items, length, take, drop, arith}
use Rattle.rq_pool.proofs.Words.{Ledger}
use Rattle.rq_pool.proofs.Ledgers.{ledger_alone}
use Rattle.rq_pool.proofs.list_room.ListRoom.close.Goals as goal

pub returns-clause-ledger : goal.returns-clause-ledger
returns-clause-ledger c = let from : length c.list_taken-taken.result.items ≡ c.len-from.result = omega arith in
    subst (λ n. Ledger (c.args.self.list.items ∷ []) (map vec_items c.push_reserved.new.self.items)
    (drop n c.args.self.list.items)) from
    (ledger_alone c.args.self.list.items c.list_taken-taken.result.items _
    (c.list_taken-taken.ensures.front.0 ∙ ap (take (length c.list_taken-taken.result.items))
    c.as_slice.ensures.value)
    (ap (map vec_items) (c.push_reserved.ensures.items
    ∙ ap (λ l. l ++ c.list_taken-taken.result ∷ []) c.args.self.reserved.0)))
