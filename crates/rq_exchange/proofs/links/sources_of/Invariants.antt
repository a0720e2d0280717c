use Rattle.std.proofs.Common.{◌≡◌, ◌<◌, ℕ, length, take}
use Rattle.rq_exchange.proofs.Words.{listed, naming, AreRanks}
use Rattle.rq_exchange.proofs.links.sources_of.Given as goal

abbrev pub invariant-loop-queue : goal.invariant-loop-queue
invariant-loop-queue l =
    (length l.lists.items ≡ l.count)
    × ((x : ℕ) → x < l.count → listed l.lists.items x ≡ naming (take l.queue l.errors) x)
    × AreRanks (take l.queue l.errors) l.count l.queue l.ranks.items
