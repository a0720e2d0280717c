use Rattle.std.proofs.Common.{◌<◌, ℕ, List, [], ◌∷◌, ◌++◌, All, length}
use Rattle.rq_exchange.proofs.Words.{web_of, AreBoxes, ArePasses, IsRedone, redone_in, diaries_of, HasFollowed}
use Rattle.rq_exchange.proofs.Words.{DiariesTell}
use Rattle.rq_exchange.proofs.thread_work.follow.Given as goal

abbrev pub invariant-loop-error : goal.invariant-loop-error
invariant-loop-error g l =
    ArePasses l.chain l.passes
    × (l.queue < length l.job.definitions.now)
    × AreBoxes l.job l.queue l.boxes.items
    × (All (IsRedone l.job) l.fn.done.items → All (IsRedone l.job) l.done.items)
    × ((starts : List ℕ) → HasFollowed l.job l.chain starts l.fn.done.items l.fn.passes
    → DiariesTell (web_of l.job l.chain)
    (starts ++ l.fn.start ∷ []) (redone_in l.done.items ++ l.queue ∷ []) (redone_in l.done.items)
    (diaries_of l.passes))

abbrev pub decreases-loop-error : goal.decreases-loop-error
decreases-loop-error g l = l.queue
