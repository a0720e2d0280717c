use Rattle.std.proofs.Common.{sym}
use Rattle.rq_exchange.proofs.Words.{get_or_read_under}
use Rattle.rq_exchange.proofs.Handing.{handed, given}
use Rattle.rq_exchange.proofs.chain.CountdownChain.hand_on.Goals as goal

pub returns-clause-boxes : goal.returns-clause-boxes
returns-clause-boxes c = rw c.boxes_in.ensures
    (given _ _ c.requires.chain _ _ c.requires.queue.0 c.requires.queue.1 c.requires.queue.2 _ _ c.arrive.result
    (record { moves = c.args.moves }) (get_or_read_under _ _ _ _ 0 c.index.ensures c.requires.queue.2
    (sym c.requires.chain.slots)) c.index-2.ensures c.arrive.ensures.answer)

pub returns-clause-tells : goal.returns-clause-tells
returns-clause-tells c = rw c.boxes_in.ensures
    (handed _ _ c.requires.chain _ _ c.requires.queue.0 c.requires.queue.1 c.requires.queue.2 _ _
    c.index-passes-slot.result c.arrive.new.pass (record { moves = c.args.moves }) c.arrive.result
    (get_or_read_under _ _ _ _ 0 c.index.ensures c.requires.queue.2 (sym c.requires.chain.slots))
    c.arrive.ensures.told c.requires.passes.each)
