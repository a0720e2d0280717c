use Rattle.std.proofs.Common.{rules, ◌≡◌, length}
use Rattle.rq_model.proofs.Decided.{note_queues}
use Rattle.rq_state.proofs.state.State.of_ordered.Goals as goal

pub table_of-requires-2 : goal.table_of-requires-2
table_of-requires-2 c =
    let queues : c.len-queues.result ≡ length _ = search rules in
    rw (c.deref-2.ensures.value, queues) (note_queues _ c.requires)
