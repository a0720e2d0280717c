use Rattle.rq_state.proofs.Joined.{joined}
use Rattle.rq_state.proofs.writers.members.put_note_end.Goals as goal

pub returns : goal.returns
returns c = rw (← c.note.view_is) (joined _ _ _ _ _ _ c.in_ok-put_name.ensures c.put_done.ensures)
