use Rattle.rq_state.proofs.Indices.{indices_within, indices_are}
use Rattle.rq_state.proofs.state.State.notes_of.Goals as goal

pub returns-clause-within : goal.returns-clause-within
returns-clause-within c = rw (c.listed_at.ensures, c.deref.ensures.value, c.self.invariant.1.noted _, ← c.self.view_is)
    (indices_within _ c.self.inside.fields.notes.items)

pub returns-clause-notes : goal.returns-clause-notes
returns-clause-notes c =
    λ d. rw (c.listed_at.ensures, c.deref.ensures.value, c.self.invariant.1.noted _, ← c.self.view_is)
    (indices_are _ c.self.inside.fields.notes.items d)
