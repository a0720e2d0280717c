use Rattle.rq_state.proofs.Indices.{indices_within, indices_are}
use Rattle.rq_state.proofs.state.State.elements_of.Goals as goal

pub returns-clause-within : goal.returns-clause-within
returns-clause-within c = rw (c.listed_at.ensures, c.deref.ensures.value, c.self.invariant.1.homes _, ← c.self.view_is)
    (indices_within _ c.self.inside.fields.elements.items)

pub returns-clause-elements : goal.returns-clause-elements
returns-clause-elements c =
    λ d. rw (c.listed_at.ensures, c.deref.ensures.value, c.self.invariant.1.homes _, ← c.self.view_is)
    (indices_are _ c.self.inside.fields.elements.items d)
