use Rattle.std.proofs.Common.{◌∙◌, [], List, ap, map}
use Rattle.std.specs.Prelude.{slice_index_or}
use Rattle.rq_model.specs.States as model
use Rattle.rq_state.proofs.state.State.copied_elements_of.Goals as goal

any : model.Element
any = record { id = 0; home = 0; origin = 0; priority = 0; attempts = 0; payload = []; mark = model.Free }

pub returns-clause-elements : goal.returns-clause-elements
returns-clause-elements c = c.in_ok-copies.ensures.copied any
    ∙ (ap (λ (xs : List model.Element). map (λ index. slice_index_or xs index any) c.elements_of.result.now) c.elements.ensures
    ∙ c.elements_of.ensures.elements any)
