use Rattle.std.proofs.Common.{◌∙◌, [], List, ap, map}
use Rattle.std.specs.Prelude.{slice_index_or, None}
use Rattle.rq_model.specs.States as model
use Rattle.rq_state.proofs.state.State.copied_notes_of.Goals as goal

any : model.Note
any = record {
  unit = 0;
  queue = 0;
  name = [];
  last =
      record { place = 0; kind = model.Enqueued; tag = 0; element = None };
}

pub returns-clause-notes : goal.returns-clause-notes
returns-clause-notes c = c.in_ok-copies.ensures.copied any
    ∙ (ap (λ (xs : List model.Note). map (λ index. slice_index_or xs index any) c.notes_of.result.now) c.notes.ensures
    ∙ c.notes_of.ensures.notes any)
