-- Fields as the model has them.
use Rattle.std.specs.Prelude.{map}
use Rattle.rq_model.specs.States as model
use Rattle.rq_state.specs.Views.{unit_of}
use Rattle.rq_state.specs.declared.fields.FieldsOf.{FieldsOf}
use Rattle.rq_state.specs.declared.lent_state.LentState.{LentState}

-- fields, kept or not: an element is the model's, and so is a registrant
abbrev pub Fields : Type 0
Fields = FieldsOf model.Element model.Registrant

-- the fields, with their lists as they are
abbrev pub state_of : Fields → model.State
state_of f = record {
  next = f.next;
  greatest = f.greatest;
  committed = f.committed;
  aborted = f.aborted;
  definitions = f.definitions.items;
  units = map unit_of f.units.items;
  registrants = f.registrants.items;
  elements = f.elements.items;
  notes = f.notes.items;
}

-- the state whose lists are lent
abbrev pub state_lent : LentState model.Registrant model.Element model.Note → model.State
state_lent s = record {
  next = s.next;
  greatest = s.greatest;
  committed = s.committed;
  aborted = s.aborted;
  definitions = s.definitions.now;
  units = map unit_of s.units.now;
  registrants = s.registrants.now;
  elements = s.elements.now;
  notes = s.notes.now;
}
