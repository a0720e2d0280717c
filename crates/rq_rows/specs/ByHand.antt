-- A state that a test makes.
use Rattle.std.specs.Prelude.{ℕ, List, [], ◌∷◌, Some}
use Rattle.rq_model.specs.Records.{no_queue}
use Rattle.rq_model.specs.States.{State, Free, Enqueued}

-- one queue, and a registrant that enqueued the element, which nobody holds
abbrev pub by_hand : List ℕ → List ℕ → List ℕ → State
by_hand queue ann payload = record {
  next = 2;
  greatest = 1;
  committed = 1;
  aborted = 0;
  definitions = (record { limit = 0; error = no_queue; name = queue }) ∷ [];
  units = [];
  registrants =
      (record {
        queue = 0;
        name = ann;
        last = Some (record { place = 0; kind = Enqueued; tag = 70; element = Some 0 });
      }) ∷ [];
  elements =
      (record {
        id = 0;
        home = 0;
        origin = 0;
        priority = 5;
        attempts = 0;
        payload = payload;
        mark = Free;
      }) ∷ [];
  notes = [];
}
