-- A record that is taken, if it is lawful.
use Rattle.std.specs.Prelude.{ℕ, ◌≡◌, Bool, if◌then◌else◌, List, length, ◌+◌, ◌≤◌, ◌<◌, true, ◌++◌}
use Rattle.std.specs.Prelude.{take, Result, Ok, Err}
use Rattle.rq_model.specs.Records.{Record, Version}
use Rattle.rq_model.specs.States.{State}
use Rattle.rq_model.specs.Machine.{is_lawful, lawful_front, run, step, all_lawful}

-- t is what s comes to by one record, and this says whether it is lawful
pub record TakesOne (version : Version) (s : State) (r : Record) (t : State) (lawful : Bool) : Type 0 where
  pub judged : lawful ≡ is_lawful version s r
  pub state : t ≡ (if lawful then step s r else s)
