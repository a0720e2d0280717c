-- A state that has no checkpoint, and the one behind the front of a log.
use Rattle.std.proofs.Common.{ℕ, ◌≤◌, List, [], drop, sym, subst}
use Rattle.std.specs.Prelude.{Err}
use Rattle.std.proofs.lemmas.List.{append-nil}
use Rattle.rq_model.specs.Records.{Record}
use Rattle.rq_model.specs.LogLaws.{FrontsAreSpelt}
use Rattle.rq_model.specs.States.{State}
use Rattle.rq_model.specs.StateSpelling.{carried_next, log_next}
use Rattle.rq_model.specs.Fronts.{IsFront}
use Rattle.rq_record.specs.Views.{version_of}
use Rattle.rq_record.specs.declared.fault.Fault.{Fault}
use Rattle.rq_record.specs.declared.fault.Fault.TheVariants as faults
use Rattle.rq_restart.specs.declared.redone.RedoneFront.{RedoneFront}
use Rattle.rq_restart.specs.RedoneFronts.{IsRedoneFront}
use Rattle.rq_state.specs.Spelling.{Spelled}
use Rattle.rq_journal.specs.Checkpoints.{HasNoCheckpointOf}

-- a state that is not spelled has no checkpoint
pub unspelled : (s : State) (e : Fault) → s.next ≤ carried_next → Spelled s (Err e) → HasNoCheckpointOf s e
unspelled s faults.TooLarge low h = (low, h)
unspelled s faults.Resources low h = tt
unspelled s _ low h = absurd h

-- the number of the record behind a front has room
pub next_fits : (b : List ℕ) (f : RedoneFront) → FrontsAreSpelt → IsRedoneFront b f → f.state.next ≤ log_next
next_fits b f spelt h =
    let v = version_of f.version in
    let all = subst (λ (z : List Record). IsFront b v z (drop f.end.used b)) (sym (append-nil h.records)) h.front in
    subst (λ (z : State). z.next ≤ log_next) (sym h.state) (spelt b v h.records [] (drop f.end.used b) all).next
