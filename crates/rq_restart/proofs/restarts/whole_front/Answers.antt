use Rattle.std.proofs.Common.{◌<◌, ◌≤◌, ◌^◌, List, ℕ, length, sym, subst, arith}
use Rattle.rq_model.specs.Frames.{HasHeader, log_limit}
use Rattle.rq_model.specs.States.{State}
use Rattle.rq_model.specs.WellFormed.{IsWellFormed}
use Rattle.rq_model.specs.StateSpelling.{carried_next}
use Rattle.rq_front.specs.Walks.{Walks}
use Rattle.rq_record.specs.Views.{version_of}
use Rattle.rq_restart.proofs.restarts.whole_front.Goals as goal

pub returns : goal.returns
returns g c =
    let same = c.as_slice-2.ensures in
    record {
      header = subst (HasHeader (version_of c.in_ok-version.version)) c.as_slice.ensures c.in_ok-version.ensures.header;
      start = c.empty-state.ensures;
      found = record {
        short = subst (λ (b : List ℕ). length b ≤ log_limit) same c.in_ok-walk.ensures.log.0;
        behind = omega arith;
        well = subst IsWellFormed (sym c.empty-state.ensures) c.runs_are_well_formed.ensures.start;
        next = subst (λ (s : State). s.next ≤ carried_next) (sym c.empty-state.ensures) (omega arith);
        units = subst (λ (s : State). length s.units < 2 ^ 32) (sym c.empty-state.ensures) (omega arith);
        front = c.in_ok-front.ensures.front 40
            (subst (λ (b : List ℕ). Walks b 40 c.in_ok-walk.walk) same c.in_ok-walk.ensures.walk);
        analysis = c.in_ok-front.ensures.analysis;
      };
      ends = c.frames_join.ensures.end;
    }
