use Rattle.std.proofs.Common.{◌≡◌, ◌≤◌, ℕ, map, take}
use Rattle.rq_model.specs.Machine.{run}
use Rattle.rq_record.specs.Views.{record_of, version_of}
use Rattle.rq_restart.specs.Audits.{StandInFrames, audited_of, audits}
use Rattle.rq_restart.proofs.audits.checkpoints_among.Given as goal

abbrev pub invariant-loop-place : goal.invariant-loop-place
invariant-loop-place g l = record {
  within : l.done ≤ l.place;
  state : l.machine ≡ run l.state (take l.done (map record_of l.records));
  found : (at : ℕ) → StandInFrames (version_of l.fn.version) l.state at (map record_of l.records) l.spans
      → map audited_of l.found.items ≡ audits l.state at (take l.place (map record_of l.records));
}
