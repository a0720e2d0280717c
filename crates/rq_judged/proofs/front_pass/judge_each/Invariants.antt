use Rattle.std.proofs.Common.{List, take}
use Rattle.rq_model.specs.Records as records
use Rattle.rq_model.specs.States as model
use Rattle.rq_front.specs.Chains.{bodies_at}
use Rattle.rq_catalog.specs.Judges.{StandsIn}
use Rattle.rq_judged.proofs.Readings.{AreLawful}
use Rattle.rq_judged.proofs.front_pass.judge_each.Given as goal

abbrev pub invariant-loop-lawful : goal.invariant-loop-lawful
invariant-loop-lawful l =
    (version : records.Version) (s : model.State) → StandsIn version l.fn.judge s
    → (kept : List records.Record) × AreLawful version s (bodies_at l.bytes (take l.lawful l.spans)) l.judge kept
