use Rattle.std.proofs.Common.{◌≡◌, take, map}
use Rattle.std.specs.List.{AllByRecursion}
use Rattle.rq_model.specs.Spelling.{IsRecord}
use Rattle.rq_model.specs.Frames.{bodies_of}
use Rattle.rq_record.specs.Views.{record_of, version_of}
use Rattle.rq_front.specs.Chains.{bodies_at}
use Rattle.rq_judged.proofs.bodies.read_in_order.Given as goal

abbrev pub invariant-loop-span : goal.invariant-loop-span
invariant-loop-span l = record {
  records : AllByRecursion (IsRecord (version_of l.version)) (map record_of l.records.items);
  spelled : bodies_at l.log (take l.span-index l.spans) ≡ bodies_of (map record_of l.records.items);
}
