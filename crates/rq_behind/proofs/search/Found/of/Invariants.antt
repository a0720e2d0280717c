use Rattle.std.proofs.Common.{◌≡◌, ◌+◌, ◌-◌, ◌≤◌, ◌++◌, List, ℕ, Option, length}
use Rattle.rq_front.specs.declared.spans.Span.{Span}
use Rattle.rq_record.specs.Views.{version_of}
use Rattle.rq_behind.specs.Behind.{AreRightFrames, frame_bytes}
use Rattle.rq_behind.proofs.search.Found.of.Given as goal

abbrev pub invariant-frames : goal.invariant-frames
invariant-frames l = record {
  low : 32 ≤ l.at;
  high : l.at ≤ length l.bytes;
  sum : l.from + (l.unfit + frame_bytes l.spans.items) ≡ l.at;
  found : (rest : List Span) (stop : Option ℕ) → AreRightFrames (version_of l.version) l.bytes l.at rest stop
      → AreRightFrames (version_of l.version) l.bytes l.from (l.spans.items ++ rest) stop;
}

abbrev pub decreases-frames : goal.decreases-frames
decreases-frames l = length l.bytes - l.at
