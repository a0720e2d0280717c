use Rattle.std.proofs.Common.{◌≡◌, ◌++◌, take, string_bytes}
use Rattle.std.specs.List.{flat_map}
use Rattle.rq_judged.specs.Views.{why_of}
use Rattle.rq_found.specs.Ends.{beginning_text}
use Rattle.rq_look.specs.Findings.{checkpoint_finding, end_finding, behind_finding}
use Rattle.rq_look.proofs.checks.findings_of.Given as goal

abbrev pub invariant-loop-offset : goal.invariant-loop-offset
invariant-loop-offset l = string_bytes l.text
    ≡ beginning_text l.fn.at
    ++ end_finding l.end.front.next l.end.front.used l.end.front.total (why_of l.end.front.why) (string_bytes l.end.reason)
    ++ behind_finding (why_of l.end.front.why) l.behind l.end.front.total ++ flat_map checkpoint_finding (take l.offset-index l.checkpoints)
