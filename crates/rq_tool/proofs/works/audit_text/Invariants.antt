use Rattle.std.proofs.Common.{◌≡◌, map, take, string_bytes}
use Rattle.std.specs.List.{flat_map}
use Rattle.rq_restart.specs.Audits.{audited_of}
use Rattle.rq_tool.specs.Works.{audit_line}
use Rattle.rq_tool.proofs.works.audit_text.Given as goal

abbrev pub invariant-loop-offset : goal.invariant-loop-offset
invariant-loop-offset l = string_bytes l.text ≡ flat_map audit_line (map audited_of (take l.offset-index l.found))
