use Rattle.std.proofs.Common.{◌≡◌, ◌++◌, length, string_bytes}
use Rattle.std.specs.List.{flat_map}
use Rattle.rq_model.specs.Reports.{hex_of}
use Rattle.rq_report.proofs.lines.put_bytes.Given as goal

-- the digits so far, and those of the rest, are the digits of all
abbrev pub invariant-loop-rest : goal.invariant-loop-rest
invariant-loop-rest l = string_bytes l.text ++ flat_map hex_of l.rest
    ≡ string_bytes l.fn.text ++ flat_map hex_of l.bytes

abbrev pub decreases-loop-rest : goal.decreases-loop-rest
decreases-loop-rest l = length l.rest
