-- The exit status that a fault gives a program.
use Rattle.std.specs.Prelude.{ℕ}
use Rattle.rq_record.specs.declared.fault.Fault.{Fault}
use Rattle.rq_record.specs.declared.fault.Fault.TheVariants.{Resources, ReadFailed, WriteFailed}

-- 4 if the host refused memory, 3 if it failed to read or write, else 1
abbrev pub exit_of : Fault → ℕ
exit_of Resources = 4
exit_of ReadFailed = 3
exit_of WriteFailed = 3
exit_of _ = 1
