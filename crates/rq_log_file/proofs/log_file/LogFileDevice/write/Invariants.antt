use Rattle.std.proofs.Common.{◌≡◌, false, is_some}
use Rattle.rq_log_file.proofs.log_file.LogFileDevice.write.Given as goal

-- it has not failed
abbrev pub invariant-loop : goal.invariant-loop
invariant-loop g l = is_some l.self.error ≡ false
