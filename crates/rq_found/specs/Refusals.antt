-- Why a log is not shown, or not to its end.
use Rattle.std.specs.Prelude.{◌≡◌, ℕ, ◌+◌, ◌⊎◌, ⊤, List, Option, Some, None, Result, Ok, Err}
use Rattle.rq_record.specs.declared.fault.Fault.{Fault}
use Rattle.rq_record.specs.declared.fault.Fault.TheVariants.{Resources, WriteFailed}
use Rattle.rq_front.specs.Chains.{IsLog, Refused}
use Rattle.rq_restart.specs.Restarts.{RestartsCarried}
use Rattle.rq_found.specs.declared.trouble.Trouble.{Trouble}
use Rattle.rq_found.specs.declared.trouble.Trouble.TheVariants.{Log}

-- b is refused as this restart of it is
abbrev pub RefusedFrom : Option ℕ → List ℕ → Fault → Type 0
RefusedFrom None b e = Refused b e
RefusedFrom (Some at) b e = RestartsCarried b at (Err e)

-- b is refused as a restart of it is
abbrev pub IsRefusal : Option ℕ → List ℕ → Trouble → Type 0
IsRefusal at b (Log fault) = RefusedFrom at b fault
IsRefusal at b _ = ⊥

-- so is told where memory is refused, or a write of the output failed
abbrev pub IsBroken : Trouble → Type 0
IsBroken (Log Resources) = ⊤
IsBroken (Log WriteFailed) = ⊤
IsBroken _ = ⊥

-- how many writes of the output failed, as it is told
abbrev pub failed_writes : Trouble → ℕ
failed_writes (Log WriteFailed) = 1
failed_writes _ = 0

-- the output's count of faults grows by one exactly where the answer is that a write failed
abbrev pub CountsFaults : {A : Type 0} → ℕ → ℕ → Result A Trouble → Type 0
CountsFaults before after (Ok x) = after ≡ before
CountsFaults before after (Err e) = after ≡ before + failed_writes e

-- b is not shown: it is refused, and the output holds what it held; or it is a log, and broke off
abbrev pub StaysUnshown : Option ℕ → List ℕ → Option (List ℕ) → Option (List ℕ) → Trouble → Type 0
StaysUnshown at b old new e = (IsLog b × IsBroken e) ⊎ (IsRefusal at b e × (new ≡ old))
