-- What tells whether one thing holds tells whether an equivalent one does.
use Rattle.std.proofs.Common.{arith, Result, Ok, Err}
use Rattle.rq_record.specs.declared.fault.Fault.{Fault}
use Rattle.rq_record.specs.declared.fault.Fault.TheVariants as faults
use Rattle.rq_state.specs.Keeping.{TellsWhether}

pub tells_from : {A : Type 0} (P Q : Type 0) (r : Result A Fault) → (P → Q) → (Q → P) → TellsWhether P r
    → TellsWhether Q r
tells_from P Q (Ok x) there back told = there told
tells_from P Q (Err faults.BadCheckpoint) there back told = grind arith
tells_from P Q (Err faults.Resources) there back told = tt
tells_from P Q (Err e) there back told = absurd told

-- a fault that refutes a part refutes the whole
pub tells_not : (P Q : Type 0) (e : Fault) → (Q → P) → TellsWhether {A = Unit {0}} P (Err e)
    → TellsWhether {A = Unit {0}} Q (Err e)
tells_not P Q faults.BadCheckpoint back told = grind arith
tells_not P Q faults.Resources back told = tt
tells_not P Q e back told = absurd told
