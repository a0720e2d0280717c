-- What is told of a write that failed, and of what is refused.
use Rattle.std.proofs.Common.{◌≡◌, ◌+◌, ℕ, List, Option, Some, None, refl}
use Rattle.std.specs.Prelude.{Err}
use Rattle.rq_record.specs.declared.fault.Fault.{Fault}
use Rattle.rq_record.specs.declared.fault.Fault.TheVariants as faults
use Rattle.rq_report.specs.Streams.{Delivers}
use Rattle.rq_found.specs.Refusals.{IsRefusal, RefusedFrom, failed_writes}
use Rattle.rq_found.specs.declared.trouble.Trouble.{Trouble}
use Rattle.rq_found.specs.declared.trouble.Trouble.TheVariants.{Log}

-- a text is not written for one reason alone
pub only_writes_fail : (before after : ℕ) (old new : Option (List ℕ)) (text : List ℕ) (e : Fault)
    → Delivers {A = Unit {0}} before after old new text (Err e) → (e ≡ faults.WriteFailed) × (after ≡ before + 1)
only_writes_fail before after old new text faults.WriteFailed h = (refl, h.0)
only_writes_fail before after old new text _ h = absurd h

-- no log is refused since a write failed
pub refused_unwritten : (at : Option ℕ) (b : List ℕ) (e : Fault) → RefusedFrom at b e → failed_writes (Log e) ≡ 0
refused_unwritten None b faults.WriteFailed h = absurd h
refused_unwritten None b _ h = refl
refused_unwritten (Some at) b faults.WriteFailed h = absurd h
refused_unwritten (Some at) b _ h = refl

pub refusal_unwritten : (at : Option ℕ) (b : List ℕ) (e : Trouble) → IsRefusal at b e → failed_writes e ≡ 0
refusal_unwritten at b (Log fault) h = refused_unwritten at b fault h
refusal_unwritten at b _ h = absurd h
