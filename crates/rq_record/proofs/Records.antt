-- A result that keeps what is read from a body decodes the body.
use Rattle.std.proofs.Common.{◌≡◌, ℕ, List, [], Option, Some, None, refl}
use Rattle.std.specs.Prelude.{Result, Ok, Err, IsSome}
use Rattle.rq_bytes.specs.Readers.{IsBytes}
use Rattle.rq_bytes.proofs.Together.{spelled_by, read_again}
use Rattle.rq_model.specs.Records.{Record, Version}
use Rattle.rq_model.specs.Spelling.{Spells}
use Rattle.rq_model.specs.Reading.{record_read}
use Rattle.rq_model.proofs.RecordReaders.{reads_record}
use Rattle.rq_record.specs.Reading.{KeepsRead, Decodes}
use Rattle.rq_record.specs.Views.{record_of}
use Rattle.rq_record.specs.declared.fault.Fault.{Fault}
use Rattle.rq_record.specs.declared.fault.Fault.TheVariants as faults
use Rattle.rq_record.specs.Views as code

spelled : (version : Version) (body : List ℕ) (read : Option (Record × List ℕ)) → IsBytes body
    → record_read version body ≡ read → IsSome read → (r : Record) × Spells version r body
spelled version body (Some x) fits e some = (x.0, spelled_by body x (reads_record version) fits e)
spelled version body None fits e some = absurd cc

pub is_decoded : (version : Version) (body : List ℕ) (kept : Result code.Record Fault) → IsBytes body
    → KeepsRead record_of kept (record_read version body) → Decodes version body kept
is_decoded version body (Ok r) fits read = spelled_by body (record_of r, []) (reads_record version) fits read
is_decoded version body (Err faults.Form) fits none = λ r s.
    let again = read_again body r (reads_record version) s.0 s.1 in absurd cc
is_decoded version body (Err faults.Resources) fits some =
    spelled version body (record_read version body) fits refl some
is_decoded version body (Err _) fits given = absurd given
