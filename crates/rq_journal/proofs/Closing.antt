-- The file of a carried log that is closed.
use Rattle.std.proofs.Common.{◌≡◌, ℕ, List, ◌++◌, length, take, drop, sym, ap, subst, ◌∙◌, arith}
use Rattle.std.specs.Global.{Vec}
use Rattle.std.specs.Vec.{with_items}
use Rattle.std.proofs.lemmas.List.{length-append, length-drop, length-take, take-append-drop, take_at, drop_at, with_items_is}
use Rattle.std.specs.Prelude.{Option, Some, None, IfSome, IfNone}
use Rattle.rq_model.specs.Records as model
use Rattle.rq_model.specs.Frames.{HasHeader, header}
use Rattle.rq_model.specs.Carrying.{carried_header, carried_magic}
use Rattle.rq_model.specs.LogLaws.{OneVersion}
use Rattle.rq_model.proofs.Runs.{length-sha256}
use Rattle.rq_model.proofs.Restarts.{header_long}
use Rattle.rq_record.specs.declared.version.Version.{Version}
use Rattle.rq_record.specs.Views.{version_of}
use Rattle.rq_front.specs.Chains.{IsHeaded}
use Rattle.rq_journal.specs.Closings.{IsFileOf}

carried_long : (version : model.Version) → length (carried_header version) ≡ 40
carried_long version = omega (arith, length-sha256 (carried_magic version))

-- its own header stands in place of that of the log
put_back : (log file : List ℕ) (v w : model.Version) → v ≡ w → HasHeader w log → file ≡ carried_header v ++ drop 40 log
    → (take 40 file ≡ carried_header w) × (header w ++ drop 40 file ≡ log)
put_back log file v w same head is =
    let now : file ≡ carried_header w ++ drop 40 log = is ∙ ap (λ (z : model.Version). carried_header z ++ drop 40 log) same in (
      ap (take 40) now ∙ take_at (carried_header w) (drop 40 log) 40 (carried_long w),
      ap (λ (z : List ℕ). header w ++ z) (ap (drop 40) now ∙ drop_at (carried_header w) (drop 40 log) 40 (carried_long w))
          ∙ ap (λ (z : List ℕ). z ++ drop 40 log) (sym head) ∙ take-append-drop 40 log,
    )

-- a file that is read as the log, and as long as it
record IsPut (log file : List ℕ) : Type 0 where
  read : IsFileOf log file
  size : length file ≡ length log

put_in : OneVersion → (log file : List ℕ) (result : Option Version)
    → IfSome result (λ v. HasHeader (version_of v) log × (file ≡ carried_header (version_of v) ++ drop 40 log))
    → IfNone result ((IsHeaded log → ⊥) × (file ≡ log)) → IsPut log file
put_in one log file (Some v) some none = record {
  read = λ w head. put_back log file (version_of v) w (one log (version_of v) w some.0 head) head some.1;
  size = omega (
    arith,
    ap length some.1,
    length-append (carried_header (version_of v)) (drop 40 log),
    carried_long (version_of v),
    length-drop 40 log,
    ap length some.0,
    length-take 40 log,
    header_long (version_of v),
  );
}
put_in one log file None some none = record { read = λ w head. absurd (none.0 (w, head)); size = ap length none.1 }

-- a list that is lent to get it
pub file_of : (log : List ℕ) (v : Vec ℕ) (lent new : List ℕ) (result : Option Version) → OneVersion
    → v.items ≡ log → lent ≡ v.items
    → IfSome result (λ r. HasHeader (version_of r) lent × (new ≡ carried_header (version_of r) ++ drop 40 lent))
    → IfNone result ((IsHeaded lent → ⊥) × (new ≡ lent)) → IsFileOf log (with_items v new).items
file_of log v lent new result one is same some none =
    let put = put_in one lent new result some none in
    let made : (with_items v new).items ≡ new = with_items_is v new (omega (arith, put.size, ap length same, v.ok.0)) in
    subst (IsFileOf log) (sym made) (subst (λ (z : List ℕ). IsFileOf z new) (same ∙ is) put.read)
