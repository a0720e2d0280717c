use Rattle.std.proofs.Common.{◌≡◌, List, ℕ, ◌∙◌, ap, arith, length, refl, subst}
use Rattle.std.proofs.lemmas.List.{with_items_is}
use Rattle.rq_front.specs.Chains.{IsCarried}
use Rattle.rq_model.specs.Carrying.{HasCarriedHeader, as_log}
use Rattle.rq_record.specs.Views.{version_of}
use Rattle.rq_behind.specs.MendedFiles.{AsLog}
use Rattle.rq_behind.proofs.Files.{mends_log}
use Rattle.rq_behind.proofs.mended_logs.Mended.of.Goals as goal

pub returns-in-Some : goal.returns-in-Some
returns-in-Some g c =
    let file = c.args.bytes.items in
    let version = version_of c.in-Some.field-0 in
    let new = c.read_as_log.new.bytes in
    let it = subst (λ (b : List ℕ). HasCarriedHeader version b × (new ≡ as_log version b)) c.deref_mut.ensures.value
    c.in-Some.ensures.some in
    let size = ap length it.1 ∙ c.carried_headers.ensures.read.size version file it.0 in
    c.mend_carried.ensures file
    (AsLog version it.0 (with_items_is c.args.bytes new (omega (arith, size, c.args.bytes.ok.0)) ∙ it.1) refl)

pub returns-in-None : goal.returns-in-None
returns-in-None g c =
    let file = c.args.bytes.items in
    let new = c.read_as_log.new.bytes in
    let it = subst (λ (b : List ℕ). (IsCarried b → ⊥) × (new ≡ b)) c.deref_mut.ensures.value c.in-None.ensures.none in
    let same = with_items_is c.args.bytes new (omega (arith, ap length it.1, c.args.bytes.ok.0)) ∙ it.1 in
    mends_log c.carried_headers.ensures.apart file _ c.mend_log.result it.0 same c.mend_log.ensures.mended
    c.mend_log.ensures.refused
