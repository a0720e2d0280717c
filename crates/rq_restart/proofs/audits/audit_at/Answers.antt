use Rattle.std.proofs.Common.{ℕ, List, sym, subst}
use Rattle.std.proofs.lemmas.Result.{IfOk-weaker}
use Rattle.rq_record.specs.Views.{version_of}
use Rattle.rq_restart.specs.Audits.{IsAuditedFrom}
use Rattle.rq_judged.specs.FrontEnds.{IsChain}
use Rattle.rq_restart.proofs.Audited.{audits_at}
use Rattle.rq_restart.proofs.audits.audit_at.Goals as goal

pub checkpoints_of-requires-clause-chain : goal.checkpoints_of-requires-clause-chain
checkpoints_of-requires-clause-chain g c = λ κs within. (
  c.args.offset,
  subst (λ (b : List ℕ). IsChain b c.args.offset c.in_ok-begun.begun.found) (sym c.borrowed.ensures)
      c.in_ok-begun.ensures.chain,
)

pub returns : goal.returns
returns g c =
    let b = c.args.bytes.now in
    let offset = c.args.offset in
    let begun = c.in_ok-begun.begun in
    let is = c.in_ok-begun.ensures in
    let version = version_of begun.version in
    let same = c.borrowed.ensures in
    let chain = subst (λ (z : List ℕ). IsChain z offset begun.found) (sym same) is.chain in
    audits_at b offset begun is c.checkpoints_of.result
    (IfOk-weaker c.checkpoints_of.result
    (λ v. (at : ℕ) → IsChain c.borrowed.result at begun.found
    → IsAuditedFrom version begun.state c.borrowed.result at v.items)
    (λ v. IsAuditedFrom version begun.state b offset v.items)
    (λ v told. subst (λ (z : List ℕ). IsAuditedFrom version begun.state z offset v.items) same (told offset chain))
    c.checkpoints_of.ensures.found)
    c.checkpoints_of.ensures.refused
