use Rattle.std.proofs.Common.{ℕ, List, subst}
use Rattle.std.specs.Prelude.{IfOk}
use Rattle.std.proofs.lemmas.Result.{IfOk-weaker}
use Rattle.rq_model.specs.Frames.{HasHeader}
use Rattle.rq_model.specs.States.{State}
use Rattle.rq_record.specs.Views.{version_of}
use Rattle.rq_restart.specs.Audits.{IsAuditedFrom}
use Rattle.rq_judged.specs.FrontEnds.{IsChain}
use Rattle.rq_restart.proofs.Audited.{audits_are}
use Rattle.rq_judged.proofs.Starts.{log_chain}
use Rattle.rq_restart.proofs.audits.audit_of.Goals as goal
use Rattle.rq_restart.proofs.audits.audit_of.Goals.{In_ok-found}

is_chain : (g : _) (c : In_ok-found g) → IsChain c.args.bytes.now 40 c.in_ok-found.found
is_chain g c =
    let is = c.in_ok-found.ensures in
    let there = log_chain is.log.1.0 c.frames_join.ensures.end c.as_slice-2.result.now c.in_ok-found.found is.log.0
    is.log.1.1 is.run is.spans is.inside in
    subst (λ (b : List ℕ). IsChain b 40 c.in_ok-found.found) c.as_slice-2.ensures there

pub checkpoints_of-requires-clause-chain : goal.checkpoints_of-requires-clause-chain
checkpoints_of-requires-clause-chain g c κs within =
    (40, is_chain g ((goal.at.checkpoints_of-requires-clause-chain g c).In_ok-found))

pub returns : goal.returns
returns g c =
    let b = c.args.bytes.now in
    let version = version_of c.in_ok-version.version in
    let head = subst (HasHeader version) c.as_slice.ensures c.in_ok-version.ensures.header in
    let chain = is_chain g ((goal.at.returns g c).In_ok-found) in
    let found = IfOk-weaker c.checkpoints_of.result
    (λ v. (at : ℕ) → IsChain b at c.in_ok-found.found
    → IsAuditedFrom version c.empty-state.result b at v.items)
    (λ v. IsAuditedFrom version c.empty-state.result b 40 v.items) (λ v told. told 40 chain)
    c.checkpoints_of.ensures.found in
    audits_are version c.one_front.ensures.front c.frames_join.ensures.end b chain.short head c.checkpoints_of.result
    (subst (λ (s : State). IfOk c.checkpoints_of.result (λ v. IsAuditedFrom version s b 40 v.items))
    c.empty-state.ensures found)
    c.checkpoints_of.ensures.refused
