use Rattle.std.proofs.Common.{◌≡◌, ◌∙◌, ℕ, map, ap}
use Rattle.std.proofs.lemmas.Result.{IfOk-weaker}
use Rattle.rq_record.specs.Views.{record_of, version_of}
use Rattle.rq_restart.specs.Audits.{StandInFrames, IsAuditedFrom, audited_of, audits}
use Rattle.rq_judged.specs.FrontEnds.{IsChain}
use Rattle.rq_judged.specs.Views.{why_of}
use Rattle.rq_restart.proofs.Walks.{framed}
use Rattle.rq_restart.proofs.audits.checkpoints_of.Goals as goal

pub checkpoints_among-requires-clause-framed : goal.checkpoints_among-requires-clause-framed
checkpoints_among-requires-clause-framed g c κs within =
    let (offset, chain) = c.requires.chain in
    let front = c.in_ok-front.front in (
      offset,
      framed (version_of c.args.begun.now.version) c.args.begun.now.state c.args.bytes.now offset
          c.args.begun.now.found (map record_of front.records.items) front.end (why_of front.why) c.deref.result.now
          c.deref-2.result.now chain (c.in_ok-front.ensures.front offset chain) c.in_ok-front.ensures.bodies
          (ap (map record_of) (c.deref.ensures.value ∙ c.records_alone-records.ensures)) c.deref-2.ensures.value,
    )

pub returns-clause-found : goal.returns-clause-found
returns-clause-found g c =
    let version = version_of c.args.begun.now.version in
    let s = c.args.begun.now.state in
    let b = c.args.bytes.now in
    let chain_of = c.args.begun.now.found in
    let front = c.in_ok-front.front in
    let rs = map record_of front.records.items in
    let all = c.deref.result.now in
    let own : map record_of all ≡ rs = ap (map record_of) (c.deref.ensures.value ∙ c.records_alone-records.ensures) in
    IfOk-weaker c.checkpoints_among.result
    (λ v. (at : ℕ) → StandInFrames version s at (map record_of all) c.deref-2.result.now
    → map audited_of v.items ≡ audits s at (map record_of all))
    (λ v. (offset : ℕ) → IsChain b offset chain_of → IsAuditedFrom version s b offset v.items)
    (λ v told offset chain.
    let is = c.in_ok-front.ensures.front offset chain in
    let are = framed version s b offset chain_of rs front.end (why_of front.why) all c.deref-2.result.now chain is
    c.in_ok-front.ensures.bodies own c.deref-2.ensures.value in
    record {
      records = rs;
      end = front.end;
      why = why_of front.why;
      front = is;
      told = told offset are ∙ ap (audits s offset) own;
    })
    c.checkpoints_among.ensures.found
