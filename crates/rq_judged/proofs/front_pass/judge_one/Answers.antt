use Rattle.std.proofs.Common.{Bool, sym, subst, ◌∙◌, if◌then◌else◌, Err}
use Rattle.rq_model.specs.Records as records
use Rattle.rq_model.specs.Machine.{step}
use Rattle.rq_record.specs.Views.{record_of, version_of}
use Rattle.rq_record.specs.Reading.{Decodes}
use Rattle.rq_record.specs.declared.fault.Fault.{Fault}
use Rattle.rq_record.specs.declared.fault.Fault.TheVariants.{Form}
use Rattle.rq_model.specs.Spelling.{Spells}
use Rattle.rq_catalog.specs.Judges.{StandsIn}
use Rattle.rq_judged.specs.Passes.{IsVerdict}
use Rattle.rq_judged.proofs.front_pass.judge_one.Goals as goal
use Rattle.rq_judged.proofs.front_pass.judge_one.Goals.{then-is_lawful, else-is_lawful}

pub returns-after-is_lawful-clause-verdict : goal.returns-after-is_lawful-clause-verdict
returns-after-is_lawful-clause-verdict c = λ version s stands.
    let r = record_of c.in-Ok.record in
    let spells : Spells version r c.args.body.now =
    subst (λ (v : records.Version). Spells v r c.args.body.now)
    (c.version.ensures version s stands) c.in-Ok.ensures.decodes in
    let is = c.in_ok-is_lawful-in-Ok.ensures.lawful version s stands in
    let there = c.in_ok-is_lawful-in-Ok.ensures.stands version s stands in
    elim c.if-is_lawful.branch [
      | then-is_lawful w ↦ subst (IsVerdict version s c.args.body.now c.take.new.self) (sym w.result-is) (
        r,
        spells,
        sym is ∙ w.if-is_lawful.true,
        subst (λ (b : Bool). StandsIn version c.take.new.self (if b then step s r else s)) w.if-is_lawful.true
            there,
      )
      | else-is_lawful w ↦ subst (IsVerdict version s c.args.body.now c.take.new.self) (sym w.result-is) (
        subst (λ (b : Bool). StandsIn version c.take.new.self (if b then step s r else s)) w.if-is_lawful.false
            there,
        r,
        spells,
        sym is ∙ w.if-is_lawful.false,
      )
    ]

pub returns-in-Err-Form-clause-verdict : goal.returns-in-Err-Form-clause-verdict
returns-in-Err-Form-clause-verdict c = λ version s stands.
    let none : Decodes (version_of c.version.result) c.args.body.now (Err Form) =
    subst (λ (e : Fault). Decodes (version_of c.version.result) c.args.body.now (Err e))
    c.in-Err-Form.field-0-is c.in-Err-Form.ensures.decodes in (
      stands,
      subst (λ (v : records.Version). (r : records.Record) → Spells v r c.args.body.now → ⊥)
          (c.version.ensures version s stands) none,
    )
