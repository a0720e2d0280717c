use Rattle.std.proofs.Common.{◌∙◌, ap, subst}
use Rattle.std.specs.Prelude.{Err, not}
use Rattle.std.proofs.lemmas.Bool.{false≢true}
use Rattle.rq_model.specs.Records as records
use Rattle.rq_model.specs.Spelling.{Spells}
use Rattle.rq_record.specs.Reading.{Decodes}
use Rattle.rq_record.specs.Views.{record_of, version_of}
use Rattle.rq_record.specs.declared.fault.Fault.{Fault}
use Rattle.rq_record.specs.declared.fault.Fault.TheVariants.{Form}
use Rattle.rq_model.specs.Machine.{is_lawful}
use Rattle.rq_model.proofs.RecordReaders.{one_record}
use Rattle.rq_judged.proofs.ends.rule_of.Goals as goal

pub unreachable-requires : goal.unreachable-requires
unreachable-requires c =
    let (version, s, stands, r, spells, breaks) = c.requires in
    let x = record_of c.in-Ok.record in
    let spelled = subst (λ (v : records.Version). Spells v x c.args.body.now) (c.version.ensures version s stands)
    c.in-Ok.ensures.decodes in
    false≢true (c.in-None.ensures.exact version s stands
    ∙ ap not (ap (is_lawful version s) (one_record version x r c.args.body.now spelled spells) ∙ breaks))

pub unreachable-requires-in-Err-Form : goal.unreachable-requires-in-Err-Form
unreachable-requires-in-Err-Form c =
    let (version, s, stands, r, spells, breaks) = c.requires in
    let none : Decodes (version_of c.version.result) c.args.body.now (Err Form) =
    subst (λ (e : Fault). Decodes (version_of c.version.result) c.args.body.now (Err e)) c.in-Err-Form.field-0-is
    c.in-Err-Form.ensures.decodes in
    subst (λ (v : records.Version). (x : records.Record) → Spells v x c.args.body.now → ⊥)
    (c.version.ensures version s stands) none r spells
