use Rattle.std.proofs.Common.{◌++◌, ◌≤◌, List, ℕ, length, sym, ap, subst, ◌∙◌, arith}
use Rattle.rq_model.specs.Records.{Record, Version, Two}
use Rattle.rq_model.specs.Spelling.{body_of, Spells}
use Rattle.rq_model.specs.Frames.{IsBodyLength}
use Rattle.rq_model.specs.LogLaws.{RecordHasOneBody}
use Rattle.rq_record.specs.Writing.{HasKind}
use Rattle.rq_record.specs.Views.{record_of}
use Rattle.rq_writer.proofs.Steps.{framed_length, framed_from}
use Rattle.rq_writer.proofs.log.append.Goals as goal

-- a body of either version fits into a frame
body_fits : (r : Record) → RecordHasOneBody → ((version : Version) → HasKind version r → Spells version r (body_of r))
    → IsBodyLength (length (body_of r))
body_fits r one spelled = (one Two r (body_of r) (body_of r) (spelled Two tt) (spelled Two tt)).1

pub framed_len-requires-clause-body : goal.framed_len-requires-clause-body
framed_len-requires-clause-body c =
    let body = c.deref-2.ensures.value ∙ c.in_ok-encode.ensures.bytes
    ∙ ap (λ (l : List ℕ). l ++ body_of (record_of c.args.r.now)) c.new-body.ensures.items in
    subst (λ (l : List ℕ). length l ≤ 268435456) (sym body)
    (body_fits (record_of c.args.r.now) c.one_spelling.ensures.body c.in_ok-encode.ensures.spelled).1

pub frame-requires : goal.frame-requires
frame-requires c =
    let body = c.deref-3.ensures.value ∙ c.in_ok-encode.ensures.bytes
    ∙ ap (λ (l : List ℕ). l ++ body_of (record_of c.args.r.now)) c.new-body.ensures.items in
    subst (λ (l : List ℕ). IsBodyLength (length l)) (sym body)
    (body_fits (record_of c.args.r.now) c.one_spelling.ensures.body c.in_ok-encode.ensures.spelled)

pub returns-then-framed_len-gt-LOG_LIMIT : goal.returns-then-framed_len-gt-LOG_LIMIT
returns-then-framed_len-gt-LOG_LIMIT c = grind (arith, framed_length)

pub returns : goal.returns
returns c =
    framed_from c.args.out.now.items c.frame.new.out.items c.args.last.now c.deref-3.result.now
    (record_of c.args.r.now) c.frame.result c.frame.ensures
    (c.deref-3.ensures.value ∙ c.in_ok-encode.ensures.bytes
    ∙ ap (λ (l : List ℕ). l ++ body_of (record_of c.args.r.now)) c.new-body.ensures.items)
    (grind arith)
