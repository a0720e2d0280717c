use Rattle.std.proofs.Common.{rules, ◌≡◌, ℕ, ◌+◌, ◌++◌, List, length, ap, sym, subst, ◌∙◌, append_assoc, arith}
use Rattle.std.specs.Prelude.{Result, Err, IfErr}
use Rattle.std.proofs.lemmas.List.{length-append}
use Rattle.rq_model.specs.Frames.{header}
use Rattle.rq_model.proofs.Restarts.{header_long}
use Rattle.rq_record.specs.declared.fault.Fault.{Fault}
use Rattle.rq_judged.specs.GrowingFronts.{GoesAlong, IsStageOf, RefusesMore}
use Rattle.rq_judged.specs.Windows.{log_origin}
use Rattle.rq_judged.proofs.Pieces.{refuses}
use Rattle.std.proofs.lemmas.Result.{IfErr-weaker, on_ok_weaker}
use Rattle.rq_judged.proofs.growing_front.GrowingFront.feed.Goals as goal

pub returns-in-Frames-clause-taken : goal.returns-in-Frames-clause-taken
returns-in-Frames-clause-taken g c =
    let more = c.args.more.now in
    on_ok_weaker c.feed.result (λ taken. λ b along.
    let (version, x, whole, follows) = subst (IsStageOf b) c.in-Frames.is along in (
      version,
      x ++ more,
      ap (λ (z : List ℕ). z ++ more) whole ∙ append_assoc (header version) x more,
      taken (log_origin version) x follows,
    )) c.feed.ensures.taken

pub returns-in-Frames-clause-kept : goal.returns-in-Frames-clause-kept
returns-in-Frames-clause-kept g c =
    IfErr-weaker c.feed.result _ _ (λ e kept. λ b along.
    let (version, x, whole, follows) = subst (IsStageOf b) c.in-Frames.is along in
    (version, x, whole, kept (log_origin version) x follows)) c.feed.ensures.kept

pub returns-in-Frames-clause-refused : goal.returns-in-Frames-clause-refused
returns-in-Frames-clause-refused g c =
    let more = c.args.more.now in
    IfErr-weaker c.feed.result _ _ (λ e refused. λ b along.
    let (version, x, whole, follows) = subst (IsStageOf b) c.in-Frames.is along in
    let (rs, rest, at) = follows in
    let size : c.in-Frames.pass.total + length more ≡ length (b ++ more) =
    omega (
      arith,
      at.total,
      ap length whole,
      length-append (header version) x,
      header_long version,
      length-append b more,
    ) in
    refuses (c.in-Frames.pass.total + length more) (b ++ more) e size refused) c.feed.ensures.refused

pub returns-in_err-pass-in-Header-2-clause-refused : goal.returns-in_err-pass-in-Header-2-clause-refused
returns-in_err-pass-in-Header-2-clause-refused g c =
    let more = c.args.more.now in
    let e = c.in_err-pass-in-Header-2.field-0.0 in
    let answer : c.from_residual-in_err-pass-in-Header-2.result ≡ Err e = search rules in
    let refused : (b : List ℕ) → GoesAlong b c.args.self.now → RefusesMore (b ++ more) e = λ b along.
    let (same, few) = subst (IsStageOf b) c.in-Header.is along in
    subst (λ (z : List ℕ). RefusesMore (z ++ more) e) (c.deref.ensures.value ∙ same)
    c.in_err-pass-in-Header-2.ensures.refused in
    subst (λ (r : Result _ Fault). IfErr r
    (λ f. (b : List ℕ) → GoesAlong b c.args.self.now → RefusesMore (b ++ more) f))
    (sym answer) refused
