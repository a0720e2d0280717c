use Rattle.std.proofs.Common.{◌++◌, ◌∙◌, Bool, [], refl, sym, subst, string_bytes}
use Rattle.std.proofs.KnownBytes.{Appends-nil, Appends-trans}
use Rattle.rq_look.specs.Scripts.{IsChoice}
use Rattle.rq_look.proofs.Puts.{choice_goes_on}
use Rattle.rq_look.proofs.salvages.put_rest.Goals as goal

pub returns-then-is_whole-clause-choice : goal.returns-then-is_whole-clause-choice
returns-then-is_whole-clause-choice g c =
    let whole = sym c.is_whole.ensures ∙ c.if-is_whole.true in (
      [],
      subst (λ (w : Bool). IsChoice w []) (sym whole) refl,
      Appends-nil (g.W.Output.contents c.args.output.now),
    )

pub returns-clause-choice : goal.returns-clause-choice
returns-clause-choice g c =
    let held = g.W.Output.contents in
    let text = string_bytes c.in_ok-words.words in
    let spans = c.in_ok-put_spans.ensures.only in
    let damaged = sym c.is_whole.ensures ∙ c.if-is_whole.false in (
      text ++ spans.0,
      subst (λ (w : Bool). IsChoice w (text ++ spans.0)) (sym damaged) (choice_goes_on text spans.0 c.in_ok-words.ensures),
      Appends-trans (held c.args.output.now) (held c.write_out.new.output) (held c.put_spans.new.output) text spans.0
          c.in_ok-write_out.ensures.written.0 spans.1,
    )
