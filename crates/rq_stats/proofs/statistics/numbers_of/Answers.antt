use Rattle.std.proofs.Common.{◌++◌, ◌∙◌, Bool, List, ℕ, ap, sym, subst, string_bytes}
use Rattle.rq_found.specs.Ends.{beginning_text}
use Rattle.rq_found.proofs.Lines.{same_line}
use Rattle.rq_stats.specs.Statistics.{AreNumbers}
use Rattle.rq_stats.proofs.statistics.numbers_of.Goals as goal

pub returns-clause-numbers : goal.returns-clause-numbers
returns-clause-numbers c =
    let end = c.requires.end in
    let reason = string_bytes c.args.end.now.reason in
    let told = c.in_ok-text.ensures in
    subst (λ (j : Bool). AreNumbers c.args.log.now.at c.args.log.now.bytes.now j (string_bytes c.in_ok-text.text)) (sym c.if-json.false) (
      end.0,
      reason,
      told.0,
      end.1,
      told.1 ∙ ap (λ (line : List ℕ). beginning_text c.args.log.now.at ++ (line ++ told.0))
          (same_line end.0 c.args.end.now reason end.2),
    )

pub returns-then-json-clause-numbers : goal.returns-then-json-clause-numbers
returns-then-json-clause-numbers c =
    subst (λ (j : Bool). AreNumbers c.args.log.now.at c.args.log.now.bytes.now j (string_bytes c.in_ok-object.object)) (sym c.if-json.true)
    c.in_ok-object.ensures.line
