use Rattle.std.proofs.Common.{◌++◌, ◌∙◌, string_bytes}
use Rattle.rq_judged.specs.Views.{why_of}
use Rattle.rq_found.specs.Ends.{beginning_text, end_text}
use Rattle.rq_look.specs.Findings.{behind_finding}
use Rattle.rq_look.proofs.checks.Findings.of_frontless.Goals as goal

pub returns-clause-text : goal.returns-clause-text
returns-clause-text c =
    let at = c.args.log.now.at in
    let is = c.in_ok-end.ensures in
    let found = c.in_ok-end.found in
    let reason = string_bytes c.in_ok-end.end.reason in
    let why = why_of c.in_ok-end.end.front.why in (
      why,
      reason,
      found,
      is.behind,
      c.in_ok-text.ensures
          ∙ (λ i. beginning_text at ++ end_text (is.end.0 i) (is.end.1 i) (is.end.2 i) why reason
          ++ behind_finding why found (is.end.2 i)),
    )
