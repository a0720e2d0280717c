use Rattle.std.proofs.Common.{◌++◌, ◌∙◌, List, ℕ, ap, append_assoc, string_bytes}
use Rattle.rq_judged.specs.Views.{why_of}
use Rattle.rq_found.specs.Ends.{beginning_text, end_text}
use Rattle.rq_stats.proofs.statistics.text_of.Goals as goal

pub returns : goal.returns
returns c =
    let end = c.args.end.now in
    let line = end_text end.front.next end.front.used end.front.total (why_of end.front.why) (string_bytes end.reason) in
    let beginning = beginning_text c.args.at in
    let lines = string_bytes c.in_ok-lines.lines in (
      lines,
      c.in_ok-push_str.ensures.bytes
          ∙ ap (λ (t : List ℕ). string_bytes c.put_end.new.text ++ t) c.as_str.ensures.value
          ∙ ap (λ (t : List ℕ). t ++ lines) (c.in_ok-put_end.ensures
          ∙ ap (λ (t : List ℕ). t ++ line) (c.in_ok-put_beginning.ensures
          ∙ ap (λ (t : List ℕ). t ++ beginning) c.new-text.ensures.bytes)) ∙ append_assoc beginning line lines,
    )
