use Rattle.std.proofs.Common.{◌++◌, ◌∙◌, List, ℕ, ap, codes, append_assoc, string_bytes}
use Rattle.rq_judged.specs.Views.{why_of}
use Rattle.rq_found.specs.Ends.{end_text, end_numbers}
use Rattle.rq_look.proofs.salvages.words_of.Goals as goal

pub returns : goal.returns
returns c =
    let end = c.args.end.now in
    let line = end_text end.front.next end.front.used end.front.total (why_of end.front.why) (string_bytes end.reason) in
    let advice = string_bytes c.in_ok-advice.advice in (
      end_numbers end.front.next end.front.used end.front.total (why_of end.front.why) (string_bytes end.reason) ++ advice,
      c.in_ok-push_str.ensures.bytes
          ∙ ap (λ (t : List ℕ). string_bytes c.put_end.new.text ++ t) c.as_str.ensures.value
          ∙ ap (λ (t : List ℕ). t ++ advice) (c.in_ok-put_end.ensures
          ∙ ap (λ (t : List ℕ). t ++ line) c.in_ok-text.ensures.ok) ∙ append_assoc (codes "# ") line advice,
    )
