-- An answer that is added to those that are to be told.
use Rattle.std.proofs.Common.{◌≡◌, Bool, ◌++◌, Option, ◌∙◌, ap}
use Rattle.std.specs.Prelude.{Result, Ok, Err, OnOk, string_bytes, ◌||◌}
use Rattle.rq_serve.specs.Answers.{answer_lines}
use Rattle.rq_serve.specs.Serving.{AddsAnswer, says_safe}
use Rattle.rq_serve.specs.declared.answers.Answer.{Answer}
use Rattle.rq_serve.specs.declared.requests.Request.{Request}
use Rattle.rq_serve.specs.declared.session.Session.{Session}

pub adds_so : {U E : Type 0} (asked : Option Request) (a m b : Session) (answer : Answer) (is_safe : Bool)
    (result : Result U E) → m.answers ≡ a.answers → m.asks_sync ≡ a.asks_sync → is_safe ≡ says_safe asked answer
    → OnOk result (string_bytes b.answers ≡ string_bytes m.answers ++ answer_lines answer)
    → OnOk result (b.asks_sync ≡ (m.asks_sync || is_safe)) → OnOk result (AddsAnswer asked a b)
adds_so asked a m b answer is_safe (Ok x) lines asks says more safe = record {
  answer = answer;
  lines = more ∙ ap (λ t. string_bytes t ++ answer_lines answer) lines;
  safe = safe ∙ ap (λ (t : Bool). t || is_safe) asks ∙ ap (λ (t : Bool). a.asks_sync || t) says;
}
adds_so asked a m b answer is_safe (Err e) lines asks says more safe = tt
