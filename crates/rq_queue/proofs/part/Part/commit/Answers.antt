use Rattle.std.proofs.Common.{◌≡◌, ap, ◌∙◌, map}
use Rattle.std.proofs.lemmas.Result.{IfOk-weaker}
use Rattle.rq_model.specs.Machine.{told, committed_elements}
use Rattle.rq_model.specs.Records.{Commit}
use Rattle.rq_model.specs.Redo.{act}
use Rattle.rq_queue.specs.Roll.{registrant_of}
use Rattle.rq_queue.proofs.Noting.{told_own}
use Rattle.rq_queue.proofs.part.Part.commit.Goals as goal

pub returns-clause-done : goal.returns-clause-done
returns-clause-done c =
    let unit = c.args.unit.0 in
    let part = c.self.inside in
    let own = c.deref.ensures.value ∙ c.in_ok-heard.ensures.taken in
    let before = map (registrant_of part.queue.0) part.registrants in
    let heard = c.in_ok-hear.ensures.done
    ∙ ((λ i. map (told unit (own i)) before) ∙ told_own unit part.notes before) in
    IfOk-weaker c.commit.result (λ _. c.commit.new.self ≡ committed_elements unit part.elements) _
    (λ _ freed. (λ i. record {
      queue = part.queue.0;
      definition = part.definition;
      elements = freed i;
      registrants = heard i;
      notes = c.in_ok-heard.ensures.others i;
    })
    ∙ ap (act 0 (Commit unit)) c.self.view_is) c.commit.ensures.done
