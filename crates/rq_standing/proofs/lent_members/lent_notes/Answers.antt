use Rattle.std.proofs.Common.{◌≡◌, ◌<◌, ◌+◌, ◌++◌, ◌∷◌, [], length, take, sym, ap, ◌∙◌, arith}
use Rattle.std.specs.List.{flat_map}
use Rattle.std.proofs.lemmas.List.{flat_map_more, take_more}
use Rattle.rq_model.specs.Queues.{Part}
use Rattle.rq_standing.proofs.lent_members.lent_notes.Goals as goal

pub loop-part-preserved : goal.loop-part-preserved
loop-part-preserved c =
    let f = λ (p : Part). p.notes in
    let i = c.loop-part.part-index in
    let parts = c.args.parts.now in
    let part = c.part-item.result in
    let within : i < length parts = omega (arith, c.loop-part-test.true) in
    let is : take (i + 1) parts ≡ take i parts ++ part ∷ [] =
    take_more parts i part within ∙ ap (λ (p : Part). take i parts ++ p ∷ []) (sym c.part-item.is) in
    c.in_ok-lend_notes.ensures.lent ∙ ap (λ ns. ns ++ part.notes) c.loop-part.invariant
    ∙ flat_map_more f [] (take i parts) part ∙ ap (flat_map f) (sym is)
