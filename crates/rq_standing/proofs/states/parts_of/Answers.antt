use Rattle.std.proofs.Common.{◌≡◌, ◌<◌, ◌+◌, ◌∷◌, [], List, length, length-append, sym, ap, subst, ◌∙◌}
use Rattle.rq_model.specs.Queues.{Part, part_of}
use Rattle.rq_standing.specs.Parts.{part_at}
use Rattle.rq_standing.proofs.Together.{one_part_more}
use Rattle.rq_standing.proofs.states.parts_of.Goals as goal

pub loop-queue-preserved : goal.loop-queue-preserved
loop-queue-preserved c =
    let s = c.args.state.now in
    let old = c.loop-queue.parts.items in
    let p = c.in_ok-part.part in
    let before = c.loop-queue.invariant in
    let grown = c.in_ok-push.ensures.items in
    let longer = ap (λ (ps : List Part). length ps) grown ∙ length-append old (p ∷ []) in
    record {
      size = longer ∙ ap (λ n. n + 1) before.size;
      parts = λ k l. subst (λ (ps : List Part). part_at ps k ≡ part_of s k) (sym grown)
          (one_part_more s old p before.parts (c.in_ok-part.ensures.part ∙ ap (part_of s) (sym before.size)) k
          (subst (λ n. k < n) longer l));
    }
