use Rattle.std.proofs.Common.{◌≡◌, ◌<◌, ◌+◌, suc, length, subst, ◌∙◌, arith}
use Rattle.std.proofs.lemmas.List.{get_or_default}
use Rattle.rq_model.specs.Queues.{part_of}
use Rattle.rq_queue.specs.Pouring.{HasPoured}
use Rattle.rq_queue.proofs.Gathered.{poured_more}
use Rattle.rq_standing.specs.Parts.{no_part}
use Rattle.rq_standing.proofs.states.pour_all.Goals as goal

pub loop-part-preserved : goal.loop-part-preserved
loop-part-preserved c = λ t size are.
    let n = c.loop-part.part-index in
    let within : n < length c.args.parts.now = omega (arith, c.loop-part-test.true) in
    let part = c.part-item.result in
    let is : part ≡ part_of t n = c.part-item.is ∙ get_or_default c.args.parts.now n part no_part within
    ∙ are n (subst (λ m. n < m) size within) in
    let up : suc n ≡ n + 1 = omega arith in
    subst (λ m. HasPoured t m c.args.fields c.pour_copies.new.fields) up
    (poured_more t n c.args.fields c.loop-part.poured c.pour_copies.new.fields part
    (c.loop-part.invariant t size are) is c.in_ok-pour_copies.ensures.pours)
