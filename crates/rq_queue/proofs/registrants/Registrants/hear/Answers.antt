use Rattle.std.proofs.Common.{◌+◌, ◌<◌, ◌∷◌, List, length, drop, sym, ap, ◌∙◌, map, arith}
use Rattle.std.proofs.lemmas.List.{drop_more, drop_all}
use Rattle.rq_model.specs.States.{Note}
use Rattle.rq_model.specs.Machine.{told}
use Rattle.rq_queue.specs.Roll.{registrant_of}
use Rattle.rq_queue.proofs.Registered.{told_more, told_none}
use Rattle.rq_queue.proofs.registrants.Registrants.hear.Goals as goal

pub loop-n-preserved : goal.loop-n-preserved
loop-n-preserved c =
    let i = c.loop-n.n-index in
    let n = c.n-item.result in
    let unit = c.args.unit.0 in
    let notes = c.args.notes.now in
    let before = map (registrant_of c.args.queue.0) c.loop-n.self in
    let here : i < length notes = omega (arith, c.loop-n-test.true) in
    ap (map (told unit (drop (i + 1) notes))) c.in_ok-hear_one.ensures.done
    ∙ (told_more unit n (drop (i + 1) notes) before
    ∙ (ap (λ (ns : List Note). map (told unit ns) before)
    (ap (λ (m : Note). m ∷ drop (i + 1) notes) c.n-item.is ∙ sym (drop_more notes i n here)) ∙ c.loop-n.invariant))

pub returns-clause-done : goal.returns-clause-done
returns-clause-done c =
    let i = c.loop-n.n-index in
    let notes = c.args.notes.now in
    let before = map (registrant_of c.args.queue.0) c.loop-n.self in
    sym (told_none c.args.unit.0 before)
    ∙ (ap (λ (ns : List Note). map (told c.args.unit.0 ns) before)
    (sym (drop_all i notes (omega (arith, c.loop-n-test.false)))) ∙ c.loop-n.invariant)
