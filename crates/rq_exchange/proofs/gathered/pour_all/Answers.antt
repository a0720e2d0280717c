use Rattle.std.proofs.Common.{◌≡◌, ◌∙◌, suc, ◌++◌, ◌∷◌, [], length, length-append, Some, None, arith, rules}
use Rattle.rq_exchange.proofs.Words.{part_of, poured_more, get_or_default}
use Rattle.rq_exchange.proofs.Loops.{comes_next, all_came}
use Rattle.rq_exchange.proofs.gathered.pour_all.Goals as goal

pub loop-slot-preserved : goal.loop-slot-preserved
loop-slot-preserved c = λ t are.
    let n = length c.loop-slot.yielded in
    let turn = comes_next _ _ c.next.new.self c.args.parts.items (cc) (cc) c.loop-slot.yielded c.loop-slot.yielded_by
    c.in-Some.is c.next.ensures.steps in
    let there : c.in-Some.slot ≡ Some (part_of t n) =
    turn.1 ∙ get_or_default c.args.parts.items n c.in-Some.slot None turn.0 ∙ are n turn.0 in
    let part : c.in-Some-slot.part ≡ part_of t n = cc in
    let more = poured_more t n c.args.fields c.loop-slot.poured c.pour_kept.new.fields c.in-Some-slot.part
    (c.loop-slot.invariant t are) part c.in_ok-pour_kept-in-Some-slot.ensures.pours in
    let len : suc n ≡ length (c.loop-slot.yielded ++ c.in-Some.slot ∷ []) =
    omega (arith, length-append c.loop-slot.yielded (c.in-Some.slot ∷ [])) in
    rw len at more

pub returns-clause-poured : goal.returns-clause-poured
returns-clause-poured c = λ t are.
    let came : c.loop-slot.yielded ≡ c.args.parts.items = search (rules, all_came) in
    rw came at (c.loop-slot.invariant t are)
