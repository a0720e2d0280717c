use Rattle.std.proofs.Common.{◌+◌, ◌<◌, ◌≡◌, ◌++◌, ◌∷◌, [], true, ℕ, List, length, drop, get_or, refl, sym, ap, ◌∙◌}
use Rattle.std.proofs.Common.{subst, arith}
use Rattle.std.proofs.lemmas.List.{drop_more, drop_all}
use Rattle.std.specs.List.{AllByRecursion}
use Rattle.std.specs.Map.{values_of}
use Rattle.rq_model.proofs.Lists.{each_append}
use Rattle.rq_model.specs.States.{Note}
use Rattle.rq_queue.specs.Noted.{Apart, NoteEntry, by_place, is_own, left}
use Rattle.rq_queue.proofs.Noting.{left_by_place, left_more, left_none, left_some, values_rise, place_of, rises_sorted}
use Rattle.rq_queue.proofs.Noting.{drawn_apart, drawn_together}
use Rattle.rq_queue.proofs.ByNumber.{rising_apart}
use Rattle.rq_queue.proofs.draws.drawn.Goals as goal

pub loop-place-init : goal.loop-place-init
loop-place-init c =
    let rises = values_rise c.args.all.now.entries c.requires in
    record {
      in_order = c.requires;
      some = λ p h. h;
      rest = refl;
      own = subst (AllByRecursion (λ (n : Note). is_own c.args.whose.now n ≡ true))
          (sym c.in_ok-drawn.ensures.items) tt;
      apart = subst (λ (ns : List Note). Apart (ns ++ values_of c.args.all.now.entries)) (sym c.in_ok-drawn.ensures.items)
          (rising_apart place_of (values_of c.args.all.now.entries) rises);
      together = ap (λ (ns : List Note). by_place (ns ++ values_of c.args.all.now.entries)) c.in_ok-drawn.ensures.items
          ∙ rises_sorted (values_of c.args.all.now.entries) rises;
    }

pub loop-place-preserved-in_default : goal.loop-place-preserved-in_default
loop-place-preserved-in_default c =
    let i = c.loop-place.place-index in
    let places = c.args.places.now in
    let whose = c.args.whose.now in
    let es = c.loop-place.all.entries in
    let new = c.draw.new.all.entries in
    let drawn = c.loop-place.drawn.items in
    let here : i < length places = omega (arith, c.loop-place-test.true) in
    let same : new ≡ es = c.in_default.ensures.drawn in
    record {
      in_order = left_by_place whose (get_or places i 0) es new c.draw.ensures.left c.loop-place.invariant.in_order;
      some = λ p h. left_some whose (get_or places i 0) p es new c.draw.ensures.left (c.loop-place.invariant.some p h);
      rest = ap (left whose (drop (i + 1) places)) c.draw.ensures.left
          ∙ (left_more whose (get_or places i 0) (drop (i + 1) places) es
          ∙ (ap (λ (ps : List ℕ). left whose ps es) (sym (drop_more places i 0 here)) ∙ c.loop-place.invariant.rest));
      own = c.loop-place.invariant.own;
      apart = subst (λ (xs : List NoteEntry). Apart (drawn ++ values_of xs)) (sym same) c.loop-place.invariant.apart;
      together = ap (λ (xs : List NoteEntry). by_place (drawn ++ values_of xs)) same ∙ c.loop-place.invariant.together;
    }

pub loop-place-preserved : goal.loop-place-preserved
loop-place-preserved c =
    let i = c.loop-place.place-index in
    let places = c.args.places.now in
    let whose = c.args.whose.now in
    let es = c.loop-place.all.entries in
    let new = c.draw.new.all.entries in
    let n = c.in-Some.n in
    let drawn = c.loop-place.drawn.items in
    let here : i < length places = omega (arith, c.loop-place-test.true) in
    record {
      in_order = left_by_place whose (get_or places i 0) es new c.draw.ensures.left c.loop-place.invariant.in_order;
      some = λ p h. left_some whose (get_or places i 0) p es new c.draw.ensures.left (c.loop-place.invariant.some p h);
      rest = ap (left whose (drop (i + 1) places)) c.draw.ensures.left
          ∙ (left_more whose (get_or places i 0) (drop (i + 1) places) es
          ∙ (ap (λ (ps : List ℕ). left whose ps es) (sym (drop_more places i 0 here)) ∙ c.loop-place.invariant.rest));
      own = subst (AllByRecursion (λ (m : Note). is_own whose m ≡ true)) (sym c.in_ok-push.ensures.items)
          (each_append (λ (m : Note). is_own whose m ≡ true) drawn (n ∷ []) c.loop-place.invariant.own
          (c.in-Some.ensures.drawn.0, tt));
      apart = subst (λ (ns : List Note). Apart (ns ++ values_of new)) (sym c.in_ok-push.ensures.items)
          (drawn_apart n drawn (values_of es) (values_of new) c.in-Some.ensures.drawn.1 c.loop-place.invariant.apart);
      together = ap (λ (ns : List Note). by_place (ns ++ values_of new)) c.in_ok-push.ensures.items
          ∙ (drawn_together n drawn (values_of es) (values_of new) c.in-Some.ensures.drawn.1
          c.loop-place.invariant.apart ∙ c.loop-place.invariant.together);
    }

pub returns-clause-left : goal.returns-clause-left
returns-clause-left c =
    let i = c.loop-place.place-index in
    let places = c.args.places.now in
    let whose = c.args.whose.now in
    sym (left_none whose c.loop-place.all.entries)
    ∙ (ap (λ (ps : List ℕ). left whose ps c.loop-place.all.entries)
    (sym (drop_all i places (omega (arith, c.loop-place-test.false)))) ∙ c.loop-place.invariant.rest)

pub returns-in_err-push-clause-in_order : goal.returns-in_err-push-clause-in_order
returns-in_err-push-clause-in_order c =
    left_by_place c.args.whose.now (get_or c.args.places.now c.loop-place.place-index 0) c.loop-place.all.entries
    c.draw.new.all.entries c.draw.ensures.left c.loop-place.invariant.in_order

pub returns-in_err-push-clause-some : goal.returns-in_err-push-clause-some
returns-in_err-push-clause-some c = λ p h.
    left_some c.args.whose.now (get_or c.args.places.now c.loop-place.place-index 0) p c.loop-place.all.entries
    c.draw.new.all.entries c.draw.ensures.left (c.loop-place.invariant.some p h)
