use Rattle.std.proofs.Common.{◌≡◌, ◌∙◌, ◌++◌, ◌+◌, ◌<◌, ◌∷◌, [], ℕ, List, append_assoc, get_or, length, map, take, sym}
use Rattle.std.proofs.Common.{ap, arith}
use Rattle.std.proofs.lemmas.List.{append-nil, map-append, take_more}
use Rattle.rq_record.specs.declared.record.ElemId.{ElemId}
use Rattle.rq_queue.specs.declared.fates.Fate.{Fate}
use Rattle.rq_queue.specs.declared.fates.Fate.TheVariants.{Freed}
use Rattle.rq_queue.proofs.Searching.{first_are}
use Rattle.rq_found.specs.Events.{at_end}
use Rattle.rq_found.specs.declared.events.Event.{Event}
use Rattle.rq_found.proofs.followed.put_ends.Goals as goal

abbrev told : List (ElemId × Fate) → List Event
told ends = map at_end (map (λ p. (p.0.0, p.1)) ends)

one_more : (ends : List (ElemId × Fate)) (i : ℕ) (d : ElemId × Fate) → i < length ends
    → told (take (i + 1) ends) ≡ told (take i ends) ++ told (get_or ends i d ∷ [])
one_more ends i d lt = ap told (take_more ends i d lt)
    ∙ ap (map at_end) (map-append (λ p. (p.0.0, p.1)) (take i ends) (get_or ends i d ∷ []))
    ∙ map-append at_end (map (λ p. (p.0.0, p.1)) (take i ends)) (map (λ p. (p.0.0, p.1)) (get_or ends i d ∷ []))

pub loop-element-init : goal.loop-element-init
loop-element-init c = sym (append-nil c.args.events.now.items)

pub loop-element-preserved : goal.loop-element-preserved
loop-element-preserved c =
    let old = c.args.events.now.items in
    let ends = c.args.ends.now in
    let i = c.loop-element.element-index in
    let d : ElemId × Fate = (record { 0 = 0 }, Freed (record { 0 = 0 })) in
    c.in_ok-push.ensures.items ∙ ap (λ (es : List Event). es ++ told (get_or ends i d ∷ [])) c.loop-element.invariant
    ∙ append_assoc old (told (take i ends)) (told (get_or ends i d ∷ []))
    ∙ ap (λ (es : List Event). old ++ es) (sym (one_more ends i d c.loop-element-test.true))

pub returns-clause-told : goal.returns-clause-told
returns-clause-told c =
    let ends = c.args.ends.now in
    let all : length ends ≡ c.loop-element.element-index =
    omega (arith, c.loop-element-test.false, c.loop-element.auto.element-index-end) in
    c.loop-element.invariant ∙ ap (λ (es : List (ElemId × Fate)). c.args.events.now.items ++ told es)
    (sym (first_are c.loop-element.element-index ends [] ends (append-nil ends) all))
