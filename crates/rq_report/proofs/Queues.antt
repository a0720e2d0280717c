-- Some queues of a report after others.
use Rattle.std.proofs.Common.{◌≡◌, ℕ, ◌+◌, ◌-◌, ◌≤◌, ◌<◌, List, [], ◌∷◌, ◌++◌, length, take, drop, get_or, refl, sym}
use Rattle.std.proofs.Common.{ap, subst, ◌∙◌, append_assoc, arith}
use Rattle.std.specs.Prelude.{slice_range}
use Rattle.std.proofs.lemmas.List.{append-nil, drop-drop, length-drop, length-take}
use Rattle.std.proofs.Math.Seq.{drop-cons, take-add}
use Rattle.rq_model.specs.Reports.{AreQueueLines, IsListing, queue_text}
use Rattle.rq_model.specs.States.{Definition, Element, State}
use Rattle.rq_report.specs.Pieces.{AreLinesOf}

lines_join : (queue : ℕ) (ds es : List Definition) (s : State) (front back : List ℕ) → AreQueueLines queue ds s front
    → AreQueueLines (queue + length ds) es s back → AreQueueLines queue (ds ++ es) s (front ++ back)
lines_join queue [] es s front back h more =
    let number : queue + 0 ≡ queue = omega arith in
    subst (λ x. AreQueueLines queue es s (x ++ back)) (sym h) (subst (λ k. AreQueueLines k es s back) number more)
lines_join queue (d ∷ ds) es s front back h more =
    let number : queue + length (d ∷ ds) ≡ queue + 1 + length ds = omega arith in
    let rest = lines_join (queue + 1) ds es s h.1 back h.3 (subst (λ k. AreQueueLines k es s back) number more) in (
      h.0,
      h.1 ++ back,
      h.2,
      rest,
      ap (λ x. x ++ back) h.4
          ∙ append_assoc (queue_text queue d h.0 s.registrants) h.1 back,
    )

parts_of : (ds : List Definition) (from middle to : ℕ) → from ≤ middle → middle ≤ to
    → slice_range ds from middle ++ slice_range ds middle to ≡ slice_range ds from to
parts_of ds from middle to low high =
    let sum : to - from ≡ (middle - from) + (to - middle) = omega (arith, low, high) in
    let back : from + (middle - from) ≡ middle = omega (arith, low) in
    sym (ap (λ (n : ℕ). take n (drop from ds)) sum ∙ take-add (middle - from) (to - middle) (drop from ds)
    ∙ ap (λ (xs : List Definition). take (middle - from) (drop from ds) ++ take (to - middle) xs)
    (drop-drop (middle - from) from ds ∙ ap (λ (n : ℕ). drop n ds) back))

-- the lines of some queues, and after them those of the next ones
pub both_are : (s : State) (from middle to : ℕ) (front back : List ℕ) → from ≤ middle → middle ≤ to
    → to ≤ length s.definitions → AreLinesOf s from middle front → AreLinesOf s middle to back
    → AreLinesOf s from to (front ++ back)
both_are s from middle to front back low high within h more =
    let ds : List Definition = s.definitions in
    let number : middle ≡ from + length (slice_range ds from middle) =
    omega (arith, low, high, within, length-take (middle - from) (drop from ds), length-drop from ds) in
    subst (λ (xs : List Definition). AreQueueLines from xs s (front ++ back)) (parts_of ds from middle to low high)
    (lines_join from (slice_range ds from middle) (slice_range ds middle to) s front back h
    (subst (λ k. AreQueueLines k (slice_range ds middle to) s back) number more))

-- one more queue
pub more_are : (s : State) (from queue : ℕ) (d : Definition) (front : List ℕ) (listing : List Element) → from ≤ queue
    → queue < length s.definitions → AreLinesOf s from queue front
    → IsListing queue s.elements listing
    → AreLinesOf s from (queue + 1) (front ++ queue_text queue (get_or s.definitions queue d) listing s.registrants)
more_are s from queue d front listing low within h is =
    let ds : List Definition = s.definitions in
    let one : queue + 1 - queue ≡ 1 = omega arith in
    let text : List ℕ = queue_text queue (get_or ds queue d) listing s.registrants in
    let only : slice_range ds queue (queue + 1) ≡ get_or ds queue d ∷ [] =
    ap (λ (n : ℕ). take n (drop queue ds)) one ∙ ap (take 1) (drop-cons ds queue d within) in
    let here : AreLinesOf s queue (queue + 1) text =
    subst (λ (xs : List Definition). AreQueueLines queue xs s text) (sym only)
    (listing, [], is, refl, sym (append-nil text)) in
    both_are s from queue (queue + 1) front text low (omega arith) (omega (arith, within)) h here
