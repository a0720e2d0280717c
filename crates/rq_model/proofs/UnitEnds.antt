-- The end of a unit, over the queues that the unit named.
use Rattle.std.proofs.Common.{◌≡◌, ℕ, ◌+◌, ◌<◌, Bool, true, false, cond, not, ◌&&◌, ◌||◌, List, [], ◌∷◌, ◌++◌, map}
use Rattle.std.proofs.Common.{length, refl, sym, ap, subst, ◌∙◌, arith}
use Rattle.std.specs.Prelude.{◌==◌, if◌then◌else◌, IsPermutation}
use Rattle.std.specs.List.{filter, list_any, AllByRecursion}
use Rattle.std.proofs.lemmas.Bool.{false≢true, false_from_ne_true, eqb-true, eq-eqb, and_parts}
use Rattle.std.proofs.lemmas.List.Sorted.{IsPermutation-refl, IsPermutation-trans, IsPermutation-cons}
use Rattle.std.proofs.lemmas.List.Sorted.{IsPermutation-sym, IsPermutation-middle, IsPermutation-map}
use Rattle.rq_model.specs.Records.{Commit, Abort}
use Rattle.rq_model.specs.States.{Mark, Free, Fresh, Held, Element, Note, Definition, State, definition_at, is_fresh, is_held}
use Rattle.rq_model.specs.WellFormed.{IsWellFormed}
use Rattle.rq_model.specs.Machine.{step, marked, leaves, moved, returned, committed_elements, closed_notes}
use Rattle.rq_model.specs.Queues.{Part, Move, Transfer, part_of, is_marked, is_engaged, transfers_at, arrivals_of}
use Rattle.rq_model.specs.Queues.{moves_of}
use Rattle.rq_model.specs.Redo.{act, sent, receive, put_all, AreNew}
use Rattle.rq_model.specs.StepLaws.{leaving, coming, going, aborted_part, UnitEndsByParts}
use Rattle.rq_model.proofs.Lists.{by_cases, filter_all, filter_none, filter_same, filter_comm, filter_map_as, map_all}
use Rattle.rq_model.proofs.Lists.{each_weaker, each_map, each_of, each_passes}
use Rattle.rq_model.proofs.Merged.{ordered_filter}
use Rattle.rq_model.proofs.Parts.{told_nothing, closed_nothing}
use Rattle.rq_model.proofs.Split.{Rising}
use Rattle.rq_model.proofs.Sound.{rising_map}
use Rattle.rq_model.proofs.Steps.{fresh_marked, held_marked, returned_id, returned_same, leaves_held}
use Rattle.rq_model.proofs.Apart.{are_new}
use Rattle.rq_model.proofs.GoesWell.{rising_apart}
use Rattle.rq_model.proofs.StepParts.{step_by_parts}
use Rattle.rq_model.proofs.Shuffled.{arrivals_shuffled}

abbrev Unmarked : ℕ → List Element → Type 0
Unmarked u es = AllByRecursion (λ (e : Element). is_marked u e.mark ≡ false) es

unmarked_by : (u : ℕ) (m : Mark) → is_held u m ≡ false → is_fresh u m ≡ false → is_marked u m ≡ false
unmarked_by u Free h f = refl
unmarked_by u (Fresh v) h f = f
unmarked_by u (Held v) h f = h

-- A COMMIT.

committed_one : (u : ℕ) (e : Element) → is_held u e.mark ≡ false
    → is_marked u (if is_fresh u e.mark then marked Free e else e).mark ≡ false
committed_one u e h = by_cases (is_fresh u e.mark)
    (λ b. is_marked u (if b then marked Free e else e).mark ≡ false) (λ _. refl) (λ f. unmarked_by u e.mark h f)

committed_unmarked : (u : ℕ) (es : List Element) → Unmarked u (committed_elements u es)
committed_unmarked u [] = tt
committed_unmarked u (e ∷ es) = by_cases (is_held u e.mark)
    (λ b. Unmarked u (map (λ (e : Element). if is_fresh u e.mark then marked Free e else e)
    (cond (not b) (e ∷ filter (λ (e : Element). not (is_held u e.mark)) es)
    (filter (λ (e : Element). not (is_held u e.mark)) es))))
    (λ _. committed_unmarked u es) (λ h. (committed_one u e h, committed_unmarked u es))

committed_again : (u : ℕ) (es : List Element) → Unmarked u es → committed_elements u es ≡ es
committed_again u es none =
    ap (map (λ (e : Element). if is_fresh u e.mark then marked Free e else e))
    (filter_all (λ (e : Element). not (is_held u e.mark)) es
    (each_weaker (λ (e : Element). is_marked u e.mark ≡ false) (λ (e : Element). not (is_held u e.mark) ≡ true)
    (λ e h. ap not (held_marked u e.mark h)) es none))
    ∙ map_all (λ (e : Element). if is_fresh u e.mark then marked Free e else e) es
    (each_weaker (λ (e : Element). is_marked u e.mark ≡ false)
    (λ (e : Element). (if is_fresh u e.mark then marked Free e else e) ≡ e)
    (λ e h. ap (λ b. if b then marked Free e else e) (fresh_marked u e.mark h)) es none)

closed : (u : ℕ) (ns : List Note) → AllByRecursion (λ (n : Note). (n.unit == u) ≡ false) (closed_notes u ns)
closed u [] = tt
closed u (n ∷ ns) = by_cases (n.unit == u)
    (λ b. AllByRecursion (λ (n : Note). (n.unit == u) ≡ false) (cond (not b) (n ∷ closed_notes u ns) (closed_notes u ns)))
    (λ _. closed u ns) (λ h. (h, closed u ns))

commits_once : (u : ℕ) (p : Part) → act 0 (Commit u) (act 0 (Commit u) p) ≡ act 0 (Commit u) p
commits_once u p = λ i. record {
  queue = p.queue;
  definition = p.definition;
  elements = committed_again u (committed_elements u p.elements) (committed_unmarked u p.elements) i;
  registrants = told_nothing u (closed_notes u p.notes) (closed u p.notes) (act 0 (Commit u) p).registrants i;
  notes = closed_nothing u (closed_notes u p.notes) (closed u p.notes) i;
}

-- An ABORT.

abbrev stays : Definition → ℕ → Element → Bool
stays d u e = not (is_fresh u e.mark) && not (leaves d u e)

returned_one : (u : ℕ) (e : Element) → is_fresh u e.mark ≡ false → is_marked u (returned u e).mark ≡ false
returned_one u e f = by_cases (is_held u e.mark)
    (λ b. is_held u e.mark ≡ b → is_marked u (returned u e).mark ≡ false)
    (λ t _. ap (λ b. is_marked u (cond b (record { id = e.id; home = e.home; origin = e.origin; priority = e.priority; attempts = e.attempts + 1; payload = e.payload; mark = Free }) e).mark) t)
    (λ h _. ap (λ (x : Element). is_marked u x.mark) (returned_same u e h) ∙ unmarked_by u e.mark h f) refl

not_true : (b : Bool) → not b ≡ true → b ≡ false
not_true true h = absurd (false≢true h)
not_true false h = refl

returned_unmarked : (d : Definition) (u : ℕ) (es : List Element) → Unmarked u (map (returned u) (filter (stays d u) es))
returned_unmarked d u es = each_map (λ (e : Element). is_fresh u e.mark ≡ false) (λ (e : Element). is_marked u e.mark ≡ false)
    (returned u) (λ e f. returned_one u e f) (filter (stays d u) es)
    (each_passes (λ (e : Element). is_fresh u e.mark ≡ false) (stays d u)
    (λ e h. not_true (is_fresh u e.mark) (and_parts (not (is_fresh u e.mark)) (not (leaves d u e)) h).0) es)

leaves_not : (d : Definition) (u : ℕ) (e : Element) → is_marked u e.mark ≡ false → leaves d u e ≡ false
leaves_not d u e h = false_from_ne_true (leaves d u e)
    (λ t. false≢true (sym (held_marked u e.mark h) ∙ leaves_held d u e t))

returned_again : (d : Definition) (u : ℕ) (es : List Element) → Unmarked u es → map (returned u) (filter (stays d u) es) ≡ es
returned_again d u es none =
    ap (map (returned u)) (filter_all (stays d u) es
    (each_weaker (λ (e : Element). is_marked u e.mark ≡ false) (λ (e : Element). stays d u e ≡ true)
    (λ e h i. not (fresh_marked u e.mark h i) && not (leaves_not d u e h i)) es none))
    ∙ map_all (returned u) es
    (each_weaker (λ (e : Element). is_marked u e.mark ≡ false) (λ (e : Element). returned u e ≡ e)
    (λ e h. returned_same u e (held_marked u e.mark h)) es none)

aborts_once : (place u : ℕ) (p : Part) → act place (Abort u) (act place (Abort u) p) ≡ act place (Abort u) p
aborts_once place u p = λ i. record {
  queue = p.queue;
  definition = p.definition;
  elements = returned_again p.definition u (act place (Abort u) p).elements
      (returned_unmarked p.definition u p.elements) i;
  registrants = p.registrants;
  notes = closed_nothing u (closed_notes u p.notes) (closed u p.notes) i;
}

sends_once : (place u : ℕ) (p : Part) → sent place (Abort u) (act place (Abort u) p) ≡ []
sends_once place u p = ap (map (λ (e : Element). record { place = place; element = moved p.definition e }))
    (filter_none (leaves p.definition u) (act place (Abort u) p).elements
    (each_weaker (λ (e : Element). is_marked u e.mark ≡ false) (λ (e : Element). leaves p.definition u e ≡ false)
    (λ e h. leaves_not p.definition u e h) (act place (Abort u) p).elements
    (returned_unmarked p.definition u p.elements)))

-- What leaves the queues.

or_false : (b : Bool) → (b || false) ≡ b
or_false true = refl
or_false false = refl

any_end : (q : ℕ) (qs : List ℕ) (k : ℕ) → list_any (λ v. v == k) (qs ++ q ∷ []) ≡ (list_any (λ v. v == k) qs || (k == q))
any_end q [] k = grind arith
any_end q (p ∷ qs) k = ap (λ b. (p == k) || b) (any_end q qs k) ∙ grind arith

-- what passes one of two tests that are never both passed, after what passes the other
both_tests : (p r w : Transfer → Bool) → ((t : Transfer) → w t ≡ (p t || r t)) → ((t : Transfer) → p t ≡ true → r t ≡ false)
    → (ts : List Transfer) → IsPermutation (map (λ (t : Transfer). t.move) (filter w ts))
    (map (λ (t : Transfer). t.move) (filter p ts) ++ map (λ (t : Transfer). t.move) (filter r ts))
both_tests p r w either apart [] = IsPermutation-refl []
both_tests p r w either apart (t ∷ ts) =
    let m : List Transfer → List Move = map (λ (t : Transfer). t.move) in
    let rest = both_tests p r w either apart ts in
    subst (λ b. IsPermutation (m (cond b (t ∷ filter w ts) (filter w ts)))
    (m (cond (p t) (t ∷ filter p ts) (filter p ts)) ++ m (cond (r t) (t ∷ filter r ts) (filter r ts))))
    (sym (either t))
    (by_cases (p t) (λ b. (b ≡ true → r t ≡ false) → IsPermutation (m (cond (b || r t) (t ∷ filter w ts) (filter w ts)))
    (m (cond b (t ∷ filter p ts) (filter p ts)) ++ m (cond (r t) (t ∷ filter r ts) (filter r ts))))
    (λ _ none. subst (λ b. IsPermutation (t.move ∷ m (filter w ts))
    ((t.move ∷ m (filter p ts)) ++ m (cond b (t ∷ filter r ts) (filter r ts)))) (sym (none refl))
    (IsPermutation-cons t.move (m (filter w ts)) (m (filter p ts) ++ m (filter r ts)) rest))
    (λ _ _. by_cases (r t) (λ b. IsPermutation (m (cond b (t ∷ filter w ts) (filter w ts)))
    (m (filter p ts) ++ m (cond b (t ∷ filter r ts) (filter r ts))))
    (λ _. IsPermutation-trans _ _ _
    (IsPermutation-cons t.move (m (filter w ts)) (m (filter p ts) ++ m (filter r ts)) rest)
    (IsPermutation-sym _ _ (IsPermutation-middle (m (filter p ts)) t.move (m (filter r ts)))))
    (λ _. rest))
    (apart t))

abbrev among : List ℕ → Transfer → Bool
among queues t = list_any (λ v. v == t.from) queues

abbrev comes_to : ℕ → Transfer → Bool
comes_to home t = t.move.element.home == home

coming_moves : (home : ℕ) (ts : List Transfer)
    → coming home (map (λ (t : Transfer). t.move) ts) ≡ map (λ (t : Transfer). t.move) (filter (comes_to home) ts)
coming_moves home ts = filter_map_as (λ (m : Move). m.element.home == home) (comes_to home) (λ (t : Transfer). t.move)
    (λ (t : Transfer). t.move) (λ t. refl) (λ t h. refl) ts

going_is : (queues : List ℕ) (home : ℕ) (ts : List Transfer)
    → going queues home ts ≡ map (λ (t : Transfer). t.move) (filter (among queues) (filter (comes_to home) ts))
going_is queues home ts = coming_moves home (leaving queues ts)
    ∙ ap (map (λ (t : Transfer). t.move)) (filter_comm (comes_to home) (among queues) ts)

one_more : (queues : List ℕ) (queue home : ℕ) (ts : List Transfer) → list_any (λ v. v == queue) queues ≡ false
    → IsPermutation (going (queues ++ queue ∷ []) home ts) (going queues home ts ++ coming home (moves_of queue ts))
one_more queues queue home ts new =
    let here : List Transfer = filter (comes_to home) ts in
    let leaves_it : Transfer → Bool = λ t. t.from == queue in
    subst (λ (xs : List Move). IsPermutation xs (going queues home ts ++ coming home (moves_of queue ts)))
    (sym (going_is (queues ++ queue ∷ []) home ts))
    (subst (λ (xs : List Move). IsPermutation (map (λ (t : Transfer). t.move) (filter (among (queues ++ queue ∷ [])) here))
    (xs ++ coming home (moves_of queue ts))) (sym (going_is queues home ts))
    (subst (λ (xs : List Move). IsPermutation (map (λ (t : Transfer). t.move) (filter (among (queues ++ queue ∷ [])) here))
    (map (λ (t : Transfer). t.move) (filter (among queues) here) ++ xs))
    (sym (coming_moves home (filter leaves_it ts)
    ∙ ap (map (λ (t : Transfer). t.move)) (filter_comm (comes_to home) leaves_it ts)))
    (both_tests (among queues) leaves_it (among (queues ++ queue ∷ [])) (λ t. any_end queue queues t.from)
    (λ t there. false_from_ne_true (t.from == queue) (λ same. false≢true (sym new
    ∙ ap (λ k. list_any (λ v. v == k) queues) (sym (eqb-true t.from queue same)) ∙ there))) here)))

one_again : (queues : List ℕ) (queue home : ℕ) (ts : List Transfer) → list_any (λ v. v == queue) queues ≡ true
    → going (queues ++ queue ∷ []) home ts ≡ going queues home ts
one_again queues queue home ts old = ap (λ ts. coming home (map (λ (t : Transfer). t.move) ts))
    (filter_same (among (queues ++ queue ∷ [])) (among queues) ts
    (each_of (λ t. among (queues ++ queue ∷ []) t ≡ among queues t)
    (λ t. any_end queue queues t.from
    ∙ by_cases (t.from == queue) (λ b. (b ≡ true → among queues t ≡ true) → (among queues t || b) ≡ among queues t)
    (λ _ there. ap (λ b. b || true) (there refl) ∙ sym (there refl)) (λ _ _. or_false (among queues t))
    (λ same. ap (λ k. list_any (λ v. v == k) queues) (eqb-true t.from queue same) ∙ old)) ts))

-- What moves leaves a queue that the unit engaged.

abbrev marks : ℕ → ℕ → Element → Bool
marks u q e = (e.home == q) && is_marked u e.mark

has_marked : (u : ℕ) (es : List Element)
    → AllByRecursion (λ e. (q : ℕ) → marks u q e ≡ true → list_any (marks u q) es ≡ true) es
has_marked u [] = tt
has_marked u (e ∷ es) = (
  (λ q h. ap (λ b. b || list_any (marks u q) es) h),
  each_weaker (λ f. (q : ℕ) → marks u q f ≡ true → list_any (marks u q) es ≡ true)
      (λ f. (q : ℕ) → marks u q f ≡ true → (marks u q e || list_any (marks u q) es) ≡ true)
      (λ f has q h. or_true (marks u q e) (list_any (marks u q) es) (has q h)) es (has_marked u es),
)
  where
    or_true : (a b : Bool) → b ≡ true → (a || b) ≡ true
    or_true true b h = refl
    or_true false b h = h

from_engaged : (s : State) (u : ℕ) → AllByRecursion (λ (t : Transfer). is_engaged s t.from u ≡ true) (transfers_at s (Abort u))
from_engaged s u = each_map (λ (e : Element). is_engaged s e.home u ≡ true) (λ (t : Transfer). is_engaged s t.from u ≡ true)
    (λ (e : Element). record {
      from = e.home;
      move = record { place = s.next; element = moved (definition_at s.definitions e.home) e };
    }) (λ e h. h) (filter gone s.elements)
    (each_both_passes s.elements (has_marked u s.elements))
  where
    gone : Element → Bool
    gone e = leaves (definition_at s.definitions e.home) u e

    engaged : (e : Element) → list_any (marks u e.home) s.elements ≡ true → is_engaged s e.home u ≡ true
    engaged e h = ap (λ b. b || list_any (λ (n : Note). (n.queue == e.home) && (n.unit == u)) s.notes) h

    marked_held : (m : Mark) → is_held u m ≡ true → is_marked u m ≡ true
    marked_held Free h = absurd (false≢true h)
    marked_held (Fresh v) h = absurd (false≢true h)
    marked_held (Held v) h = h

    each_both_passes : (es : List Element) → AllByRecursion (λ e. (q : ℕ) → marks u q e ≡ true → list_any (marks u q) s.elements ≡ true) es
        → AllByRecursion (λ (e : Element). is_engaged s e.home u ≡ true) (filter gone es)
    each_both_passes [] h = tt
    each_both_passes (e ∷ es) h = by_cases (gone e)
        (λ b. AllByRecursion (λ (e : Element). is_engaged s e.home u ≡ true) (cond b (e ∷ filter gone es) (filter gone es)))
        (λ t. (
          engaged e (h.0 e.home (λ i. eq-eqb e.home e.home refl i
              && marked_held e.mark (leaves_held (definition_at s.definitions e.home) u e t) i)),
          each_both_passes es h.1,
        ))
        (λ _. each_both_passes es h.1)

leaves_all : (s : State) (u : ℕ) (queues : List ℕ)
    → ((k : ℕ) → is_engaged s k u ≡ true → list_any (λ v. v == k) queues ≡ true)
    → leaving queues (transfers_at s (Abort u)) ≡ transfers_at s (Abort u)
leaves_all s u queues named = filter_all (among queues) (transfers_at s (Abort u))
    (each_weaker (λ (t : Transfer). is_engaged s t.from u ≡ true) (λ t. among queues t ≡ true)
    (λ t h. named t.from h) (transfers_at s (Abort u)) (from_engaged s u))

-- What arrives, in any order.

aborted_rise : (s : State) (u q : ℕ) (named : Bool) → IsWellFormed s → Rising (aborted_part s u q named).elements
aborted_rise s u q true well = rising_map (returned u) (returned_id u) _
    (ordered_filter _ _ _ (ordered_filter _ _ _ well.elements_rise))
aborted_rise s u q false well = ordered_filter _ _ _ well.elements_rise

whole : (s : State) (u q : ℕ) (named : Bool) → IsWellFormed s → q < length s.definitions
    → (is_engaged s q u ≡ true → named ≡ true)
    → receive (arrivals_of q (transfers_at s (Abort u))) (aborted_part s u q named) ≡ part_of (step s (Abort u)) q
whole s u q true well within h = sym (step_by_parts.acts s (Abort u) q well within tt)
whole s u q false well within h = sym (step_by_parts.rests s (Abort u) q well within
    (or_false (is_engaged s q u) ∙ false_from_ne_true (is_engaged s q u) (λ t. false≢true (h t))))

arrives : (s : State) (u q : ℕ) (queues : List ℕ) (ms : List Move) → IsWellFormed s → IsWellFormed (step s (Abort u))
    → q < length s.definitions → ((k : ℕ) → is_engaged s k u ≡ true → list_any (λ v. v == k) queues ≡ true)
    → IsPermutation (going queues q (transfers_at s (Abort u))) (coming q ms)
    → (receive (coming q ms) (aborted_part s u q (list_any (λ v. v == q) queues)) ≡ part_of (step s (Abort u)) q)
    × AreNew (coming q ms) (aborted_part s u q (list_any (λ v. v == q) queues)).elements
arrives s u q queues ms well after within named same =
    let p : Part = aborted_part s u q (list_any (λ v. v == q) queues) in
    let arrivals : List Move = arrivals_of q (transfers_at s (Abort u)) in
    let all : receive arrivals p ≡ part_of (step s (Abort u)) q = whole s u q (list_any (λ v. v == q) queues) well within (named q) in
    let are : going queues q (transfers_at s (Abort u)) ≡ arrivals =
    ap (λ (ts : List Transfer). coming q (map (λ (t : Transfer). t.move) ts)) (leaves_all s u queues named)
    ∙ coming_moves q (transfers_at s (Abort u)) in
    let up : Rising (put_all arrivals p.elements) = subst (λ (x : Part). Rising x.elements) (sym all)
    (ordered_filter _ _ _ after.elements_rise) in
    let put : put_all (coming q ms) p.elements ≡ put_all arrivals p.elements =
    arrivals_shuffled arrivals (coming q ms) p.elements
    (IsPermutation-map (λ (m : Move). m.element) arrivals (coming q ms)
    (subst (λ (xs : List Move). IsPermutation xs (coming q ms)) are same))
    (aborted_rise s u q (list_any (λ v. v == q) queues) well) up in (
      ap (λ (es : List Element). record p { elements = es }) put ∙ all,
      (are_new (coming q ms) p.elements
          (rising_apart (put_all (coming q ms) p.elements) (subst Rising (sym put) up))).0,
    )

pub unit_ends_by_parts : UnitEndsByParts
unit_ends_by_parts = record {
  commits_once = commits_once;
  aborts_once = aborts_once;
  sends_once = sends_once;
  one_more = one_more;
  one_again = one_again;
  arrives = arrives;
}
