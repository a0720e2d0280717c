-- What each record does to the fates of one request.
use Rattle.std.proofs.Common.{◌≡◌, ℕ, ◌+◌, ◌<◌, ◌≤◌, Bool, true, false, cond, not, ◌&&◌, ◌||◌, List, []}
use Rattle.std.proofs.Common.{◌∷◌, ◌++◌, length, map, Some, refl, sym, ap, ◌∙◌, subst, arith}
use Rattle.std.specs.Prelude.{◌==◌, if◌then◌else◌, find}
use Rattle.std.specs.List.{filter, list_any, list_all, AllByRecursion}
use Rattle.std.proofs.lemmas.Bool.{and_parts, eqb-true, eq-eqb, cases_Bool}
use Rattle.rq_model.specs.Records.{Record, Define, Register, Deregister, Begin, Enqueue, Dequeue, Commit, Abort}
use Rattle.rq_model.specs.Records.{Checkpoint, Kill, Version}
use Rattle.rq_model.specs.States.{Mark, Free, Fresh, Held, Element, Definition, State, empty, definition_at}
use Rattle.rq_model.specs.States.{is_free, is_fresh, is_held}
use Rattle.rq_model.specs.Machine.{is_free_at, comes_first, is_best, marked, committed_elements, leaves, moved}
use Rattle.rq_model.specs.Machine.{returned, aborted_elements, all_lawful, step, run, aborts}
use Rattle.rq_model.specs.Machine.{Committed, Aborted, outcome_from, new_element}
use Rattle.rq_model.specs.WellFormed.{Ordered, IsWellFormed, IsElement, unit_is_open}
use Rattle.std.proofs.lemmas.Bool.Decides.{nat_tests}
use Rattle.rq_model.proofs.Lists.{by_cases, each_weaker, each_of, each_both}
use Rattle.rq_model.proofs.Merged.{ordered_weaker}
use Rattle.rq_model.proofs.Restarts.{run_join}
use Rattle.rq_model.proofs.Kept.{step_kept, runs_are_well_formed, empty_is_well_formed}
use Rattle.rq_model.specs.Fates.{counted, is_committed, commits, is_that, is_request, is_taken_for_good, is_kill}
use Rattle.rq_model.specs.Fates.{shown, has_id, with_aborts, done, kills}
use Rattle.rq_model.specs.FateLaws.{OneFate, OneRequest, AllAreFree, RunsEnd}
use Rattle.rq_model.proofs.Closed.{are_ended}

-- What a mark is worth if c says which units will commit: a Fresh one is yet to come, a Held one is
-- done already.
abbrev worth : (ℕ → Bool) → Mark → ℕ
worth c Free = 1
worth c (Fresh u) = if c u then 1 else 0
worth c (Held u) = if c u then 0 else 1

abbrev weight : (ℕ → Bool) → ℕ → Element → ℕ
weight c p e = if e.id == p then worth c e.mark else 0

abbrev total : (ℕ → Bool) → ℕ → List Element → ℕ
total c p [] = 0
total c p (e ∷ es) = weight c p e + total c p es

total-append : (c : ℕ → Bool) (p : ℕ) (xs ys : List Element) → total c p (xs ++ ys) ≡ total c p xs + total c p ys
total-append c p [] ys = omega arith
total-append c p (x ∷ xs) ys = omega (arith, total-append c p xs ys)

-- marks

abbrev pub Same : (c d : ℕ → Bool) → ℕ → Type 0
Same c d u = (v : ℕ) → (v == u) ≡ false → c v ≡ d v

other_worth : (c d : ℕ → Bool) (u : ℕ) → Same c d u → (m : Mark) → is_fresh u m ≡ false → is_held u m ≡ false
    → worth c m ≡ worth d m
other_worth c d u same Free f h = refl
other_worth c d u same (Fresh v) f h = ap (λ b. if b then 1 else 0) (same v f)
other_worth c d u same (Held v) f h = ap (λ b. if b then 0 else 1) (same v h)

fresh_worth : (c : ℕ → Bool) (u : ℕ) (m : Mark) → is_fresh u m ≡ true → worth c m ≡ (if c u then 1 else 0)
fresh_worth c u Free h = grind arith
fresh_worth c u (Held v) h = grind arith
fresh_worth c u (Fresh v) h = ap (λ w. if c w then 1 else 0) (eqb-true v u h)

held_worth : (c : ℕ → Bool) (u : ℕ) (m : Mark) → is_held u m ≡ true → worth c m ≡ (if c u then 0 else 1)
held_worth c u Free h = grind arith
held_worth c u (Fresh v) h = grind arith
held_worth c u (Held v) h = ap (λ w. if c w then 0 else 1) (eqb-true v u h)

pub free_worth : (c : ℕ → Bool) (m : Mark) → is_free m ≡ true → worth c m ≡ 1
free_worth c Free h = refl
free_worth c (Fresh v) h = grind arith
free_worth c (Held v) h = grind arith

-- COMMIT

commit_total : (c d : ℕ → Bool) (u p : ℕ) → c u ≡ true → Same c d u → (es : List Element)
    → total c p es ≡ total d p (committed_elements u es)
commit_total c d u p cu same [] = refl
commit_total c d u p cu same (e ∷ es) =
    let more = commit_total c d u p cu same es in
    by_cases (is_held u e.mark)
    (λ b. total c p (e ∷ es) ≡ total d p (map (λ e. if is_fresh u e.mark then marked Free e else e)
    (cond (not b) (e ∷ filter (λ e. not (is_held u e.mark)) es) (filter (λ e. not (is_held u e.mark)) es))))
    (λ h. let w : worth c e.mark ≡ 0 = held_worth c u e.mark h ∙ ap (λ b. if b then 0 else 1) cu in
    grind (arith, more, w))
    (λ h. by_cases (is_fresh u e.mark)
    (λ b. total c p (e ∷ es) ≡ weight d p (if b then marked Free e else e) + total d p (committed_elements u es))
    (λ f. let w : worth c e.mark ≡ 1 = fresh_worth c u e.mark f ∙ ap (λ b. if b then 1 else 0) cu in
    grind (arith, more, w))
    (λ f. let w : worth c e.mark ≡ worth d e.mark = other_worth c d u same e.mark f h in grind (arith, more, w)))

-- ABORT

abort_one : (c d : ℕ → Bool) (u p : ℕ) → c u ≡ false → Same c d u → (k : Definition) (e : Element)
    → is_fresh u e.mark ≡ false → weight c p e ≡ weight d p (if leaves k u e then moved k e else returned u e)
abort_one c d u p cu same k e f = by_cases (is_held u e.mark)
    (λ b. is_held u e.mark ≡ b → weight c p e ≡ weight d p (if leaves k u e then moved k e else returned u e))
    (λ _ h. let w : worth c e.mark ≡ 1 = held_worth c u e.mark h ∙ ap (λ b. if b then 0 else 1) cu in
    grind (arith, w, cases_Bool (leaves k u e)))
    (λ _ h. let w : worth c e.mark ≡ worth d e.mark = other_worth c d u same e.mark f h in grind (arith, w)) refl

abort_total : (c d : ℕ → Bool) (u p : ℕ) → c u ≡ false → Same c d u → (ks : List Definition) (es : List Element)
    → total c p es ≡ total d p (aborted_elements ks u es)
abort_total c d u p cu same ks [] = refl
abort_total c d u p cu same ks (e ∷ es) =
    let more = abort_total c d u p cu same ks es in
    by_cases (is_fresh u e.mark)
    (λ b. total c p (e ∷ es) ≡ total d p (map (λ e. if leaves (definition_at ks e.home) u e
    then moved (definition_at ks e.home) e else returned u e)
    (cond (not b) (e ∷ filter (λ e. not (is_fresh u e.mark)) es) (filter (λ e. not (is_fresh u e.mark)) es))))
    (λ f. let w : worth c e.mark ≡ 0 = fresh_worth c u e.mark f ∙ ap (λ b. if b then 1 else 0) cu in
    grind (arith, more, w))
    (λ f. let w = abort_one c d u p cu same (definition_at ks e.home) e f in omega (arith, more, w))

-- DEQUEUE: at most one passes

abbrev pub AtMostOne : (Element → Bool) → List Element → Type 0
AtMostOne b es = Ordered (λ x y. b x ≡ true → b y ≡ true → ⊥) es

none_held : (c : ℕ → Bool) (u p : ℕ) (b : Element → Bool) (es : List Element) → AllByRecursion (λ e. b e ≡ true
    → ⊥) es
    → total c p (map (λ e. if b e then marked (Held u) e else e) es) ≡ total c p es
none_held c u p b [] none = refl
none_held c u p b (e ∷ es) none =
    let more = none_held c u p b es none.1 in
    by_cases (b e) (λ t. weight c p (if t then marked (Held u) e else e)
    + total c p (map (λ e. if b e then marked (Held u) e else e) es) ≡ total c p (e ∷ es))
    (λ h. absurd (none.0 h)) (λ _. omega (arith, more))

take_total : (c : ℕ → Bool) (u p : ℕ) (b : Element → Bool) → ((e : Element) → b e ≡ true → is_free e.mark ≡ true)
    → (es : List Element) → AtMostOne b es
    → total c p es ≡ total c p (map (λ e. if b e then marked (Held u) e else e) es)
    + (if is_that p (find b es) && c u then 1 else 0)
take_total c u p b free [] one = refl
take_total c u p b free (e ∷ es) one =
    by_cases (b e) (λ t. b e ≡ t → total c p (e ∷ es) ≡ (weight c p (if t then marked (Held u) e else e)
    + total c p (map (λ e. if b e then marked (Held u) e else e) es))
    + (if is_that p (cond t (Some e) (find b es)) && c u then 1 else 0))
    (λ _ h. let none = none_held c u p b es (each_weaker _ _ (λ y k. k h) es one.0) in
    let w : worth c e.mark ≡ 1 = free_worth c e.mark (free e h) in
    grind (arith, none, w, cases_Bool (c u), cases_Bool (e.id == p)))
    (λ _ _. let more = take_total c u p b free es one.1 in omega (arith, more)) refl

two_best : (q : ℕ) (es : List Element) (e f : Element) → e.id < f.id → comes_first e f ≡ true → comes_first f e
    ≡ true → ⊥
two_best q es e f l h k = grind arith

passing : {X : Type 0} (p g : X → Bool) (xs : List X) → list_all p (filter g xs) ≡ true
    → AllByRecursion (λ x. g x ≡ true → p x ≡ true) xs
passing p g [] h = tt
passing p g (x ∷ xs) h = by_cases (g x) (λ b. list_all p (cond b (x ∷ filter g xs) (filter g xs)) ≡ true
    → (b ≡ true → p x ≡ true) × AllByRecursion (λ x. g x ≡ true → p x ≡ true) xs)
    (λ _ k. (λ _. (and_parts _ _ k).0, passing p g xs (and_parts _ _ k).1))
    (λ _ k. (λ e. grind arith, passing p g xs k)) h

pub swapped : {X Z : Type 0} (P : Z → X → Type 0) (xs : List X) → ((z : Z) → AllByRecursion (P z) xs)
    → AllByRecursion (λ x. (z : Z) → P z x) xs
swapped P [] f = tt
swapped P (x ∷ xs) f = (λ z. (f z).0, swapped P xs (λ z. (f z).1))

-- each that is the best comes before each that is free there
abbrev Beaten : ℕ → List Element → Element → Type 0
Beaten q all y = (z : Element) → is_best q all z ≡ true → is_free_at q y ≡ true → comes_first z y ≡ true

beaten : (q : ℕ) (all : List Element) → AllByRecursion (Beaten q all) all
beaten q all = swapped (λ (z : Element) (y : Element). is_best q all z ≡ true → is_free_at q y ≡ true
    → comes_first z y ≡ true) all
    (λ z. by_cases (is_best q all z)
    (λ b. is_best q all z ≡ b → AllByRecursion (λ (y : Element). is_best q all z ≡ true → is_free_at q y ≡ true
    → comes_first z y ≡ true) all)
    (λ _ h. each_weaker _ _ (λ y k _. k) all (passing (comes_first z) (is_free_at q) all (and_parts _ _ h).1))
    (λ _ h. each_of _ (λ y k. grind (arith, h, k)) all) refl)

pub best_free : (q : ℕ) (all : List Element) (e : Element) → is_best q all e ≡ true → is_free_at q e ≡ true
best_free q all e h = (and_parts _ _ h).0

best_pairs : (q : ℕ) (all es : List Element) → Ordered (λ e f. e.id < f.id) es → AllByRecursion (Beaten q all) es
    → AtMostOne (is_best q all) es
best_pairs q all [] rise h = tt
best_pairs q all (e ∷ es) rise h = (
  each_weaker (λ (f : Element). (e.id < f.id) × Beaten q all f) (λ (f : Element). is_best q all e ≡ true
      → is_best q all f ≡ true → ⊥)
      (λ f x i j. two_best q all e f x.0 (x.1 e i (best_free q all f j)) (h.0 f j (best_free q all e i)))
      es (each_both _ _ es rise.0 h.1),
  best_pairs q all es rise.1 h.1,
)

pub best_once : (q : ℕ) (es : List Element) → Ordered (λ e f. e.id < f.id) es → AtMostOne (is_best q es) es
best_once q es rise = best_pairs q es es rise (beaten q es)

-- KILL: at most one passes

none_killed : (c : ℕ → Bool) (p : ℕ) (b : Element → Bool) (es : List Element) → AllByRecursion (λ e. b e ≡ true
    → ⊥) es
    → (total c p (filter (λ e. not (b e)) es) ≡ total c p es) × (list_any b es ≡ false)
none_killed c p b [] none = (refl, refl)
none_killed c p b (e ∷ es) none =
    let more = none_killed c p b es none.1 in
    by_cases (b e) (λ t. (total c p (cond (not t) (e ∷ filter (λ e. not (b e)) es) (filter (λ e. not (b e)) es))
    ≡ total c p (e ∷ es))
    × ((t || list_any b es) ≡ false))
    (λ h. absurd (none.0 h)) (λ _. (omega (arith, more.0), more.1))

kill_total : (c : ℕ → Bool) (p i : ℕ) (b : Element → Bool)
    → ((e : Element) → b e ≡ true → (is_free e.mark ≡ true) × (e.id ≡ i))
    → (es : List Element) → AtMostOne b es
    → total c p es ≡ total c p (filter (λ e. not (b e)) es) + (if (i == p) && list_any b es then 1 else 0)
kill_total c p i b free [] one = grind (arith, cases_Bool (i == p))
kill_total c p i b free (e ∷ es) one =
    by_cases (b e) (λ t. b e ≡ t → total c p (e ∷ es)
    ≡ total c p (cond (not t) (e ∷ filter (λ e. not (b e)) es) (filter (λ e. not (b e)) es))
    + (if (i == p) && (t || list_any b es) then 1 else 0))
    (λ _ h. let none = none_killed c p b es (each_weaker _ _ (λ y k. k h) es one.0) in
    let w : worth c e.mark ≡ 1 = free_worth c e.mark (free e h).0 in
    let is : e.id ≡ i = (free e h).1 in
    grind (arith, none.0, w, is, cases_Bool (i == p)))
    (λ _ _. let more = kill_total c p i b free es one.1 in omega (arith, more)) refl

pub id_once : (i : ℕ) (b : Element → Bool) → ((e : Element) → b e ≡ true → e.id ≡ i) → (es : List Element)
    → Ordered (λ e f. e.id < f.id) es → AtMostOne b es
id_once i b is es rise = ordered_weaker (λ (e f : Element). e.id < f.id) _
    (λ e f l h k. let x = is e h in let y = is f k in absurd (omega (arith, l, x, y))) es rise

-- Each record.

pub other_commits : (place u : ℕ) (rs : List Record) → Same (commits place (Commit u ∷ rs)) (commits (place + 1) rs) u
other_commits place u rs v apart = grind (arith, nat_tests)

pub other_aborts : (place u : ℕ) (rs : List Record) → Same (commits place (Abort u ∷ rs)) (commits (place + 1) rs) u
other_aborts place u rs v apart = grind (arith, nat_tests)

one : (p : ℕ) (s : State) (r : Record) (rs : List Record) → IsWellFormed s
    → total (commits s.next (r ∷ rs)) p s.elements + (if is_request p s (r ∷ rs) then 1 else 0)
    ≡ total (commits (s.next + 1) rs) p (step s r).elements
    + ((if is_taken_for_good p s (r ∷ rs) then 1 else 0) + (if is_kill p s (r ∷ rs) then 1 else 0))
one p s (Define limit error name) rs h = omega arith
one p s (Register q name) rs h = omega arith
one p s (Deregister q name) rs h = omega arith
one p s (Begin u) rs h = omega arith
one p s (Enqueue u q priority by payload) rs h =
    let c = commits (s.next + 1) rs in
    let more = total-append c p s.elements (new_element s.next u q priority payload ∷ []) in
    grind (arith, more, cases_Bool (s.next == p), cases_Bool (commits (s.next + 1) rs u))
one p s (Dequeue u q by) rs h =
    let more = take_total (commits (s.next + 1) rs) u p (is_best q s.elements)
    (λ e k. (and_parts (is_free e.mark) (e.home == q) (best_free q s.elements e k)).0) s.elements
    (best_once q s.elements h.elements_rise) in
    omega (arith, more)
one p s (Commit u) rs h =
    let more = commit_total (commits s.next (Commit u ∷ rs)) (commits (s.next + 1) rs) u p
    (ap (λ b. is_committed (if b then Committed s.next else outcome_from (s.next + 1) u rs)) (eq-eqb u u refl))
    (other_commits s.next u rs) s.elements in
    omega (arith, more)
one p s (Abort u) rs h =
    let more = abort_total (commits s.next (Abort u ∷ rs)) (commits (s.next + 1) rs) u p
    (ap (λ b. is_committed (if b then Aborted s.next else outcome_from (s.next + 1) u rs)) (eq-eqb u u refl))
    (other_aborts s.next u rs) s.definitions s.elements in
    omega (arith, more)
one p s (Checkpoint bytes) rs h = omega arith
one p s (Kill q i) rs h =
    let b : Element → Bool = λ e. is_free_at q e && (e.id == i) in
    let is : (e : Element) → b e ≡ true → (is_free e.mark ≡ true) × (e.id ≡ i) =
    λ e k. let x = and_parts (is_free_at q e) (e.id == i) k in
    ((and_parts (is_free e.mark) (e.home == q) x.0).0, eqb-true e.id i x.1) in
    let more = kill_total (commits (s.next + 1) rs) p i b is s.elements
    (id_once i b (λ e k. (is e k).1) s.elements h.elements_rise) in
    omega (arith, more)

balance : (version : Version) (p : ℕ) (s : State) (rs : List Record) → IsWellFormed s → all_lawful version s rs ≡ true
    → total (commits s.next rs) p s.elements + counted (is_request p) s rs
    ≡ total (λ _. false) p (run s rs).elements + (counted (is_taken_for_good p) s rs + counted (is_kill p) s rs)
balance version p s [] h lawful = omega arith
balance version p s (r ∷ rs) h lawful =
    let first = one p s r rs h in
    let more = balance version p (step s r) rs (step_kept version s r (and_parts _ _ lawful).0 h)
    (and_parts _ _ lawful).1 in
    omega (arith, first, more)

-- At the end.

pub closed_mark : (t : State) → t.units ≡ [] → (m : Mark) → unit_is_open t m → is_free m ≡ true
closed_mark t none Free h = refl
closed_mark t none (Fresh u) h = grind (arith, none, h)
closed_mark t none (Held u) h = grind (arith, none, h)

total_shown : (p : ℕ) (es : List Element) → AllByRecursion (λ (e : Element). is_free e.mark ≡ true) es
    → total (λ _. false) p es ≡ length (filter (has_id p) es)
total_shown p [] h = refl
total_shown p (e ∷ es) h =
    let more = total_shown p es h.1 in
    let w = free_worth (λ _. false) e.mark h.0 in
    by_cases (e.id == p) (λ b. (if b then worth (λ _. false) e.mark else 0) + total (λ _. false) p es
    ≡ length (cond b (e ∷ filter (has_id p) es) (filter (has_id p) es)))
    (λ _. grind (arith, more, w)) (λ _. grind (arith, more))

-- For a lawful log whose units have all ended
fate_of_closed : (version : Version) (all : List Record) (p : ℕ) → all_lawful version empty all ≡ true
    → (run empty all).units ≡ []
    → shown p (run empty all) + (counted (is_taken_for_good p) empty all + counted (is_kill p) empty all)
    ≡ counted (is_request p) empty all
fate_of_closed version all p lawful none =
    let t = run empty all in
    let keeps = runs_are_well_formed version empty all empty_is_well_formed lawful in
    let free = each_weaker (IsElement t) (λ e. is_free e.mark ≡ true) (λ e x. closed_mark t none e.mark x.unit)
    t.elements keeps.elements in
    let last = total_shown p t.elements free in
    let all_of = balance version p empty all empty_is_well_formed lawful in
    omega (arith, last, all_of)

-- The records and the ABORTs after them
pub runs_end : RunsEnd
runs_end version rs lawful = ((are_ended version rs lawful).lawful, run_join empty rs (aborts (run empty rs)))

pub none_open : (version : Version) (rs : List Record) → all_lawful version empty rs ≡ true
    → (run empty (with_aborts rs)).units ≡ []
none_open version rs lawful = (are_ended version rs lawful).numbers.units

pub one_fate : OneFate
one_fate version rs p lawful =
    let (all_lawful_too, joined) = runs_end version rs lawful in
    ap (λ (t : State). shown p t + (done p (with_aborts rs) + kills p (with_aborts rs))) (sym joined)
    ∙ fate_of_closed version (with_aborts rs) p all_lawful_too (none_open version rs lawful)

-- At most one request.

request_place : (p : ℕ) (s : State) (r : Record) (rs : List Record) → is_request p s (r ∷ rs) ≡ true → s.next ≡ p
request_place p s (Define limit error name) rs h = grind arith
request_place p s (Register q name) rs h = grind arith
request_place p s (Deregister q name) rs h = grind arith
request_place p s (Begin u) rs h = grind arith
request_place p s (Enqueue u q priority by payload) rs h = eqb-true s.next p (and_parts _ _ h).0
request_place p s (Dequeue u q by) rs h = grind arith
request_place p s (Commit u) rs h = grind arith
request_place p s (Abort u) rs h = grind arith
request_place p s (Checkpoint bytes) rs h = grind arith
request_place p s (Kill q i) rs h = grind arith

past_request : (p : ℕ) (s : State) (rs : List Record) → p < s.next → counted (is_request p) s rs ≡ 0
past_request p s [] l = refl
past_request p s (r ∷ rs) l =
    let more = past_request p (step s r) rs (omega (arith, l)) in
    by_cases (is_request p s (r ∷ rs)) (λ b. (if b then 1 else 0) + counted (is_request p) (step s r) rs ≡ 0)
    (λ h. let e = request_place p s r rs h in absurd (omega (arith, l, e))) (λ _. omega (arith, more))

asked_once : (p : ℕ) (s : State) (rs : List Record) → counted (is_request p) s rs ≤ 1
asked_once p s [] = omega arith
asked_once p s (r ∷ rs) =
    by_cases (is_request p s (r ∷ rs)) (λ b. (if b then 1 else 0) + counted (is_request p) (step s r) rs ≤ 1)
    (λ h. let e = request_place p s r rs h in
    let none = past_request p (step s r) rs (omega (arith, e)) in omega (arith, none))
    (λ _. let more = asked_once p (step s r) rs in omega (arith, more))

pub one_request : OneRequest
one_request rs p = asked_once p empty rs

marked_free : (m : Mark) → is_free m ≡ true → m ≡ Free
marked_free Free h = refl
marked_free (Fresh u) h = absurd (grind (arith, h))
marked_free (Held u) h = absurd (grind (arith, h))

pub all_are_free : AllAreFree
all_are_free version rs lawful =
    let (lawful_too, joined) = runs_end version rs lawful in
    let t = run empty (with_aborts rs) in
    let keeps = runs_are_well_formed version empty (with_aborts rs) empty_is_well_formed lawful_too in
    subst (λ (z : State). AllByRecursion (λ (e : Element). e.mark ≡ Free) z.elements) joined
    (each_weaker (IsElement t) (λ (e : Element). e.mark ≡ Free)
    (λ e x. marked_free e.mark (closed_mark t (none_open version rs lawful) e.mark x.unit)) t.elements keeps.elements)
