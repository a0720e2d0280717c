-- How often a request was taken.
use Rattle.std.proofs.Common.{◌≡◌, ℕ, ◌+◌, Bool, true, false, cond, not, ◌&&◌, ◌||◌, List, []}
use Rattle.std.proofs.Common.{◌∷◌, ◌++◌, map, Some, refl, sym, ap, ◌∙◌, arith}
use Rattle.std.specs.Prelude.{◌==◌, if◌then◌else◌, find}
use Rattle.std.specs.List.{filter, list_any, AllByRecursion}
use Rattle.std.proofs.lemmas.Bool.{and_parts, eqb-true, eq-eqb, cases_Bool, not-true}
use Rattle.rq_model.specs.Records.{Record, Define, Register, Deregister, Begin, Enqueue, Dequeue, Commit, Abort}
use Rattle.rq_model.specs.Records.{Checkpoint, Kill, Version}
use Rattle.rq_model.specs.States.{Mark, Free, Fresh, Held, Element, Definition, State, empty, definition_at}
use Rattle.rq_model.specs.States.{is_free, is_fresh, is_held}
use Rattle.rq_model.specs.Machine.{Committed, Aborted, outcome_from, is_best, best, new_element, marked}
use Rattle.rq_model.specs.Machine.{leaves, moved, returned}
use Rattle.rq_model.specs.Machine.{committed_elements, aborted_elements, is_free_at, all_lawful, step, run}
use Rattle.rq_model.specs.WellFormed.{IsWellFormed, IsElement}
use Rattle.rq_model.proofs.Lists.{by_cases, each_weaker, each_append, each_map, each_filter, each_passes, each_both}
use Rattle.rq_model.proofs.Steps.{leaves_held}
use Rattle.rq_model.proofs.Texts.{all_in}
use Rattle.rq_model.proofs.Kept.{step_kept, runs_are_well_formed, empty_is_well_formed}
use Rattle.rq_model.proofs.Balance.{Same, AtMostOne, best_once, best_free, id_once, other_commits}
use Rattle.rq_model.proofs.Balance.{other_aborts, closed_mark, runs_end, none_open}
use Rattle.rq_model.proofs.Tried.{any_in}
use Rattle.rq_model.specs.Fates.{has_id, with_aborts, counted, is_committed, commits, is_that, is_request}
use Rattle.rq_model.specs.Fates.{is_taken_for_good, is_take, is_try}
use Rattle.rq_model.specs.FateLaws.{TakesAreTries, OthersAreUntaken}

-- What no committed unit enqueued.

abbrev is_vain : (ℕ → Bool) → Mark → Bool
is_vain c Free = false
is_vain c (Fresh u) = not (c u)
is_vain c (Held u) = false

abbrev Barren : (ℕ → Bool) → ℕ → Element → Type 0
Barren c p e = e.id ≡ p → is_vain c e.mark ≡ true

vain_free : (c : ℕ → Bool) (m : Mark) → is_vain c m ≡ true → is_free m ≡ true → ⊥
vain_free c Free h k = grind (arith, h)
vain_free c (Fresh u) h k = grind (arith, k)
vain_free c (Held u) h k = grind (arith, h)

vain_held : (c : ℕ → Bool) (u : ℕ) (m : Mark) → is_vain c m ≡ true → is_held u m ≡ true → ⊥
vain_held c u Free h k = grind (arith, h)
vain_held c u (Fresh v) h k = grind (arith, k)
vain_held c u (Held v) h k = grind (arith, h)

vain_commits : (c : ℕ → Bool) (u : ℕ) (m : Mark) → c u ≡ true → is_vain c m ≡ true → is_fresh u m ≡ true → ⊥
vain_commits c u Free cu h k = grind (arith, h)
vain_commits c u (Fresh v) cu h k = let is = ap c (eqb-true v u k) ∙ cu in grind (arith, is, h)
vain_commits c u (Held v) cu h k = grind (arith, h)

vain_other : (c d : ℕ → Bool) (u : ℕ) → Same c d u → (m : Mark) → is_fresh u m ≡ false → is_vain c m ≡ true
    → is_vain d m ≡ true
vain_other c d u same Free f h = h
vain_other c d u same (Fresh v) f h = ap not (sym (same v f)) ∙ h
vain_other c d u same (Held v) f h = h

barren_step : (p : ℕ) (s : State) (r : Record) (rs : List Record) → is_request p s (r ∷ rs) ≡ false
    → AllByRecursion (Barren (commits s.next (r ∷ rs)) p) s.elements
    → AllByRecursion (Barren (commits (s.next + 1) rs) p) (step s r).elements
barren_step p s (Define limit error name) rs unasked all = all
barren_step p s (Register q name) rs unasked all = all
barren_step p s (Deregister q name) rs unasked all = all
barren_step p s (Begin u) rs unasked all = all
barren_step p s (Checkpoint bytes) rs unasked all = all
barren_step p s (Kill q i) rs unasked all = each_filter _ _ s.elements all
barren_step p s (Enqueue u q priority by payload) rs unasked all = each_append _ s.elements _ all
    ((λ is. let e = eq-eqb s.next p is in grind (arith, e, unasked, cases_Bool (commits (s.next + 1) rs u))), tt)
barren_step p s (Dequeue u q by) rs unasked all =
    let c = commits (s.next + 1) rs in
    each_map (Barren c p) (Barren c p) _ (λ e x. by_cases (is_best q s.elements e)
    (λ b. is_best q s.elements e ≡ b → Barren c p (if b then marked (Held u) e else e))
    (λ _ k is. absurd (vain_free c e.mark (x is) (and_parts _ _ (best_free q s.elements e k)).0))
    (λ _ _. x) refl) s.elements all
barren_step p s (Commit u) rs unasked all =
    let c = commits s.next (Commit u ∷ rs) in
    let d = commits (s.next + 1) rs in
    let cu : c u ≡ true = ap (λ b. is_committed (if b then Committed s.next else outcome_from (s.next + 1) u rs))
    (eq-eqb u u refl) in
    each_map (Barren c p) (Barren d p) _ (λ e x. by_cases (is_fresh u e.mark)
    (λ b. is_fresh u e.mark ≡ b → Barren d p (if b then marked Free e else e))
    (λ _ k is. absurd (vain_commits c u e.mark cu (x is) k))
    (λ _ k is. vain_other c d u (other_commits s.next u rs) e.mark k (x is)) refl) _ (each_filter
    (Barren c p) _ s.elements all)
barren_step p s (Abort u) rs unasked all =
    let c = commits s.next (Abort u ∷ rs) in
    let d = commits (s.next + 1) rs in
    each_map (λ (e : Element). Barren c p e × (is_fresh u e.mark ≡ false)) (Barren d p) _
    (λ e x. by_cases (leaves (definition_at s.definitions e.home) u e)
    (λ b. leaves (definition_at s.definitions e.home) u e ≡ b
    → Barren d p (if b then moved (definition_at s.definitions e.home) e else returned u e))
    (λ _ k is. absurd (vain_held c u e.mark (x.0 is) (leaves_held (definition_at s.definitions e.home) u e k)))
    (λ _ _. by_cases (is_held u e.mark) (λ b. is_held u e.mark ≡ b → Barren d p (if b then record {
      id = e.id;
      home = e.home;
      origin = e.origin;
      priority = e.priority;
      attempts = e.attempts + 1;
      payload = e.payload;
      mark = Free;
    } else e))
    (λ _ k is. absurd (vain_held c u e.mark (x.0 is) k))
    (λ _ _ is. vain_other c d u (other_aborts s.next u rs) e.mark x.1 (x.0 is)) refl) refl) _
    (each_both (Barren c p) (λ (e : Element). is_fresh u e.mark ≡ false) _ (each_filter (Barren c p) _ s.elements all)
    (each_passes (λ (e : Element). is_fresh u e.mark ≡ false) (λ e. not (is_fresh u e.mark)) (λ e k. not-true
    (is_fresh u e.mark) k) s.elements))

find_that : (p : ℕ) (b : Element → Bool) (es : List Element) → is_that p (find b es) ≡ true
    → list_any (λ e. has_id p e && b e) es ≡ true
find_that p b [] h = h
find_that p b (e ∷ es) h = by_cases (b e) (λ t. is_that p (cond t (Some e) (find b es)) ≡ true
    → ((has_id p e && t) || list_any (λ e. has_id p e && b e) es) ≡ true)
    (λ _ k. grind (arith, k)) (λ _ k. let more = find_that p b es k in grind (arith, more, cases_Bool (e.id == p))) h

untaken : (p : ℕ) (s : State) (r : Record) (rs : List Record) → AllByRecursion (Barren (commits s.next
    (r ∷ rs)) p) s.elements
    → is_take p s (r ∷ rs) ≡ false
untaken p s (Dequeue u q by) rs all = by_cases (is_that p (best q s.elements)) (λ b. is_that p (best q s.elements)
    ≡ b → b ≡ false)
    (λ _ k. let (e, there, x) = any_in (λ e. has_id p e && is_best q s.elements e) s.elements (find_that p
    (is_best q s.elements) s.elements k) in
    let y = and_parts (e.id == p) (is_best q s.elements e) x in
    absurd (vain_free (commits (s.next + 1) rs) e.mark (all_in _ e s.elements all there (eqb-true e.id p y.0))
    (and_parts (is_free e.mark) (e.home == q) (best_free q s.elements e y.1)).0)) (λ _ _. refl) refl
untaken p s (Define limit error name) rs all = refl
untaken p s (Register q name) rs all = refl
untaken p s (Deregister q name) rs all = refl
untaken p s (Begin u) rs all = refl
untaken p s (Enqueue u q priority by payload) rs all = refl
untaken p s (Commit u) rs all = refl
untaken p s (Abort u) rs all = refl
untaken p s (Checkpoint bytes) rs all = refl
untaken p s (Kill q i) rs all = refl

never : (p : ℕ) (s : State) (rs : List Record) → counted (is_request p) s rs ≡ 0
    → AllByRecursion (Barren (commits s.next rs) p) s.elements → counted (is_take p) s rs ≡ 0
never p s [] none all = refl
never p s (r ∷ rs) none all =
    let unasked : is_request p s (r ∷ rs) ≡ false = by_cases (is_request p s (r ∷ rs))
    (λ b. (if b then 1 else 0) + counted (is_request p) (step s r) rs ≡ 0 → b ≡ false) (λ _ k. absurd (omega
    (arith, k))) (λ _ _. refl) none in
    let more = never p (step s r) rs (omega (arith, none)) (barren_step p s r rs unasked all) in
    ap (λ b. (if b then 1 else 0) + counted (is_take p) (step s r) rs) (untaken p s r rs all) ∙ omega (arith, more)

pub others_are_untaken : OthersAreUntaken
others_are_untaken version rs p lawful none = never p empty rs none tt

-- Takes that are not done are owed to tries to come.

abbrev owed : (ℕ → Bool) → Mark → ℕ
owed c Free = 0
owed c (Fresh u) = 0
owed c (Held u) = if c u then 0 else 1

abbrev debt : (ℕ → Bool) → ℕ → Element → ℕ
debt c p e = if e.id == p then owed c e.mark else 0

abbrev debts : (ℕ → Bool) → ℕ → List Element → ℕ
debts c p [] = 0
debts c p (e ∷ es) = debt c p e + debts c p es

debts-append : (c : ℕ → Bool) (p : ℕ) (xs ys : List Element) → debts c p (xs ++ ys) ≡ debts c p xs + debts c p ys
debts-append c p [] ys = omega arith
debts-append c p (x ∷ xs) ys = omega (arith, debts-append c p xs ys)

held_owed : (c : ℕ → Bool) (u : ℕ) (m : Mark) → is_held u m ≡ true → owed c m ≡ (if c u then 0 else 1)
held_owed c u Free h = grind arith
held_owed c u (Fresh v) h = grind arith
held_owed c u (Held v) h = ap (λ w. if c w then 0 else 1) (eqb-true v u h)

fresh_owed : (c : ℕ → Bool) (u : ℕ) (m : Mark) → is_fresh u m ≡ true → owed c m ≡ 0
fresh_owed c u Free h = refl
fresh_owed c u (Fresh v) h = refl
fresh_owed c u (Held v) h = grind arith

free_owed : (c : ℕ → Bool) (m : Mark) → is_free m ≡ true → owed c m ≡ 0
free_owed c Free h = refl
free_owed c (Fresh v) h = refl
free_owed c (Held v) h = grind arith

other_owed : (c d : ℕ → Bool) (u : ℕ) → Same c d u → (m : Mark) → is_held u m ≡ false → owed c m ≡ owed d m
other_owed c d u same Free h = refl
other_owed c d u same (Fresh v) h = refl
other_owed c d u same (Held v) h = ap (λ b. if b then 0 else 1) (same v h)

fresh_unheld : (u : ℕ) (m : Mark) → is_fresh u m ≡ true → is_held u m ≡ false
fresh_unheld u Free h = refl
fresh_unheld u (Fresh v) h = refl
fresh_unheld u (Held v) h = grind arith

commit_debts : (c d : ℕ → Bool) (u p : ℕ) → c u ≡ true → Same c d u → (es : List Element)
    → debts c p es ≡ debts d p (committed_elements u es)
commit_debts c d u p cu same [] = refl
commit_debts c d u p cu same (e ∷ es) =
    let more = commit_debts c d u p cu same es in
    by_cases (is_held u e.mark)
    (λ b. is_held u e.mark ≡ b → debts c p (e ∷ es) ≡ debts d p (map
    (λ e. if is_fresh u e.mark then marked Free e else e)
    (cond (not b) (e ∷ filter (λ e. not (is_held u e.mark)) es) (filter (λ e. not (is_held u e.mark)) es))))
    (λ _ h. let w : owed c e.mark ≡ 0 = held_owed c u e.mark h ∙ ap (λ b. if b then 0 else 1) cu in
    grind (arith, more, w))
    (λ _ h. by_cases (is_fresh u e.mark)
    (λ b. is_fresh u e.mark ≡ b → debts c p (e ∷ es) ≡ debt d p (if b then marked Free e else e) + debts d p
    (committed_elements u es))
    (λ _ f. let w : owed c e.mark ≡ 0 = fresh_owed c u e.mark f in grind (arith, more, w))
    (λ _ f. let w : owed c e.mark ≡ owed d e.mark = other_owed c d u same e.mark h in
    grind (arith, more, w)) refl) refl

take_debts : (c : ℕ → Bool) (u p : ℕ) (b : Element → Bool) → ((e : Element) → b e ≡ true → is_free e.mark ≡ true)
    → (es : List Element) → AtMostOne b es
    → (if is_that p (find b es) then 1 else 0) + debts c p es ≡ debts c p (map (λ e. if b e then marked
    (Held u) e else e) es)
    + (if is_that p (find b es) && c u then 1 else 0)
take_debts c u p b free [] one = refl
take_debts c u p b free (e ∷ es) one =
    by_cases (b e) (λ t. b e ≡ t → (if is_that p (cond t (Some e) (find b es)) then 1 else 0) + debts c p (e ∷ es)
    ≡ (debt c p (if t then marked (Held u) e else e) + debts c p (map (λ e. if b e then marked (Held u) e else e) es))
    + (if is_that p (cond t (Some e) (find b es)) && c u then 1 else 0))
    (λ _ h. let none = none_taken es (each_weaker _ _ (λ y k. k h) es one.0) in
    let w : owed c e.mark ≡ 0 = free_owed c e.mark (free e h) in
    grind (arith, none, w, cases_Bool (c u), cases_Bool (e.id == p)))
    (λ _ _. let more = take_debts c u p b free es one.1 in omega (arith, more)) refl
  where
    none_taken : (es : List Element) → AllByRecursion (λ e. b e ≡ true → ⊥) es
        → debts c p (map (λ e. if b e then marked (Held u) e else e) es) ≡ debts c p es
    none_taken [] none = refl
    none_taken (e ∷ es) none =
        let more = none_taken es none.1 in
        by_cases (b e) (λ t. debt c p (if t then marked (Held u) e else e)
        + debts c p (map (λ e. if b e then marked (Held u) e else e) es) ≡ debts c p (e ∷ es))
        (λ h. absurd (none.0 h)) (λ _. omega (arith, more))

kill_debts : (c : ℕ → Bool) (p : ℕ) (b : Element → Bool) → ((e : Element) → b e ≡ true → is_free e.mark ≡ true)
    → (es : List Element) → debts c p es ≡ debts c p (filter (λ e. not (b e)) es)
kill_debts c p b free [] = refl
kill_debts c p b free (e ∷ es) =
    let more = kill_debts c p b free es in
    by_cases (b e) (λ t. b e ≡ t → debts c p (e ∷ es) ≡ debts c p (cond (not t) (e ∷ filter (λ e. not (b e)) es)
    (filter (λ e. not (b e)) es)))
    (λ _ h. let w : owed c e.mark ≡ 0 = free_owed c e.mark (free e h) in
    grind (arith, more, w)) (λ _ _. omega (arith, more)) refl

-- the elements that the unit holds, of the id
abbrev holds : ℕ → ℕ → Element → Bool
holds u p e = has_id p e && is_held u e.mark

none_any : (b : Element → Bool) (es : List Element) → AllByRecursion (λ e. b e ≡ true → ⊥) es → list_any b es ≡ false
none_any b [] none = refl
none_any b (e ∷ es) none = by_cases (b e) (λ t. (t || list_any b es) ≡ false) (λ h. absurd (none.0 h))
    (λ _. none_any b es none.1)

abort_image : (c d : ℕ → Bool) (u p : ℕ) → c u ≡ false → Same c d u → (k : Definition) (e : Element)
    → debt c p e ≡ debt d p (if leaves k u e then moved k e else returned u e) + (if holds u p e then 1 else 0)
abort_image c d u p cu same k e = by_cases (is_held u e.mark)
    (λ b. is_held u e.mark ≡ b → debt c p e ≡ debt d p (if leaves k u e then moved k e else returned u e) +
    (if holds u p e then 1 else 0))
    (λ _ h. let w : owed c e.mark ≡ 1 = held_owed c u e.mark h ∙ ap (λ b. if b then 0 else 1) cu in
    grind (arith, w, h, cases_Bool (leaves k u e), cases_Bool (e.id == p)))
    (λ _ h. let w : owed c e.mark ≡ owed d e.mark = other_owed c d u same e.mark h in
    grind (arith, w, h, cases_Bool (e.id == p))) refl

abort_debts : (c d : ℕ → Bool) (u p : ℕ) → c u ≡ false → Same c d u → (ks : List Definition) (es : List Element)
    → AtMostOne (holds u p) es
    → debts c p es ≡ debts d p (aborted_elements ks u es) + (if list_any (holds u p) es then 1 else 0)
abort_debts c d u p cu same ks [] one = refl
abort_debts c d u p cu same ks (e ∷ es) one =
    let more = abort_debts c d u p cu same ks es one.1 in
    let image = abort_image c d u p cu same (definition_at ks e.home) e in
    let count : (if list_any (holds u p) (e ∷ es) then 1 else 0)
    ≡ (if holds u p e then 1 else 0) + (if list_any (holds u p) es then 1 else 0) =
    by_cases (holds u p e) (λ b. holds u p e ≡ b → (if b || list_any (holds u p) es then 1 else 0)
    ≡ (if b then 1 else 0) + (if list_any (holds u p) es then 1 else 0))
    (λ _ h. let none = none_any (holds u p) es (each_weaker _ _ (λ y k. k h) es one.0) in
    grind (arith, none)) (λ _ _. omega arith) refl in
    by_cases (is_fresh u e.mark)
    (λ b. is_fresh u e.mark ≡ b → debts c p (e ∷ es) ≡ debts d p (map (λ e. if leaves (definition_at ks e.home) u e
    then moved (definition_at ks e.home) e else returned u e)
    (cond (not b) (e ∷ filter (λ e. not (is_fresh u e.mark)) es) (filter (λ e. not (is_fresh u e.mark)) es)))
    + (if list_any (holds u p) (e ∷ es) then 1 else 0))
    (λ _ f. let w : owed c e.mark ≡ 0 = fresh_owed c u e.mark f in
    let n : holds u p e ≡ false = (let x = fresh_unheld u e.mark f in grind (arith, x, cases_Bool (e.id == p))) in
    let z : debt c p e ≡ 0 = grind (arith, w) in
    let count2 = count ∙ ap (λ b. (if b then 1 else 0) + (if list_any (holds u p) es then 1 else 0)) n in
    omega (arith, more, z, count2))
    (λ _ _. omega (arith, more, image, count)) refl

owes : (p : ℕ) (s : State) (r : Record) (rs : List Record) → IsWellFormed s
    → (if is_take p s (r ∷ rs) then 1 else 0) + debts (commits s.next (r ∷ rs)) p s.elements
    ≡ debts (commits (s.next + 1) rs) p (step s r).elements
    + ((if is_try p s (r ∷ rs) then 1 else 0) + (if is_taken_for_good p s (r ∷ rs) then 1 else 0))
owes p s (Define limit error name) rs w = omega arith
owes p s (Register q name) rs w = omega arith
owes p s (Deregister q name) rs w = omega arith
owes p s (Begin u) rs w = omega arith
owes p s (Checkpoint bytes) rs w = omega arith
owes p s (Enqueue u q priority by payload) rs w =
    let more = debts-append (commits (s.next + 1) rs) p s.elements (new_element s.next u q priority payload ∷ []) in
    grind (arith, more, cases_Bool (s.next == p))
owes p s (Dequeue u q by) rs w =
    let more = take_debts (commits (s.next + 1) rs) u p (is_best q s.elements)
    (λ e k. (and_parts (is_free e.mark) (e.home == q) (best_free q s.elements e k)).0) s.elements
    (best_once q s.elements w.elements_rise) in
    omega (arith, more)
owes p s (Commit u) rs w =
    let more = commit_debts (commits s.next (Commit u ∷ rs)) (commits (s.next + 1) rs) u p
    (ap (λ b. is_committed (if b then Committed s.next else outcome_from (s.next + 1) u rs)) (eq-eqb u u refl))
    (other_commits s.next u rs) s.elements in
    omega (arith, more)
owes p s (Abort u) rs w =
    let more = abort_debts (commits s.next (Abort u ∷ rs)) (commits (s.next + 1) rs) u p
    (ap (λ b. is_committed (if b then Aborted s.next else outcome_from (s.next + 1) u rs)) (eq-eqb u u refl))
    (other_aborts s.next u rs) s.definitions s.elements
    (id_once p (holds u p) (λ e k. eqb-true e.id p (and_parts (e.id == p)
    (is_held u e.mark) k).0) s.elements w.elements_rise) in
    omega (arith, more)
owes p s (Kill q i) rs w =
    let b : Element → Bool = λ e. is_free_at q e && (e.id == i) in
    let more = kill_debts (commits (s.next + 1) rs) p b
    (λ e k. (and_parts (is_free e.mark) (e.home == q) (and_parts (is_free_at q e) (e.id == i) k).0).0) s.elements in
    omega (arith, more)

owes_all : (version : Version) (p : ℕ) (s : State) (rs : List Record) → IsWellFormed s → all_lawful version s rs
    ≡ true
    → counted (is_take p) s rs + debts (commits s.next rs) p s.elements
    ≡ debts (λ _. false) p (run s rs).elements + (counted (is_try p) s rs + counted (is_taken_for_good p) s rs)
owes_all version p s [] w lawful = omega arith
owes_all version p s (r ∷ rs) w lawful =
    let first = owes p s r rs w in
    let more = owes_all version p (step s r) rs (step_kept version s r (and_parts _ _ lawful).0 w)
    (and_parts _ _ lawful).1 in
    omega (arith, first, more)

all_paid : (c : ℕ → Bool) (p : ℕ) (es : List Element) → AllByRecursion (λ (e : Element). is_free e.mark ≡ true) es
    → debts c p es ≡ 0
all_paid c p [] h = refl
all_paid c p (e ∷ es) h =
    let more = all_paid c p es h.1 in
    let w = free_owed c e.mark h.0 in
    grind (arith, more, w, cases_Bool (e.id == p))

pub takes_are_tries : TakesAreTries
takes_are_tries version rs p lawful =
    let all = with_aborts rs in
    let lawful_too = (runs_end version rs lawful).0 in
    let t = run empty all in
    let keeps = runs_are_well_formed version empty all empty_is_well_formed lawful_too in
    let free = each_weaker (IsElement t) (λ e. is_free e.mark ≡ true)
    (λ e x. closed_mark t (none_open version rs lawful) e.mark x.unit) t.elements keeps.elements in
    let last = all_paid (λ _. false) p t.elements free in
    let whole = owes_all version p empty all empty_is_well_formed lawful_too in
    omega (arith, last, whole)
