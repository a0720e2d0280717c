-- What a unit put in or took, gathered from the queues that it named.
use Rattle.std.proofs.Common.{◌≡◌, ◌≤◌, ◌<◌, ℕ, Bool, true, false, cond, not, ◌&&◌, ◌||◌, ◌==◌, List, [], ◌∷◌, ◌++◌, length}
use Rattle.std.proofs.Common.{zero, suc, ◌+◌, Option, Some, None, get_or, take, inl, inr, refl, sym, ap, ◌∙◌, subst, arith}
use Rattle.std.specs.Prelude.{if◌then◌else◌}
use Rattle.std.specs.List.{AllByRecursion, filter, list_any}
use Rattle.std.specs.List.Sorted.{IsPermutation}
use Rattle.std.specs.BTreeMap.{is_at}
use Rattle.std.specs.BTreeSet.{BTreeSet, IsEmpty, Updates, contains}
use Rattle.std.specs.Ordering.{is_eq, nat_cmp}
use Rattle.std.proofs.lemmas.Bool.{false≢true, eq-eqb, eqb-true, cases_Bool}
use Rattle.std.proofs.lemmas.Bool.Decides.{nat_tests}
use Rattle.std.proofs.lemmas.List.{append-nil, flat_map_more, take_more}
use Rattle.std.proofs.lemmas.List.Sorted.{IsPermutation-refl, IsPermutation-sym, IsPermutation-trans, IsPermutation-cons}
use Rattle.std.proofs.lemmas.List.Sorted.{IsPermutation-middle, IsPermutation-append_left, IsPermutation-append_right}
use Rattle.rq_model.specs.Queues.{Part, elements_at, is_engaged, is_marked}
use Rattle.rq_model.specs.Records.{Record, Commit, Abort}
use Rattle.rq_model.specs.States.{State, Element, Definition, Mark, Free, Fresh, Held, definition_at, is_fresh, is_held}
use Rattle.rq_model.specs.WellFormed.{IsElement, IsIn}
use Rattle.rq_catalog.proofs.Runs.{any_push}
use Rattle.rq_model.proofs.Lists.{by_cases, each_of, each_weaker, filter_none, filter_same}
use Rattle.rq_queue.specs.Fates.{fate_under, at_commit, at_abort}
use Rattle.rq_queue.specs.declared.fates.Fate.{Fate}
use Rattle.rq_queue.specs.declared.fates.Fate.TheVariants.{Freed, Gone, Undone, Back, Moved}
use Rattle.rq_standing.specs.Ends.{fated, fates, marked_where, unit_ended}
use Rattle.rq_standing.specs.Parts.{part_at}
use Rattle.rq_standing.specs.Stands.{HoldsState}
use Rattle.rq_standing.specs.Units.{engages_in, queues_of}
use Rattle.rq_standing.specs.declared.queues.Queues.{Queues}

-- One queue.

both_tests : (unit q : ℕ) (es : List Element) → filter (λ (e : Element). is_marked unit e.mark) (elements_at q es)
    ≡ marked_where unit (λ k. k == q) es
both_tests unit q [] = refl
both_tests unit q (e ∷ es) =
    grind (arith, both_tests unit q es, cases_Bool (e.home == q), cases_Bool (is_marked unit e.mark))

pub marked_at : (x : Queues) (s : State) (unit q : ℕ) (old new : List Element) → HoldsState x s → q < length x.parts.items
    → IsPermutation (old ++ filter (λ (e : Element). is_marked unit e.mark) (part_at x.parts.items q).elements) new
    → IsPermutation (old ++ marked_where unit (λ k. k == q) s.elements) new
marked_at x s unit q old new holds within moved = subst (λ (es : List Element). IsPermutation (old ++ es) new)
    (ap (λ (p : Part). filter (λ (e : Element). is_marked unit e.mark) p.elements)
    (holds.parts q (subst (λ n. q < n) holds.size within)) ∙ both_tests unit q s.elements) moved

not_home : (home n q : ℕ) → home < n → n ≤ q → (home == q) ≡ false
not_home home n q a b = grind (arith, nat_tests, a, b)

pub nothing_at : (x : Queues) (s : State) (unit q : ℕ) (old : List Element) → HoldsState x s → length x.parts.items ≤ q
    → IsPermutation (old ++ marked_where unit (λ k. k == q) s.elements) old
nothing_at x s unit q old holds past = subst (λ (es : List Element). IsPermutation es old)
    (sym ((λ i. old ++ filter_none (λ (e : Element). is_marked unit e.mark && (e.home == q)) s.elements
    (each_weaker (IsElement s) (λ (e : Element). (is_marked unit e.mark && (e.home == q)) ≡ false)
    (λ e is. ap (λ b. is_marked unit e.mark && b) (not_home e.home (length s.definitions) q is.home
    (subst (λ n. n ≤ q) holds.size past)) ∙ no_more (is_marked unit e.mark)) s.elements holds.well.elements) i)
    ∙ append-nil old)) (IsPermutation-refl old)
  where
    no_more : (b : Bool) → (b && false) ≡ false
    no_more true = refl
    no_more false = refl

-- One queue more.

split : (unit : ℕ) (p r : ℕ → Bool) (q : ℕ) → ((k : ℕ) → r k ≡ cond (q == k) true (p k)) → p q ≡ false → (es : List Element)
    → IsPermutation (marked_where unit r es) (marked_where unit p es ++ marked_where unit (λ k. k == q) es)
split unit p r q more new [] = IsPermutation-refl []
split unit p r q more new (e ∷ es) = let rest = split unit p r q more new es in by_cases (is_marked unit e.mark)
    (λ m. IsPermutation (cond (m && r e.home) (e ∷ all) all)
    (cond (m && p e.home) (e ∷ before) before ++ cond (m && (e.home == q)) (e ∷ here) here))
    (λ _. by_cases (e.home == q)
    (λ b. (e.home == q) ≡ b → IsPermutation (cond (true && r e.home) (e ∷ all) all)
    (cond (true && p e.home) (e ∷ before) before ++ cond (true && b) (e ∷ here) here))
    (λ _ same. there rest (eqb-true e.home q same)) (λ _ other. elsewhere rest other) refl)
    (λ _. rest)
  where
    all : List Element
    all = marked_where unit r es

    before : List Element
    before = marked_where unit p es

    here : List Element
    here = marked_where unit (λ k. k == q) es

    there : IsPermutation all (before ++ here) → e.home ≡ q → IsPermutation (cond (true && r e.home) (e ∷ all) all)
        (cond (true && p e.home) (e ∷ before) before ++ e ∷ here)
    there rest same =
        subst (λ b. IsPermutation (cond (true && b) (e ∷ all) all) (cond (true && p e.home) (e ∷ before) before ++ e ∷ here))
        (sym (more e.home ∙ ap (λ b. cond b true (p e.home)) (eq-eqb q e.home (sym same))))
        (subst (λ b. IsPermutation (e ∷ all) (cond (true && b) (e ∷ before) before ++ e ∷ here))
        (sym (ap p same ∙ new))
        (IsPermutation-trans _ _ _ (IsPermutation-cons e all (before ++ here) rest)
        (IsPermutation-sym _ _ (IsPermutation-middle before e here))))

    turned : (a b : ℕ) → (a == b) ≡ false → (b == a) ≡ false
    turned a b h = grind (arith, nat_tests, h)

    elsewhere : IsPermutation all (before ++ here) → (e.home == q) ≡ false → IsPermutation (cond (true && r e.home) (e ∷ all) all)
        (cond (true && p e.home) (e ∷ before) before ++ here)
    elsewhere rest other =
        subst (λ b. IsPermutation (cond (true && b) (e ∷ all) all) (cond (true && p e.home) (e ∷ before) before ++ here))
        (sym (more e.home ∙ ap (λ b. cond b true (p e.home)) (turned e.home q other)))
        (by_cases (p e.home) (λ b. IsPermutation (cond (true && b) (e ∷ all) all) (cond (true && b) (e ∷ before) before ++ here))
        (λ _. IsPermutation-cons e all (before ++ here) rest) (λ _. rest))

pub one_more : (unit : ℕ) (p r : ℕ → Bool) (q : ℕ) (es old new : List Element) → ((k : ℕ) → r k ≡ cond (q == k) true (p k))
    → p q ≡ false → IsPermutation (marked_where unit p es) old → IsPermutation (old ++ marked_where unit (λ k. k == q) es) new
    → IsPermutation (marked_where unit r es) new
one_more unit p r q es old new more fresh before moved = IsPermutation-trans _ _ _ (split unit p r q more fresh es)
    (IsPermutation-trans _ _ _
    (IsPermutation-append_left (marked_where unit (λ k. k == q) es) (marked_where unit p es) old before) moved)

pub same_tests : (unit : ℕ) (p r : ℕ → Bool) (es : List Element) → ((k : ℕ) → r k ≡ p k)
    → marked_where unit r es ≡ marked_where unit p es
same_tests unit p r es same = filter_same (λ (e : Element). is_marked unit e.mark && r e.home)
    (λ (e : Element). is_marked unit e.mark && p e.home) es
    (each_of (λ (e : Element). (is_marked unit e.mark && r e.home) ≡ (is_marked unit e.mark && p e.home))
    (λ e. ap (λ b. is_marked unit e.mark && b) (same e.home)) es)

pub again : (p r : ℕ → Bool) (q : ℕ) → ((k : ℕ) → r k ≡ cond (q == k) true (p k)) → p q ≡ true → (k : ℕ) → r k ≡ p k
again p r q more old k = more k
    ∙ by_cases (q == k) (λ b. (q == k) ≡ b → cond b true (p k) ≡ p k)
    (λ _ same. sym (ap p (sym (eqb-true q k same)) ∙ old)) (λ _ _. refl) refl

pub none_of : (unit : ℕ) (p : ℕ → Bool) (es : List Element) → ((k : ℕ) → p k ≡ false) → IsPermutation (marked_where unit p es) []
none_of unit p es never = subst (λ (xs : List Element). IsPermutation xs [])
    (sym (filter_none (λ (e : Element). is_marked unit e.mark && p e.home) es
    (each_of (λ (e : Element). (is_marked unit e.mark && p e.home) ≡ false)
    (λ e. ap (λ b. is_marked unit e.mark && b) (never e.home) ∙ no_more (is_marked unit e.mark)) es)))
    (IsPermutation-refl [])
  where
    no_more : (b : Bool) → (b && false) ≡ false
    no_more true = refl
    no_more false = refl

-- All that a unit marks is in queues that it named.

pub each_in : {X : Type 0} (P : X → Type 0) (xs : List X) → ((x : X) → IsIn x xs → P x) → AllByRecursion P xs
each_in P [] f = tt
each_in P (x ∷ xs) f = (f x (inl refl), each_in P xs (λ y i. f y (inr i)))

any_in : {X : Type 0} (p : X → Bool) (x : X) (xs : List X) → IsIn x xs → p x ≡ true → list_any p xs ≡ true
any_in p x [] h t = absurd h
any_in p x (y ∷ ys) (inl same) t = ap (λ b. b || list_any p ys) (sym (ap p same) ∙ t)
any_in p x (y ∷ ys) (inr more) t = ap (λ b. p y || b) (any_in p x ys more t) ∙ or_true (p y)
  where
    or_true : (b : Bool) → (b || true) ≡ true
    or_true true = refl
    or_true false = refl

pub all_named : (x : Queues) (s : State) (unit : ℕ) → HoldsState x s
    → marked_where unit (λ k. list_any (λ v. v == k) (queues_of x.units unit)) s.elements
    ≡ filter (λ (e : Element). is_marked unit e.mark) s.elements
all_named x s unit holds = filter_same (λ (e : Element). is_marked unit e.mark && engages_in x.units unit e.home)
    (λ (e : Element). is_marked unit e.mark) s.elements
    (each_in (λ (e : Element). (is_marked unit e.mark && engages_in x.units unit e.home) ≡ is_marked unit e.mark) s.elements
    (λ e i. by_cases (is_marked unit e.mark) (λ b. is_marked unit e.mark ≡ b → (b && engages_in x.units unit e.home) ≡ b)
    (λ _ t. holds.units.engaged unit e.home
    (ap (λ b. b || list_any (λ n. (n.queue == e.home) && (n.unit == unit)) s.notes)
    (any_in (λ (f : Element). (f.home == e.home) && is_marked unit f.mark) e s.elements i
    (λ j. eq-eqb e.home e.home refl j && t j))))
    (λ _ _. refl) refl))

-- Each of a list, by its index.
pub each_at : {X : Type 0} (P : X → Type 0) (xs : List X) (i : ℕ) (d : X) → AllByRecursion P xs → i < length xs
    → P (get_or xs i d)
each_at P [] i d h l = absurd (let no : ⊥ = omega (arith, l) in no)
each_at P (x ∷ xs) zero d h l = h.0
each_at P (x ∷ xs) (suc i) d h l = each_at P xs i d h.1 (omega (arith, l))

-- Fates.

abbrev fated_in : List Definition → Record → Element → List (ℕ × Fate)
fated_in definitions r e = fated e.id (fate_under r (definition_at definitions e.home) e)

-- a record that ends no unit makes nothing of any
pub none_end : (definitions : List Definition) (r : Record) → unit_ended r ≡ None → (es : List Element) → fates definitions r es ≡ []
none_end definitions r none [] = refl
none_end definitions r none (e ∷ es) = ap (λ fs. fs ++ fates definitions r es) (unfated r none) ∙ none_end definitions r none es
  where
    unfated : (r : Record) → unit_ended r ≡ None → fated_in definitions r e ≡ []
    unfated (Commit u) none = absurd (let no : ⊥ = grind (arith, none) in no)
    unfated (Abort u) none = absurd (let no : ⊥ = grind (arith, none) in no)
    unfated _ none = refl

unmarked : (unit : ℕ) (m : Mark) → is_marked unit m ≡ false → (is_fresh unit m ≡ false) × (is_held unit m ≡ false)
unmarked unit Free h = (refl, refl)
unmarked unit (Fresh v) h = (h, refl)
unmarked unit (Held v) h = (refl, h)

no_fate : (home : Definition) (r : Record) (unit : ℕ) (e : Element) → unit_ended r ≡ Some unit → is_marked unit e.mark ≡ false
    → fate_under r home e ≡ None
no_fate home (Commit u) unit e ends f =
    let same : u ≡ unit = grind (arith, ends) in
    let h = unmarked unit e.mark f in
    ap (λ v. at_commit v e) same
    ∙ (λ i. if h.0 i then Some (Freed (record { 0 = e.home })) else (if h.1 i then Some Gone else None))
no_fate home (Abort u) unit e ends f =
    let same : u ≡ unit = grind (arith, ends) in
    let h = unmarked unit e.mark f in
    ap (λ v. at_abort home v e) same
    ∙ (λ i. if h.0 i then Some Undone
    else (if h.1 i && (not (home.limit == 0) && (e.attempts + 1 == home.limit)) then Some (Moved (record { 0 = home.error }))
    else (if h.1 i then Some (Back (record { 0 = e.home }) (e.attempts + 1)) else None)))
no_fate home _ unit e ends f = absurd (let no : ⊥ = grind (arith, ends) in no)

-- those that the unit did not mark have none
pub fates_of_marked : (definitions : List Definition) (r : Record) (unit : ℕ) → unit_ended r ≡ Some unit → (es : List Element)
    → fates definitions r (filter (λ (e : Element). is_marked unit e.mark) es) ≡ fates definitions r es
fates_of_marked definitions r unit ends [] = refl
fates_of_marked definitions r unit ends (e ∷ es) = by_cases (is_marked unit e.mark)
    (λ b. is_marked unit e.mark ≡ b → fates definitions r (cond b (e ∷ filter (λ (e : Element). is_marked unit e.mark) es)
    (filter (λ (e : Element). is_marked unit e.mark) es)) ≡ fated_in definitions r e ++ fates definitions r es)
    (λ _ _. ap (λ fs. fated_in definitions r e ++ fs) (fates_of_marked definitions r unit ends es))
    (λ _ f. fates_of_marked definitions r unit ends es
    ∙ ap (λ t. fated e.id t ++ fates definitions r es)
    (sym (no_fate (definition_at definitions e.home) r unit e ends f))) refl

-- More of a list of numbers.
pub any_more : (qs : List ℕ) (i d k : ℕ) → i < length qs
    → list_any (λ v. v == k) (take (i + 1) qs) ≡ cond (get_or qs i d == k) true (list_any (λ v. v == k) (take i qs))
any_more qs i d k l = ap (list_any (λ v. v == k)) (take_more qs i d l)
    ∙ any_push (λ v. v == k) (take i qs) (get_or qs i d)
    ∙ turned (list_any (λ v. v == k) (take i qs)) (get_or qs i d == k)
  where
    turned : (a b : Bool) → (a || b) ≡ cond b true a
    turned true true = refl
    turned true false = refl
    turned false true = refl
    turned false false = refl

-- Which numbers a set has, after one more.
same_number : (a b : ℕ) → is_eq (nat_cmp a b) ≡ (a == b)
same_number a b = by_cases (a == b) (λ c. (a == b) ≡ c → is_eq (nat_cmp a b) ≡ c) (λ _ t. grind (arith, t))
    (λ _ f. grind (arith, f)) refl

pub has_more : (old new : BTreeSet ℕ) (q : ℕ) → Updates nat_cmp old new q true → (k : ℕ)
    → contains nat_cmp new k ≡ cond (q == k) true (contains nat_cmp old k)
has_more old new q updates k = updates.0 k ∙ ap (λ b. cond b true (contains nat_cmp old k)) (same_number q k)

pub seen_more : (old new : BTreeSet ℕ) (qs : List ℕ) (i : ℕ) → i < length qs → Updates nat_cmp old new (get_or qs i 0) true
    → ((k : ℕ) → contains nat_cmp old k ≡ list_any (λ v. v == k) (take i qs))
    → (k : ℕ) → contains nat_cmp new k ≡ list_any (λ v. v == k) (take (i + 1) qs)
seen_more old new qs i l updates so_far k = has_more old new (get_or qs i 0) updates k
    ∙ ap (λ b. cond (get_or qs i 0 == k) true b) (so_far k) ∙ sym (any_more qs i 0 k l)

pub was_there : (added there : Bool) → added ≡ not there → added ≡ false → there ≡ true
was_there added true is f = refl
was_there added false is f = absurd (false≢true (sym f ∙ is))

pub was_not : (added there : Bool) → added ≡ not there → added ≡ true → there ≡ false
was_not added true is t = absurd (false≢true (sym is ∙ t))
was_not added false is t = refl

-- no queue was named
pub nothing_seen : (seen : BTreeSet ℕ) → IsEmpty seen → (k : ℕ) → contains nat_cmp seen k ≡ false
nothing_seen seen none k = ap (list_any (is_at (nat_cmp k))) none
