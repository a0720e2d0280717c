-- What arrives is what leaves the sources, merged.
use Rattle.std.proofs.Common.{◌≡◌, ◌≢◌, ℕ, ◌<◌, ◌≤◌, ◌⊎◌, Bool, true, false, cond, ◌||◌, List, [], ◌∷◌, ◌++◌}
use Rattle.std.proofs.Common.{length, map, refl, sym, ap, ◌∙◌, subst, arith, inl, inr, length-append}
use Rattle.std.specs.Prelude.{◌==◌}
use Rattle.std.specs.List.{filter, list_any, AllByRecursion}
use Rattle.itertools.specs.List.{merge_by, merge_at}
use Rattle.std.proofs.lemmas.Bool.{and_parts, ne_eqb, eqb-true}
use Rattle.std.proofs.lemmas.List.{get_or_append_left}
use Rattle.rq_model.specs.Records.{Record, Abort, Version}
use Rattle.rq_model.specs.States.{Definition, State, definition_at}
use Rattle.rq_model.specs.Machine.{all_lawful, step}
use Rattle.rq_model.specs.Queues.{defined_by, Transfer, transfers_at, transfers, moves}
use Rattle.rq_model.specs.WellFormed.{Ordered}
use Rattle.rq_model.specs.Laws.{IsSound, move_before, merged, ArrivalsAreMerged}
use Rattle.rq_model.proofs.Lists.{by_cases, filter_same, filter_none, each_weaker, each_of, each_append, each_map}
use Rattle.rq_model.proofs.Lists.{each_filter}
use Rattle.rq_model.proofs.Sound.{same_definitions, sound_step}

-- Merging two parts of a list in order.

merge_nil : {X : Type 0} (le : X → X → Bool) (xs : List X) → merge_by le xs [] ≡ xs
merge_nil le [] = refl
merge_nil le (x ∷ xs) = refl

merge_left : {X : Type 0} (le : X → X → Bool) (x : X) (xs ys : List X) → AllByRecursion (λ y. le x y ≡ true) ys
    → merge_by le (x ∷ xs) ys ≡ x ∷ merge_by le xs ys
merge_left le x xs [] h = ap (λ zs. x ∷ zs) (sym (merge_nil le xs))
merge_left le x xs (y ∷ ys) h =
    ap (λ b. cond b (x ∷ merge_by le xs (y ∷ ys)) (y ∷ merge_at le x xs (merge_by le xs) ys)) h.0

merge_right : {X : Type 0} (le : X → X → Bool) (xs : List X) (y : X) (ys : List X)
    → AllByRecursion (λ x. le x y ≡ false) xs → merge_by le xs (y ∷ ys) ≡ y ∷ merge_by le xs ys
merge_right le [] y ys h = refl
merge_right le (x ∷ xs) y ys h =
    ap (λ b. cond b (x ∷ merge_by le xs (y ∷ ys)) (y ∷ merge_at le x xs (merge_by le xs) ys)) h.0

merge_parts : {X : Type 0} (le : X → X → Bool) (p r : X → Bool) → ((x : X) → p x ≡ true → r x ≡ false) → (xs : List X)
    → Ordered (λ x y. (le x y ≡ true) × (le y x ≡ false)) xs
    → merge_by le (filter p xs) (filter r xs) ≡ filter (λ x. p x || r x) xs
merge_parts le p r apart [] h = refl
merge_parts {X} le p r apart (x ∷ xs) h =
    let rest = merge_parts le p r apart xs h.1 in
    let left = merge_left le x (filter p xs) (filter r xs) (each_filter (λ y. le x y ≡ true) r xs
    (each_weaker _ _ (λ y k. k.0) xs h.0)) in
    let right = merge_right le (filter p xs) x (filter r xs) (each_filter (λ y. le y x ≡ false) p xs
    (each_weaker _ _ (λ y k. k.1) xs h.0)) in
    grind arith

merge_map : {X Y : Type 0} (le : Y → Y → Bool) (f : X → Y) (xs ys : List X)
    → merge_by le (map f xs) (map f ys) ≡ map f (merge_by (λ x y. le (f x) (f y)) xs ys)
merge_map le f [] ys = refl
merge_map {X} {Y} le f (x ∷ xs) ys = at ys (merge_map le f xs)
  where
    at : (ys : List X)
        → ((ys : List X) → merge_by le (map f xs) (map f ys) ≡ map f (merge_by (λ x y. le (f x) (f y)) xs ys))
        → merge_by le (map f (x ∷ xs)) (map f ys) ≡ map f (merge_by (λ x y. le (f x) (f y)) (x ∷ xs) ys)
    at [] h = refl
    at (y ∷ ys) h = by_cases (le (f x) (f y))
        (λ b. cond b (f x ∷ merge_by le (map f xs) (f y ∷ map f ys)) (f y ∷ merge_by le (f x ∷ map f xs) (map f ys))
        ≡ map f (cond b (x ∷ merge_by (λ x y. le (f x) (f y)) xs (y ∷ ys))
        (y ∷ merge_by (λ x y. le (f x) (f y)) (x ∷ xs) ys)))
        (λ _. ap (λ zs. f x ∷ zs) (h (y ∷ ys))) (λ _. ap (λ zs. f y ∷ zs) (at ys h))

-- The order of all moves.

abbrev pub Precedes : Transfer → Transfer → Type 0
Precedes t u = (t.move.place < u.move.place) ⊎ ((t.move.place ≡ u.move.place) × (t.move.element.id < u.move.element.id))

pub ordered_append : {X : Type 0} (R : X → X → Type 0) (xs ys : List X) → Ordered R xs → Ordered R ys
    → AllByRecursion (λ x. AllByRecursion (R x) ys) xs → Ordered R (xs ++ ys)
ordered_append R [] ys h k l = k
ordered_append R (x ∷ xs) ys h k l = (each_append (R x) xs ys h.0 l.0, ordered_append R xs ys h.1 k l.1)

pub ordered_filter : {X : Type 0} (R : X → X → Type 0) (p : X → Bool) (xs : List X) → Ordered R xs
    → Ordered R (filter p xs)
ordered_filter R p [] h = tt
ordered_filter R p (x ∷ xs) h = by_cases (p x) (λ b. Ordered R (cond b (x ∷ filter p xs) (filter p xs)))
    (λ _. (each_filter (R x) p xs h.0, ordered_filter R p xs h.1)) (λ _. ordered_filter R p xs h.1)

pub ordered_map : {X Y : Type 0} (R : X → X → Type 0) (S : Y → Y → Type 0) (f : X → Y)
    → ((x y : X) → R x y → S (f x) (f y)) → (xs : List X) → Ordered R xs → Ordered S (map f xs)
ordered_map R S f h [] k = tt
ordered_map R S f h (x ∷ xs) k = (each_map (R x) (S (f x)) f (h x) xs k.0, ordered_map R S f h xs k.1)

pub ordered_weaker : {X : Type 0} (R S : X → X → Type 0) → ((x y : X) → R x y → S x y) → (xs : List X) → Ordered R xs
    → Ordered S xs
ordered_weaker R S h [] k = tt
ordered_weaker R S h (x ∷ xs) k = (each_weaker (R x) (S x) (h x) xs k.0, ordered_weaker R S h xs k.1)

places_at : (s : State) (r : Record) → AllByRecursion (λ (t : Transfer). t.move.place ≡ s.next) (transfers_at s r)
places_at s (Abort u) = each_map _ _ _ (λ e h. refl) _ (each_of (λ e. e.id ≡ e.id) (λ _. refl) _)
places_at s r = tt

places_since : (s : State) (rs : List Record)
    → AllByRecursion (λ (t : Transfer). s.next ≤ t.move.place) (transfers s rs)
places_since s [] = tt
places_since s (r ∷ rs) = each_append _ _ _ (each_weaker _ _ (λ t e. omega arith) (transfers_at s r) (places_at s r))
    (each_weaker _ _ (λ t e. omega arith) (transfers (step s r) rs) (places_since (step s r) rs))

order_at : (s : State) (r : Record) → IsSound s → Ordered Precedes (transfers_at s r)
order_at s (Abort u) sound = ordered_map _ _ _ (λ e f l. inr (refl, l)) _ (ordered_filter _ _ _ sound.rising)
order_at s r sound = tt

pub order : (version : Version) (s : State) (rs : List Record) → IsSound s → all_lawful version s rs ≡ true
    → Ordered Precedes (transfers s rs)
order version s [] sound lawful = tt
order version s (r ∷ rs) sound lawful =
    let parts = and_parts _ _ lawful in
    ordered_append _ _ _ (order_at s r sound)
    (order version (step s r) rs (sound_step version s r parts.0 sound) parts.1)
    (each_weaker _ _ (λ t e. each_weaker _ _ (λ u l. inl (omega arith)) (transfers (step s r) rs)
    (places_since (step s r) rs)) (transfers_at s r) (places_at s r))

precedes_before : (t u : Transfer) → Precedes t u
    → (move_before t.move u.move ≡ true) × (move_before u.move t.move ≡ false)
precedes_before t u (inl l) = grind arith
precedes_before t u (inr l) = grind arith

-- Where the moves go.

goes_at : (s : State) (r : Record) (ds : List Definition)
    → ((k : ℕ) → k < length s.definitions → definition_at s.definitions k ≡ definition_at ds k)
    → length s.definitions ≤ length ds → IsSound s
    → AllByRecursion (λ (t : Transfer). (t.from < length ds) × (t.move.element.home ≡ (definition_at ds t.from).error))
    (transfers_at s r)
goes_at s (Abort u) ds same longer sound =
    each_map _ _ _ (λ e l. (omega arith, ap (λ (d : Definition). d.error) (same e.home l))) _
    (each_filter _ _ _ sound.homes)
goes_at s r ds same longer sound = tt

goes : (version : Version) (s : State) (rs : List Record) (ds : List Definition) → s.definitions ++ defined_by rs ≡ ds
    → IsSound s → all_lawful version s rs ≡ true
    → AllByRecursion (λ (t : Transfer). (t.from < length ds) × (t.move.element.home ≡ (definition_at ds t.from).error))
    (transfers s rs)
goes version s [] ds e sound lawful = tt
goes version s (r ∷ rs) ds e sound lawful =
    let parts = and_parts _ _ lawful in
    each_append _ _ _ (goes_at s r ds (λ k l. sym (get_or_append_left _ _ _ k l) ∙ ap (λ xs. definition_at xs k) e)
    (omega (arith, length-append s.definitions (defined_by (r ∷ rs)), ap length e)) sound)
    (goes version (step s r) rs ds (same_definitions s r rs ∙ e) (sound_step version s r parts.0 sound) parts.1)

-- Several queues.

abbrev leaves_one : List ℕ → Transfer → Bool
leaves_one ks t = list_any (λ v. v == t.from) ks

none_again : (k : ℕ) (ks : List ℕ) → AllByRecursion (λ v. k ≢ v) ks → list_any (λ v. v == k) ks ≡ false
none_again k [] h = refl
none_again k (v ∷ ks) h = grind (arith, ne_eqb v k (λ e. h.0 (sym e)), none_again k ks h.1)

merged_is : (s : State) (rs : List Record) (ks : List ℕ) → Ordered Precedes (transfers s rs) → Ordered (λ a b. a ≢ b) ks
    → merged s rs ks ≡ map (λ t. t.move) (filter (leaves_one ks) (transfers s rs))
merged_is s rs [] o distinct =
    sym (ap (map (λ (t : Transfer). t.move))
    (filter_none (leaves_one []) (transfers s rs)
    (each_of (λ t. leaves_one [] t ≡ false) (λ _. refl) (transfers s rs))))
merged_is s rs (k ∷ ks) o distinct = ap (merge_by move_before (moves s rs k)) (merged_is s rs ks o distinct.1)
    ∙ merge_map _ _ _ (filter (leaves_one ks) (transfers s rs))
    ∙ ap (map (λ (t : Transfer). t.move))
    (merge_parts _ _ _ (λ t e. subst (λ f. list_any (λ v. v == f) ks ≡ false) (sym (eqb-true t.from k e))
    (none_again k ks distinct.0)) (transfers s rs) (ordered_weaker Precedes _ precedes_before (transfers s rs) o)
    ∙ grind arith)

pub arrivals_are_merged : ArrivalsAreMerged
arrivals_are_merged version s rs q ks sound lawful sources =
    ap (map (λ (t : Transfer). t.move))
    (filter_same _ _ _ (each_weaker _ _ (λ t h. ap (λ x. x == q) h.1 ∙ sources.exact t.from h.0) (transfers s rs)
    (goes _ s rs _ refl sound lawful))) ∙ sym (merged_is s rs ks (order version s rs sound lawful) sources.each_once)
