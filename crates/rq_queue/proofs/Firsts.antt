-- The first of the Free elements is the best.
use Rattle.std.proofs.Common.{◌≡◌, ℕ, Bool, true, false, cond, ◌&&◌, ◌||◌, option_map, Some, None, find, List, [], ◌∷◌}
use Rattle.std.proofs.Common.{refl, sym, ap, ◌∙◌, arith}
use Rattle.std.specs.List.{filter, list_all, list_any, AllByRecursion}
use Rattle.std.proofs.lemmas.Bool.{false≢true}
use Rattle.rq_model.proofs.WellFormedRuns.{any_put}
use Rattle.rq_queue.specs.Sorted.{sorted}
use Rattle.rq_queue.proofs.Sorting.{each_sorted, best_any_order}
use Rattle.std.proofs.lemmas.Bool.Decides.{nat_tests}
use Rattle.rq_model.specs.States.{Element, Held, id_before}
use Rattle.rq_model.specs.Machine.{is_free_at, comes_first, is_best, best, best_held, marked}
use Rattle.rq_model.proofs.Lists.{by_cases, map_all, each_weaker}

-- e comes before f, if f is Free
abbrev pub IsBehind : ℕ → Element → Element → Type 0
IsBehind queue e f = is_free_at queue f ≡ true → (comes_first e f ≡ true) × (comes_first f e ≡ false)

itself : (e : Element) → comes_first e e ≡ true
itself e = grind (arith, nat_tests)

all_behind : (queue : ℕ) (e : Element) (es : List Element) → AllByRecursion (IsBehind queue e) es
    → list_all (comes_first e) (filter (is_free_at queue) es) ≡ true
all_behind queue e [] h = refl
all_behind queue e (f ∷ es) h = by_cases (is_free_at queue f)
    (λ b. is_free_at queue f ≡ b → list_all (comes_first e)
    (cond b (f ∷ filter (is_free_at queue) es) (filter (is_free_at queue) es)) ≡ true)
    (λ _ t. (λ i. (h.0 t).0 i && list_all (comes_first e) (filter (is_free_at queue) es)) ∙ all_behind queue e es h.1)
    (λ _ t. all_behind queue e es h.1) refl

not_best : (queue : ℕ) (e f : Element) (rest : List Element) → is_free_at queue e ≡ true → IsBehind queue e f
    → (is_free_at queue f && list_all (comes_first f) (filter (is_free_at queue) (e ∷ rest))) ≡ false
not_best queue e f rest t h = grind arith

first_best : (queue : ℕ) (e : Element) (es : List Element) → is_free_at queue e ≡ true
    → AllByRecursion (IsBehind queue e) es → is_best queue (e ∷ es) e ≡ true
first_best queue e es t h =
    (λ i. t i && list_all (comes_first e)
    (cond (t i) (e ∷ filter (is_free_at queue) es) (filter (is_free_at queue) es)))
    ∙ ((λ i. itself e i && list_all (comes_first e) (filter (is_free_at queue) es)) ∙ all_behind queue e es h)

pub first_held : (unit queue : ℕ) (e : Element) (es : List Element) → is_free_at queue e ≡ true
    → AllByRecursion (IsBehind queue e) es → best_held unit queue (e ∷ es) ≡ marked (Held unit) e ∷ es
first_held unit queue e es t h i = cond (first_best queue e es t h i) (marked (Held unit) e) e
    ∷ map_all (λ f. cond (is_best queue (e ∷ es) f) (marked (Held unit) f) f) es
    (each_weaker (IsBehind queue e) (λ f. cond (is_best queue (e ∷ es) f) (marked (Held unit) f) f ≡ f)
    (λ f k. ap (λ b. cond b (marked (Held unit) f) f) (not_best queue e f es t k)) es h) i

-- the first that passes, if all that pass have the id
find_among : (p : Element → Bool) (id : ℕ) (es : List Element) → AllByRecursion (λ e. p e ≡ true → e.id ≡ id) es
    → list_any p es ≡ true → option_map (λ (e : Element). e.id) (find p es) ≡ Some id
find_among p id [] h k = absurd (false≢true k)
find_among p id (e ∷ es) h k = by_cases (p e)
    (λ b. p e ≡ b → (b || list_any p es) ≡ true → option_map (λ (e : Element). e.id) (cond b (Some e) (find p es))
    ≡ Some id)
    (λ _ t _. ap (λ n. Some n) (h.0 t)) (λ _ _ l. find_among p id es h.1 l) refl k

find_none : (p : Element → Bool) (es : List Element) → AllByRecursion (λ e. p e ≡ false) es → find p es ≡ None
find_none p [] h = refl
find_none p (e ∷ es) h = ap (λ b. cond b (Some e) (find p es)) h.0 ∙ find_none p es h.1

pub any_sorted : (p : Element → Bool) (xs : List Element) → list_any p (sorted xs) ≡ list_any p xs
any_sorted p [] = refl
any_sorted p (x ∷ xs) = any_put p id_before x (sorted xs) ∙ ap (λ b. p x || b) (any_sorted p xs)

-- the best has the id of the first
pub best_is : (queue : ℕ) (e : Element) (es : List Element) → is_free_at queue e ≡ true
    → AllByRecursion (IsBehind queue e) es → option_map (λ (f : Element). f.id) (best queue (sorted (e ∷ es)))
    ≡ Some e.id
best_is queue e es t h = find_among (is_best queue (sorted (e ∷ es))) e.id (sorted (e ∷ es))
    (each_sorted (λ f. is_best queue (sorted (e ∷ es)) f ≡ true → f.id ≡ e.id) (e ∷ es) (
      (λ _. refl),
      each_weaker (IsBehind queue e) (λ f. is_best queue (sorted (e ∷ es)) f ≡ true → f.id ≡ e.id)
          (λ f k b. absurd (false≢true (sym (best_any_order queue (e ∷ es) f ∙ not_best queue e f es t k) ∙ b))) es h,
    ))
    (any_sorted (is_best queue (sorted (e ∷ es))) (e ∷ es)
    ∙ ap (λ b. b || list_any (is_best queue (sorted (e ∷ es))) es)
    (best_any_order queue (e ∷ es) e ∙ first_best queue e es t h))

-- the first that passes, if no other passes
find_itself : (p : Element → Bool) (x : Element) (es : List Element) → AllByRecursion (λ e. p e ≡ true → e ≡ x) es
    → list_any p es ≡ true → find p es ≡ Some x
find_itself p x [] h k = absurd (false≢true k)
find_itself p x (e ∷ es) h k = by_cases (p e)
    (λ b. p e ≡ b → (b || list_any p es) ≡ true → cond b (Some e) (find p es) ≡ Some x)
    (λ _ t _. ap (λ n. Some n) (h.0 t)) (λ _ _ l. find_itself p x es h.1 l) refl k

-- the best is the first itself
pub best_itself : (queue : ℕ) (e : Element) (es : List Element) → is_free_at queue e ≡ true
    → AllByRecursion (IsBehind queue e) es → best queue (sorted (e ∷ es)) ≡ Some e
best_itself queue e es t h = find_itself (is_best queue (sorted (e ∷ es))) e (sorted (e ∷ es))
    (each_sorted (λ f. is_best queue (sorted (e ∷ es)) f ≡ true → f ≡ e) (e ∷ es) (
      (λ _. refl),
      each_weaker (IsBehind queue e) (λ f. is_best queue (sorted (e ∷ es)) f ≡ true → f ≡ e)
          (λ f k b. absurd (false≢true (sym (best_any_order queue (e ∷ es) f ∙ not_best queue e f es t k) ∙ b))) es h,
    ))
    (any_sorted (is_best queue (sorted (e ∷ es))) (e ∷ es)
    ∙ ap (λ b. b || list_any (is_best queue (sorted (e ∷ es))) es)
    (best_any_order queue (e ∷ es) e ∙ first_best queue e es t h))

-- if none is Free, there is no best
pub no_best : (queue : ℕ) (es : List Element) → AllByRecursion (λ f. is_free_at queue f ≡ false) es
    → best queue (sorted es) ≡ None
no_best queue es h = find_none (is_best queue (sorted es)) (sorted es)
    (each_sorted (λ f. is_best queue (sorted es) f ≡ false) es
    (each_weaker (λ f. is_free_at queue f ≡ false) (λ f. is_best queue (sorted es) f ≡ false)
    (λ f n. ap (λ b. b && list_all (comes_first f) (filter (is_free_at queue) (sorted es))) n) es h))
