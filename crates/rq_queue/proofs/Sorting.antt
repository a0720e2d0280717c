-- What is done to elements in any order is done to them by number.
use Rattle.std.proofs.Common.{◌≡◌, ◌≢◌, ℕ, ◌<◌, Bool, true, false, cond, not, ◌&&◌, ◌||◌, List, [], ◌∷◌, ◌++◌, map}
use Rattle.std.proofs.Common.{refl, sym, ap, ◌∙◌, arith}
use Rattle.std.specs.Prelude.{nat_lt}
use Rattle.std.specs.List.Sorted.{IsPermutation}
use Rattle.std.proofs.lemmas.List.Sorted.{IsPermutation-sym, IsPermutation-middle}
use Rattle.std.specs.List.{filter, list_all, AllByRecursion}
use Rattle.std.proofs.lemmas.Bool.{cases_Bool}
use Rattle.std.proofs.lemmas.List.{map-append}
use Rattle.std.proofs.lemmas.List.Folds.{list_all-append}
use Rattle.rq_model.specs.States.{Element, Held, put, id_before}
use Rattle.rq_model.specs.Machine.{is_free_at, comes_first, is_best, best_held, marked}
use Rattle.rq_model.proofs.Lists.{each_append, each_filter, map_same, each_of}
use Rattle.rq_model.specs.WellFormed.{Ordered}
use Rattle.rq_model.proofs.Apart.{Apart}
use Rattle.rq_queue.specs.Sorted.{sorted}
use Rattle.rq_queue.proofs.ByNumber as ByNumber
use Rattle.rq_queue.proofs.ByNumber.{between}

abbrev number : Element → ℕ
number e = e.id

abbrev pub Rising : List Element → Type 0
Rising es = Ordered (λ a b. a.id < b.id) es

-- What holds of lists by number.

pub each_sorted : (P : Element → Type 0) (xs : List Element) → AllByRecursion P xs → AllByRecursion P (sorted xs)
each_sorted P xs h = ByNumber.each_sorted number P xs h

pub each_unsorted : (P : Element → Type 0) (xs : List Element) → AllByRecursion P (sorted xs) → AllByRecursion P xs
each_unsorted P xs h = ByNumber.each_unsorted number P xs h

pub rising_sorted : (xs : List Element) → Apart xs → Rising (sorted xs)
rising_sorted xs h = ByNumber.rising_sorted number xs h

pub filter_sorted : (p : Element → Bool) (xs : List Element) → Apart xs → filter p (sorted xs) ≡ sorted (filter p xs)
filter_sorted p xs h = ByNumber.filter_sorted number p xs h

pub same_elements : (xs : List Element) → IsPermutation xs (sorted xs)
same_elements xs = ByNumber.put_each_permutes id_before xs

pub apart_moved : (xs ys : List Element) → IsPermutation xs ys → Apart xs → Apart ys
apart_moved xs ys same h = ByNumber.apart_moved number xs ys same h

pub sorted_moved : (xs ys : List Element) → IsPermutation xs ys → Apart xs → sorted xs ≡ sorted ys
sorted_moved xs ys same h = ByNumber.sorted_moved number xs ys same h

pub apart_front : (xs ys : List Element) → Apart (xs ++ ys) → Apart xs
apart_front xs ys h = ByNumber.apart_front number xs ys h

pub apart_back : (xs ys : List Element) → Apart (xs ++ ys) → Apart ys
apart_back [] ys h = h
apart_back (x ∷ xs) ys h = apart_back xs ys h.1

-- where an element is in the list makes no difference
pub sorted_from : (xs : List Element) (y : Element) (ys : List Element) → Apart (xs ++ y ∷ ys)
    → sorted (xs ++ y ∷ ys) ≡ put id_before y (sorted (xs ++ ys))
sorted_from xs y ys h = sorted_moved (xs ++ y ∷ ys) (y ∷ (xs ++ ys)) (IsPermutation-middle xs y ys) h

pub apart_from : (xs : List Element) (y : Element) (ys : List Element) → Apart (xs ++ y ∷ ys)
    → AllByRecursion (λ z. y.id ≢ z.id) (xs ++ ys) × Apart (xs ++ ys)
apart_from xs y ys h = apart_moved (xs ++ y ∷ ys) (y ∷ (xs ++ ys)) (IsPermutation-middle xs y ys) h

pub apart_into : (xs : List Element) (y : Element) (ys : List Element) → AllByRecursion (λ z. y.id ≢ z.id) (xs ++ ys)
    → Apart (xs ++ ys) → Apart (xs ++ y ∷ ys)
apart_into xs y ys h k = apart_moved (y ∷ (xs ++ ys)) (xs ++ y ∷ ys)
    (IsPermutation-sym (xs ++ y ∷ ys) (y ∷ (xs ++ ys)) (IsPermutation-middle xs y ys)) (h, k)

-- two lists in either order
pub apart_swapped : (a b c : List Element) → Apart (a ++ (b ++ c)) → Apart (b ++ (a ++ c))
apart_swapped a b c h = apart_moved (a ++ (b ++ c)) (b ++ (a ++ c)) (between a b c) h

pub sorted_swapped : (a b c : List Element) → Apart (a ++ (b ++ c)) → sorted (a ++ (b ++ c)) ≡ sorted (b ++ (a ++ c))
sorted_swapped a b c h = sorted_moved (a ++ (b ++ c)) (b ++ (a ++ c)) (between a b c) h

-- one put in, under a filter, a map and a test of all

split_all : (p q : Element → Bool) (xs : List Element)
    → (list_all p (filter q xs) && list_all p (filter (λ y. not (q y)) xs)) ≡ list_all p xs
split_all p q [] = refl
split_all p q (x ∷ xs) = grind (arith, split_all p q xs, cases_Bool (q x), cases_Bool (p x))

all_put : (p : Element → Bool) (x : Element) (xs : List Element)
    → list_all p (put id_before x xs) ≡ (p x && list_all p xs)
all_put p x xs =
    let a = list_all-append p (filter (λ y. id_before y x) xs) (x ∷ filter (λ y. not (id_before y x)) xs) in
    let b = split_all p (λ y. id_before y x) xs in
    grind (arith, a, b, cases_Bool (p x), cases_Bool (list_all p (filter (λ y. id_before y x) xs)))

same_before : (f : Element → Element) → ((e : Element) → (f e).id ≡ e.id) → (x e : Element)
    → id_before (f e) (f x) ≡ id_before e x
same_before f same x e i = nat_lt (same e i) (same x i)

filter_mapped : (p q : Element → Bool) (f : Element → Element) → ((e : Element) → p (f e) ≡ q e) → (xs : List Element)
    → filter p (map f xs) ≡ map f (filter q xs)
filter_mapped p q f h [] = refl
filter_mapped p q f h (x ∷ xs) = grind (arith, filter_mapped p q f h xs, h x, cases_Bool (q x))

map_put : (f : Element → Element) → ((e : Element) → (f e).id ≡ e.id) → (x : Element) (xs : List Element)
    → map f (put id_before x xs) ≡ put id_before (f x) (map f xs)
map_put f same x xs = map-append f (filter (λ y. id_before y x) xs) (x ∷ filter (λ y. not (id_before y x)) xs)
    ∙ (λ i. sym (filter_mapped (λ y. id_before y (f x)) (λ y. id_before y x) f (same_before f same x) xs) i ++ f x
    ∷ sym (filter_mapped (λ y. not (id_before y (f x))) (λ y. not (id_before y x)) f
    (λ e. ap not (same_before f same x e)) xs) i)

pub each_put : (P : Element → Type 0) (x : Element) (xs : List Element) → P x → AllByRecursion P xs
    → AllByRecursion P (put id_before x xs)
each_put P x xs h k = each_append P (filter (λ y. id_before y x) xs) (x ∷ filter (λ y. not (id_before y x)) xs)
    (each_filter P (λ y. id_before y x) xs k) (h, each_filter P (λ y. not (id_before y x)) xs k)

-- a map that keeps ids goes through
pub map_sorted : (f : Element → Element) → ((e : Element) → (f e).id ≡ e.id) → (xs : List Element)
    → map f (sorted xs) ≡ sorted (map f xs)
map_sorted f same [] = refl
map_sorted f same (x ∷ xs) = map_put f same x (sorted xs) ∙ ap (put id_before (f x)) (map_sorted f same xs)

pub all_sorted : (p : Element → Bool) (xs : List Element) → list_all p (sorted xs) ≡ list_all p xs
all_sorted p [] = refl
all_sorted p (x ∷ xs) = all_put p x (sorted xs) ∙ ap (λ b. p x && b) (all_sorted p xs)

-- the best element is the same in any order
all_of_filter : (p q : Element → Bool) (xs : List Element)
    → list_all p (filter q xs) ≡ list_all (λ e. not (q e) || p e) xs
all_of_filter p q [] = refl
all_of_filter p q (x ∷ xs) = grind (arith, all_of_filter p q xs, cases_Bool (q x))

pub best_any_order : (queue : ℕ) (xs : List Element) (e : Element) → is_best queue (sorted xs) e ≡ is_best queue xs e
best_any_order queue xs e = ap (λ b. is_free_at queue e && b)
    (all_of_filter (comes_first e) (is_free_at queue) (sorted xs)
    ∙ (all_sorted (λ f. not (is_free_at queue f) || comes_first e f) xs
    ∙ sym (all_of_filter (comes_first e) (is_free_at queue) xs)))

held_id : (b : Bool) (unit : ℕ) (e : Element) → (cond b (marked (Held unit) e) e).id ≡ e.id
held_id true unit e = refl
held_id false unit e = refl

pub held_sorted : (unit queue : ℕ) (xs : List Element)
    → best_held unit queue (sorted xs) ≡ sorted (best_held unit queue xs)
held_sorted unit queue xs = map_same _ _ (sorted xs)
    (each_of _ (λ e. ap (λ b. cond b (marked (Held unit) e) e) (best_any_order queue xs e)) (sorted xs))
    ∙ map_sorted (λ e. cond (is_best queue xs e) (marked (Held unit) e) e) (λ e. held_id (is_best queue xs e) unit e) xs
