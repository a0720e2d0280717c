-- The priorities of elements by id, and the element that a KILL finds by them.
use Rattle.std.proofs.Common.{◌≡◌, ◌≢◌, ℕ, ◌==◌, Bool, true, false, cond, ◌&&◌, not, List, [], ◌∷◌, ◌++◌, Option}
use Rattle.std.proofs.Common.{Some, None, map, refl, sym, ap, ◌∙◌, subst, arith}
use Rattle.std.specs.BTreeMap.{BTreeMap, insert_entry, is_at}
use Rattle.std.specs.List.{AllByRecursion, filter}
use Rattle.std.specs.Map.{lookup, remove_entry, values_of}
use Rattle.std.specs.Ordering.{nat_cmp, is_eq}
use Rattle.std.specs.declared.cmp.Reverse.{Reverse}
use Rattle.std.proofs.lemmas.Bool.{cases_Bool, cases_eq, cases_order, eq-eqb, ne_eqb}
use Rattle.std.proofs.lemmas.Bool.Decides.{nat_tests}
use Rattle.std.proofs.lemmas.List.{append-nil}
use Rattle.std.proofs.lemmas.List.Elements.{filter-append}
use Rattle.std.proofs.lemmas.List.Sorted.{IsPermutation-middle}
use Rattle.rq_model.specs.States.{Element, Definition, Mark, Free, Held, is_fresh, is_held}
use Rattle.rq_model.specs.Machine.{is_free_at, is_best, best_held, marked, committed_elements, leaves, returned, killed}
use Rattle.rq_model.proofs.Apart.{Apart}
use Rattle.rq_model.proofs.Lists.{by_cases, each_weaker, each_both, each_map, each_filter, filter_all, filter_same}
use Rattle.rq_model.proofs.Merged.{ordered_filter}
use Rattle.rq_model.proofs.Steps.{returned_id}
use Rattle.rq_queue.specs.Kept.{Among, Entry, items_of, IsKeyed, IsOfUnit, staying}
use Rattle.rq_queue.specs.Listed.{IsShelved}
use Rattle.rq_queue.specs.Priorities.{IsKnown, AreKnown, with_all}
use Rattle.rq_queue.specs.Sorted.{sorted}
use Rattle.rq_queue.specs.declared.elements.Elements.TheInside.{Inside}
use Rattle.rq_queue.proofs.Doing.{free_cmp, none_free}
use Rattle.rq_queue.proofs.ByNumber.{each_back, each_front, each_moved}
use Rattle.rq_queue.proofs.Sorting.{apart_into, each_sorted, each_unsorted, filter_sorted}
use Rattle.rq_queue.proofs.Units.{Lists, apart_other, each_other}

-- what is under an id after one is put in
found : (q k v : ℕ) (es : List (ℕ × ℕ)) → lookup (is_at (nat_cmp q)) (insert_entry nat_cmp es k v)
    ≡ cond (q == k) (Some v) (lookup (is_at (nat_cmp q)) es)
found q k v [] = grind (arith, nat_tests)
found q k v (x ∷ es) = grind (arith, nat_tests, found q k v es, cases_order k x.0, cases_order q x.0, cases_order q k)

-- one element more
pub known_with : (e : Element) (es : List Element) (by_id : List (ℕ × ℕ)) → AllByRecursion (λ x. e.id ≢ x.id) es
    → AllByRecursion (IsKnown by_id) es → AllByRecursion (IsKnown (insert_entry nat_cmp by_id e.id e.priority)) (e ∷ es)
known_with e es by_id apart h = (
  grind (arith, nat_tests, found e.id e.id e.priority by_id),
  each_weaker _ _ (λ x p. grind (arith, nat_tests, found x.id e.id e.priority by_id, p.0, p.1)) es
      (each_both (λ (x : Element). e.id ≢ x.id) (IsKnown by_id) es apart h),
)

-- a list of elements more
known_all : (es old : List Element) (by_id : List (ℕ × ℕ)) → Apart (es ++ old) → AllByRecursion (IsKnown by_id) old
    → AllByRecursion (IsKnown (with_all es by_id)) (es ++ old)
known_all [] old by_id apart h = h
known_all (e ∷ es) old by_id apart h = each_moved _ _ _ (IsPermutation-middle es e old)
    (known_all es (e ∷ old) _ (apart_into es e old apart.0 apart.1)
    (known_with e old by_id (each_back (λ x. e.id ≢ x.id) es old apart.0) h))

pub with_all_append : (es fs : List Element) (by_id : List (ℕ × ℕ))
    → with_all (es ++ fs) by_id ≡ with_all fs (with_all es by_id)
with_all_append [] fs by_id = refl
with_all_append (e ∷ es) fs by_id = with_all_append es fs (insert_entry nat_cmp by_id e.id e.priority)

pub known_both : (es fs : List Element) (first all : List (ℕ × ℕ)) → first ≡ with_all es [] → all ≡ with_all fs first
    → Apart (es ++ fs) → AllByRecursion (IsKnown all) (es ++ fs)
known_both es fs first all f a apart =
    subst (λ (by_id : List (ℕ × ℕ)). AllByRecursion (IsKnown by_id) (es ++ fs))
    (with_all_append es fs [] ∙ (ap (with_all fs) (sym f) ∙ sym a))
    (subst (AllByRecursion (IsKnown (with_all (es ++ fs) []))) (append-nil (es ++ fs))
    (known_all (es ++ fs) [] [] (subst Apart (sym (append-nil (es ++ fs))) apart) tt))

-- What elements go through leaves them their ids and priorities.
pub known_by : (o : Option (BTreeMap ℕ ℕ)) (xs ys : List Element)
    → ((P : Element → Type 0) → AllByRecursion P xs → AllByRecursion P ys) → AreKnown o xs → AreKnown o ys
known_by None xs ys f h = tt
known_by (Some by_id) xs ys f h = f (IsKnown by_id.entries) h

known_map : (o : Option (BTreeMap ℕ ℕ)) (f : Element → Element)
    → ((e : Element) → ((f e).id ≡ e.id) × ((f e).priority ≡ e.priority)) → (es : List Element) → AreKnown o es
    → AreKnown o (map f es)
known_map None f same es h = tt
known_map (Some by_id) f same es h = each_map (IsKnown by_id.entries) (IsKnown by_id.entries) f
    (λ e k. ap (λ n. lookup (is_at (nat_cmp n)) by_id.entries) (same e).0 ∙ (k ∙ ap (λ n. Some n) (sym (same e).1))) es
    h

marked_same : (b : Bool) (m : Mark) (e : Element)
    → ((cond b (marked m e) e).id ≡ e.id) × ((cond b (marked m e) e).priority ≡ e.priority)
marked_same true m e = (refl, refl)
marked_same false m e = (refl, refl)

pub known_held : (o : Option (BTreeMap ℕ ℕ)) (unit queue : ℕ) (es : List Element) → AreKnown o es
    → AreKnown o (best_held unit queue es)
known_held o unit queue es h = known_map o _ (λ e. marked_same (is_best queue es e) (Held unit) e) es h

pub known_committed : (o : Option (BTreeMap ℕ ℕ)) (unit : ℕ) (es : List Element) → AreKnown o es
    → AreKnown o (committed_elements unit es)
known_committed o unit es h = known_map o _ (λ e. marked_same (is_fresh unit e.mark) Free e) _
    (known_by o es _ (λ P k. each_filter P (λ e. not (is_held unit e.mark)) es k) h)

pub known_staying : (o : Option (BTreeMap ℕ ℕ)) (home : Definition) (unit : ℕ) (es : List Element) → AreKnown o es
    → AreKnown o (staying home unit es)
known_staying o home unit es h = known_map o (returned unit) (λ e. (returned_id unit e, same e)) _
    (known_by o es _ (λ P k. each_filter P (λ e. not (is_fresh unit e.mark) && not (leaves home unit e)) es k) h)
  where
    same : (e : Element) → (returned unit e).priority ≡ e.priority
    same e = grind (arith, cases_Bool (is_held unit e.mark))

pub known_killed : (o : Option (BTreeMap ℕ ℕ)) (queue id : ℕ) (es : List Element) → AreKnown o es
    → AreKnown o (killed queue id (sorted es))
known_killed o queue id es h = known_by o es _
    (λ P k. each_filter P (λ e. not (is_free_at queue e && (e.id == id))) (sorted es) (each_sorted P es k)) h

-- The element of an id, if its priority is known.

pub no_such : (id : ℕ) (by_id : List (ℕ × ℕ)) → lookup (is_at (nat_cmp id)) by_id ≡ None → (e : Element) → IsKnown by_id e
    → not (e.id == id) ≡ true
no_such id by_id n e k = grind (arith, nat_tests, cases_eq e.id id)

pub none_to_kill : (id : ℕ) (by_id : List (ℕ × ℕ)) (es : List Element) → lookup (is_at (nat_cmp id)) by_id ≡ None
    → AllByRecursion (IsKnown by_id) es → es ≡ filter (λ e. not (e.id == id)) es
none_to_kill id by_id es n h =
    sym (filter_all (λ e. not (e.id == id)) es
    (each_weaker (IsKnown by_id) (λ e. not (e.id == id) ≡ true) (no_such id by_id n) es h))

pub equal_rank : (p i q j : ℕ) → is_eq (free_cmp (record { 0 = p }, i) (record { 0 = q }, j)) ≡ true → (p ≡ q) × (i ≡ j)
equal_rank p i q j h = (grind (arith), grind (arith))

pub one_killed : (id p : ℕ) (by_id : List (ℕ × ℕ)) (es : List Entry) → lookup (is_at (nat_cmp id)) by_id ≡ Some p
    → AllByRecursion IsKeyed es → Apart (values_of es) → AllByRecursion (IsKnown by_id) (values_of es)
    → values_of (remove_entry (is_at (free_cmp (record { 0 = p }, id))) es)
    ≡ filter (λ e. not (e.id == id)) (values_of es)
one_killed id p by_id [] l keyed apart known = refl
one_killed id p by_id (x ∷ es) l keyed apart known =
    by_cases (is_eq (free_cmp (record { 0 = p }, id) x.0))
    (λ b. is_eq (free_cmp (record { 0 = p }, id) x.0) ≡ b
    → values_of (cond b es (x ∷ remove_entry (is_at (free_cmp (record { 0 = p }, id))) es))
    ≡ filter (λ e. not (e.id == id)) (values_of (x ∷ es))) there
    (elsewhere (one_killed id p by_id es l keyed.1 apart.1 known.1)) refl
  where
    left : List Element
    left = filter (λ e. not (e.id == id)) (values_of es)

    there : is_eq (free_cmp (record { 0 = p }, id) x.0) ≡ true → is_eq (free_cmp (record { 0 = p }, id) x.0) ≡ true
        → values_of es ≡ filter (λ e. not (e.id == id)) (values_of (x ∷ es))
    there _ t =
        let here : x.1.id ≡ id = ap (λ (k : Reverse ℕ × ℕ). k.1) (sym keyed.0.0)
        ∙ sym (equal_rank p id x.0.0.0 x.0.1 t).1 in
        sym (ap (λ b. cond (not b) (x.1 ∷ left) left) (eq-eqb x.1.id id here)
        ∙ filter_all (λ e. not (e.id == id)) (values_of es)
        (each_weaker (λ e. x.1.id ≢ e.id) (λ e. not (e.id == id) ≡ true)
        (λ e n. ap not (ne_eqb e.id id (λ s. n (here ∙ sym s)))) (values_of es) apart.0))

    elsewhere : values_of (remove_entry (is_at (free_cmp (record { 0 = p }, id))) es) ≡ left
        → is_eq (free_cmp (record { 0 = p }, id) x.0) ≡ false → is_eq (free_cmp (record { 0 = p }, id) x.0) ≡ false
        → values_of (x ∷ remove_entry (is_at (free_cmp (record { 0 = p }, id))) es)
        ≡ filter (λ e. not (e.id == id)) (values_of (x ∷ es))
    elsewhere later _ f = grind arith

-- KILL
pub kill_done : (queue id : ℕ) (free next : List Entry) (old : Lists) → AllByRecursion IsKeyed free
    → AllByRecursion IsOfUnit old → Apart (values_of free ++ items_of old)
    → AllByRecursion (λ e. e.home ≡ queue) (sorted (values_of free ++ items_of old))
    → values_of next ≡ filter (λ e. not (e.id == id)) (values_of free)
    → (sorted (values_of next ++ items_of old) ≡ killed queue id (sorted (values_of free ++ items_of old)))
    × Apart (values_of next ++ items_of old)
kill_done queue id free next old keyed units apart home n = (
  ap sorted (sym left)
      ∙ sym (filter_sorted (λ e. not (is_free_at queue e && (e.id == id))) (values_of free ++ items_of old) apart),
  subst Apart left (ordered_filter (λ (a b : Element). a.id ≢ b.id) (λ e. not (is_free_at queue e && (e.id == id)))
      (values_of free ++ items_of old) apart),
)
  where
    all_free : (es : List Entry) → AllByRecursion IsKeyed es
        → AllByRecursion (λ (e : Element). e.home ≡ queue) (values_of es)
        → AllByRecursion (λ e. not (is_free_at queue e && (e.id == id)) ≡ not (e.id == id)) (values_of es)
    all_free [] k h = tt
    all_free (x ∷ es) k h =
        ((λ i. not ((k.0.1 i && eq-eqb x.1.home queue h.0 i) && (x.1.id == id))), all_free es k.1 h.1)

    left : filter (λ e. not (is_free_at queue e && (e.id == id))) (values_of free ++ items_of old)
        ≡ values_of next ++ items_of old
    left = filter-append (λ e. not (is_free_at queue e && (e.id == id))) (values_of free) (items_of old)
        ∙ (λ i. (filter_same (λ e. not (is_free_at queue e && (e.id == id))) (λ e. not (e.id == id)) (values_of free)
        (all_free free keyed
        (each_front (λ (e : Element). e.home ≡ queue) (values_of free) (items_of old)
        (each_unsorted (λ (e : Element). e.home ≡ queue) (values_of free ++ items_of old) home))) ∙ sym n) i
        ++ filter_all (λ e. not (is_free_at queue e && (e.id == id))) (items_of old)
        (each_weaker (λ f. is_free_at queue f ≡ false) (λ e. not (is_free_at queue e && (e.id == id)) ≡ true)
        (λ e b. ap (λ c. not (c && (e.id == id))) b) (items_of old) (none_free queue old units)) i)

-- without the Free elements and the list of a unit
pub emptied : (a b : Inside) (list : List Element) → b.free.entries ≡ [] → b.priorities ≡ a.priorities
    → Among list (items_of a.marked.entries) (items_of b.marked.entries) → AllByRecursion IsOfUnit b.marked.entries
    → IsShelved a → IsShelved b
emptied a b list empty same among units h =
    let free = values_of a.free.entries in
    let whole = items_of a.marked.entries in
    let items = items_of b.marked.entries in
    record {
      keyed = subst (AllByRecursion IsKeyed) (sym empty) tt;
      of_units = units;
      apart = subst (λ (es : List Entry). Apart (values_of es ++ items)) (sym empty)
          (apart_other free list whole items among h.apart);
      known = subst (λ (es : List Entry). AreKnown b.priorities (sorted (values_of es ++ items))) (sym empty)
          (subst (λ (o : Option (BTreeMap ℕ ℕ)). AreKnown o (sorted items)) (sym same)
          (known_by a.priorities _ _ (λ P k. each_sorted P items
          (each_other P free list whole items among (each_unsorted P (free ++ whole) k))) h.known));
    }
