-- Searches among the elements of a queue, and how many of them are Free.
use Rattle.std.proofs.Common.{◌≡◌, ℕ, ◌+◌, ◌≤◌, ◌==◌, Bool, true, false, cond, ◌&&◌, ◌||◌, not, List, [], ◌∷◌, ◌++◌, length}
use Rattle.std.proofs.Common.{Some, None, is_some, refl, sym, ap, ◌∙◌, arith, take, length-append}
use Rattle.std.specs.BTreeMap.{is_at}
use Rattle.std.specs.List.{AllByRecursion, filter, list_any}
use Rattle.std.specs.Map.{lookup, values_of}
use Rattle.std.specs.Ordering.{nat_cmp, is_eq}
use Rattle.std.specs.declared.cmp.Reverse.{Reverse}
use Rattle.std.proofs.lemmas.Bool.{cases_eq, eq-eqb}
use Rattle.std.proofs.lemmas.Bool.Decides.{nat_tests}
use Rattle.std.proofs.lemmas.List.{append-nil, length-map}
use Rattle.std.proofs.lemmas.List.Elements.{filter-append}
use Rattle.std.proofs.lemmas.List.Folds.{list_any-append}
use Rattle.std.proofs.lemmas.List.Sorted.{length_permutation}
use Rattle.std.proofs.Math.Seq.{take-append_seam}
use Rattle.rq_model.specs.Machine.{is_free_at}
use Rattle.rq_model.specs.Queues.{is_marked}
use Rattle.rq_model.specs.States.{Element, Mark, Free, Fresh, Held, is_free}
use Rattle.rq_model.proofs.Lists.{by_cases, each_weaker, filter_all, filter_none}
use Rattle.rq_queue.specs.Kept.{Entry, items_of, IsKeyed, IsOfUnit}
use Rattle.rq_queue.specs.Listed.{contents, elements_inside, IsShelved}
use Rattle.rq_queue.specs.Priorities.{IsKnown}
use Rattle.rq_queue.specs.Sorted.{sorted}
use Rattle.rq_queue.specs.declared.elements.Elements.TheInside.{Inside}
use Rattle.rq_queue.proofs.ByNumber.{each_front}
use Rattle.rq_queue.proofs.Doing.{free_cmp, none_free}
use Rattle.rq_queue.proofs.Firsts.{any_sorted}
use Rattle.rq_queue.proofs.Known.{no_such, equal_rank}
use Rattle.rq_queue.proofs.Listing.{all_free}
use Rattle.rq_queue.proofs.Sorting.{each_unsorted, filter_sorted, same_elements}
use Rattle.rq_queue.proofs.Units.{Lists}

-- The first of a list.

pub first_are : {X : Type 0} (n : ℕ) (xs ys all : List X) → xs ++ ys ≡ all → length xs ≡ n → xs ≡ take n all
first_are n xs ys all is h = sym (take-append_seam xs ys) ∙ (λ i. take (h i) (is i))

-- The element of an id.

any_none : (p : Element → Bool) (es : List Element) → AllByRecursion (λ e. p e ≡ false) es → list_any p es ≡ false
any_none p [] h = refl
any_none p (e ∷ es) h = λ i. h.0 i || any_none p es h.1 i

any_same : (p q : Element → Bool) (es : List Element) → AllByRecursion (λ e. p e ≡ q e) es → list_any p es ≡ list_any q es
any_same p q [] h = refl
any_same p q (e ∷ es) h = λ i. h.0 i || any_same p q es h.1 i

-- none has it, if no priority is kept under it
pub none_among : (id : ℕ) (by_id : List (ℕ × ℕ)) (es : List Element) → lookup (is_at (nat_cmp id)) by_id ≡ None
    → AllByRecursion (IsKnown by_id) es → list_any (λ e. e.id == id) es ≡ false
none_among id by_id es n h = any_none (λ e. e.id == id) es
    (each_weaker (IsKnown by_id) (λ e. (e.id == id) ≡ false)
    (λ e k. turned (e.id == id) (no_such id by_id n e k)) es h)
  where
    turned : (b : Bool) → not b ≡ true → b ≡ false
    turned true h = sym h
    turned false h = refl

-- the priority that is kept under it says where it is
pub one_among : (id p : ℕ) (by_id : List (ℕ × ℕ)) (es : List Entry) → lookup (is_at (nat_cmp id)) by_id ≡ Some p
    → AllByRecursion IsKeyed es → AllByRecursion (IsKnown by_id) (values_of es)
    → is_some (lookup (is_at (free_cmp (record { 0 = p }, id))) es) ≡ list_any (λ e. e.id == id) (values_of es)
one_among id p by_id [] l keyed known = refl
one_among id p by_id (x ∷ es) l keyed known =
    by_cases (is_eq (free_cmp (record { 0 = p }, id) x.0))
    (λ b. is_eq (free_cmp (record { 0 = p }, id) x.0) ≡ b
    → is_some (cond b (Some x.1) (lookup (is_at (free_cmp (record { 0 = p }, id))) es))
    ≡ ((x.1.id == id) || list_any (λ e. e.id == id) (values_of es))) there
    (elsewhere (one_among id p by_id es l keyed.1 known.1)) refl
  where
    there : is_eq (free_cmp (record { 0 = p }, id) x.0) ≡ true → is_eq (free_cmp (record { 0 = p }, id) x.0) ≡ true
        → true ≡ ((x.1.id == id) || list_any (λ e. e.id == id) (values_of es))
    there _ t =
        let here : x.1.id ≡ id = ap (λ (k : Reverse ℕ × ℕ). k.1) (sym keyed.0.0)
        ∙ sym (equal_rank p id x.0.0.0 x.0.1 t).1 in
        sym (ap (λ b. b || list_any (λ e. e.id == id) (values_of es)) (eq-eqb x.1.id id here))

    elsewhere : is_some (lookup (is_at (free_cmp (record { 0 = p }, id))) es) ≡ list_any (λ e. e.id == id) (values_of es)
        → is_eq (free_cmp (record { 0 = p }, id) x.0) ≡ false → is_eq (free_cmp (record { 0 = p }, id) x.0) ≡ false
        → is_some (lookup (is_at (free_cmp (record { 0 = p }, id))) es)
        ≡ ((x.1.id == id) || list_any (λ e. e.id == id) (values_of es))
    elsewhere later _ f = grind (arith, nat_tests, cases_eq x.1.id id)

-- of all elements of the queue, a Free one has it, if one of the Free ones has it
pub free_has : (queue id : ℕ) (free : List Entry) (marked : Lists) → AllByRecursion IsKeyed free → AllByRecursion IsOfUnit marked
    → AllByRecursion (λ (e : Element). e.home ≡ queue) (sorted (values_of free ++ items_of marked))
    → list_any (λ e. e.id == id) (values_of free)
    ≡ list_any (λ e. is_free_at queue e && (e.id == id)) (sorted (values_of free ++ items_of marked))
free_has queue id free marked keyed units home =
    sym (any_sorted has (values_of free ++ items_of marked)
    ∙ list_any-append has (values_of free) (items_of marked)
    ∙ ap (λ b. list_any has (values_of free) || b) (any_none has (items_of marked)
    (each_weaker (λ e. is_free_at queue e ≡ false) (λ e. has e ≡ false) (λ e n. ap (λ b. b && (e.id == id)) n)
    (items_of marked) (none_free queue marked units)))
    ∙ or_nothing (list_any has (values_of free))
    ∙ any_same has (λ e. e.id == id) (values_of free)
    (each_weaker (λ e. is_free_at queue e ≡ true) (λ e. has e ≡ (e.id == id)) (λ e t. ap (λ b. b && (e.id == id)) t)
    (values_of free) (all_free queue free keyed
    (each_front (λ (e : Element). e.home ≡ queue) (values_of free) (items_of marked)
    (each_unsorted (λ (e : Element). e.home ≡ queue) (values_of free ++ items_of marked) home)))))
  where
    has : Element → Bool
    has e = is_free_at queue e && (e.id == id)

    or_nothing : (b : Bool) → (b || false) ≡ b
    or_nothing true = refl
    or_nothing false = refl

-- How many are Free, and how many are not.

free_of : (es : List Entry) → AllByRecursion IsKeyed es → AllByRecursion (λ e. is_free e.mark ≡ true) (values_of es)
free_of [] h = tt
free_of (x ∷ es) h = (h.0.1, free_of es h.1)

not_free : (unit : ℕ) (m : Mark) → is_marked unit m ≡ true → is_free m ≡ false
not_free unit Free h = sym h
not_free unit (Fresh v) h = refl
not_free unit (Held v) h = refl

none_of : (es : Lists) → AllByRecursion IsOfUnit es → AllByRecursion (λ e. is_free e.mark ≡ false) (items_of es)
none_of [] h = tt
none_of (x ∷ es) h = each_both (λ e. is_free e.mark ≡ false) x.1.items (items_of es)
    (each_weaker (λ e. is_marked x.0 e.mark ≡ true) (λ e. is_free e.mark ≡ false) (λ e t. not_free x.0 e.mark t) x.1.items h.0)
    (none_of es h.1)
  where
    each_both : (P : Element → Type 0) (xs ys : List Element) → AllByRecursion P xs → AllByRecursion P ys → AllByRecursion P (xs ++ ys)
    each_both P [] ys a b = b
    each_both P (x ∷ xs) ys a b = (a.0, each_both P xs ys a.1 b)

counted : (p : Element → Bool) (a : Inside) → IsShelved a → length (filter p (elements_inside a))
    ≡ length (filter p (values_of a.free.entries) ++ filter p (items_of a.marked.entries))
counted p a shelved = ap length (filter_sorted p (contents a) shelved.apart)
    ∙ length_permutation (filter p (contents a)) (sorted (filter p (contents a))) (same_elements (filter p (contents a)))
    ∙ ap length (filter-append p (values_of a.free.entries) (items_of a.marked.entries))

pub free_counted : (a : Inside) → IsShelved a
    → length a.free.entries ≡ length (filter (λ (e : Element). is_free e.mark) (elements_inside a))
free_counted a shelved = sym (counted (λ (e : Element). is_free e.mark) a shelved
    ∙ (λ i. length (filter_all (λ (e : Element). is_free e.mark) (values_of a.free.entries) (free_of a.free.entries shelved.keyed) i
    ++ filter_none (λ (e : Element). is_free e.mark) (items_of a.marked.entries) (none_of a.marked.entries shelved.of_units) i))
    ∙ ap length (append-nil (values_of a.free.entries))
    ∙ length-map a.free.entries (λ (x : Entry). x.1))

pub marked_counted : (a : Inside) → IsShelved a → length (items_of a.marked.entries)
    ≡ length (filter (λ (e : Element). not (is_free e.mark)) (elements_inside a))
marked_counted a shelved = sym (counted (λ (e : Element). not (is_free e.mark)) a shelved
    ∙ (λ i. length (filter_none (λ (e : Element). not (is_free e.mark)) (values_of a.free.entries)
    (each_weaker (λ e. is_free e.mark ≡ true) (λ e. not (is_free e.mark) ≡ false) (λ e t. ap not t) (values_of a.free.entries)
    (free_of a.free.entries shelved.keyed)) i
    ++ filter_all (λ (e : Element). not (is_free e.mark)) (items_of a.marked.entries)
    (each_weaker (λ e. is_free e.mark ≡ false) (λ e. not (is_free e.mark) ≡ true) (λ e n. ap not n) (items_of a.marked.entries)
    (none_of a.marked.entries shelved.of_units)) i)))

pub marked_fewer : (a : Inside) → length (items_of a.marked.entries) ≤ length (elements_inside a)
marked_fewer a = let n = length_permutation (contents a) (elements_inside a) (same_elements (contents a))
    ∙ length-append (values_of a.free.entries) (items_of a.marked.entries) in omega (arith, n)
