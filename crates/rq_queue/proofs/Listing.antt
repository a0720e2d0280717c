-- The Free elements of a queue, as their keys have them, are its listing.
use Rattle.std.proofs.Common.{◌≡◌, ◌≢◌, ⊎_elim, inl, inr, ℕ, true, false, ◌&&◌, List, [], ◌∷◌, ◌++◌}
use Rattle.std.proofs.Common.{refl, sym, ap, ◌∙◌, subst, arith, cond, Option, Some, None}
use Rattle.std.specs.Global.{Vec}
use Rattle.std.specs.Prelude.{◌==◌}
use Rattle.std.specs.List.{AllByRecursion, filter}
use Rattle.std.specs.BTreeMap.{is_at}
use Rattle.std.specs.Ordering.{nat_cmp, is_eq}
use Rattle.std.specs.List.Sorted.{IsPermutation, IsStrictlySortedBy}
use Rattle.std.specs.Map.{values_of, keys_of, lookup}
use Rattle.std.specs.declared.cmp.Ordering.TheVariants.{Less}
use Rattle.std.proofs.lemmas.Bool.{false≢true, eq-eqb}
use Rattle.std.proofs.lemmas.List.Sorted.{IsPermutation-sym, Contains-permutation}
use Rattle.rq_model.specs.Machine.{is_free_at}
use Rattle.rq_model.specs.Reports.{IsListing, Precedes}
use Rattle.rq_model.specs.States.{Element, Mark, Free, Fresh, Held, is_free}
use Rattle.rq_model.specs.Queues.{is_marked}
use Rattle.rq_model.proofs.Lists.{by_cases, each_weaker, filter_all, filter_none}
use Rattle.std.proofs.lemmas.List.{append-nil}
use Rattle.std.proofs.lemmas.List.Elements.{filter-append}
use Rattle.rq_model.specs.WellFormed.{Ordered, IsIn}
use Rattle.rq_model.proofs.Apart.{Apart}
use Rattle.rq_model.proofs.Texts.{all_in}
use Rattle.rq_state.proofs.Sorts.{in_of_contains, contains_of_in}
use Rattle.rq_queue.specs.Kept.{items_of, Entry, IsKeyed, IsOfUnit}
use Rattle.rq_queue.specs.Listed.{contents, elements_inside, IsShelved}
use Rattle.rq_queue.specs.Sorted.{sorted}
use Rattle.rq_queue.specs.declared.elements.Elements.TheInside.{Inside}
use Rattle.rq_queue.proofs.Doing.{none_free, free_cmp}
use Rattle.rq_queue.proofs.Moving.{less_leads}
use Rattle.rq_queue.proofs.Sorting.{same_elements, apart_front, filter_sorted}
use Rattle.rq_queue.proofs.Units.{Lists, same_key}

-- Members.

in_moved : (xs ys : List Element) (e : Element) → IsPermutation xs ys → IsIn e xs → IsIn e ys
in_moved xs ys e moved h = let c = Contains-permutation xs ys e moved (contains_of_in xs e h) in
    in_of_contains ys e c.0 c.1 c.2

in_front : (e : Element) (xs ys : List Element) → IsIn e xs → IsIn e (xs ++ ys)
in_front e [] ys h = absurd h
in_front e (x ∷ xs) ys h = ⊎_elim (λ s. inl s) (λ m. inr (in_front e xs ys m)) h

-- of either list, if it is none of the second
in_first : (e : Element) (xs ys : List Element) → (IsIn e ys → ⊥) → IsIn e (xs ++ ys) → IsIn e xs
in_first e [] ys never h = absurd (never h)
in_first e (x ∷ xs) ys never h = ⊎_elim (λ s. inl s) (λ m. inr (in_first e xs ys never m)) h

-- The order.

-- what comes after the first entry comes after its element
all_after : (x : Entry) (es : List Entry) → IsKeyed x → AllByRecursion IsKeyed es
    → AllByRecursion (λ k. free_cmp x.0 k ≡ Less) (keys_of es) → AllByRecursion (λ f. x.1.id ≢ f.id) (values_of es)
    → AllByRecursion (Precedes x.1) (values_of es)
all_after x [] a b h d = tt
all_after x (e ∷ es) a b h d = (
  (
    (less_leads x.1.priority x.1.id e.1.priority e.1.id
        (ap (λ k. free_cmp k (record { 0 = e.1.priority }, e.1.id)) (sym a.0)
        ∙ (ap (λ k. free_cmp x.0 k) (sym b.0.0) ∙ h.0))).0,
    d.0,
  ),
  all_after x es a b.1 h.1 d.1,
)

in_order : (es : List Entry) → AllByRecursion IsKeyed es → IsStrictlySortedBy free_cmp (keys_of es)
    → Apart (values_of es) → Ordered Precedes (values_of es)
unfolding IsStrictlySortedBy
in_order [] keyed up apart = tt
in_order (x ∷ es) keyed up apart =
    (all_after x es keyed.0 keyed.1 up.0 apart.0, in_order es keyed.1 up.1 apart.1)

pub all_free : (queue : ℕ) (es : List Entry) → AllByRecursion IsKeyed es
    → AllByRecursion (λ (e : Element). e.home ≡ queue) (values_of es)
    → AllByRecursion (λ e. is_free_at queue e ≡ true) (values_of es)
all_free queue [] keyed home = tt
all_free queue (x ∷ es) keyed home =
    ((λ i. keyed.0.1 i && eq-eqb x.1.home queue home.0 i), all_free queue es keyed.1 home.1)

front_of : (P : Element → Type 0) (xs ys : List Element) → AllByRecursion P (xs ++ ys) → AllByRecursion P xs
front_of P [] ys h = tt
front_of P (x ∷ xs) ys h = (h.0, front_of P xs ys h.1)

pub moved_all : (P : Element → Type 0) (xs : List Element) → AllByRecursion P (sorted xs) → (e : Element) → IsIn e xs → P e
moved_all P xs h e i = all_in P e (sorted xs) h (in_moved xs (sorted xs) e (same_elements xs) i)

pub each_here : (P : Element → Type 0) (xs : List Element) → ((e : Element) → IsIn e xs → P e) → AllByRecursion P xs
each_here P [] f = tt
each_here P (x ∷ xs) f = (f x (inl refl), each_here P xs (λ e i. f e (inr i)))

pub free_is_listing : (queue : ℕ) (a : Inside) → IsShelved a → IsStrictlySortedBy free_cmp (keys_of a.free.entries)
    → AllByRecursion (λ (e : Element). e.home ≡ queue) (elements_inside a)
    → IsListing queue (elements_inside a) (values_of a.free.entries)
free_is_listing queue a shelved up home = record {
  in_order = in_order a.free.entries shelved.keyed up (apart_front free marked shelved.apart);
  members = λ e. (
    λ h. (
      in_moved (contents a) (elements_inside a) e (same_elements (contents a)) (in_front e free marked h),
      all_in (λ e. is_free_at queue e ≡ true) e free
          (all_free queue a.free.entries shelved.keyed
          (each_here (λ (e : Element). e.home ≡ queue) free
          (λ e i. moved_all (λ (e : Element). e.home ≡ queue) (contents a) home e (in_front e free marked i)))) h,
    ),
    λ h. in_first e free marked
        (λ i. (false≢true (sym (all_in (λ f. is_free_at queue f ≡ false) e marked
        (none_free queue a.marked.entries shelved.of_units) i) ∙ h.1)))
        (in_moved (elements_inside a) (contents a) e
        (IsPermutation-sym (contents a) (elements_inside a) (same_elements (contents a))) h.0),
  );
}
  where
    free : List Element
    free = values_of a.free.entries

    marked : List Element
    marked = items_of a.marked.entries

-- What a unit marks.

abbrev pub items_at : Option (Vec Element) → List Element
items_at None = []
items_at (Some v) = v.items

free_unmarked : (unit : ℕ) (m : Mark) → is_free m ≡ true → is_marked unit m ≡ false
free_unmarked unit Free h = refl
free_unmarked unit (Fresh v) h = absurd (false≢true h)
free_unmarked unit (Held v) h = absurd (false≢true h)

other_unit : (v k unit : ℕ) → (v == k) ≡ true → is_eq (nat_cmp unit k) ≡ false → (v == unit) ≡ false
other_unit v k unit a b = grind (arith, a, b)

marked_elsewhere : (unit k : ℕ) (m : Mark) → is_eq (nat_cmp unit k) ≡ false → is_marked k m ≡ true → is_marked unit m ≡ false
marked_elsewhere unit k Free f h = refl
marked_elsewhere unit k (Fresh v) f h = other_unit v k unit h f
marked_elsewhere unit k (Held v) f h = other_unit v k unit h f

none_elsewhere : (unit : ℕ) (x : ℕ × Vec Element) → is_eq (nat_cmp unit x.0) ≡ false → IsOfUnit x
    → filter (λ (e : Element). is_marked unit e.mark) x.1.items ≡ []
none_elsewhere unit x f of = filter_none (λ (e : Element). is_marked unit e.mark) x.1.items
    (each_weaker (λ (e : Element). is_marked x.0 e.mark ≡ true) (λ (e : Element). is_marked unit e.mark ≡ false)
    (λ e h. marked_elsewhere unit x.0 e.mark f h) x.1.items of)

not_later : (unit key k : ℕ) → is_eq (nat_cmp unit key) ≡ true → nat_cmp key k ≡ Less → is_eq (nat_cmp unit k) ≡ false
not_later unit key k a b = grind (arith, a, b)

none_later : (unit key : ℕ) (es : Lists) → is_eq (nat_cmp unit key) ≡ true → AllByRecursion (λ k. nat_cmp key k ≡ Less) (keys_of es)
    → AllByRecursion IsOfUnit es → filter (λ (e : Element). is_marked unit e.mark) (items_of es) ≡ []
none_later unit key [] same up of = refl
none_later unit key (x ∷ es) same up of =
    filter-append (λ (e : Element). is_marked unit e.mark) x.1.items (items_of es)
    ∙ (λ i. none_elsewhere unit x (not_later unit key x.0 same up.0) of.0 i ++ none_later unit key es same up.1 of.1 i)

-- the list under a unit is what the unit marks
picked : (unit : ℕ) (es : Lists) → IsStrictlySortedBy nat_cmp (keys_of es) → AllByRecursion IsOfUnit es
    → filter (λ (e : Element). is_marked unit e.mark) (items_of es) ≡ items_at (lookup (is_at (nat_cmp unit)) es)
unfolding IsStrictlySortedBy
picked unit [] up of = refl
picked unit (x ∷ es) up of = filter-append (λ (e : Element). is_marked unit e.mark) x.1.items (items_of es)
    ∙ by_cases (is_eq (nat_cmp unit x.0))
    (λ b. is_eq (nat_cmp unit x.0) ≡ b → filter (λ (e : Element). is_marked unit e.mark) x.1.items
    ++ filter (λ (e : Element). is_marked unit e.mark) (items_of es)
    ≡ items_at (cond b (Some x.1) (lookup (is_at (nat_cmp unit)) es)))
    (λ _ t. (λ i. filter_all (λ (e : Element). is_marked unit e.mark) x.1.items
    (subst (λ k. AllByRecursion (λ (e : Element). is_marked k e.mark ≡ true) x.1.items) (sym (same_key unit x.0 t)) of.0) i
    ++ none_later unit x.0 es t up.0 of.1 i) ∙ append-nil x.1.items)
    (λ _ f. λ i. none_elsewhere unit x f of.0 i ++ picked unit es up.1 of.1 i)
    refl

none_marked : (unit : ℕ) (es : List Entry) → AllByRecursion IsKeyed es
    → filter (λ (e : Element). is_marked unit e.mark) (values_of es) ≡ []
none_marked unit es keyed = filter_none (λ (e : Element). is_marked unit e.mark) (values_of es) (each es keyed)
  where
    each : (es : List Entry) → AllByRecursion IsKeyed es
        → AllByRecursion (λ (e : Element). is_marked unit e.mark ≡ false) (values_of es)
    each [] keyed = tt
    each (x ∷ es) keyed = (free_unmarked unit x.1.mark keyed.0.1, each es keyed.1)

pub marked_are : (unit : ℕ) (a : Inside) (list : List Element) → IsShelved a
    → IsStrictlySortedBy nat_cmp (keys_of a.marked.entries)
    → list ≡ items_at (lookup (is_at (nat_cmp unit)) a.marked.entries)
    → IsPermutation list (filter (λ (e : Element). is_marked unit e.mark) (elements_inside a))
marked_are unit a list shelved up is = subst (IsPermutation list) (sym same) (same_elements list)
  where
    same : filter (λ (e : Element). is_marked unit e.mark) (elements_inside a) ≡ sorted list
    same = filter_sorted (λ (e : Element). is_marked unit e.mark) (contents a) shelved.apart
        ∙ ap sorted (filter-append (λ (e : Element). is_marked unit e.mark) (values_of a.free.entries) (items_of a.marked.entries)
        ∙ (λ i. none_marked unit a.free.entries shelved.keyed i ++ picked unit a.marked.entries up shelved.of_units i)
        ∙ sym is)
