-- Lists of elements by unit.
use Rattle.std.proofs.Common.{◌≡◌, ℕ, Bool, true, cond, List, [], ◌∷◌, ◌++◌, Some, None, refl, sym, ap, ◌∙◌, subst}
use Rattle.std.proofs.Common.{arith, append_assoc}
use Rattle.std.specs.Prelude.{Result, Ok, Err, OnErr}
use Rattle.std.specs.List.{AllByRecursion}
use Rattle.std.specs.List.Sorted.{IsPermutation}
use Rattle.std.proofs.lemmas.List.Sorted.{IsPermutation-append_right, IsPermutation-cons, IsPermutation-middle}
use Rattle.std.proofs.lemmas.List.Sorted.{IsPermutation-sym, IsPermutation-trans}
use Rattle.std.specs.Global.{Vec}
use Rattle.std.specs.Map.{lookup, remove_entry, set_value}
use Rattle.std.specs.BTreeMap.{insert_entry, is_at}
use Rattle.std.specs.Ordering.{nat_cmp, match_ordering, is_eq}
use Rattle.std.specs.declared.cmp.Ordering.{Ordering}
use Rattle.std.specs.declared.cmp.Ordering.TheVariants.{Less, Equal, Greater}
use Rattle.rq_model.specs.States.{Element, put, id_before}
use Rattle.rq_model.specs.Queues.{is_marked}
use Rattle.rq_model.proofs.Lists.{by_cases}
use Rattle.rq_model.proofs.Apart.{Apart}
use Rattle.rq_queue.specs.Sorted.{sorted}
use Rattle.rq_queue.specs.Kept.{items_of, IsOfUnit, Stowed, Among}
use Rattle.rq_queue.proofs.ByNumber.{between, each_back, each_moved}
use Rattle.rq_queue.proofs.Sorting.{apart_back, apart_moved, apart_swapped, sorted_moved}

pub on_err : {T E P : Type 0} (r : Result T E) → P → OnErr r P
on_err (Ok x) h = tt
on_err (Err e) h = h

abbrev pub Lists : Type 0
Lists = List (ℕ × Vec Element)

behind_more : (list whole others more : List Element) → Among list whole others
    → Among list (more ++ whole) (more ++ others)
behind_more list whole others more a = record {
  front = more ++ a.front;
  back = a.back;
  whole_is = ap (λ (x : List Element). more ++ x) a.whole_is ∙ sym (append_assoc more a.front (list ++ a.back));
  others_are = ap (λ (x : List Element). more ++ x) a.others_are ∙ sym (append_assoc more a.front a.back);
}

pub value_is : {X : Type 0} (a b : X) → Some a ≡ Some b → a ≡ b
value_is a b h = cc

pub taken_out : (t : ℕ → Bool) (es : Lists) (v : Vec Element) → lookup t es ≡ Some v
    → Among v.items (items_of es) (items_of (remove_entry t es))
taken_out t [] v h = absurd (cc)
taken_out t (x ∷ es) v h = by_cases (t x.0)
    (λ b. cond b (Some x.1) (lookup t es) ≡ Some v
    → Among v.items (x.1.items ++ items_of es) (items_of (cond b es (x ∷ remove_entry t es))))
    (λ _ k. record {
      front = [];
      back = items_of es;
      whole_is =
          ap (λ (w : Vec Element). w.items ++ items_of es) (value_is x.1 v k);
      others_are = refl;
    })
    (λ _ k. behind_more v.items (items_of es) (items_of (remove_entry t es)) x.1.items (taken_out t es v k)) h

pub put_in : (k : ℕ) (es : Lists) (w : Vec Element) → lookup (is_at (nat_cmp k)) es ≡ None
    → Among w.items (items_of (insert_entry nat_cmp es k w)) (items_of es)
put_in k [] w h = record { front = []; back = []; whole_is = refl; others_are = refl }
put_in k (x ∷ es) w h = at (put_in k es w) (nat_cmp k x.0) h
  where
    at : (lookup (is_at (nat_cmp k)) es ≡ None → Among w.items (items_of (insert_entry nat_cmp es k w)) (items_of es))
        → (o : Ordering) → cond (is_eq o) (Some x.1) (lookup (is_at (nat_cmp k)) es) ≡ None
        → Among w.items
        (items_of (match_ordering o ((k, w) ∷ x ∷ es) ((x.0, w) ∷ es) (x ∷ insert_entry nat_cmp es k w)))
        (items_of (x ∷ es))
    at later Less h = record { front = []; back = items_of (x ∷ es); whole_is = refl; others_are = refl }
    at later Equal h = absurd (cc)
    at later Greater h = behind_more w.items (items_of (insert_entry nat_cmp es k w)) (items_of es) x.1.items (later h)

pub each_left : {K X : Type 0} (P : K × X → Type 0) (t : K → Bool) (es : List (K × X)) → AllByRecursion P es
    → AllByRecursion P (remove_entry t es)
each_left P t [] h = tt
each_left P t (x ∷ es) h = by_cases (t x.0) (λ b. AllByRecursion P (cond b es (x ∷ remove_entry t es))) (λ _. h.1)
    (λ _. (h.0, each_left P t es h.1))

pub each_in : (P : ℕ × Vec Element → Type 0) (k : ℕ) (es : Lists) (w : Vec Element)
    → lookup (is_at (nat_cmp k)) es ≡ None → P (k, w) → AllByRecursion P es
    → AllByRecursion P (insert_entry nat_cmp es k w)
each_in P k [] w h p a = (p, tt)
each_in P k (x ∷ es) w h p a = at (λ n. each_in P k es w n p a.1) (nat_cmp k x.0) h
  where
    at : (lookup (is_at (nat_cmp k)) es ≡ None → AllByRecursion P (insert_entry nat_cmp es k w)) → (o : Ordering)
        → cond (is_eq o) (Some x.1) (lookup (is_at (nat_cmp k)) es) ≡ None
        → AllByRecursion P (match_ordering o ((k, w) ∷ x ∷ es) ((x.0, w) ∷ es) (x ∷ insert_entry nat_cmp es k w))
    at later Less h = (p, a)
    at later Equal h = absurd (cc)
    at later Greater h = (a.0, later h)

pub same_key : (k n : ℕ) → is_eq (nat_cmp k n) ≡ true → k ≡ n
same_key k n h = grind (arith)

pub found_of : (k : ℕ) (es : Lists) (v : Vec Element) → lookup (is_at (nat_cmp k)) es ≡ Some v
    → AllByRecursion IsOfUnit es → AllByRecursion (λ x. is_marked k x.mark ≡ true) v.items
found_of k [] v h a = absurd (cc)
found_of k (x ∷ es) v h a = by_cases (is_eq (nat_cmp k x.0))
    (λ b. cond b (Some x.1) (lookup (is_at (nat_cmp k)) es) ≡ Some v
    → AllByRecursion (λ x. is_marked k x.mark ≡ true) v.items)
    (λ t e. subst (λ (w : Vec Element). AllByRecursion (λ x. is_marked k x.mark ≡ true) w.items) (value_is x.1 v e)
    (subst (λ (n : ℕ). AllByRecursion (λ x. is_marked n x.mark ≡ true) x.1.items) (sym (same_key k x.0 t)) a.0))
    (λ _ e. found_of k es v e a.1) h

pub stowed_of : (k : ℕ) (old es : Lists) (list : List Element) (w : Vec Element) (e : Element)
    → Among list (items_of old) (items_of es) → lookup (is_at (nat_cmp k)) es ≡ None → w.items ≡ list ++ e ∷ []
    → Stowed e old (insert_entry nat_cmp es k w)
stowed_of k old es list w e out n i =
    let in_again = put_in k es w n in
    record {
      list = list;
      front = out.front;
      back = out.back;
      left = in_again.front;
      right = in_again.back;
      before = out.whole_is;
      after = in_again.whole_is ∙ ap (λ (x : List Element). in_again.front ++ (x ++ in_again.back)) i;
      rest = sym out.others_are ∙ in_again.others_are;
    }

pub stowed_at : (t : ℕ → Bool) (es : Lists) (v w : Vec Element) (e : Element) → lookup t es ≡ Some v
    → w.items ≡ v.items ++ e ∷ [] → Stowed e es (set_value t es w)
stowed_at t [] v w e h i = absurd (cc)
stowed_at t (x ∷ es) v w e h i = by_cases (t x.0)
    (λ b. cond b (Some x.1) (lookup t es) ≡ Some v → Stowed e (x ∷ es) (cond b ((x.0, w) ∷ es) (x ∷ set_value t es w)))
    (λ _ k. record {
      list = v.items;
      front = [];
      back = items_of es;
      left = [];
      right = items_of es;
      before = ap (λ (u : Vec Element). u.items ++ items_of es) (value_is x.1 v k);
      after = ap (λ (xs : List Element). xs ++ items_of es) i;
      rest = refl;
    })
    (λ _ k. behind (stowed_at t es v w e k i)) h
  where
    behind : Stowed e es (set_value t es w) → Stowed e (x ∷ es) (x ∷ set_value t es w)
    behind s = record {
      list = s.list;
      front = x.1.items ++ s.front;
      back = s.back;
      left = x.1.items ++ s.left;
      right = s.right;
      before = ap (λ (xs : List Element). x.1.items ++ xs) s.before
          ∙ sym (append_assoc x.1.items s.front (s.list ++ s.back));
      after = ap (λ (xs : List Element). x.1.items ++ xs) s.after
          ∙ sym (append_assoc x.1.items s.left ((s.list ++ e ∷ []) ++ s.right));
      rest = append_assoc x.1.items s.front s.back ∙ (ap (λ (xs : List Element). x.1.items ++ xs) s.rest
          ∙ sym (append_assoc x.1.items s.left s.right));
    }

-- a list with the same elements
pub same_at : (t : ℕ → Bool) (es : Lists) (v w : Vec Element) → lookup t es ≡ Some v → w.items ≡ v.items
    → items_of (set_value t es w) ≡ items_of es
same_at t [] v w h i = refl
same_at t (x ∷ es) v w h i = by_cases (t x.0)
    (λ b. cond b (Some x.1) (lookup t es) ≡ Some v
    → items_of (cond b ((x.0, w) ∷ es) (x ∷ set_value t es w)) ≡ x.1.items ++ items_of es)
    (λ _ k. ap (λ (xs : List Element). xs ++ items_of es)
    (i ∙ ap (λ (u : Vec Element). u.items) (sym (value_is x.1 v k))))
    (λ _ k. ap (λ (xs : List Element). x.1.items ++ xs) (same_at t es v w k i)) h

-- the others, if the Free ones and the list are gone
pub each_other : (P : Element → Type 0) (free list whole others : List Element) → Among list whole others
    → AllByRecursion P (free ++ whole) → AllByRecursion P others
each_other P free list whole others a h = subst (AllByRecursion P) (sym a.others_are)
    (each_back P list (a.front ++ a.back)
    (each_moved P (a.front ++ (list ++ a.back)) (list ++ (a.front ++ a.back)) (between a.front list a.back)
    (subst (AllByRecursion P) a.whole_is (each_back P free whole h))))

pub apart_other : (free list whole others : List Element) → Among list whole others → Apart (free ++ whole)
    → Apart others
apart_other free list whole others a h = subst Apart (sym a.others_are)
    (apart_back list (a.front ++ a.back)
    (apart_swapped a.front list a.back (subst Apart a.whole_is (apart_back free whole h))))

pub each_at : (k : ℕ) (es : Lists) (w : Vec Element)
    → AllByRecursion (λ (x : Element). is_marked k x.mark ≡ true) w.items
    → AllByRecursion IsOfUnit es → AllByRecursion IsOfUnit (set_value (is_at (nat_cmp k)) es w)
each_at k [] w p a = tt
each_at k (x ∷ es) w p a = by_cases (is_eq (nat_cmp k x.0))
    (λ b. AllByRecursion IsOfUnit (cond b ((x.0, w) ∷ es) (x ∷ set_value (is_at (nat_cmp k)) es w)))
    (λ t. (
      subst (λ (n : ℕ). AllByRecursion (λ (x : Element). is_marked n x.mark ≡ true) w.items) (same_key k x.0 t) p,
      a.1,
    )) (λ _. (a.0, each_at k es w p a.1))

-- what stowing does to the elements by number: `free` are the others
module _ (e : Element) (free : List Element) (old new : Lists) (s : Stowed e old new) where
  abbrev here : List Element
  here = s.left ++ (s.list ++ s.right)

  same : IsPermutation (items_of old) here
  same = subst (λ (xs : List Element). IsPermutation xs here) (sym s.before)
      (IsPermutation-trans (s.front ++ (s.list ++ s.back)) (s.list ++ (s.front ++ s.back)) here
      (between s.front s.list s.back)
      (subst (λ (xs : List Element). IsPermutation (s.list ++ xs) here) (sym s.rest) (between s.list s.left s.right)))

  stowed_there : IsPermutation (e ∷ items_of old) (items_of new)
  stowed_there = subst (IsPermutation (e ∷ items_of old))
      (append_assoc s.left s.list (e ∷ s.right)
      ∙ ap (λ (xs : List Element). s.left ++ xs) (sym (append_assoc s.list (e ∷ []) s.right)) ∙ sym s.after)
      (IsPermutation-trans (e ∷ items_of old) (e ∷ ((s.left ++ s.list) ++ s.right)) ((s.left ++ s.list) ++ e ∷ s.right)
      (IsPermutation-cons e (items_of old) ((s.left ++ s.list) ++ s.right)
      (subst (IsPermutation (items_of old)) (sym (append_assoc s.left s.list s.right)) same))
      (IsPermutation-sym ((s.left ++ s.list) ++ e ∷ s.right) (e ∷ ((s.left ++ s.list) ++ s.right))
      (IsPermutation-middle (s.left ++ s.list) e s.right)))

  pub stowed_moved : IsPermutation (e ∷ (free ++ items_of old)) (free ++ items_of new)
  stowed_moved = IsPermutation-trans (e ∷ (free ++ items_of old)) (free ++ e ∷ items_of old) (free ++ items_of new)
      (IsPermutation-sym (free ++ e ∷ items_of old) (e ∷ (free ++ items_of old))
      (IsPermutation-middle free e (items_of old)))
      (IsPermutation-append_right free (e ∷ items_of old) (items_of new) stowed_there)

  pub stowed_apart : Apart (e ∷ (free ++ items_of old)) → Apart (free ++ items_of new)
  stowed_apart apart = apart_moved (e ∷ (free ++ items_of old)) (free ++ items_of new) stowed_moved apart

  pub stowed_sorted : Apart (e ∷ (free ++ items_of old))
      → sorted (free ++ items_of new) ≡ put id_before e (sorted (free ++ items_of old))
  stowed_sorted apart = sym (sorted_moved (e ∷ (free ++ items_of old)) (free ++ items_of new) stowed_moved apart)
