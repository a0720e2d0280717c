-- A state's members, put in order, are its lists.
use Rattle.std.proofs.Common.{◌≡◌, ℕ, suc, zero, ◌+◌, ◌<◌, Bool, true, false, not, List, [], ◌∷◌, length, refl, sym, ap}
use Rattle.std.proofs.Common.{◌∙◌, subst, arith}
use Rattle.std.specs.Prelude.{nat_lt, ◌==◌, if◌then◌else◌, filter}
use Rattle.std.specs.List.{AllByRecursion}
use Rattle.std.specs.List.Sorted.{IsPermutation}
use Rattle.std.specs.Cmp.{IsStrictWeakOrder}
use Rattle.std.proofs.lemmas.Bool.{lt-ltb, le-ltb, ltb-true, eqb-true, eqb-false}
use Rattle.std.proofs.lemmas.List.Sorted.{Contains-permutation, IsPermutation-sym, sum_by-IsPermutation}
use Rattle.rq_model.specs.States.{put, id_before, registrant_before}
use Rattle.rq_model.specs.WellFormed.{Ordered, IsIn}
use Rattle.rq_model.specs.Queues.{Part, part_of}
use Rattle.rq_model.proofs.Lists.{by_cases, each_weaker, each_append, each_filter, each_passes, each_of, filter_all}
use Rattle.rq_model.proofs.Lists.{filter_none, filter_same, filter_absorb}
use Rattle.rq_model.proofs.Merged.{ordered_append, ordered_filter, ordered_weaker}
use Rattle.rq_model.proofs.Decided.{element_homes, registrant_queues, note_queues}
use Rattle.rq_state.specs.Orders.{put_in_order, place_before}
use Rattle.rq_state.specs.Laws.{gathered, PartsMakeTheState, AnyOrderMakesTheState}
use Rattle.rq_state.proofs.Sorts.{number_of, number_append, number_put_each, number_sum, number_filters}
use Rattle.rq_state.proofs.Sorts.{each_self, in_of_contains, contains_of_in, only_order}
use Rattle.rq_state.proofs.InOrder.{number_is_order, registrant_is_order}

each_put_each : {X : Type 0} (before : X → X → Bool) (P : X → Type 0) (xs : List X) → AllByRecursion P xs
    → AllByRecursion P (put_in_order before xs)
each_put_each before P [] h = tt
each_put_each before P (x ∷ xs) h =
    let rest = each_put_each before P xs h.1 in
    each_append P _ _ (each_filter P _ _ rest) (h.0, each_filter P _ _ rest)

not_true : (b : Bool) → not b ≡ true → b ≡ false
not_true true h = sym h
not_true false h = refl

module _ {X : Type 0} (before : X → X → Bool) (order : IsStrictWeakOrder before) where
  irreflexive : (x : X) → before x x ≡ false
  irreflexive x = by_cases (before x x) (λ b. before x x ≡ b → before x x ≡ false) (λ _ e. order.one_way x x e)
      (λ _ e. e) refl

  -- a list stays in order when one is put in
  weak_put : (x : X) (zs : List X) → Ordered (λ a b. before b a ≡ false) zs
      → Ordered (λ a b. before b a ≡ false) (put before x zs)
  weak_put x zs h =
      ordered_append (λ a b. before b a ≡ false) (filter (λ y. before y x) zs) (x ∷ filter (λ y. not (before y x)) zs)
      (ordered_filter (λ a b. before b a ≡ false) (λ y. before y x) zs h)
      (behind, ordered_filter (λ a b. before b a ≡ false) (λ y. not (before y x)) zs h)
      (each_passes (λ a. AllByRecursion (λ b. before b a ≡ false) (x ∷ filter (λ y. not (before y x)) zs))
      (λ y. before y x)
      (λ a e. (
        order.one_way a x e,
        each_weaker (λ b. before b x ≡ false) (λ b. before b a ≡ false)
            (λ b k. order.chain b x a k (order.one_way a x e)) (filter (λ y. not (before y x)) zs) behind,
      )) zs)
    where
      behind : AllByRecursion (λ b. before b x ≡ false) (filter (λ y. not (before y x)) zs)
      behind = each_passes (λ b. before b x ≡ false) (λ y. not (before y x)) (λ b e. not_true (before b x) e) zs

  weak_each : (xs : List X) → Ordered (λ a b. before b a ≡ false) (put_in_order before xs)
  weak_each [] = tt
  weak_each (x ∷ xs) = weak_put x (put_in_order before xs) (weak_each xs)

  -- members of a list in order, put in order, are that list
  whole : (zs xs : List X) → Ordered (λ a b. before a b ≡ true) zs → AllByRecursion (λ x. IsIn x zs) xs
      → ((p : X → Bool) → number_of p xs ≡ number_of p zs) → put_in_order before xs ≡ zs
  whole zs xs strict members often =
      only_order before irreflexive zs (put_in_order before xs) strict (weak_each xs)
      (record {
        members = each_put_each before (λ x. IsIn x zs) xs members;
        often =
            λ p. number_put_each before irreflexive p xs ∙ often p;
      })

  pub whole_permuted : (zs xs : List X) → Ordered (λ a b. before a b ≡ true) zs → IsPermutation zs xs
      → put_in_order before xs ≡ zs
  whole_permuted zs xs strict moved = whole zs xs strict
      (each_self (λ x. IsIn x zs) xs xs (λ w m. m)
      (λ w m. let c = Contains-permutation xs zs w (IsPermutation-sym zs xs moved) (contains_of_in xs w m) in
      in_of_contains zs w c.0 c.1 c.2))
      (λ p. number_sum p xs ∙ sum_by-IsPermutation (λ x. if p x then 1 else 0) zs xs moved ∙ sym (number_sum p zs))

  pub whole_itself : (zs : List X) → Ordered (λ a b. before a b ≡ true) zs → put_in_order before zs ≡ zs
  whole_itself zs strict = whole zs zs strict (each_self (λ x. IsIn x zs) zs zs (λ w m. m) (λ w m. m)) (λ p. refl)

  module _ (queue : X → ℕ) (field : Part → List X) (part : ℕ → Part) (zs : List X)
      (own : (n : ℕ) → field (part n) ≡ filter (λ x. queue x == n) zs) where
    abbrev below : ℕ → X → Bool
    below n x = nat_lt (queue x) n

    abbrev at : ℕ → X → Bool
    at n x = queue x == n

    same_test : (n : ℕ) (x : X) → below (suc n) x ≡ true → at n x ≡ not (below n x)
    same_test n x l = by_cases (queue x == n) (λ b. (queue x == n) ≡ b → b ≡ not (nat_lt (queue x) n))
        (λ _ e. ap not (sym (le-ltb (queue x) n (let i : queue x ≡ n = eqb-true (queue x) n e in omega (arith, i)))))
        (λ _ e. ap not
        (sym (lt-ltb (queue x) n (lower (queue x) n (ltb-true (queue x) (suc n) l) (eqb-false (queue x) n e)))))
        refl
      where
        lower : (a n : ℕ) → a < suc n → (a ≡ n → ⊥) → a < n
        lower a n l d = omega (arith, l, d)

    number_next : (p : X → Bool) (n : ℕ) → number_of p (filter (below n) zs) + number_of p (filter (at n) zs)
        ≡ number_of p (filter (below (suc n)) zs)
    number_next p n = (λ i. number_of p (front i) + number_of p (back i))
        ∙ number_filters p (below n) (filter (below (suc n)) zs)
      where
        wider : (x : X) → below n x ≡ true → below (suc n) x ≡ true
        wider x e = let l : queue x < n = ltb-true (queue x) n e in lt-ltb (queue x) (suc n) (omega (arith, l))

        here : (x : X) → at n x ≡ true → below (suc n) x ≡ true
        here x e = let i : queue x ≡ n = eqb-true (queue x) n e in lt-ltb (queue x) (suc n) (omega (arith, i))

        front : filter (below n) zs ≡ filter (below n) (filter (below (suc n)) zs)
        front = sym (filter_absorb (below n) (below (suc n)) wider zs)

        back : filter (at n) zs ≡ filter (λ x. not (below n x)) (filter (below (suc n)) zs)
        back = sym (filter_absorb (at n) (below (suc n)) here zs)
            ∙ filter_same (at n) (λ x. not (below n x)) (filter (below (suc n)) zs)
            (each_passes (λ x. at n x ≡ not (below n x)) (below (suc n)) (same_test n) zs)

    number_gathered : (p : X → Bool) (n : ℕ) → number_of p (gathered field part n) ≡ number_of p (filter (below n) zs)
    number_gathered p zero = ap (number_of p)
        (sym (filter_none (below 0) zs (each_of (λ x. below 0 x ≡ false) (λ x. le-ltb (queue x) 0 (omega arith)) zs)))
    number_gathered p (suc n) = number_append p (gathered field part n) (field (part n))
        ∙ (λ i. number_gathered p n i + number_of p (own n i)) ∙ number_next p n

    members_gathered : (n : ℕ) → AllByRecursion (λ x. IsIn x zs) (gathered field part n)
    members_gathered zero = tt
    members_gathered (suc n) = each_append (λ x. IsIn x zs) (gathered field part n) (field (part n))
        (members_gathered n)
        (subst (AllByRecursion (λ x. IsIn x zs)) (sym (own n))
        (each_filter (λ x. IsIn x zs) (at n) zs (each_self (λ x. IsIn x zs) zs zs (λ w m. m) (λ w m. m))))

    pub whole_gathered : (n : ℕ) → Ordered (λ a b. before a b ≡ true) zs → AllByRecursion (λ x. queue x < n) zs
        → put_in_order before (gathered field part n) ≡ zs
    whole_gathered n strict homes = whole zs (gathered field part n) strict (members_gathered n)
        (λ p. number_gathered p n ∙ ap (number_of p)
        (filter_all (below n) zs
        (each_weaker (λ x. queue x < n) (λ x. below n x ≡ true) (λ x l. lt-ltb (queue x) n l) zs homes)))

strictly : {X : Type 0} (n : X → ℕ) (xs : List X) → Ordered (λ a b. n a < n b) xs
    → Ordered (λ a b. nat_lt (n a) (n b) ≡ true) xs
strictly n xs h = ordered_weaker _ _ (λ a b l. grind arith) xs h

pub parts_whole : PartsMakeTheState
parts_whole s w = λ i. record s { units = units i; registrants = registrants i; elements = elements i; notes = notes i }
  where
    units : put_in_order nat_lt s.units ≡ s.units
    units = whole_itself nat_lt (number_is_order (λ n. n)) s.units (strictly _ _ w.units_rise)

    registrants : put_in_order registrant_before
        (gathered (λ (p : Part). p.registrants) (part_of s) (length s.definitions)) ≡ s.registrants
    registrants = whole_gathered _ registrant_is_order _ (λ p. p.registrants) (part_of s) _
        (λ n. refl) _ w.registrants_rise (registrant_queues s w)

    elements : put_in_order id_before (gathered (λ (p : Part). p.elements) (part_of s) (length s.definitions))
        ≡ s.elements
    elements = whole_gathered id_before (number_is_order _) _ (λ p. p.elements) (part_of s) s.elements (λ n. refl) _
        (strictly _ _ w.elements_rise) (element_homes s w)

    notes : put_in_order place_before (gathered (λ (p : Part). p.notes) (part_of s) (length s.definitions)) ≡ s.notes
    notes = whole_gathered place_before (number_is_order _) _ (λ p. p.notes) (part_of s) s.notes (λ n. refl) _
        (strictly _ _ w.notes_rise) (note_queues s w)

pub any_order_whole : AnyOrderMakesTheState
any_order_whole s t w h =
    λ i. record {
      next = h.next i;
      greatest = h.greatest i;
      committed = h.committed i;
      aborted = h.aborted i;
      definitions = h.definitions i;
      units = units i;
      registrants = registrants i;
      elements = elements i;
      notes =
          notes i;
    }
  where
    units : put_in_order nat_lt t.units ≡ s.units
    units = whole_permuted nat_lt (number_is_order (λ n. n)) s.units t.units (strictly _ _ w.units_rise) h.units

    registrants : put_in_order registrant_before t.registrants ≡ s.registrants
    registrants = whole_permuted _ registrant_is_order _ _ w.registrants_rise h.registrants

    elements : put_in_order id_before t.elements ≡ s.elements
    elements = whole_permuted _ (number_is_order _) _ _ (strictly _ _ w.elements_rise) h.elements

    notes : put_in_order place_before t.notes ≡ s.notes
    notes = whole_permuted _ (number_is_order _) s.notes t.notes (strictly _ _ w.notes_rise) h.notes
