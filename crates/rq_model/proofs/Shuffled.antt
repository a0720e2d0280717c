-- What returns to a queue at an ABORT and what arrives there can be put in in any order.
use Rattle.std.proofs.Common.{◌≡◌, ◌<◌, ⊎_elim, Bool, true, false, not, List, [], ◌∷◌, ◌++◌, sym, ap, ◌∙◌, arith}
use Rattle.std.proofs.Common.{append_assoc, ◌≢◌, inl, inr, ℕ, ◌+◌, ◌≤◌, cond, map, refl, subst}
use Rattle.std.specs.Prelude.{nat_lt, ◌==◌, ◌&&◌, IsPermutation}
use Rattle.std.specs.List.{filter, AllByRecursion, sum_by}
use Rattle.std.proofs.lemmas.Bool.{ltb-true, ltb-false, not-true, lt-ltb, le-ltb, cases_order, eqb-true, eqb-false}
use Rattle.std.proofs.lemmas.Bool.{false_from_ne_true, false≢true, eq-eqb, ne_eqb, cases_Bool}
use Rattle.std.proofs.lemmas.List.{append-nil}
use Rattle.std.proofs.lemmas.List.Elements.{filter-append, All-from_recursion, recursion_from_All}
use Rattle.std.proofs.lemmas.List.Sums.{sum_by-cons, sum_by-append}
use Rattle.std.proofs.lemmas.List.Sorted.{IsPermutation-refl, IsPermutation-sym, IsPermutation-trans}
use Rattle.std.proofs.lemmas.List.Sorted.{IsPermutation-cons, IsPermutation-middle, IsPermutation-append_left}
use Rattle.std.proofs.lemmas.List.Sorted.{IsPermutation-append_right, IsPermutation-filter_both, sum_by-IsPermutation}
use Rattle.std.proofs.lemmas.List.Sorted.{All-permutation}
use Rattle.rq_model.specs.Records.{Abort}
use Rattle.rq_model.specs.States.{Element, put, id_before, Mark, Free, Fresh, Held, Definition, State, definition_at}
use Rattle.rq_model.specs.States.{is_fresh, is_held}
use Rattle.rq_model.specs.Machine.{leaves, returned, step}
use Rattle.rq_model.specs.WellFormed.{Ordered, IsIn}
use Rattle.rq_model.specs.Queues.{Move, elements_at, is_marked, arrivals_of, transfers_at}
use Rattle.rq_model.specs.Redo.{put_all}
use Rattle.rq_model.specs.Laws.{PutInAnyOrder, IdsDiffer, IsSound, put_each, left_alone, returning, arriving, AnyOrder}
use Rattle.rq_model.proofs.Lists.{filter_comm, filter_absorb, filter_none, each_passes, each_weaker, each_map}
use Rattle.rq_model.proofs.Lists.{each_filter}
use Rattle.rq_model.proofs.Split.{Rising, put_first, put_behind}
use Rattle.rq_model.proofs.Steps.{abort_apart, returned_id, returned_same, leaves_held, abort_elements}
use Rattle.rq_model.proofs.Sound.{agree_here, rising_map, gone_id}
use Rattle.rq_model.proofs.Merged.{ordered_filter}
use Rattle.rq_model.proofs.Texts.{all_in, same_order}
use Rattle.rq_model.proofs.WellFormedRuns.{ordered_put}

none_between : (f g : Element → Bool) → ((e : Element) → g e ≡ true → f e ≡ false) → (es : List Element)
    → filter f (filter g es) ≡ []
none_between f g h es = filter_none f (filter g es) (each_passes (λ e. f e ≡ false) g h es)

put_two : (a b : Element) (es : List Element) → a.id < b.id
    → put id_before a (put id_before b es) ≡ put id_before b (put id_before a es)
put_two a b es l = first ∙ sym second
  where
    fa : Element → Bool
    fa y = id_before y a

    ga : Element → Bool
    ga y = not (id_before y a)

    fb : Element → Bool
    fb y = id_before y b

    gb : Element → Bool
    gb y = not (id_before y b)

    fa_fb : (e : Element) → fa e ≡ true → fb e ≡ true
    fa_fb e h = lt-ltb e.id b.id (omega (arith, ltb-true e.id a.id h))

    gb_ga : (e : Element) → gb e ≡ true → ga e ≡ true
    gb_ga e h = ap not (le-ltb e.id a.id (omega (arith, ltb-false e.id b.id (not-true (nat_lt e.id b.id) h))))

    both : List Element
    both = filter fa es ++ a ∷ (filter ga (filter fb es) ++ b ∷ filter gb es)

    fa_gb : filter fa (filter gb es) ≡ []
    fa_gb = none_between fa gb
        (λ e h. le-ltb e.id a.id (omega (arith, ltb-false e.id b.id (not-true (nat_lt e.id b.id) h)))) es

    gb_fa : filter gb (filter fa es) ≡ []
    gb_fa = none_between gb fa (λ e h. ap not (lt-ltb e.id b.id (omega (arith, ltb-true e.id a.id h)))) es

    low : filter fa (filter fb es) ≡ filter fa es
    low = filter_absorb fa fb fa_fb es

    high : filter gb (filter ga es) ≡ filter gb es
    high = filter_absorb gb ga gb_ga es

    first : put id_before a (put id_before b es) ≡ both
    first = (λ i. filter-append fa (filter fb es) (b ∷ filter gb es) i ++ a
        ∷ filter-append ga (filter fb es) (b ∷ filter gb es) i) ∙ grind arith
        ∙ (λ i. (low i ++ fa_gb i) ++ a ∷ (filter ga (filter fb es) ++ b ∷ (filter_comm ga gb es ∙ high) i))
        ∙ ap (λ xs. xs ++ a ∷ (filter ga (filter fb es) ++ b ∷ filter gb es)) (append-nil (filter fa es))

    second : put id_before b (put id_before a es) ≡ both
    second = (λ i. filter-append fb (filter fa es) (a ∷ filter ga es) i ++ b
        ∷ filter-append gb (filter fa es) (a ∷ filter ga es) i) ∙ grind arith
        ∙ (λ i. ((filter_comm fb fa es ∙ low) i ++ a ∷ filter_comm fb ga es i) ++ b ∷ (gb_fa i ++ high i))
        ∙ append_assoc _ _ (b ∷ filter gb es)

pub put_in_any_order : PutInAnyOrder
put_in_any_order a b es apart = ⊎_elim (λ (e : a.id ≡ b.id). absurd (apart e))
    (λ x. ⊎_elim (λ (l : a.id < b.id). put_two a b es l) (λ (l : b.id < a.id). sym (put_two b a es l)) x)
    (cases_order a.id b.id)

pub ids_differ : IdsDiffer
ids_differ s u q sound = abort_apart _ s u q (agree_here s q sound) sound.rising

-- how many elements have the id
one_of : ℕ → Element → ℕ
one_of id e = cond (e.id == id) 1 0

count : ℕ → List Element → ℕ
count id es = sum_by (one_of id) es

abbrev Once : List Element → Type 0
Once es = (id : ℕ) → count id es ≤ 1

count_first : (id : ℕ) (e : Element) (es : List Element) → count id (e ∷ es) ≡ one_of id e + count id es
unfolding count
count_first id e es = sum_by-cons (one_of id) e es

count_both : (id : ℕ) (xs ys : List Element) → count id (xs ++ ys) ≡ count id xs + count id ys
unfolding count
count_both id xs ys = sum_by-append (one_of id) xs ys

count_shuffled : (id : ℕ) (xs ys : List Element) → IsPermutation xs ys → count id ys ≡ count id xs
unfolding count
count_shuffled id xs ys same = sum_by-IsPermutation (one_of id) xs ys same

one_itself : (e : Element) → one_of e.id e ≡ 1
unfolding one_of
one_itself e = ap (λ b. cond b 1 0) (eq-eqb e.id e.id refl)

one_other : (id : ℕ) (e : Element) → e.id ≢ id → one_of id e ≡ 0
unfolding one_of
one_other id e differ = ap (λ b. cond b 1 0) (ne_eqb e.id id differ)

one_same : (id : ℕ) (e : Element) → e.id ≡ id → one_of id e ≡ 1
unfolding one_of
one_same id e same = ap (λ b. cond b 1 0) (eq-eqb e.id id same)

-- none has an id that is not counted
none_counted : (id : ℕ) (es : List Element) → count id es ≡ 0 → AllByRecursion (λ e. e.id ≢ id) es
none_counted id [] h = tt
none_counted id (e ∷ es) h = (
  λ same. omega (arith, h, count_first id e es, one_same id e same),
  none_counted id es (omega (arith, h, count_first id e es)),
)

not_counted : (id : ℕ) (es : List Element) → AllByRecursion (λ e. e.id ≢ id) es → count id es ≡ 0
unfolding count
not_counted id [] h = refl
not_counted id (e ∷ es) h = omega (arith, count_first id e es, one_other id e h.0, not_counted id es h.1)

rising_once : (es : List Element) → Rising es → Once es
rising_once [] h id = omega (arith, not_counted id [] tt)
rising_once (e ∷ es) h id = elim (cases_Bool (e.id == id)) [
  | inl same ↦
      let is : e.id ≡ id = eqb-true e.id id same in
      let none = not_counted id es
      (each_weaker (λ f. e.id < f.id) (λ f. f.id ≢ id) (λ f lt eq. omega (arith, lt, eq, is)) es h.0) in
      omega (arith, count_first id e es, one_same id e is, none)
  | inr other ↦ omega (arith, count_first id e es, one_other id e (eqb-false e.id id other), rising_once es h.1 id)
]

-- Putting in is a change of order.

put_shuffles : (e : Element) (es : List Element) → IsPermutation (e ∷ es) (put id_before e es)
put_shuffles e es =
    let before : Element → Bool = λ y. id_before y e in
    let halves = filter before es in
    let others = filter (λ y. not (before y)) es in
    IsPermutation-trans _ _ _
    (IsPermutation-cons e es (halves ++ others)
    (IsPermutation-filter_both before (λ y. not (before y)) (λ _. refl) es))
    (IsPermutation-sym _ _ (IsPermutation-middle halves e others))

each_shuffles : (xs es : List Element) → IsPermutation (xs ++ es) (put_each xs es)
each_shuffles [] es = IsPermutation-refl es
each_shuffles (x ∷ xs) es = IsPermutation-trans _ _ _
    (IsPermutation-trans _ _ _ (IsPermutation-sym (xs ++ x ∷ es) (x ∷ (xs ++ es)) (IsPermutation-middle xs x es))
    (IsPermutation-append_right xs (x ∷ es) (put id_before x es) (put_shuffles x es)))
    (each_shuffles xs (put id_before x es))

rising_before : (es : List Element) → Rising es → Ordered (λ e f. id_before e f ≡ true) es
rising_before [] h = tt
rising_before (e ∷ es) h = (
  each_weaker _ _ (λ f l. lt-ltb e.id f.id l) es h.0,
  rising_before es h.1,
)

before_rising : (es : List Element) → Ordered (λ e f. id_before e f ≡ true) es → Rising es
before_rising [] h = tt
before_rising (e ∷ es) h = (
  each_weaker _ _ (λ f l. ltb-true e.id f.id l) es h.0,
  before_rising es h.1,
)

before_trans : (a b c : Element) → id_before a b ≡ true → id_before b c ≡ true → id_before a c ≡ true
before_trans a b c h k = lt-ltb a.id c.id (omega (arith, ltb-true a.id b.id h, ltb-true b.id c.id k))

before_total : (x y : Element) → y.id ≢ x.id → id_before y x ≡ false → id_before x y ≡ true
before_total x y differ not_before = grind arith

rising_put : (x : Element) (es : List Element) → Rising es → AllByRecursion (λ y. y.id ≢ x.id) es
    → Rising (put id_before x es)
rising_put x es rising differ = before_rising (put id_before x es)
    (ordered_put id_before before_trans x es (rising_before es rising) (each_weaker _ _ (before_total x) es differ))

rising_each : (xs es : List Element) → Once (xs ++ es) → Rising es → Rising (put_each xs es)
rising_each [] es once rising = rising
rising_each (x ∷ xs) es once rising =
    rising_each xs (put id_before x es)
    (λ id. omega (
      arith,
      once id,
      count_first id x (xs ++ es),
      count_both id xs es,
      count_both id xs (put id_before x es),
      count_shuffled id (x ∷ es) (put id_before x es) (put_shuffles x es),
      count_first id x es,
    ))
    (rising_put x es rising
    (none_counted x.id es
    (omega (arith, once x.id, count_first x.id x (xs ++ es), count_both x.id xs es, one_itself x))))

-- Two rising lists of the same members are one.

each_itself : (es : List Element) → AllByRecursion (λ e. IsIn e es) es
each_itself [] = tt
each_itself (e ∷ es) = (inl refl, each_weaker _ _ (λ f i. inr i) es (each_itself es))

in_shuffled : (xs ys : List Element) → IsPermutation xs ys → (e : Element) → IsIn e xs → IsIn e ys
in_shuffled xs ys same e i = all_in (λ f. IsIn f ys) e xs
    (recursion_from_All (λ f. IsIn f ys) xs
    (All-permutation (λ f. IsIn f ys) ys xs (IsPermutation-sym xs ys same)
    (All-from_recursion (λ f. IsIn f ys) ys (each_itself ys)))) i

same_rising : (xs ys : List Element) → Rising xs → Rising ys → IsPermutation xs ys → xs ≡ ys
same_rising xs ys rx ry same = same_order (λ e f. e.id < f.id) (λ e f h k. omega (arith, h, k)) xs ys rx ry
    (in_shuffled xs ys same) (in_shuffled ys xs (IsPermutation-sym xs ys same))

-- the order in which elements are put in makes no difference
put_shuffled : (xs ys es : List Element) → IsPermutation xs ys → Once (xs ++ es) → Rising es
    → put_each xs es ≡ put_each ys es
put_shuffled xs ys es same once rising =
    let both = IsPermutation-append_left es xs ys same in
    same_rising (put_each xs es) (put_each ys es) (rising_each xs es once rising)
    (rising_each ys es (λ id. omega (arith, once id, count_shuffled id (xs ++ es) (ys ++ es) both)) rising)
    (IsPermutation-trans _ _ _ (IsPermutation-sym (xs ++ es) (put_each xs es) (each_shuffles xs es))
    (IsPermutation-trans (xs ++ es) (ys ++ es) (put_each ys es) both (each_shuffles ys es)))

-- What an ABORT leaves in a queue is what it does not touch and what returns, put in.

put_each-append : (xs ys es : List Element) → put_each (xs ++ ys) es ≡ put_each ys (put_each xs es)
put_each-append [] ys es = refl
put_each-append (x ∷ xs) ys es = put_each-append xs ys (put id_before x es)

put_each_behind : (xs : List Element) (z : Element) (es : List Element) → AllByRecursion (λ x. z.id < x.id) xs
    → put_each xs (z ∷ es) ≡ z ∷ put_each xs es
put_each_behind [] z es h = refl
put_each_behind (x ∷ xs) z es h = ap (put_each xs) (put_behind x z es h.0)
    ∙ put_each_behind xs z (put id_before x es) h.1

put_moves : (ms : List Move) (es : List Element) → put_each (map (λ m. m.element) ms) es ≡ put_all ms es
put_moves [] es = refl
put_moves (m ∷ ms) es = put_moves ms (put id_before m.element es)

-- so it makes none for what arrives
pub arrivals_shuffled : (ms ns : List Move) (es : List Element)
    → IsPermutation (map (λ (m : Move). m.element) ms) (map (λ (m : Move). m.element) ns) → Rising es
    → Rising (put_all ms es) → put_all ns es ≡ put_all ms es
arrivals_shuffled ms ns es same rising after =
    let xs : List Element = map (λ (m : Move). m.element) ms in
    let ys : List Element = map (λ (m : Move). m.element) ns in
    let once : Once (xs ++ es) =
    λ id. omega (
      arith,
      rising_once (put_all ms es) after id,
      ap (count id) (put_moves ms es),
      count_shuffled id (xs ++ es) (put_each xs es) (each_shuffles xs es),
    ) in
    sym (put_moves ns es) ∙ sym (put_shuffled xs ys es same once rising) ∙ put_moves ms es

module _ (u : ℕ) (d : Definition) where
  abbrev stays : Element → Bool
  stays e = not (is_marked u e.mark)

  abbrev returns : Element → Bool
  returns e = is_held u e.mark && not (leaves d u e)

  abbrev is_kept : Element → Bool
  is_kept e = not (is_fresh u e.mark) && not (leaves d u e)

  -- an element is not touched, returns, or is no longer in the queue
  data Fate (e : Element) : Type 0 where
    Stays : stays e ≡ true → returns e ≡ false → is_kept e ≡ true → is_held u e.mark ≡ false → Fate e
    Returns : stays e ≡ false → returns e ≡ true → is_kept e ≡ true → Fate e
    Goes : stays e ≡ false → returns e ≡ false → is_kept e ≡ false → Fate e

  fate : (e : Element) → Fate e
  fate e = by_mark e.mark refl
    where
      no_true : {X : Type 0} → false ≡ true → X
      no_true h = absurd (false≢true h)

      stay : (leaves d u e ≡ false) → (b : Bool) → is_held u e.mark ≡ false → is_fresh u e.mark ≡ b
          → is_marked u e.mark ≡ b → Fate e
      stay l true held fresh marked = Goes (ap not marked) (λ i. held i && not (l i)) (λ i. not (fresh i) && not (l i))
      stay l false held fresh marked = Stays (ap not marked) (λ i. held i && not (l i))
          (λ i. not (fresh i) && not (l i)) held

      held_one : (b : Bool) → leaves d u e ≡ b → is_held u e.mark ≡ true → is_fresh u e.mark ≡ false
          → is_marked u e.mark ≡ true → Fate e
      held_one true l held fresh marked =
          Goes (ap not marked) (λ i. held i && not (l i)) (λ i. not (fresh i) && not (l i))
      held_one false l held fresh marked =
          Returns (ap not marked) (λ i. held i && not (l i)) (λ i. not (fresh i) && not (l i))

      not_leaving : is_held u e.mark ≡ false → leaves d u e ≡ false
      not_leaving held = false_from_ne_true (leaves d u e) (λ t. no_true (sym held ∙ leaves_held d u e t))

      by_mark : (m : Mark) → e.mark ≡ m → Fate e
      by_mark Free is = let held : is_held u e.mark ≡ false = ap (is_held u) is in
          stay (not_leaving held) false held (ap (is_fresh u) is) (ap (is_marked u) is)
      by_mark (Fresh v) is = let held : is_held u e.mark ≡ false = ap (is_held u) is in
          stay (not_leaving held) (v == u) held (ap (is_fresh u) is) (ap (is_marked u) is)
      by_mark (Held v) is = elim (cases_Bool (v == u)) [
        | inl own ↦ held_one (leaves d u e) refl (ap (is_held u) is ∙ own) (ap (is_fresh u) is)
            (ap (is_marked u) is ∙ own)
        | inr other ↦ let held : is_held u e.mark ≡ false = ap (is_held u) is ∙ other in
            stay (not_leaving held) false held (ap (is_fresh u) is) (ap (is_marked u) is ∙ other)
      ]

  abbrev Joins : List Element → Type 0
  Joins es = put_each (map (returned u) (filter returns es)) (filter stays es) ≡ map (returned u) (filter is_kept es)

  one_more : (e : Element) (es : List Element) → Rising (e ∷ es) → Joins es → Fate e → Joins (e ∷ es)
  one_more e es rising joined (Stays s r k held) =
      (λ i. put_each (map (returned u) (cond (r i) (e ∷ filter returns es) (filter returns es)))
      (cond (s i) (e ∷ filter stays es) (filter stays es)))
      ∙ put_each_behind (map (returned u) (filter returns es)) e (filter stays es)
      (each_map (λ f. e.id < f.id) (λ f. e.id < f.id) (returned u)
      (λ f l. subst (λ n. e.id < n) (sym (returned_id u f)) l) (filter returns es)
      (each_filter (λ f. e.id < f.id) returns es rising.0))
      ∙ (λ i. sym (returned_same u e held) i ∷ joined i)
      ∙ (λ i. map (returned u) (cond (sym k i) (e ∷ filter is_kept es) (filter is_kept es)))
  one_more e es rising joined (Returns s r k) =
      let me = returned u e in
      let above : AllByRecursion (λ f. me.id < f.id) (filter stays es) =
      subst (λ n. AllByRecursion (λ f. n < f.id) (filter stays es)) (sym (returned_id u e))
      (each_filter (λ f. e.id < f.id) stays es rising.0) in
      let behind : AllByRecursion (λ f. me.id < f.id) (map (returned u) (filter returns es)) =
      subst (λ n. AllByRecursion (λ f. n < f.id) (map (returned u) (filter returns es))) (sym (returned_id u e))
      (each_map (λ f. e.id < f.id) (λ f. e.id < f.id) (returned u)
      (λ f l. subst (λ n. e.id < n) (sym (returned_id u f)) l) (filter returns es)
      (each_filter (λ f. e.id < f.id) returns es rising.0)) in
      (λ i. put_each (map (returned u) (cond (r i) (e ∷ filter returns es) (filter returns es)))
      (cond (s i) (e ∷ filter stays es) (filter stays es)))
      ∙ ap (put_each (map (returned u) (filter returns es))) (put_first me (filter stays es) above)
      ∙ put_each_behind (map (returned u) (filter returns es)) me (filter stays es) behind
      ∙ (λ i. me ∷ joined i)
      ∙ (λ i. map (returned u) (cond (sym k i) (e ∷ filter is_kept es) (filter is_kept es)))
  one_more e es rising joined (Goes s r k) =
      (λ i. put_each (map (returned u) (cond (r i) (e ∷ filter returns es) (filter returns es)))
      (cond (s i) (e ∷ filter stays es) (filter stays es)))
      ∙ joined
      ∙ (λ i. map (returned u) (cond (sym k i) (e ∷ filter is_kept es) (filter is_kept es)))

  pub joins : (es : List Element) → Rising es → Joins es
  joins [] rising = refl
  joins (e ∷ es) rising = one_more e es rising (joins es rising.1) (fate e)

-- what is in the queue after the ABORT
after_abort : (s : State) (unit queue : ℕ) → IsSound s
    → put_each (returning s unit queue ++ arriving s unit queue) (left_alone s unit queue)
    ≡ elements_at queue (step s (Abort unit)).elements
after_abort s unit queue sound =
    let d = definition_at s.definitions queue in
    put_each-append (returning s unit queue) (arriving s unit queue) (left_alone s unit queue)
    ∙ ap (put_each (arriving s unit queue))
    (joins unit d (elements_at queue s.elements)
    (ordered_filter _ _ _ sound.rising))
    ∙ put_moves (arrivals_of queue (transfers_at s (Abort unit)))
    _
    ∙ sym (abort_elements d s unit queue (agree_here s queue sound) sound.rising)

aborted_rising : (s : State) (unit queue : ℕ) → IsSound s → Rising (elements_at queue (step s (Abort unit)).elements)
aborted_rising s unit queue sound =
    ordered_filter _ _ _
    (rising_map _ (λ e. gone_id _ (definition_at s.definitions e.home) unit e) _ (ordered_filter _ _ _ sound.rising))

pub any_order : AnyOrder
any_order s unit queue shuffled sound same =
    let all = returning s unit queue ++ arriving s unit queue in
    let left = left_alone s unit queue in
    let after = after_abort s unit queue sound in
    let once : Once (all ++ left) =
    λ id. omega (
      arith,
      rising_once _
          (aborted_rising s unit queue sound) id,
      ap (count id) after,
      count_shuffled id (all ++ left) (put_each all left) (each_shuffles all left),
    ) in
    let rising : Rising left = ordered_filter _ _ _ (ordered_filter _ _ _ sound.rising) in
    sym (put_shuffled all shuffled left same once rising) ∙ after
