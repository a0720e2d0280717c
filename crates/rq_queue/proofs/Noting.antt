-- What is done to the notes of a queue.
use Rattle.std.proofs.Common.{◌≡◌, ℕ, ◌<◌, ◌==◌, Bool, true, false, cond, not, ◌&&◌, ◌||◌, if◌then◌else◌, List, []}
use Rattle.std.proofs.Common.{◌∷◌, ◌++◌, Option, Some, None, map, refl, sym, ap, ◌∙◌, subst, arith}
use Rattle.std.specs.Cmp.{IsTotalOrder}
use Rattle.std.specs.List.{filter, list_any, AllByRecursion}
use Rattle.std.specs.Global.{Vec}
use Rattle.std.specs.Map.{lookup, remove_entry, values_of}
use Rattle.std.specs.BTreeMap.{insert_entry, is_at}
use Rattle.std.specs.Ordering.{nat_cmp, is_eq}
use Rattle.std.specs.declared.cmp.Ordering.{Ordering}
use Rattle.std.specs.declared.cmp.Ordering.TheVariants.{Less, Equal, Greater}
use Rattle.std.proofs.lemmas.Bool.{and_right, cases_Bool, eq-eqb, false≢true, lt-ltb, not-true, or_right}
use Rattle.std.proofs.lemmas.Bool.Decides.{nat_tests}
use Rattle.std.proofs.lemmas.Cmp.{nat_cmp_total, tied_itself}
use Rattle.std.proofs.lemmas.List.{append-nil}
use Rattle.std.proofs.lemmas.List.Elements.{filter-append}
use Rattle.std.proofs.lemmas.List.Folds.{list_any-append}
use Rattle.std.specs.List.Sorted.{IsPermutation}
use Rattle.std.proofs.lemmas.List.Sorted.{IsPermutation-middle, IsPermutation-pop_more, IsPermutation-refl}
use Rattle.rq_model.specs.States.{Note, Registrant, is_note_of}
use Rattle.rq_model.specs.Machine.{told, latest}
use Rattle.rq_model.specs.WellFormed.{Ordered}
use Rattle.rq_model.proofs.Lists.{by_cases, each_weaker, each_of, each_both, each_append, each_filter, each_passes}
use Rattle.rq_model.proofs.Lists.{filter_all, filter_none, filter_same, filter_map_as}
use Rattle.rq_model.proofs.Merged.{ordered_append, ordered_filter, ordered_weaker}
use Rattle.rq_state.proofs.InOrder.{equal_numbers, ordered_map}
use Rattle.rq_queue.specs.Noted.{by_place, Apart, Rises, NoteEntry, AreByPlace, has_place, list_of, filed, is_own}
use Rattle.rq_queue.specs.Noted.{has_own, left, Among, Drawn}
use Rattle.rq_queue.specs.declared.whose.Whose.{Whose}
use Rattle.rq_queue.proofs.ByNumber.{each_filtered, filter_sorted, rising_is, apart_moved, sorted_moved}
use Rattle.rq_queue.proofs.Roll.{removed, appended}
use Rattle.rq_queue.proofs.Units.{value_is}

-- A list that rises is by place.

abbrev pub place_of : Note → ℕ
place_of n = n.last.place

pub rises_sorted : (xs : List Note) → Rises xs → by_place xs ≡ xs
rises_sorted xs h = rising_is place_of xs xs h (IsPermutation-refl xs)

-- the notes of lines by place
pub values_rise : (es : List NoteEntry) → AreByPlace es → Rises (values_of es)
values_rise es h = ordered_map (λ (a b : Note). a.last.place < b.last.place) (λ (e : NoteEntry). e.1) es
    (through es h.placed h.rising)
  where
    through : (es : List NoteEntry) → AllByRecursion (λ (e : NoteEntry). e.0 ≡ e.1.last.place) es
        → Ordered (λ (a b : NoteEntry). a.0 < b.0) es
        → Ordered (λ (a b : NoteEntry). a.1.last.place < b.1.last.place) es
    through [] p r = tt
    through (x ∷ es) p r = (
      each_weaker (λ (e : NoteEntry). (x.0 < e.0) × (e.0 ≡ e.1.last.place))
          (λ (e : NoteEntry). x.1.last.place < e.1.last.place) (λ e h. omega (arith, p.0, h.0, h.1)) es
          (each_both (λ (e : NoteEntry). x.0 < e.0) (λ (e : NoteEntry). e.0 ≡ e.1.last.place) es r.0 p.1),
      through es p.1 r.1,
    )

pub filtered_by_place : (p : NoteEntry → Bool) (es : List NoteEntry) → AreByPlace es → AreByPlace (filter p es)
filtered_by_place p es h =
    record {
      placed = each_filter (λ (e : NoteEntry). e.0 ≡ e.1.last.place) p es h.placed;
      rising =
          ordered_filter (λ (a b : NoteEntry). a.0 < b.0) p es h.rising;
    }

-- One more, after all others.

is_less : (a b : ℕ) → a < b → nat_cmp a b ≡ Less
is_less a b h = ap (λ t. cond t Less (cond (a == b) Equal Greater)) (lt-ltb a b h)

pub added_last : (n : Note) (es : List NoteEntry) → AreByPlace es
    → AllByRecursion (λ (m : Note). m.last.place < n.last.place) (values_of es)
    → insert_entry nat_cmp es n.last.place n ≡ es ++ (n.last.place, n) ∷ []
added_last n es h l = appended nat_cmp nat_cmp_total n.last.place n es (less es h.placed l)
  where
    less : (es : List NoteEntry) → AllByRecursion (λ (e : NoteEntry). e.0 ≡ e.1.last.place) es
        → AllByRecursion (λ (m : Note). m.last.place < n.last.place) (values_of es)
        → AllByRecursion (λ (e : NoteEntry). nat_cmp e.0 n.last.place ≡ Less) es
    less [] p l = tt
    less (x ∷ es) p l = (is_less x.0 n.last.place (omega (arith, p.0, l.0)), less es p.1 l.1)

pub values_last : (n : Note) (es : List NoteEntry) → values_of (es ++ (n.last.place, n) ∷ []) ≡ values_of es ++ n ∷ []
values_last n [] = refl
values_last n (x ∷ es) = ap (λ (ns : List Note). x.1 ∷ ns) (values_last n es)

pub last_by_place : (n : Note) (es : List NoteEntry) → AreByPlace es
    → AllByRecursion (λ (m : Note). m.last.place < n.last.place) (values_of es)
    → AreByPlace (es ++ (n.last.place, n) ∷ [])
last_by_place n es h l = record {
  placed = each_append (λ (e : NoteEntry). e.0 ≡ e.1.last.place) es ((n.last.place, n) ∷ []) h.placed (refl, tt);
  rising = ordered_append (λ (a b : NoteEntry). a.0 < b.0) es ((n.last.place, n) ∷ []) h.rising (tt, tt)
      (below es h.placed l);
}
  where
    below : (es : List NoteEntry) → AllByRecursion (λ (e : NoteEntry). e.0 ≡ e.1.last.place) es
        → AllByRecursion (λ (m : Note). m.last.place < n.last.place) (values_of es)
        → AllByRecursion (λ (a : NoteEntry). AllByRecursion (λ (b : NoteEntry). a.0 < b.0) ((n.last.place, n) ∷ [])) es
    below [] p l = tt
    below (x ∷ es) p l = ((omega (arith, p.0, l.0), tt), below es p.1 l.1)

-- Places under keys.

has_more : (p : ℕ) (xs ys : List ℕ) → has_place p xs ≡ true → has_place p (xs ++ ys) ≡ true
has_more p xs ys h = list_any-append (λ q. q == p) xs ys ∙ ap (λ b. b || list_any (λ q. q == p) ys) h

has_last : (p : ℕ) (xs : List ℕ) → has_place p (xs ++ p ∷ []) ≡ true
has_last p xs = list_any-append (λ q. q == p) xs (p ∷ [])
    ∙ (ap (λ b. list_any (λ q. q == p) xs || (b || false)) (eq-eqb p p refl) ∙ or_right (list_any (λ q. q == p) xs) true refl)

is_equal : (o : Ordering) → is_eq o ≡ true → o ≡ Equal
is_equal Less h = absurd (false≢true h)
is_equal Equal h = refl
is_equal Greater h = absurd (false≢true h)

module _ {K : Type 0} (R : K → K → Ordering) (total : IsTotalOrder R) (key : Note → K) where
  -- the place is under the note's key
  abbrev pub IsFiled : List (K × Vec ℕ) → NoteEntry → Type 0
  IsFiled index e = has_place e.0 (filed R (key e.1) index) ≡ true

  tied : (a b : K) (index : List (K × Vec ℕ)) → is_eq (R a b) ≡ true
      → lookup (is_at (R a)) index ≡ lookup (is_at (R b)) index
  tied a b [] t = refl
  tied a b (x ∷ index) t = λ i. cond (is_eq (total.congr a b x.0 (is_equal (R a b) t) i)) (Some x.1)
      (tied a b index t i)

  -- a list of the key k that is one place longer
  pub still_filed : (k : K) (p : ℕ) (old new : List (K × Vec ℕ))
      → ((q : K) → filed R q new ≡ filed R q old ++ (if is_eq (R k q) then p ∷ [] else [])) → (es : List NoteEntry)
      → AllByRecursion (IsFiled old) es → AllByRecursion (IsFiled new) es
  still_filed k p old new more es h =
      each_weaker (IsFiled old) (IsFiled new)
      (λ e f. ap (has_place e.0) (more (key e.1))
      ∙ has_more e.0 (filed R (key e.1) old) (if is_eq (R k (key e.1)) then p ∷ [] else []) f) es h

  pub same_filed : (old new : List (K × Vec ℕ)) → ((q : K) → filed R q new ≡ filed R q old) → (es : List NoteEntry)
      → AllByRecursion (IsFiled old) es → AllByRecursion (IsFiled new) es
  same_filed old new same es h =
      each_weaker (IsFiled old) (IsFiled new) (λ e f. ap (has_place e.0) (same (key e.1)) ∙ f) es h

  newly_filed : (k : K) (p : ℕ) (old new : List (K × Vec ℕ))
      → ((q : K) → filed R q new ≡ filed R q old ++ (if is_eq (R k q) then p ∷ [] else []))
      → has_place p (filed R k new) ≡ true
  newly_filed k p old new more = ap (has_place p)
      (more k ∙ ap (λ (o : Ordering). filed R k old ++ (if is_eq o then p ∷ [] else [])) (tied_itself total k))
      ∙ has_last p (filed R k old)

  pub filed_last : (n : Note) (k : K) (p : ℕ) → k ≡ key n → p ≡ n.last.place → (old new : List (K × Vec ℕ))
      → ((q : K) → filed R q new ≡ filed R q old ++ (if is_eq (R k q) then p ∷ [] else [])) → (es : List NoteEntry)
      → AllByRecursion (IsFiled old) es → AllByRecursion (IsFiled new) (es ++ (n.last.place, n) ∷ [])
  filed_last n k p at here old new more es h =
      each_append (IsFiled new) es ((n.last.place, n) ∷ []) (still_filed k p old new more es h)
      ((λ i. has_place (sym here i) (filed R (sym at i) new)) ∙ newly_filed k p old new more, tt)

  module _ (k : K) (own : Note → Bool) (same : (n : Note) → is_eq (R k (key n)) ≡ own n) where
    -- all places of the key's notes are under it
    pub all_filed : (index : List (K × Vec ℕ)) (es : List NoteEntry) → AllByRecursion (IsFiled index) es
        → AllByRecursion (λ (e : NoteEntry). own e.1 ≡ true → has_place e.0 (filed R k index) ≡ true) es
    all_filed index es h = each_weaker (IsFiled index)
        (λ (e : NoteEntry). own e.1 ≡ true → has_place e.0 (filed R k index) ≡ true)
        (λ e f t. ap (λ (v : Option (Vec ℕ)). has_place e.0 (list_of v)) (tied k (key e.1) index (same e.1 ∙ t)) ∙ f) es
        h

    -- without the key's list, those of the others
    pub others_filed : (old new : List (K × Vec ℕ))
        → ((q : K) → filed R q new ≡ (if is_eq (R k q) then [] else filed R q old)) → (es : List NoteEntry)
        → AllByRecursion (IsFiled old) es → AllByRecursion (IsFiled new) (filter (λ (e : NoteEntry). not (own e.1)) es)
    others_filed old new less es h = each_filtered (IsFiled old) (IsFiled new) (λ (e : NoteEntry). not (own e.1))
        (λ e f t. ap (has_place e.0)
        (less (key e.1) ∙ ap (λ b. if b then [] else filed R (key e.1) old) (same e.1 ∙ not-true (own e.1) t)) ∙ f) es h

-- One place.

not_here : (k m n : ℕ) → m < n → is_eq (nat_cmp k n) ≡ true → is_eq (nat_cmp k m) ≡ false
not_here k m n l t = grind (arith, nat_tests)

-- what is at the place is what is found there
found : (k : ℕ) (es : List NoteEntry) → Ordered (λ (a b : NoteEntry). a.0 < b.0) es
    → AllByRecursion (λ (e : NoteEntry). is_eq (nat_cmp k e.0) ≡ true → lookup (is_at (nat_cmp k)) es ≡ Some e.1) es
found k [] h = tt
found k (x ∷ es) h = (
  λ t. ap (λ b. cond b (Some x.1) (lookup (is_at (nat_cmp k)) es)) t,
  each_weaker _ _ (λ e f t. ap (λ b. cond b (Some x.1) (lookup (is_at (nat_cmp k)) es)) (not_here k x.0 e.0 f.0 t)
      ∙ f.1 t) es (each_both _ _ es h.0 (found k es h.1)),
)

own_there : (whose : Whose) (k : ℕ) (b : Bool) (es : List NoteEntry) → Ordered (λ (x y : NoteEntry). x.0 < y.0) es
    → has_own whose (lookup (is_at (nat_cmp k)) es) ≡ b
    → AllByRecursion (λ (e : NoteEntry). (k == e.0) ≡ true → is_own whose e.1 ≡ b) es
own_there whose k b es h o = each_weaker _ _ (λ e f t. sym (ap (has_own whose) (f (equal_numbers k e.0 ∙ t))) ∙ o) es
    (found k es h)

-- none of theirs is there
pub none_drawn : (whose : Whose) (k : ℕ) (es : List NoteEntry) → AreByPlace es
    → has_own whose (lookup (is_at (nat_cmp k)) es) ≡ false → es ≡ left whose (k ∷ []) es
none_drawn whose k es h o =
    sym (filter_all (λ (e : NoteEntry). not (has_place e.0 (k ∷ []) && is_own whose e.1)) es
    (each_weaker _ _ (λ e f. by_cases (k == e.0) (λ b. not ((b || false) && is_own whose e.1) ≡ true)
    (λ t. ap not (f t)) (λ _. refl)) es (own_there whose k false es h.rising o)))

-- one of theirs is there
pub one_drawn : (whose : Whose) (k : ℕ) (es : List NoteEntry) → AreByPlace es
    → has_own whose (lookup (is_at (nat_cmp k)) es) ≡ true
    → remove_entry (is_at (nat_cmp k)) es ≡ left whose (k ∷ []) es
one_drawn whose k es h o = removed nat_cmp nat_cmp_total k es
    (ordered_weaker (λ (a b : NoteEntry). a.0 < b.0) (λ (a b : NoteEntry). nat_cmp a.0 b.0 ≡ Less)
    (λ a b l. is_less a.0 b.0 l) es h.rising)
    ∙ filter_same _ _ es
    (each_weaker _ _ (λ e f. ap not (equal_numbers k e.0)
    ∙ by_cases (k == e.0) (λ b. not b ≡ not ((b || false) && is_own whose e.1)) (λ t. ap not (sym (f t))) (λ _. refl))
    es (own_there whose k true es h.rising o))

taken_out : (t : ℕ → Bool) (es : List NoteEntry) (n : Note) → lookup t es ≡ Some n
    → Among n (values_of es) (values_of (remove_entry t es))
taken_out t [] n h = absurd (cc)
taken_out t (x ∷ es) n h = by_cases (t x.0)
    (λ b. cond b (Some x.1) (lookup t es) ≡ Some n
    → Among n (x.1 ∷ values_of es) (values_of (cond b es (x ∷ remove_entry t es))))
    (λ _ k. record {
      front = [];
      back = values_of es;
      whole_is = ap (λ (m : Note). m ∷ values_of es) (value_is x.1 n k);
      others_are = refl;
    })
    (λ _ k. behind (taken_out t es n k)) h
  where
    behind : Among n (values_of es) (values_of (remove_entry t es))
        → Among n (x.1 ∷ values_of es) (x.1 ∷ values_of (remove_entry t es))
    behind a = record {
      front = x.1 ∷ a.front;
      back = a.back;
      whole_is = ap (λ (ns : List Note). x.1 ∷ ns) a.whole_is;
      others_are = ap (λ (ns : List Note). x.1 ∷ ns) a.others_are;
    }

not_there : (t : ℕ → Bool) (es : List NoteEntry) → lookup t es ≡ None → remove_entry t es ≡ es
not_there t [] h = refl
not_there t (x ∷ es) h = grind (arith, not_there t es, cases_Bool (t x.0))

pub drawn_one : (whose : Whose) (t : ℕ → Bool) (es : List NoteEntry) (o : Option Note) → o ≡ lookup t es
    → has_own whose (lookup t es) ≡ true → Drawn whose o es (remove_entry t es)
drawn_one whose t es None h own = not_there t es (sym h)
drawn_one whose t es (Some n) h own = (ap (has_own whose) h ∙ own, taken_out t es n (sym h))

-- One place after another.

filter_then : {X : Type 0} (p q r : X → Bool) → ((x : X) → r x ≡ (q x && p x)) → (xs : List X)
    → filter p (filter q xs) ≡ filter r xs
filter_then p q r h [] = refl
filter_then p q r h (x ∷ xs) = grind (arith, filter_then p q r h xs, h x, cases_Bool (q x), cases_Bool (p x))

tests : (a b o : Bool) → not ((a || b) && o) ≡ (not ((a || false) && o) && not (b && o))
tests a b o = grind (arith, cases_Bool a, cases_Bool b, cases_Bool o)

pub left_more : (whose : Whose) (k : ℕ) (ps : List ℕ) (es : List NoteEntry)
    → left whose ps (left whose (k ∷ []) es) ≡ left whose (k ∷ ps) es
left_more whose k ps es = filter_then _ _ _ (λ e. tests (k == e.0) (has_place e.0 ps) (is_own whose e.1)) es

pub left_by_place : (whose : Whose) (k : ℕ) (es new : List NoteEntry) → new ≡ left whose (k ∷ []) es → AreByPlace es
    → AreByPlace new
left_by_place whose k es new h o =
    subst AreByPlace (sym h)
    (filtered_by_place (λ (e : NoteEntry). not (has_place e.0 (k ∷ []) && is_own whose e.1)) es o)

pub left_some : (whose : Whose) (k : ℕ) (p : NoteEntry → Bool) (es new : List NoteEntry)
    → new ≡ left whose (k ∷ []) es → AllByRecursion (λ (e : NoteEntry). p e ≡ true) es
    → AllByRecursion (λ (e : NoteEntry). p e ≡ true) new
left_some whose k p es new h all = subst (AllByRecursion (λ (e : NoteEntry). p e ≡ true)) (sym h)
    (each_filter (λ (e : NoteEntry). p e ≡ true) _ es all)

pub left_none : (whose : Whose) (es : List NoteEntry) → left whose [] es ≡ es
left_none whose es = filter_all (λ (e : NoteEntry). not (has_place e.0 [] && is_own whose e.1)) es
    (each_of (λ (e : NoteEntry). not (has_place e.0 [] && is_own whose e.1) ≡ true) (λ e. refl) es)

-- a note goes to the end of those that were drawn
module _ (n : Note) (drawn whole others : List Note) (among : Among n whole others)
    (apart : Apart (drawn ++ whole)) where
  moved : IsPermutation (drawn ++ whole) ((drawn ++ n ∷ []) ++ others)
  moved = IsPermutation-pop_more (drawn ++ whole) drawn whole others n (IsPermutation-refl (drawn ++ whole))
      (subst (λ (ns : List Note). IsPermutation whole (n ∷ ns)) (sym among.others_are)
      (subst (λ (ns : List Note). IsPermutation ns (n ∷ (among.front ++ among.back))) (sym among.whole_is)
      (IsPermutation-middle among.front n among.back)))

  pub drawn_apart : Apart ((drawn ++ n ∷ []) ++ others)
  drawn_apart = apart_moved place_of (drawn ++ whole) ((drawn ++ n ∷ []) ++ others) moved apart

  pub drawn_together : by_place ((drawn ++ n ∷ []) ++ others) ≡ by_place (drawn ++ whole)
  drawn_together = sym (sorted_moved place_of (drawn ++ whole) ((drawn ++ n ∷ []) ++ others) moved apart)

-- All places of their notes.

module _ (whose : Whose) (ps : List ℕ) (es : List NoteEntry)
    (all : AllByRecursion (λ (e : NoteEntry). is_own whose e.1 ≡ true → has_place e.0 ps ≡ true) es) where
  pub left_all : left whose ps es ≡ filter (λ (e : NoteEntry). not (is_own whose e.1)) es
  left_all = filter_same (λ (e : NoteEntry). not (has_place e.0 ps && is_own whose e.1))
      (λ (e : NoteEntry). not (is_own whose e.1)) es
      (each_weaker (λ (e : NoteEntry). is_own whose e.1 ≡ true → has_place e.0 ps ≡ true)
      (λ (e : NoteEntry). not (has_place e.0 ps && is_own whose e.1) ≡ not (is_own whose e.1))
      (λ e f. by_cases (is_own whose e.1) (λ b. not (has_place e.0 ps && b) ≡ not b)
      (λ t. ap (λ a. not (a && true)) (f t)) (λ _. ap not (and_right (has_place e.0 ps) false refl))) es all)

  pub values_left : values_of (left whose ps es) ≡ filter (λ (n : Note). not (is_own whose n)) (values_of es)
  values_left = ap values_of left_all
      ∙ sym (filter_map_as (λ (n : Note). not (is_own whose n)) (λ (e : NoteEntry). not (is_own whose e.1))
      (λ (e : NoteEntry). e.1) (λ (e : NoteEntry). e.1) (λ e. refl) (λ e _. refl) es)

  -- those that were drawn, by place, are theirs
  pub values_drawn : (drawn : List Note) → AllByRecursion (λ (n : Note). is_own whose n ≡ true) drawn
      → Apart (drawn ++ values_of (left whose ps es)) → by_place (drawn ++ values_of (left whose ps es)) ≡ values_of es
      → by_place drawn ≡ filter (is_own whose) (values_of es)
  values_drawn drawn own apart together =
      let others = values_of (left whose ps es) in
      let foreign : AllByRecursion (λ (n : Note). is_own whose n ≡ false) others
      = subst (AllByRecursion (λ (n : Note). is_own whose n ≡ false)) (sym values_left)
      (each_passes (λ (n : Note). is_own whose n ≡ false) (λ (n : Note). not (is_own whose n))
      (λ n t. not-true (is_own whose n) t) (values_of es)) in
      sym (ap (filter (is_own whose)) (sym together) ∙ (filter_sorted place_of (is_own whose) (drawn ++ others) apart
      ∙ ap by_place (filter-append (is_own whose) drawn others
      ∙ ((λ i. filter_all (is_own whose) drawn own i ++ filter_none (is_own whose) others foreign i)
      ∙ append-nil drawn))))

-- A registrant hears what its notes of the unit say, whatever other notes there are.

pub told_own : (unit : ℕ) (ns : List Note) (rs : List Registrant)
    → map (told unit (filter (λ n. n.unit == unit) ns)) rs ≡ map (told unit ns) rs
told_own unit ns [] = refl
told_own unit ns (r ∷ rs) = λ i. record { queue = r.queue; name = r.name; last = latest r.last (twice ns i) }
    ∷ told_own unit ns rs i
  where
    twice : (ns : List Note) → filter (λ n. (n.unit == unit) && is_note_of r.queue r.name n)
        (filter (λ n. n.unit == unit) ns) ≡ filter (λ n. (n.unit == unit) && is_note_of r.queue r.name n) ns
    twice [] = refl
    twice (n ∷ ns) = grind (arith, twice ns, cases_Bool (n.unit == unit))
