-- What the operations do to the elements by number.
use Rattle.std.proofs.Common.{◌≡◌, ◌≢◌, ℕ, ◌<◌, ◌==◌, Bool, true, false, cond, option_map, Some, None, ◌&&◌, not, List}
use Rattle.std.proofs.Common.{[], ◌∷◌, ◌++◌, map, refl, sym, ap, ◌∙◌, subst, arith, append_assoc, length, reverse}
use Rattle.std.specs.List.{AllByRecursion, filter}
use Rattle.std.specs.Map.{values_of, keys_of}
use Rattle.std.specs.declared.cmp.Reverse.{Reverse}
use Rattle.std.specs.declared.cmp.Ordering.{Ordering}
use Rattle.std.specs.declared.cmp.Ordering.TheVariants.{Less, Equal, Greater}
use Rattle.std.proofs.lemmas.Bool.Decides.{nat_tests}
use Rattle.std.proofs.lemmas.Bool.{and_left, eq-eqb, lt-ltb}
use Rattle.std.proofs.lemmas.List.{append-nil, reverse-append}
use Rattle.rq_model.specs.States.{Mark, Element, Free, Fresh, Held, put, id_before, is_free}
use Rattle.rq_model.specs.Queues.{is_marked}
use Rattle.rq_model.specs.Machine.{is_free_at, best, best_held, marked, leaves, returned}
use Rattle.rq_model.proofs.Lists.{each_weaker, each_append, filter_all, filter_none}
use Rattle.rq_queue.specs.Sorted.{sorted}
use Rattle.rq_queue.specs.Kept.{items_of, Entry, IsKeyed, IsOfUnit, Stowed, Among, Frees, unheld, staying}
use Rattle.rq_queue.proofs.ByNumber.{each_front}
use Rattle.rq_queue.proofs.Sorting.{each_unsorted, held_sorted, apart_into, apart_from, sorted_from}
use Rattle.rq_model.proofs.Apart.{Apart}
use Rattle.rq_queue.proofs.Firsts.{IsBehind, first_held, best_is, best_itself, no_best}
use Rattle.std.specs.BTreeMap.{insert_entry}
use Rattle.std.specs.Prelude.{slice_get}
use Rattle.std.specs.List.Sorted.{IsStrictlySortedBy}
use Rattle.std.specs.Ordering.{match_ordering}
use Rattle.rq_model.specs.States.{Definition, is_held, is_fresh}
use Rattle.rq_queue.proofs.Moving.{behind, rank_cmp, none_held}
use Rattle.rq_queue.proofs.Units.{Lists, stowed_sorted, stowed_apart}

-- DEQUEUE
not_free : (unit : ℕ) (m : Mark) → is_marked unit m ≡ true → is_free m ≡ false
not_free unit Free h = absurd (cc)
not_free unit (Fresh v) h = refl
not_free unit (Held v) h = refl

pub none_free : (queue : ℕ) (es : Lists) → AllByRecursion IsOfUnit es
    → AllByRecursion (λ f. is_free_at queue f ≡ false) (items_of es)
none_free queue [] h = tt
none_free queue (x ∷ es) h = each_append (λ f. is_free_at queue f ≡ false) x.1.items (items_of es)
    (each_weaker (λ f. is_marked x.0 f.mark ≡ true) (λ f. is_free_at queue f ≡ false)
    (λ f t. ap (λ b. b && (f.home == queue)) (not_free x.0 f.mark t)) x.1.items h.0) (none_free queue es h.1)

-- what comes after the first entry comes after its element
all_behind : (queue : ℕ) (x : Entry) (es : List Entry) → IsKeyed x → AllByRecursion IsKeyed es
    → AllByRecursion (λ (k : Reverse ℕ × ℕ). rank_cmp (x.0.0.0, x.0.1) (k.0.0, k.1) ≡ Less) (keys_of es)
    → AllByRecursion (IsBehind queue x.1) (values_of es)
all_behind queue x [] a b h = tt
all_behind queue x (e ∷ es) a b h = (
  behind queue x.1 e.1 (let l = h.0 in
      ap (λ (k : Reverse ℕ × ℕ). rank_cmp (k.0.0, k.1) (e.1.priority, e.1.id)) (sym a.0)
      ∙ (ap (λ (k : Reverse ℕ × ℕ). rank_cmp (x.0.0.0, x.0.1) (k.0.0, k.1)) (sym b.0.0) ∙ l)),
  all_behind queue x es a b.1 h.1,
)

-- the first entry is Free in the queue, and all others come after it
pub first_facts : (queue : ℕ) (x : Entry) (all rest : List Entry) (old : Lists) → all ≡ x ∷ rest
    → AllByRecursion IsKeyed all → AllByRecursion IsOfUnit old
    → AllByRecursion (λ (k : Reverse ℕ × ℕ). rank_cmp (x.0.0.0, x.0.1) (k.0.0, k.1) ≡ Less) (keys_of rest)
    → AllByRecursion (λ e. e.home ≡ queue) (sorted (values_of all ++ items_of old))
    → (is_free_at queue x.1 ≡ true) × AllByRecursion (IsBehind queue x.1) (values_of rest ++ items_of old)
first_facts queue x all rest old split keyed units first home = (
  (λ i. keyed_then.0.1 i && eq-eqb x.1.home queue at_home.0 i),
  each_append (IsBehind queue x.1) (values_of rest) (items_of old)
      (all_behind queue x rest keyed_then.0 keyed_then.1 first)
      (each_weaker (λ f. is_free_at queue f ≡ false) (IsBehind queue x.1) (λ f n y. absurd (cc)) (items_of old)
      (none_free queue old units)),
)
  where
    keyed_then : IsKeyed x × AllByRecursion IsKeyed rest
    keyed_then = subst (AllByRecursion IsKeyed) split keyed

    at_home : AllByRecursion (λ e. e.home ≡ queue) (x.1 ∷ values_of rest ++ items_of old)
    at_home = subst (λ (es : List Entry). AllByRecursion (λ (e : Element). e.home ≡ queue)
        (values_of es ++ items_of old)) split
        (each_unsorted (λ (e : Element). e.home ≡ queue) (values_of all ++ items_of old) home)

pub held : (unit queue : ℕ) (x : Entry) (all rest : List Entry) (old new : Lists) → all ≡ x ∷ rest
    → Stowed (marked (Held unit) x.1) old new → AllByRecursion IsKeyed all → AllByRecursion IsOfUnit old
    → AllByRecursion (λ (k : Reverse ℕ × ℕ). rank_cmp (x.0.0.0, x.0.1) (k.0.0, k.1) ≡ Less) (keys_of rest)
    → Apart (values_of all ++ items_of old)
    → AllByRecursion (λ e. e.home ≡ queue) (sorted (values_of all ++ items_of old))
    → (sorted (values_of rest ++ items_of new) ≡ best_held unit queue (sorted (values_of all ++ items_of old)))
    × (Apart (values_of rest ++ items_of new) × AllByRecursion IsKeyed rest)
held unit queue x all rest old new split s keyed units first apart home = (
  stowed_sorted (marked (Held unit) x.1) (values_of rest) old new s apart_then
      ∙ (ap sorted (sym (first_held unit queue x.1 (values_of rest ++ items_of old) facts.0 facts.1))
      ∙ (sym (held_sorted unit queue (x.1 ∷ values_of rest ++ items_of old))
      ∙ ap (λ (es : List Entry). best_held unit queue (sorted (values_of es ++ items_of old))) (sym split))),
  (stowed_apart (marked (Held unit) x.1) (values_of rest) old new s apart_then, keyed_then.1),
)
  where
    apart_then : Apart (x.1 ∷ values_of rest ++ items_of old)
    apart_then = subst (λ (es : List Entry). Apart (values_of es ++ items_of old)) split apart

    keyed_then : IsKeyed x × AllByRecursion IsKeyed rest
    keyed_then = subst (AllByRecursion IsKeyed) split keyed

    facts : (is_free_at queue x.1 ≡ true) × AllByRecursion (IsBehind queue x.1) (values_of rest ++ items_of old)
    facts = first_facts queue x all rest old split keyed units first home

-- and its id is that of the best
pub best_first : (queue : ℕ) (x : Entry) (all rest : List Entry) (old : Lists) → all ≡ x ∷ rest
    → AllByRecursion IsKeyed all → AllByRecursion IsOfUnit old
    → AllByRecursion (λ (k : Reverse ℕ × ℕ). rank_cmp (x.0.0.0, x.0.1) (k.0.0, k.1) ≡ Less) (keys_of rest)
    → AllByRecursion (λ e. e.home ≡ queue) (sorted (values_of all ++ items_of old))
    → option_map (λ (e : Element). e.id) (best queue (sorted (values_of all ++ items_of old))) ≡ Some x.1.id
best_first queue x all rest old split keyed units first home =
    let facts = first_facts queue x all rest old split keyed units first home in
    ap (λ (es : List Entry). option_map (λ (e : Element). e.id) (best queue (sorted (values_of es ++ items_of old))))
    split
    ∙ best_is queue x.1 (values_of rest ++ items_of old) facts.0 facts.1

-- and it is the best itself
pub best_entry : (queue : ℕ) (x : Entry) (all rest : List Entry) (old : Lists) → all ≡ x ∷ rest
    → AllByRecursion IsKeyed all → AllByRecursion IsOfUnit old
    → AllByRecursion (λ (k : Reverse ℕ × ℕ). rank_cmp (x.0.0.0, x.0.1) (k.0.0, k.1) ≡ Less) (keys_of rest)
    → AllByRecursion (λ e. e.home ≡ queue) (sorted (values_of all ++ items_of old))
    → best queue (sorted (values_of all ++ items_of old)) ≡ Some x.1
best_entry queue x all rest old split keyed units first home =
    let facts = first_facts queue x all rest old split keyed units first home in
    ap (λ (es : List Entry). best queue (sorted (values_of es ++ items_of old))) split
    ∙ best_itself queue x.1 (values_of rest ++ items_of old) facts.0 facts.1

pub no_entry : (queue : ℕ) (old : Lists) → AllByRecursion IsOfUnit old
    → best queue (sorted (items_of old)) ≡ None
no_entry queue old units = no_best queue (items_of old) (none_free queue old units)

best_there : (queue : ℕ) (x : Entry) (k : Reverse ℕ × ℕ) (e : Element) (rest : List Entry) (old : Lists)
    → slice_get (x ∷ rest) 0 ≡ Some (k, e)
    → IsStrictlySortedBy (λ (a b : Reverse ℕ × ℕ). rank_cmp (a.0.0, a.1) (b.0.0, b.1)) (x.0 ∷ keys_of rest)
    → AllByRecursion IsKeyed (x ∷ rest) → AllByRecursion IsOfUnit old
    → AllByRecursion (λ e. e.home ≡ queue) (sorted (values_of (x ∷ rest) ++ items_of old))
    → best queue (sorted (values_of (x ∷ rest) ++ items_of old)) ≡ Some e
unfolding IsStrictlySortedBy
best_there queue x k e rest old is rise keyed units home =
    best_entry queue x (x ∷ rest) rest old refl keyed units rise.0 home
    ∙ ap (option_map (λ (y : Entry). y.1)) is

-- what stands first among the Free ones is the best
pub best_stands_first : (queue : ℕ) (es : List Entry) (k : Reverse ℕ × ℕ) (e : Element) (old : Lists)
    → slice_get es 0 ≡ Some (k, e)
    → IsStrictlySortedBy (λ (a b : Reverse ℕ × ℕ). rank_cmp (a.0.0, a.1) (b.0.0, b.1)) (keys_of es)
    → AllByRecursion IsKeyed es → AllByRecursion IsOfUnit old
    → AllByRecursion (λ e. e.home ≡ queue) (sorted (values_of es ++ items_of old))
    → best queue (sorted (values_of es ++ items_of old)) ≡ Some e
best_stands_first queue [] k e old is rise keyed units home = absurd (cc)
best_stands_first queue (x ∷ rest) k e old is rise keyed units home =
    best_there queue x k e rest old is rise keyed units home

pub emptied_by_len : (es : List Entry) → length es ≡ 0 → es ≡ []
emptied_by_len [] h = refl
emptied_by_len (x ∷ es) h = absurd (omega arith)

emptied : (es : List Entry) → (0 < length es → false ≡ true) → es ≡ []
emptied [] h = refl
emptied (x ∷ es) h = let t : false ≡ true = h (omega arith) in absurd (cc)

pub none_there : (unit queue : ℕ) (all after : List Entry) (old : Lists) → (0 < length all → false ≡ true) → after ≡ all
    → AllByRecursion IsOfUnit old → sorted (values_of after ++ items_of old)
    ≡ best_held unit queue (sorted (values_of all ++ items_of old))
none_there unit queue all after old h a units =
    ap (λ (es : List Entry). sorted (values_of es ++ items_of old)) (a ∙ emptied all h)
    ∙ (none_held unit queue (items_of old) (none_free queue old units)
    ∙ ap (λ (es : List Entry). best_held unit queue (sorted (values_of es ++ items_of old))) (sym (emptied all h)))

pub none_best : (queue : ℕ) (all : List Entry) (old : Lists) → (0 < length all → false ≡ true)
    → AllByRecursion IsOfUnit old → option_map (λ (e : Element). e.id)
    (best queue (sorted (values_of all ++ items_of old))) ≡ None
none_best queue all old h units =
    ap (λ (es : List Entry). option_map (λ (e : Element). e.id) (best queue (sorted (values_of es ++ items_of old))))
    (emptied all h) ∙ ap (option_map (λ (e : Element). e.id)) (no_best queue (items_of old) (none_free queue old units))

-- an arrival
abbrev pub free_cmp : Reverse ℕ × ℕ → Reverse ℕ × ℕ → Ordering
free_cmp a b = rank_cmp (a.0.0, a.1) (b.0.0, b.1)

equal_id : (p i q j : ℕ) → rank_cmp (p, i) (q, j) ≡ Equal → i ≡ j
equal_id p i q j h = grind (arith, nat_tests)

abbrev pub NoKey : Reverse ℕ × ℕ → List Entry → Type 0
NoKey k es = AllByRecursion (λ x. free_cmp k x.0 ≢ Equal) es

pub no_key : (p : ℕ) (e : Element) (es : List Entry) → AllByRecursion IsKeyed es
    → AllByRecursion (λ x. e.id ≢ x.id) (values_of es) → NoKey (record { 0 = p }, e.id) es
no_key p e [] k h = tt
no_key p e (x ∷ es) k h =
    ((λ q. h.0 (equal_id p e.id x.0.0.0 x.0.1 q ∙ ap (λ (n : Reverse ℕ × ℕ). n.1) k.0.0)), no_key p e es k.1 h.1)

before_more : (e y : Element) (whole others : List Element) → Among (e ∷ []) whole others
    → Among (e ∷ []) (y ∷ whole) (y ∷ others)
before_more e y whole others a =
    record {
      front = y ∷ a.front;
      back = a.back;
      whole_is = ap (λ (x : List Element). y ∷ x) a.whole_is;
      others_are =
          ap (λ (x : List Element). y ∷ x) a.others_are;
    }

pub one_in : (k : Reverse ℕ × ℕ) (e : Element) (es : List Entry) → NoKey k es
    → Among (e ∷ []) (values_of (insert_entry free_cmp es k e)) (values_of es)
one_in k e [] h = record { front = []; back = []; whole_is = refl; others_are = refl }
one_in k e (x ∷ es) h = at (one_in k e es h.1) (free_cmp k x.0) h.0
  where
    at : Among (e ∷ []) (values_of (insert_entry free_cmp es k e)) (values_of es) → (o : Ordering) → o ≢ Equal
        → Among (e ∷ [])
        (values_of (match_ordering o ((k, e) ∷ x ∷ es) ((x.0, e) ∷ es) (x ∷ insert_entry free_cmp es k e)))
        (values_of (x ∷ es))
    at later Less n = record { front = []; back = values_of (x ∷ es); whole_is = refl; others_are = refl }
    at later Equal n = absurd (n refl)
    at later Greater n = before_more e x.1 (values_of (insert_entry free_cmp es k e)) (values_of es) later

pub still_keyed : (k : Reverse ℕ × ℕ) (e : Element) (es : List Entry) → IsKeyed (k, e) → NoKey k es
    → AllByRecursion IsKeyed es → AllByRecursion IsKeyed (insert_entry free_cmp es k e)
still_keyed k e [] p h a = (p, tt)
still_keyed k e (x ∷ es) p h a = at (still_keyed k e es p h.1 a.1) (free_cmp k x.0) h.0
  where
    at : AllByRecursion IsKeyed (insert_entry free_cmp es k e) → (o : Ordering) → o ≢ Equal
        → AllByRecursion IsKeyed (match_ordering o ((k, e) ∷ x ∷ es) ((x.0, e) ∷ es) (x ∷ insert_entry free_cmp es k e))
    at later Less n = (p, a)
    at later Equal n = absurd (n refl)
    at later Greater n = (a.0, later)

pub put_among : (e : Element) (whole others more : List Element) → Among (e ∷ []) whole others
    → Apart (e ∷ others ++ more)
    → (sorted (whole ++ more) ≡ put id_before e (sorted (others ++ more))) × Apart (whole ++ more)
put_among e whole others more a apart = (
  ap sorted whole_more
      ∙ (sorted_from a.front e (a.back ++ more) apart_then
      ∙ ap (λ (x : List Element). put id_before e (sorted x)) (sym others_more)),
  subst Apart (sym whole_more) apart_then,
)
  where
    whole_more : whole ++ more ≡ a.front ++ e ∷ (a.back ++ more)
    whole_more = ap (λ (x : List Element). x ++ more) a.whole_is ∙ append_assoc a.front (e ∷ a.back) more

    others_more : others ++ more ≡ a.front ++ (a.back ++ more)
    others_more = ap (λ (x : List Element). x ++ more) a.others_are ∙ append_assoc a.front a.back more

    apart_then : Apart (a.front ++ e ∷ (a.back ++ more))
    apart_then = apart_into a.front e (a.back ++ more)
        (subst (AllByRecursion (λ (z : Element). e.id ≢ z.id)) others_more apart.0) (subst Apart others_more apart.1)

-- one more of the list goes under its key
pub freed_step : (new : Element) (rest others : List Element) (start now next : List Entry)
    (list : List Element)
    → (AllByRecursion IsKeyed now → AllByRecursion (λ x. new.id ≢ x.id) (values_of now)
    → Among (new ∷ []) (values_of next) (values_of now))
    → (AllByRecursion IsKeyed now → AllByRecursion (λ x. new.id ≢ x.id) (values_of now) → AllByRecursion IsKeyed next)
    → Frees others start list now (new ∷ rest) → Frees others start list next rest
freed_step new rest others start now next list among keyed inv = λ k a.
    let i = inv k a in
    let more = rest ++ others in
    let those = apart_from (values_of now) new more i.1.0 in
    let here = each_front (λ z. new.id ≢ z.id) (values_of now) more those.0 in
    let put_in = put_among new (values_of next) (values_of now) more (among i.0 here) those in
    (keyed i.0 here, (put_in.1, put_in.0 ∙ (sym (sorted_from (values_of now) new more i.1.0) ∙ i.1.1)))

pub unheld_more : (unit : ℕ) (e new : Element) (rest : List Element) → new ≡ marked Free e → is_held unit e.mark ≡ false
    → unheld unit (e ∷ rest) ≡ new ∷ unheld unit rest
unheld_more unit e new rest n h =
    ap (λ b. map (marked Free)
    (cond (not b) (e ∷ filter (λ x. not (is_held unit x.mark)) rest) (filter (λ x. not (is_held unit x.mark)) rest))) h
    ∙ ap (λ (x : Element). x ∷ unheld unit rest) (sym n)

unheld_less : (unit : ℕ) (e : Element) (rest : List Element) → is_held unit e.mark ≡ true
    → unheld unit (e ∷ rest) ≡ unheld unit rest
unheld_less unit e rest h =
    ap (λ b. map (marked Free)
    (cond (not b) (e ∷ filter (λ x. not (is_held unit x.mark)) rest) (filter (λ x. not (is_held unit x.mark)) rest))) h

-- one that the unit held goes with its COMMIT
pub held_dropped : (unit : ℕ) (e : Element) (rest others all : List Element) (free now : List Entry)
    → is_held unit e.mark ≡ true → Frees others free all now (unheld unit (e ∷ rest))
    → Frees others free all now (unheld unit rest)
held_dropped unit e rest others all free now h =
    subst (λ (xs : List Element). Frees others free all now xs) (unheld_less unit e rest h)

pub staying_more : (home : Definition) (unit : ℕ) (e new : Element) (rest : List Element) → new ≡ returned unit e
    → is_fresh unit e.mark ≡ false → leaves home unit e ≡ false
    → staying home unit (e ∷ rest) ≡ new ∷ staying home unit rest
staying_more home unit e new rest n f l = grind arith

pub staying_less : (home : Definition) (unit : ℕ) (e : Element) (rest : List Element)
    → (not (is_fresh unit e.mark) && not (leaves home unit e)) ≡ false
    → staying home unit (e ∷ rest) ≡ staying home unit rest
staying_less home unit e rest h =
    ap (λ b. map (returned unit)
    (cond b (e ∷ filter (λ x. not (is_fresh unit x.mark) && not (leaves home unit x)) rest)
    (filter (λ x. not (is_fresh unit x.mark) && not (leaves home unit x)) rest))) h

-- one that the unit put in goes with its ABORT
pub fresh_dropped : (home : Definition) (unit : ℕ) (e : Element) (rest others all : List Element)
    (free now : List Entry) → is_fresh unit e.mark ≡ true → Frees others free all now (staying home unit (e ∷ rest))
    → Frees others free all now (staying home unit rest)
fresh_dropped home unit e rest others all free now h =
    subst (λ (xs : List Element). Frees others free all now xs)
    (staying_less home unit e rest (and_left (not (is_fresh unit e.mark)) (not (leaves home unit e)) (ap not h)))

-- no other has the id
pub others_of : (e : Element) (es : List Element) → AllByRecursion (λ x. x.id ≢ e.id) (sorted es)
    → AllByRecursion (λ x. e.id ≢ x.id) es
others_of e es h = each_weaker (λ x. x.id ≢ e.id) (λ x. e.id ≢ x.id) (λ x n k. n (sym k)) es
    (each_unsorted (λ x. x.id ≢ e.id) es h)

-- what is above all ids goes to the end
pub put_last : (e : Element) (xs : List Element) → AllByRecursion (λ x. x.id < e.id) xs
    → put id_before e xs ≡ xs ++ e ∷ []
put_last e xs h = λ i. filter_all (λ y. id_before y e) xs
    (each_weaker (λ y. y.id < e.id) (λ y. id_before y e ≡ true) (λ y l. lt-ltb y.id e.id l) xs h) i
    ++ e ∷ filter_none (λ y. not (id_before y e)) xs
    (each_weaker (λ y. y.id < e.id) (λ y. not (id_before y e) ≡ false) (λ y l. ap not (lt-ltb y.id e.id l)) xs h) i

-- one more under a filter
pub one_passes : (p : Element → Bool) (e : Element) (xs : List Element) → p e ≡ true
    → xs ++ e ∷ [] ≡ xs ++ filter p (e ∷ [])
one_passes p e xs t = ap (λ b. xs ++ cond b (e ∷ []) []) (sym t)

pub none_passes : (p : Element → Bool) (e : Element) (xs : List Element) → p e ≡ false → xs ≡ xs ++ filter p (e ∷ [])
none_passes p e xs t = sym (append-nil xs) ∙ ap (λ b. xs ++ cond b (e ∷ []) []) (sym t)

-- the last of a list goes, and what is left is read backwards
pub popped : {X : Type 0} (old new : List X) (x : X) → old ≡ new ++ x ∷ [] → reverse old ≡ x ∷ reverse new
popped old new x h = ap reverse h ∙ reverse-append new (x ∷ [])
