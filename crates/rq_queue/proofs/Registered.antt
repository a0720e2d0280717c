-- What is done to the registrants of a queue.
use Rattle.std.proofs.Common.{inl, inr, ◌≡◌, ◌+◌, ◌<◌, ◌≤◌, ℕ, zero, suc, Bool, true, false, cond, not, ◌&&◌, ◌||◌}
use Rattle.std.proofs.Common.{◌==◌, List, [], ◌∷◌, Option, Some, None, option_map, is_some, map, length, refl, sym, ap, ◌∙◌, arith}
use Rattle.std.proofs.Common.{if◌then◌else◌}
use Rattle.std.specs.Prelude.{nat_lt, slice_index_or}
use Rattle.std.specs.List.{list_any, find, AllByRecursion}
use Rattle.std.specs.Map.{lookup, remove_entry, set_value}
use Rattle.std.specs.BTreeMap.{insert_entry, is_at}
use Rattle.std.specs.Ordering.{is_eq, match_ordering, nat_cmp, ordering_reverse}
use Rattle.std.specs.Cmp.{tied_then}
use Rattle.std.specs.Cmp.Lexicographic.{slice_cmp}
use Rattle.std.specs.Str.{bytes_eq}
use Rattle.std.specs.declared.cmp.Ordering.{Ordering}
use Rattle.std.specs.declared.cmp.Ordering.TheVariants.{Less, Equal, Greater}
use Rattle.std.proofs.lemmas.Bool.{cases_Bool, cases_eq, false≢true, eq-eqb}
use Rattle.std.proofs.lemmas.Bool.Decides.{nat_tests}
use Rattle.std.proofs.lemmas.Cmp.{nat_list_cmp_total}
use Rattle.std.proofs.lemmas.Map.Text.{is_eq-slice_cmp}
use Rattle.rq_model.specs.States.{Last, Note, Registrant, put, name_before, registrant_before}
use Rattle.rq_model.specs.States.{is_registrant, is_note_of}
use Rattle.rq_model.specs.Machine.{later, registered, deregistered, told}
use Rattle.rq_model.specs.Queues.{registrants_at}
use Rattle.rq_model.specs.WellFormed.{Ordered}
use Rattle.rq_model.proofs.Decided.{is_less}
use Rattle.rq_model.proofs.Lists.{by_cases, each_passes, filter_map_as}
use Rattle.rq_model.proofs.Merged.{ordered_filter}
use Rattle.rq_state.specs.Orders.{key_cmp}
use Rattle.rq_queue.specs.Roll.{RollEntry, registrant_of, entry_of, picked, is_early, IsRoll, heard}
use Rattle.rq_queue.proofs.Roll.{turned, none_at, any_at, removed, updated, inserted}

-- The tests.

pub same_number : (a b : ℕ) → is_eq (nat_cmp a b) ≡ (b == a)
same_number a b = grind (arith, nat_tests)

reverse_eq : (o : Ordering) → is_eq (ordering_reverse o) ≡ is_eq o
reverse_eq Less = refl
reverse_eq Equal = refl
reverse_eq Greater = refl

same_text : (a b : List ℕ) → is_eq (slice_cmp nat_cmp a b) ≡ bytes_eq b a
same_text a b = ap is_eq (nat_list_cmp_total.antisymm a b) ∙ (reverse_eq (slice_cmp nat_cmp b a) ∙ is_eq-slice_cmp b a)

pub note_at : (k : ℕ × List ℕ) (n : Note) → is_eq (key_cmp k (n.queue, n.name)) ≡ is_note_of k.0 k.1 n
note_at k n = sym (tied_then (nat_cmp k.0 n.queue) (slice_cmp nat_cmp k.1 n.name))
    ∙ (λ i. same_number k.0 n.queue i && same_text k.1 n.name i)

itself : (queue : ℕ) → (queue == queue) ≡ true
itself queue = eq-eqb queue queue refl

not_below : (queue : ℕ) → nat_lt queue queue ≡ false
not_below queue = grind (arith, nat_tests)

-- in one queue the order is that of names
by_name : (queue : ℕ) (a b : List ℕ) → (nat_lt queue queue || ((queue == queue) && name_before a b)) ≡ name_before a b
by_name queue a b = λ i. not_below queue i || (itself queue i && name_before a b)

registrant_is : (queue : ℕ) (name : List ℕ) (e : RollEntry)
    → is_eq (slice_cmp nat_cmp name e.0) ≡ is_registrant queue name (registrant_of queue e)
registrant_is queue name e = same_text name e.0 ∙ ap (λ b. b && bytes_eq e.0 name) (sym (itself queue))

none_of : {X : Type 0} (o : Option X) → is_some o ≡ false → o ≡ None
none_of None h = refl
none_of (Some x) h = absurd (false≢true (sym h))

-- REGISTER

pub any_registrant : (queue : ℕ) (name : List ℕ) (es : List RollEntry)
    → list_any (is_registrant queue name) (map (registrant_of queue) es)
    ≡ is_some (lookup (is_at (slice_cmp nat_cmp name)) es)
any_registrant queue name es = through es ∙ any_at (slice_cmp nat_cmp) nat_list_cmp_total name es
  where
    through : (es : List RollEntry) → list_any (is_registrant queue name) (map (registrant_of queue) es)
        ≡ list_any (λ (e : RollEntry). is_eq (slice_cmp nat_cmp name e.0)) es
    through [] = refl
    through (x ∷ es) = λ i. sym (registrant_is queue name x) i || through es i

-- who is registered by the name has the last operation that stands under it
pub last_registrant : (queue : ℕ) (name : List ℕ) (es : List RollEntry)
    → option_map (λ (r : Registrant). r.last) (find (is_registrant queue name) (map (registrant_of queue) es))
    ≡ lookup (is_at (slice_cmp nat_cmp name)) es
last_registrant queue name [] = refl
last_registrant queue name (x ∷ es) =
    ap (λ b. option_map (λ (r : Registrant). r.last) (cond b (Some (registrant_of queue x))
    (find (is_registrant queue name) (map (registrant_of queue) es)))) (sym (registrant_is queue name x))
    ∙ by_cases (is_eq (slice_cmp nat_cmp name x.0))
    (λ b. option_map (λ (r : Registrant). r.last) (cond b (Some (registrant_of queue x))
    (find (is_registrant queue name) (map (registrant_of queue) es)))
    ≡ cond b (Some x.1) (lookup (is_at (slice_cmp nat_cmp name)) es))
    (λ _. refl) (λ _. last_registrant queue name es)

pub still_registered : (queue : ℕ) (name : List ℕ) (es : List RollEntry)
    → is_some (lookup (is_at (slice_cmp nat_cmp name)) es) ≡ true
    → map (registrant_of queue) es ≡ registered queue name (map (registrant_of queue) es)
still_registered queue name es h =
    ap (λ b. if b then map (registrant_of queue) es else put registrant_before
    (record { queue = queue; name = name; last = None }) (map (registrant_of queue) es))
    (sym (any_registrant queue name es ∙ h))

pub newly_registered : (queue : ℕ) (name : List ℕ) (es : List RollEntry) → IsRoll es
    → is_some (lookup (is_at (slice_cmp nat_cmp name)) es) ≡ false
    → map (registrant_of queue) (insert_entry (slice_cmp nat_cmp) es name None)
    ≡ registered queue name (map (registrant_of queue) es)
newly_registered queue name es up h = inserted (slice_cmp nat_cmp) nat_list_cmp_total registrant_before
    (registrant_of queue) (λ a b. sym (by_name queue a.0 b.0)) name None es up
    (none_at (slice_cmp nat_cmp) nat_list_cmp_total name es
    (none_of (lookup (is_at (slice_cmp nat_cmp name)) es) h))
    ∙ ap (λ b. if b then map (registrant_of queue) es else put registrant_before
    (record { queue = queue; name = name; last = None }) (map (registrant_of queue) es))
    (sym (any_registrant queue name es ∙ h))

-- DEREGISTER

pub deregistered_then : (queue : ℕ) (name : List ℕ) (es : List RollEntry) → IsRoll es
    → map (registrant_of queue) (remove_entry (is_at (slice_cmp nat_cmp name)) es)
    ≡ deregistered queue name (map (registrant_of queue) es)
deregistered_then queue name es up =
    ap (map (registrant_of queue)) (removed (slice_cmp nat_cmp) nat_list_cmp_total name es up)
    ∙ sym (filter_map_as (λ r. not (is_registrant queue name r))
    (λ (e : RollEntry). not (is_eq (slice_cmp nat_cmp name e.0))) (registrant_of queue) (registrant_of queue)
    (λ e. ap not (sym (registrant_is queue name e))) (λ _ _. refl) es)

-- A note.

-- whether the registrant of the queue with this name hears of it
hears : (unit queue : ℕ) (n : Note) (name : List ℕ) → ((n.unit == unit) && (n.queue == queue)) ≡ true
    → is_eq (slice_cmp nat_cmp n.name name) ≡ ((n.unit == unit) && is_note_of queue name n)
hears unit queue n name h = is_eq-slice_cmp n.name name
    ∙ at (n.unit == unit) (n.queue == queue) (bytes_eq n.name name) h
  where
    at : (a b c : Bool) → (a && b) ≡ true → c ≡ (a && (b && c))
    at a b c h = grind (arith, cases_Bool a, cases_Bool b)

pub not_own : (unit queue : ℕ) (n : Note) (es : List RollEntry) → ((n.unit == unit) && (n.queue == queue)) ≡ false
    → map (registrant_of queue) es ≡ map (heard unit n) (map (registrant_of queue) es)
not_own unit queue n [] h = refl
not_own unit queue n (x ∷ es) h =
    λ i. ap (λ b. if b then record (registrant_of queue x) { last = later x.1 n.last } else registrant_of queue x)
    (sym (at (n.unit == unit) (n.queue == queue) (bytes_eq n.name x.0) h)) i ∷ not_own unit queue n es h i
  where
    at : (a b c : Bool) → (a && b) ≡ false → (a && (b && c)) ≡ false
    at a b c h = grind (arith, cases_Bool a, cases_Bool b)

pub nobody_hears : (unit queue : ℕ) (n : Note) (es : List RollEntry)
    → ((n.unit == unit) && (n.queue == queue)) ≡ true → lookup (is_at (slice_cmp nat_cmp n.name)) es ≡ None
    → map (registrant_of queue) es ≡ map (heard unit n) (map (registrant_of queue) es)
nobody_hears unit queue n es u h = through es (none_at (slice_cmp nat_cmp) nat_list_cmp_total n.name es h)
  where
    through : (es : List RollEntry)
        → AllByRecursion (λ (e : RollEntry). is_eq (slice_cmp nat_cmp n.name e.0) ≡ false) es
        → map (registrant_of queue) es ≡ map (heard unit n) (map (registrant_of queue) es)
    through [] h = refl
    through (x ∷ es) h =
        λ i. ap (λ b. if b then record (registrant_of queue x) { last = later x.1 n.last } else registrant_of queue x)
        (sym (sym (hears unit queue n x.0 u) ∙ h.0)) i ∷ through es h.1 i

pub one_hears : (unit queue : ℕ) (n : Note) (w : Option Last) (es : List RollEntry) → IsRoll es
    → ((n.unit == unit) && (n.queue == queue)) ≡ true → lookup (is_at (slice_cmp nat_cmp n.name)) es ≡ Some w
    → map (registrant_of queue) (set_value (is_at (slice_cmp nat_cmp n.name)) es (later w n.last))
    ≡ map (heard unit n) (map (registrant_of queue) es)
one_hears unit queue n w es up u h = ap (map (registrant_of queue))
    (updated (slice_cmp nat_cmp) nat_list_cmp_total (λ l. later l n.last) n.name w es up h) ∙ through es
  where
    through : (es : List RollEntry) → map (registrant_of queue)
        (map (λ (e : RollEntry). cond (is_eq (slice_cmp nat_cmp n.name e.0)) (e.0, later e.1 n.last) e) es)
        ≡ map (heard unit n) (map (registrant_of queue) es)
    through [] = refl
    through (x ∷ es) =
        λ i. (by_cases (is_eq (slice_cmp nat_cmp n.name x.0))
        (λ b. registrant_of queue (cond b (x.0, later x.1 n.last) x)
        ≡ cond b (record (registrant_of queue x) { last = later x.1 n.last }) (registrant_of queue x))
        (λ _. refl) (λ _. refl)
        ∙ (λ j. cond (hears unit queue n x.0 u j) (record (registrant_of queue x) { last = later x.1 n.last })
        (registrant_of queue x))) i ∷ through es i

-- The notes of a unit.

told_one : (unit : ℕ) (n : Note) (rest : List Note) (r : Registrant)
    → told unit rest (heard unit n r) ≡ told unit (n ∷ rest) r
told_one unit n rest r = grind arith

pub told_more : (unit : ℕ) (n : Note) (rest : List Note) (rs : List Registrant)
    → map (told unit rest) (map (heard unit n) rs) ≡ map (told unit (n ∷ rest)) rs
told_more unit n rest [] = refl
told_more unit n rest (r ∷ rs) = λ i. told_one unit n rest r i ∷ told_more unit n rest rs i

pub told_none : (unit : ℕ) (rs : List Registrant) → map (told unit []) rs ≡ rs
told_none unit [] = refl
told_none unit (r ∷ rs) = λ i. r ∷ told_none unit rs i

-- The registrants of a queue, put in at two passes.

same_of : (a b : ℕ) → (a == b) ≡ true → a ≡ b
same_of a b h = grind (arith, nat_tests)

own_queue : (queue : ℕ) (rs : List Registrant)
    → AllByRecursion (λ (r : Registrant). r.queue ≡ queue) (registrants_at queue rs)
own_queue queue rs = each_passes (λ (r : Registrant). r.queue ≡ queue) (λ r. r.queue == queue)
    (λ r e. same_of r.queue queue e) rs

named_before : (queue : ℕ) (a b : Registrant) → a.queue ≡ queue → b.queue ≡ queue → registrant_before a b ≡ true
    → slice_cmp nat_cmp a.name b.name ≡ Less
named_before queue a b p q h = is_less (slice_cmp nat_cmp a.name b.name)
    (sym (by_name queue a.name b.name)
    ∙ ((λ i. nat_lt (sym p i) (sym q i) || ((sym p i == sym q i) && name_before a.name b.name)) ∙ h))

rise : (queue : ℕ) (rs : List Registrant) → AllByRecursion (λ (r : Registrant). r.queue ≡ queue) rs
    → Ordered (λ a b. registrant_before a b ≡ true) rs → IsRoll (map entry_of rs)
rise queue [] own up = tt
rise queue (r ∷ rs) own up = (each r own.0 rs own.1 up.0, rise queue rs own.1 up.1)
  where
    each : (r : Registrant) → r.queue ≡ queue → (rs : List Registrant)
        → AllByRecursion (λ (x : Registrant). x.queue ≡ queue) rs
        → AllByRecursion (λ x. registrant_before r x ≡ true) rs
        → AllByRecursion (λ (e : RollEntry). slice_cmp nat_cmp r.name e.0 ≡ Less) (map entry_of rs)
    each r p [] own up = tt
    each r p (x ∷ rs) own up = (named_before queue r x p own.0 up.0, each r p rs own.1 up.1)

pub own_rise : (queue : ℕ) (rs : List Registrant) → Ordered (λ a b. registrant_before a b ≡ true) rs
    → IsRoll (map entry_of (registrants_at queue rs))
own_rise queue rs up = rise queue (registrants_at queue rs) (own_queue queue rs)
    (ordered_filter (λ a b. registrant_before a b ≡ true) (λ r. r.queue == queue) rs up)

pub own_again : (queue : ℕ) (rs : List Registrant)
    → map (registrant_of queue) (map entry_of (registrants_at queue rs)) ≡ registrants_at queue rs
own_again queue rs = again (registrants_at queue rs) (own_queue queue rs)
  where
    again : (rs : List Registrant) → AllByRecursion (λ (r : Registrant). r.queue ≡ queue) rs
        → map (registrant_of queue) (map entry_of rs) ≡ rs
    again [] own = refl
    again (r ∷ rs) own = λ i. (record { queue = sym own.0 i; name = r.name; last = r.last }) ∷ again rs own.1 i

pub picked_same : {X : Type 0} (p q : ℕ → Bool) (xs : List X) → ((n : ℕ) → n < length xs → p n ≡ q n)
    → picked p xs ≡ picked q xs
picked_same p q [] h = refl
picked_same p q (x ∷ xs) h =
    let rest = picked_same (λ n. p (suc n)) (λ n. q (suc n)) xs (λ n l. h (suc n) (omega arith)) in
    λ i. cond (h 0 (omega arith) i) (x ∷ rest i) (rest i)

-- before the first pass, between the passes, and behind the second
pub first_begins : {X : Type 0} (xs : List X) → [] ≡ picked (λ n. is_early n && not true) xs
first_begins xs = sym (none xs) ∙ picked_same (λ _. false) (λ n. is_early n && not true) xs (λ n _. at (is_early n))
  where
    none : {X : Type 0} (xs : List X) → picked (λ _. false) xs ≡ []
    none [] = refl
    none (x ∷ xs) = none xs

    at : (b : Bool) → false ≡ (b && not true)
    at true = refl
    at false = refl

pub second_begins : {X : Type 0} (xs : List X)
    → picked (λ n. is_early n || not true) xs ≡ picked (λ n. is_early n && not false) xs
second_begins xs = picked_same (λ n. is_early n || not true) (λ n. is_early n && not false) xs
    (λ n _. at (is_early n))
  where
    at : (b : Bool) → (b || not true) ≡ (b && not false)
    at true = refl
    at false = refl

pub second_ends : {X : Type 0} (xs : List X) → picked (λ n. is_early n || not false) xs ≡ xs
second_ends xs = picked_same (λ n. is_early n || not false) (λ _. true) xs (λ n _. at (is_early n)) ∙ all xs
  where
    all : {X : Type 0} (xs : List X) → picked (λ _. true) xs ≡ xs
    all [] = refl
    all (x ∷ xs) = ap (λ ys. x ∷ ys) (all xs)

    at : (b : Bool) → (b || not false) ≡ true
    at true = refl
    at false = refl

picked_each : {X : Type 0} (P : X → Type 0) (p : ℕ → Bool) (xs : List X) → AllByRecursion P xs
    → AllByRecursion P (picked p xs)
picked_each P p [] h = tt
picked_each P p (x ∷ xs) h =
    let rest = picked_each P (λ n. p (suc n)) xs h.1 in
    by_cases (p 0) (λ b. AllByRecursion P (cond b (x ∷ picked (λ n. p (suc n)) xs) (picked (λ n. p (suc n)) xs)))
    (λ _. (h.0, rest)) (λ _. rest)

abbrev Adds : RollEntry → List RollEntry → List RollEntry → Type 0
Adds e es fs = insert_entry (slice_cmp nat_cmp) es e.0 e.1 ≡ fs

-- one before all others
put_first : (e : RollEntry) (es : List RollEntry)
    → AllByRecursion (λ (x : RollEntry). slice_cmp nat_cmp e.0 x.0 ≡ Less) es → Adds e es (e ∷ es)
put_first e [] h = refl
put_first e (x ∷ es) h = ap (λ o. match_ordering o (e ∷ x ∷ es) ((x.0, e.1) ∷ es)
    (x ∷ insert_entry (slice_cmp nat_cmp) es e.0 e.1)) h.0

-- one behind the first
put_behind : (e x : RollEntry) (es : List RollEntry) → slice_cmp nat_cmp x.0 e.0 ≡ Less
    → insert_entry (slice_cmp nat_cmp) (x ∷ es) e.0 e.1 ≡ x ∷ insert_entry (slice_cmp nat_cmp) es e.0 e.1
put_behind e x es h = ap (λ o. match_ordering o (e ∷ x ∷ es) ((x.0, e.1) ∷ es)
    (x ∷ insert_entry (slice_cmp nat_cmp) es e.0 e.1)) (turned (slice_cmp nat_cmp) nat_list_cmp_total x.0 e.0 Less h)

each_at : {X : Type 0} (P : X → Type 0) (xs : List X) (i : ℕ) (d : X) → AllByRecursion P xs → i < length xs
    → P (slice_index_or xs i d)
each_at P [] i d h l = absurd (omega arith)
each_at P (x ∷ xs) zero d h l = h.0
each_at P (x ∷ xs) (suc i) d h l = each_at P xs i d h.1 (omega arith)

-- the one at a place, put into those at other places
pub put_at : (p q : ℕ → Bool) (es : List RollEntry) (i : ℕ) (d : RollEntry) → IsRoll es → i < length es
    → p i ≡ false → q i ≡ true → ((n : ℕ) → (n ≡ i → ⊥) → p n ≡ q n)
    → Adds (slice_index_or es i d) (picked p es) (picked q es)
put_at p q [] i d up l old new others = absurd (omega arith)
put_at p q (x ∷ es) zero d up l old new others =
    let before = picked (λ n. p (suc n)) es in
    let after = picked (λ n. q (suc n)) es in
    let same = picked_same (λ n. p (suc n)) (λ n. q (suc n)) es (λ n _. others (suc n) (λ e. omega arith)) in
    ap (λ b. insert_entry (slice_cmp nat_cmp) (cond b (x ∷ before) before) x.0 x.1) old
    ∙ (put_first x before (picked_each (λ (e : RollEntry). slice_cmp nat_cmp x.0 e.0 ≡ Less) (λ n. p (suc n)) es up.0)
    ∙ (ap (λ (ys : List RollEntry). x ∷ ys) same ∙ ap (λ b. cond b (x ∷ after) after) (sym new)))
put_at p q (x ∷ es) (suc i) d up l old new others =
    let e = slice_index_or es i d in
    let before = picked (λ n. p (suc n)) es in
    let after = picked (λ n. q (suc n)) es in
    let rest = put_at (λ n. p (suc n)) (λ n. q (suc n)) es i d up.1 (omega arith) old new
    (λ n apart. others (suc n) (λ e. apart (omega arith))) in
    by_cases (p 0) (λ b. Adds e (cond b (x ∷ before) before) (cond b (x ∷ after) after))
    (λ _. put_behind e x before (each_at (λ (y : RollEntry). slice_cmp nat_cmp x.0 y.0 ≡ Less) es i d up.0 (omega arith))
    ∙ ap (λ (ys : List RollEntry). x ∷ ys) rest) (λ _. rest)
    ∙ ap (λ b. cond b (x ∷ after) after) (others 0 (λ e. omega arith))

-- The places that are taken in a pass, up to a place.

abbrev pub is_taken : Bool → ℕ → ℕ → Bool
is_taken early at place = cond (is_early place) (not early || nat_lt place at) (not early && nat_lt place at)

none_below : (n : ℕ) → nat_lt n 0 ≡ false
none_below n = grind (arith, nat_tests)

is_below : (n at : ℕ) → n < at → nat_lt n at ≡ true
is_below n at l = grind (arith, nat_tests)

pub taken_first : {X : Type 0} (early : Bool) (xs : List X)
    → picked (λ n. is_early n && not early) xs ≡ picked (is_taken early 0) xs
taken_first early xs = picked_same (λ n. is_early n && not early) (is_taken early 0) xs
    (λ n _. first (is_early n) early n)
  where
    first : (a b : Bool) (n : ℕ) → (a && not b) ≡ cond a (not b || nat_lt n 0) (not b && nat_lt n 0)
    first true true n = sym (none_below n)
    first true false n = refl
    first false true n = refl
    first false false n = sym (none_below n)

pub taken_last : {X : Type 0} (early : Bool) (at : ℕ) (xs : List X) → length xs ≤ at
    → picked (is_taken early at) xs ≡ picked (λ n. is_early n || not early) xs
taken_last early at xs l = picked_same (is_taken early at) (λ n. is_early n || not early) xs
    (λ n lt. last (is_early n) early n (omega arith))
  where
    last : (a b : Bool) (n : ℕ) → n < at → cond a (not b || nat_lt n at) (not b && nat_lt n at) ≡ (a || not b)
    last true true n lt = is_below n at lt
    last true false n lt = refl
    last false true n lt = refl
    last false false n lt = is_below n at lt

elsewhere : (a b : Bool) (n at : ℕ) → (n ≡ at → ⊥)
    → cond a (not b || nat_lt n at) (not b && nat_lt n at)
    ≡ cond a (not b || nat_lt n (at + 1)) (not b && nat_lt n (at + 1))
elsewhere a b n at apart = ap (λ c. cond a (not b || c) (not b && c)) (same n at apart)
  where
    same : (n at : ℕ) → (n ≡ at → ⊥) → nat_lt n at ≡ nat_lt n (at + 1)
    same n at apart = grind (arith, nat_tests)

-- a place that the pass takes, and one that it passes over
pub taken_here : (early : Bool) (at : ℕ) (es : List RollEntry) (d : RollEntry) → IsRoll es → at < length es
    → is_early at ≡ early
    → Adds (slice_index_or es at d) (picked (is_taken early at) es) (picked (is_taken early (at + 1)) es)
taken_here early at es d up l h = put_at (is_taken early at) (is_taken early (at + 1)) es at d up l
    (old (is_early at) early h) (new (is_early at) early h) (λ n apart. elsewhere (is_early n) early n at apart)
  where
    old : (a b : Bool) → a ≡ b → cond a (not b || nat_lt at at) (not b && nat_lt at at) ≡ false
    old true true h = not_below at
    old true false h = absurd (false≢true (sym h))
    old false true h = absurd (false≢true h)
    old false false h = not_below at

    new : (a b : Bool) → a ≡ b → cond a (not b || nat_lt at (at + 1)) (not b && nat_lt at (at + 1)) ≡ true
    new true true h = is_below at (at + 1) (omega arith)
    new true false h = absurd (false≢true (sym h))
    new false true h = absurd (false≢true h)
    new false false h = is_below at (at + 1) (omega arith)

pub taken_over : {X : Type 0} (early : Bool) (at : ℕ) (xs : List X) → (is_early at ≡ early → ⊥)
    → picked (is_taken early at) xs ≡ picked (is_taken early (at + 1)) xs
taken_over early at xs h = picked_same (is_taken early at) (is_taken early (at + 1)) xs
    (λ n _. elim (cases_eq n at) [
      | inl same ↦ here (is_early n) early n (λ e. h (ap is_early (sym same) ∙ e))
      | inr apart ↦ elsewhere (is_early n) early n at apart
    ])
  where
    here : (a b : Bool) (n : ℕ) → (a ≡ b → ⊥) → cond a (not b || nat_lt n at) (not b && nat_lt n at)
        ≡ cond a (not b || nat_lt n (at + 1)) (not b && nat_lt n (at + 1))
    here true true n h = absurd (h refl)
    here true false n h = refl
    here false true n h = refl
    here false false n h = absurd (h refl)
