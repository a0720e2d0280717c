-- What a registrant's line is made of.
use Rattle.std.proofs.Common.{◌≡◌, ◌⊎◌, inl, inr, ℕ, ◌+◌, ◌<◌, Bool, true, false, cond, not, ◌&&◌, ◌||◌, List, []}
use Rattle.std.proofs.Common.{◌∷◌, ◌++◌, map, Option, Some, None, refl, sym, ap, ◌∙◌, subst, arith}
use Rattle.std.specs.Prelude.{◌==◌, if◌then◌else◌}
use Rattle.std.specs.List.{filter, list_any, AllByRecursion}
use Rattle.std.specs.Str.{bytes_eq}
use Rattle.std.proofs.lemmas.Bool.{and_parts, eqb-true, eq-eqb, cases_Bool}
use Rattle.std.proofs.lemmas.Bool.Decides.{nat_tests}
use Rattle.std.proofs.lemmas.List.Elements.{filter-append}
use Rattle.std.proofs.lemmas.Slice.Eq.{bytes_eq-Decides}
use Rattle.rq_model.specs.Records.{Record, Define, Register, Deregister, Begin, Enqueue, Dequeue, Commit, Abort}
use Rattle.rq_model.specs.Records.{Checkpoint, Kill, Version}
use Rattle.rq_model.specs.States.{Last, Note, Registrant, State, empty, put, registrant_before, is_registrant}
use Rattle.rq_model.specs.States.{is_note_of}
use Rattle.rq_model.specs.Machine.{later, latest, told, registered, deregistered, unnoted, closed_notes, all_lawful}
use Rattle.rq_model.specs.Machine.{step, run, outcome_from, Committed, Aborted}
use Rattle.rq_model.specs.WellFormed.{Ordered, IsWellFormed, IsNote}
use Rattle.rq_model.proofs.Lists.{by_cases, each_weaker, each_of, each_both, each_passes, each_filter}
use Rattle.rq_model.proofs.Lists.{filter_map, filter_absorb, filter_same, filter_none, filter_comm}
use Rattle.rq_model.proofs.Decided.{registrant_asymmetric}
use Rattle.rq_model.proofs.WellFormedRuns.{none_passes}
use Rattle.rq_model.proofs.Kept.{step_kept, empty_is_well_formed}
use Rattle.rq_model.specs.Fates.{is_committed, commits, operation, deregisters, is_heard, hears}
use Rattle.rq_model.specs.FateLaws.{HowFar}

-- the line of the one registrant
abbrev first_last : List Registrant → Option Last
first_last [] = None
first_last (r ∷ rs) = r.last

abbrev pub of_client : ℕ → List ℕ → List Registrant → List Registrant
of_client q n rs = filter (is_registrant q n) rs

-- what the state knows already: its line, and its notes of units that commit
abbrev knows : ℕ → List ℕ → (ℕ → Bool) → State → Option Last
knows q n c s = latest (first_last (of_client q n s.registrants)) (filter (λ m. is_note_of q n m && c m.unit) s.notes)

abbrev known : ℕ → List ℕ → State → List Record → Option Last
known q n s rs = if list_any (deregisters q n) rs then None else knows q n (commits s.next rs) s

latest-append : (l : Option Last) (xs ys : List Note) → latest l (xs ++ ys) ≡ latest (latest l xs) ys
latest-append l [] ys = refl
latest-append l (x ∷ xs) ys = latest-append (later l x.last) xs ys

pub filter_and : {X : Type 0} (p g : X → Bool) (xs : List X) → filter p (filter g xs) ≡ filter (λ x. p x && g x) xs
filter_and p g [] = refl
filter_and p g (x ∷ xs) = grind (arith, filter_and p g xs, cases_Bool (g x), cases_Bool (p x))

-- Places.

later_comm : (l : Option Last) (a b : Last) → a.place < b.place → later (later l b) a ≡ later (later l a) b
later_comm None a b h = grind (arith, nat_tests)
later_comm (Some l) a b h = grind (arith, nat_tests)

abbrev Behind : Note → List Note → Type 0
Behind n ms = AllByRecursion (λ (m : Note). n.last.place < m.last.place) ms

latest_comm : (l : Option Last) (n : Note) (ms : List Note) → Behind n ms
    → later (latest l ms) n.last ≡ latest (later l n.last) ms
latest_comm l n [] h = refl
latest_comm l n (m ∷ ms) h = latest_comm (later l m.last) n ms h.1 ∙ ap (λ z. latest z ms)
    (later_comm l n.last m.last h.0)

-- for two kinds, one after the other
latest_both : (l : Option Last) (a b : Note → Bool) (ns : List Note) → Ordered (λ
    (n m : Note). n.last.place < m.last.place) ns
    → ((n : Note) → a n ≡ true → b n ≡ false)
    → latest (latest l (filter a ns)) (filter b ns) ≡ latest l (filter (λ n. a n || b n) ns)
latest_both l a b [] rise apart = refl
latest_both l a b (n ∷ ns) rise apart =
    by_cases (a n) (λ t. a n ≡ t → latest (latest l (cond t (n ∷ filter a ns) (filter a ns))) (filter b (n ∷ ns))
    ≡ latest l (cond (t || b n) (n ∷ filter (λ n. a n || b n) ns) (filter (λ n. a n || b n) ns)))
    (λ _ e. ap (λ t. latest (latest l (n ∷ filter a ns)) (cond t (n ∷ filter b ns) (filter b ns))) (apart n e)
    ∙ latest_both (later l n.last) a b ns rise.1 apart)
    (λ _ _. by_cases (b n) (λ t. latest (latest l (filter a ns)) (cond t (n ∷ filter b ns) (filter b ns))
    ≡ latest l (cond t (n ∷ filter (λ n. a n || b n) ns) (filter (λ n. a n || b n) ns)))
    (λ _. ap (λ z. latest z (filter b ns)) (latest_comm l n (filter a ns) (each_filter _ a ns rise.0))
    ∙ latest_both (later l n.last) a b ns rise.1 apart)
    (λ _. latest_both l a b ns rise.1 apart)) refl

-- Registrants: at most one is the client.

same_key : (q : ℕ) (n : List ℕ) (r t : Registrant) → is_registrant q n r ≡ true → is_registrant q n t ≡ true
    → registrant_before r t ≡ true → ⊥
same_key q n r t e k h =
    let a = and_parts _ _ e in
    let b = and_parts _ _ k in
    let rq = eqb-true r.queue q a.0 in
    let tq = eqb-true t.queue q b.0 in
    let rn : r.name ≡ n = (bytes_eq-Decides r.name n).0 a.1 in
    let tn : t.name ≡ n = (bytes_eq-Decides t.name n).0 b.1 in
    let x : Registrant = record { queue = q; name = n; last = None } in
    let both : registrant_before x x ≡ true = grind (arith, h, rq, tq, rn, tn) in
    registrant_asymmetric x x both both

pub single : (q : ℕ) (n : List ℕ) (rs : List Registrant) → Ordered (λ r t. registrant_before r t ≡ true) rs
    → (of_client q n rs ≡ []) ⊎ ((r : Registrant) × (of_client q n rs ≡ r ∷ []))
single q n [] rise = inl refl
single q n (r ∷ rs) rise =
    by_cases (is_registrant q n r) (λ b. is_registrant q n r ≡ b
    → (cond b (r ∷ of_client q n rs) (of_client q n rs) ≡ [])
    ⊎ ((t : Registrant) × (cond b (r ∷ of_client q n rs) (of_client q n rs) ≡ t ∷ [])))
    (λ _ e. inr (
      r,
      ap (λ z. r ∷ z) (filter_none (is_registrant q n) rs (each_weaker _ _
          (λ t h. by_cases (is_registrant q n t) (λ b. is_registrant q n t ≡ b → is_registrant q n t ≡ false)
          (λ _ k. absurd (same_key q n r t e k h)) (λ _ k. k) refl) rs rise.0)),
    ))
    (λ _ _. single q n rs rise.1) refl

-- Each record.

abbrev mine : ℕ → List ℕ → (ℕ → Bool) → Note → Bool
mine q n c m = is_note_of q n m && c m.unit

pub itself : (q : ℕ) (n : List ℕ) (last : Option Last) → is_registrant q n
    (record { queue = q; name = n; last = last }) ≡ true
itself q n last = let a = eq-eqb q q refl in let b = (bytes_eq-Decides n n).1 refl in grind (arith, a, b)

-- what is left of it if nothing else goes
pub filter_gone : {X : Type 0} (p g : X → Bool) → ((x : X) → p x ≡ true → g x ≡ true) → (xs : List X)
    → filter p (filter (λ x. not (g x)) xs) ≡ []
filter_gone p g f [] = refl
filter_gone p g f (x ∷ xs) = grind (arith, filter_gone p g f xs, f x, cases_Bool (g x), cases_Bool (p x))

pub any_none : {X : Type 0} (p : X → Bool) (xs : List X) → filter p xs ≡ [] → list_any p xs ≡ false
any_none p [] h = refl
any_none p (x ∷ xs) h = by_cases (p x) (λ b. cond b (x ∷ filter p xs) (filter p xs) ≡ [] → (b || list_any p xs)
    ≡ false)
    (λ _ k. absurd (grind (arith, k))) (λ _ k. any_none p xs k) h

-- a client's queue and name are not another's
pub apart_clients : (k q x : ℕ) (m n y : List ℕ) → ((k == q) && bytes_eq m n) ≡ false → ((x == q) && bytes_eq y n)
    ≡ true
    → not ((x == k) && bytes_eq y m) ≡ true
apart_clients k q x m n y apart h = by_cases ((x == k) && bytes_eq y m)
    (λ b. ((x == k) && bytes_eq y m) ≡ b → not b ≡ true)
    (λ _ e. let p = and_parts _ _ e in
    let xk = eqb-true x k p.0 in
    let ym : y ≡ m = (bytes_eq-Decides y m).0 p.1 in
    let both : ((k == q) && bytes_eq m n) ≡ true = subst (λ (z : ℕ). ((z == q) && bytes_eq m n) ≡ true) xk
    (subst (λ (z : List ℕ). ((x == q) && bytes_eq z n) ≡ true) ym h) in
    absurd (grind (arith, both, apart))) (λ _ _. refl) refl

pub same_clients : (k q x : ℕ) (m n y : List ℕ) → ((k == q) && bytes_eq m n) ≡ true → ((x == q) && bytes_eq y n)
    ≡ true
    → ((x == k) && bytes_eq y m) ≡ true
same_clients k q x m n y same h =
    let p = and_parts _ _ same in
    let kq = eqb-true k q p.0 in
    let mn : m ≡ n = (bytes_eq-Decides m n).0 p.1 in
    subst (λ (z : ℕ). ((x == z) && bytes_eq y m) ≡ true) (sym kq)
    (subst (λ (z : List ℕ). ((x == q) && bytes_eq y z) ≡ true) (sym mn) h)

-- REGISTER

split_first : {X : Type 0} (p : X → Bool) (ys : List X) → (ys ≡ []) ⊎ ((y : X) × (ys ≡ y ∷ []))
    → filter p ys ++ filter (λ x. not (p x)) ys ≡ ys
split_first p ys (inl e) = subst (λ (z : List _). filter p z ++ filter (λ x. not (p x)) z ≡ z) (sym e) refl
split_first p ys (inr (y, e)) = subst (λ (z : List _). filter p z ++ filter (λ x. not (p x)) z ≡ z) (sym e)
    (by_cases (p y) (λ b. cond b (y ∷ []) [] ++ cond (not b) (y ∷ []) [] ≡ y ∷ []) (λ _. refl) (λ _. refl))

register_first : (q : ℕ) (n : List ℕ) (k : ℕ) (m : List ℕ) (rs : List Registrant)
    → Ordered (λ r t. registrant_before r t ≡ true) rs
    → first_last (of_client q n rs) ≡ first_last (of_client q n (registered k m rs))
register_first q n k m rs rise =
    let new : Registrant = record { queue = k; name = m; last = None } in
    let p : Registrant → Bool = λ y. registrant_before y new in
    let ys = of_client q n rs in
    by_cases (list_any (is_registrant k m) rs) (λ b. list_any (is_registrant k m) rs ≡ b
    → first_last ys ≡ first_last (of_client q n (if b then rs else put registrant_before new rs)))
    (λ _ _. refl)
    (λ _ none. let parts : of_client q n (put registrant_before new rs)
    ≡ filter p ys ++ filter (is_registrant q n) (new ∷ filter (λ y. not (p y)) rs) =
    filter-append (is_registrant q n) (filter p rs) (new ∷ filter (λ y. not (p y)) rs)
    ∙ ap (λ (z : List Registrant). z ++ filter (is_registrant q n) (new ∷ filter (λ y. not (p y)) rs)) (filter_comm
    (is_registrant q n) p rs) in
    let behind : filter (is_registrant q n) (filter (λ y. not (p y)) rs) ≡ filter (λ y. not (p y)) ys =
    filter_comm (is_registrant q n) (λ y. not (p y)) rs in
    by_cases ((k == q) && bytes_eq m n) (λ b. ((k == q) && bytes_eq m n) ≡ b
    → filter p ys ++ cond b (new ∷ filter (is_registrant q n) (filter (λ y. not (p y)) rs)) (filter
    (is_registrant q n) (filter (λ y. not (p y)) rs))
    ≡ of_client q n (put registrant_before new rs) → first_last ys ≡ first_last (of_client q n
    (put registrant_before new rs)))
    (λ _ same whole. let nobody : ys ≡ [] = filter_none (is_registrant q n) rs (each_weaker _ _
    (λ r f. by_cases (is_registrant q n r) (λ b. is_registrant q n r ≡ b → is_registrant q n r ≡ false)
    (λ _ e. let g = same_clients k q r.queue m n r.name same e in absurd (grind (arith, f, g))) (λ _ e. e) refl) rs
    (none_passes (is_registrant k m) rs none)) in
    ap first_last nobody ∙ ap (λ (z : List Registrant). first_last (filter p z ++ new ∷ filter (is_registrant q n)
    (filter (λ y. not (p y)) rs))) (sym nobody)
    ∙ ap first_last whole)
    (λ _ _ whole. ap first_last (sym (split_first p ys (single q n rs rise)) ∙ ap (λ
    (z : List Registrant). filter p ys ++ z) (sym behind) ∙ whole))
    refl (sym parts)) refl

-- ENQUEUE and DEQUEUE

operated : (q : ℕ) (n : List ℕ) (c : ℕ → Bool) (gone : Bool) (l : Option Last) (xs new : List Note)
    → latest (if gone then None else latest l (filter (mine q n c) xs)) (filter (λ m. is_note_of q n m &&
    (c m.unit && not gone)) new)
    ≡ (if gone then None else latest l (filter (mine q n c) (xs ++ new)))
operated q n c true l xs new = ap (latest None) (filter_none _ new (each_of _
    (λ m. grind (arith, cases_Bool (is_note_of q n m), cases_Bool (c m.unit))) new))
operated q n c false l xs new =
    ap (latest (latest l (filter (mine q n c) xs))) (filter_same _ (mine q n c) new (each_of _
    (λ m. grind (arith, cases_Bool (is_note_of q n m), cases_Bool (c m.unit))) new))
    ∙ sym (latest-append l (filter (mine q n c) xs) (filter (mine q n c) new))
    ∙ ap (latest l) (sym (filter-append (mine q n c) xs new))

-- COMMIT

abbrev of_unit : ℕ → ℕ → List ℕ → Note → Bool
of_unit u q n m = (m.unit == u) && is_note_of q n m

told_first : (q : ℕ) (n : List ℕ) (s : State) (u : ℕ) → IsWellFormed s
    → first_last (of_client q n (map (told u s.notes) s.registrants))
    ≡ latest (first_last (of_client q n s.registrants)) (filter (of_unit u q n) s.notes)
told_first q n s u w =
    ap first_last (filter_map (is_registrant q n) (told u s.notes) (λ r. refl) s.registrants)
    ∙ at (of_client q n s.registrants) refl (single q n s.registrants w.registrants_rise)
  where
    at : (ys : List Registrant) → of_client q n s.registrants ≡ ys
        → (of_client q n s.registrants ≡ []) ⊎ ((r : Registrant) × (of_client q n s.registrants ≡ r ∷ []))
        → first_last (map (told u s.notes) (of_client q n s.registrants))
        ≡ latest (first_last (of_client q n s.registrants)) (filter (of_unit u q n) s.notes)
    at ys _ (inl e) =
        let nobody = any_none (is_registrant q n) s.registrants e in
        let quiet : filter (of_unit u q n) s.notes ≡ [] = filter_none (of_unit u q n) s.notes
        (each_weaker (IsNote s) (λ (m : Note). of_unit u q n m ≡ false)
        (λ m x. by_cases (of_unit u q n m) (λ b. of_unit u q n m ≡ b → of_unit u q n m ≡ false)
        (λ _ k. let p = and_parts _ _ (and_parts _ _ k).1 in
        let qq = eqb-true m.queue q p.0 in
        let nn : m.name ≡ n = (bytes_eq-Decides m.name n).0 p.1 in
        let there : list_any (is_registrant q n) s.registrants ≡ true =
        subst (λ (z : ℕ). list_any (is_registrant z n) s.registrants ≡ true) qq
        (subst (λ (z : List ℕ). list_any (is_registrant m.queue z) s.registrants ≡ true) nn x.registrant) in
        absurd (grind (arith, there, nobody))) (λ _ k. k) refl) s.notes w.notes) in
        subst (λ (z : List Registrant). first_last (map (told u s.notes) z) ≡ latest (first_last z) (filter
        (of_unit u q n) s.notes)) (sym e)
        (sym (ap (latest None) quiet))
    at ys _ (inr (r, e)) =
        let mine_is : is_registrant q n r ≡ true = (subst (λ (z : List Registrant). AllByRecursion (λ
        (t : Registrant). is_registrant q n t ≡ true) z) e
        (each_passes (λ (t : Registrant). is_registrant q n t ≡ true) (is_registrant q n)
        (λ t k. k) s.registrants)).0 in
        let p = and_parts _ _ mine_is in
        let qq = eqb-true r.queue q p.0 in
        let nn : r.name ≡ n = (bytes_eq-Decides r.name n).0 p.1 in
        subst (λ (z : List Registrant). first_last (map (told u s.notes) z) ≡ latest (first_last z) (filter
        (of_unit u q n) s.notes)) (sym e)
        (ap (λ (z : ℕ). latest r.last (filter (of_unit u z r.name) s.notes)) qq
        ∙ ap (λ (z : List ℕ). latest r.last (filter (of_unit u q z) s.notes)) nn)

commit_knows : (q : ℕ) (n : List ℕ) (c d : ℕ → Bool) (s : State) (u : ℕ) → IsWellFormed s → c u ≡ true
    → ((v : ℕ) → (v == u) ≡ false → c v ≡ d v) → knows q n c s ≡ knows q n d (step s (Commit u))
commit_knows q n c d s u w cu same =
    let l = first_last (of_client q n s.registrants) in
    let b : Note → Bool = λ m. mine q n d m && not (m.unit == u) in
    sym (ap (λ z. latest z (filter (mine q n d) (closed_notes u s.notes))) (told_first q n s u w)
    ∙ ap (latest (latest l (filter (of_unit u q n) s.notes)))
    (filter_and (mine q n d) (λ m. not (m.unit == u)) s.notes)
    ∙ latest_both l (of_unit u q n) b s.notes w.notes_rise (λ m e. grind (arith, e))
    ∙ ap (latest l) (filter_same (λ m. of_unit u q n m || b m) (mine q n c) s.notes (each_of _ kinds s.notes)))
  where
    kinds : (m : Note) → (of_unit u q n m || (mine q n d m && not (m.unit == u))) ≡ mine q n c m
    kinds m = by_cases (m.unit == u) (λ t. (m.unit == u) ≡ t → ((t && is_note_of q n m) || (mine q n d m && not t))
        ≡ mine q n c m)
        (λ _ e. let k : c m.unit ≡ true = ap c (eqb-true m.unit u e) ∙ cu in
        grind (arith, k, cases_Bool (is_note_of q n m), cases_Bool (d m.unit)))
        (λ _ e. let k : c m.unit ≡ d m.unit = same m.unit e in
        grind (arith, k, cases_Bool (is_note_of q n m), cases_Bool (d m.unit))) refl

abort_knows : (q : ℕ) (n : List ℕ) (c d : ℕ → Bool) (s : State) (u : ℕ) → c u ≡ false
    → ((v : ℕ) → (v == u) ≡ false → c v ≡ d v) → knows q n c s ≡ knows q n d (step s (Abort u))
abort_knows q n c d s u cu same =
    ap (latest (first_last (of_client q n s.registrants)))
    (sym (filter_and (mine q n d) (λ m. not (m.unit == u)) s.notes
    ∙ filter_same (λ m. mine q n d m && not (m.unit == u)) (mine q n c) s.notes (each_of _ kinds s.notes)))
  where
    kinds : (m : Note) → (mine q n d m && not (m.unit == u)) ≡ mine q n c m
    kinds m = by_cases (m.unit == u) (λ t. (m.unit == u) ≡ t → (mine q n d m && not t) ≡ mine q n c m)
        (λ _ e. let k : c m.unit ≡ false = ap c (eqb-true m.unit u e) ∙ cu in
        grind (arith, k, cases_Bool (is_note_of q n m), cases_Bool (d m.unit)))
        (λ _ e. let k : c m.unit ≡ d m.unit = same m.unit e in
        grind (arith, k, cases_Bool (is_note_of q n m), cases_Bool (d m.unit))) refl

-- DEREGISTER

deregister_knows : (q : ℕ) (n : List ℕ) (c : ℕ → Bool) (s : State) (k : ℕ) (m : List ℕ) →
    ((k == q) && bytes_eq m n) ≡ false
    → knows q n c s ≡ knows q n c (step s (Deregister k m))
deregister_knows q n c s k m apart =
    ap (λ (z : List Registrant). latest (first_last z) (filter (mine q n c) s.notes))
    (sym (filter_absorb (is_registrant q n) (λ r. not (is_registrant k m r))
    (λ r e. apart_clients k q r.queue m n r.name apart e) s.registrants))
    ∙ ap (latest (first_last (of_client q n (deregistered k m s.registrants))))
    (sym (filter_absorb (mine q n c) (λ x. not (is_note_of k m x))
    (λ x e. apart_clients k q x.queue m n x.name apart (and_parts _ _ e).0) s.notes))

deregister_none : (q : ℕ) (n : List ℕ) (c : ℕ → Bool) (s : State) (k : ℕ) (m : List ℕ) → ((k == q) && bytes_eq m n)
    ≡ true
    → None ≡ knows q n c (step s (Deregister k m))
deregister_none q n c s k m same =
    sym (ap (λ (z : List Registrant). latest (first_last z) (filter (mine q n c) (unnoted k m s.notes)))
    (filter_gone (is_registrant q n) (is_registrant k m)
    (λ r e. same_clients k q r.queue m n r.name same e) s.registrants)
    ∙ ap (latest None) (filter_gone (mine q n c) (is_note_of k m)
    (λ x e. same_clients k q x.queue m n x.name same (and_parts _ _ e).0) s.notes))

abbrev kept_if : Bool → Option Last → Option Last
kept_if b l = if b then None else l

abbrev kept : ℕ → List ℕ → List Record → Option Last → Option Last
kept q n rs l = if list_any (deregisters q n) rs then None else l

none_of : (b : Bool) → kept_if b None ≡ None
none_of true = refl
none_of false = refl

none_kept : (q : ℕ) (n : List ℕ) (rs : List Record) → None ≡ kept q n rs None
none_kept q n rs = sym (none_of (list_any (deregisters q n) rs))

one : (q : ℕ) (n : List ℕ) (s : State) (r : Record) (rs : List Record) → IsWellFormed s
    → latest (known q n s (r ∷ rs)) (filter (is_heard q n (s.next + 1) rs) (operation s r)) ≡ known q n (step s r) rs
one q n s (Define limit error name) rs w = refl
one q n s (Begin u) rs w = refl
one q n s (Checkpoint bytes) rs w = refl
one q n s (Kill k i) rs w = refl
one q n s (Register k m) rs w = ap (λ z. kept q n rs (latest z (filter (mine q n (commits (s.next + 1) rs)) s.notes)))
    (register_first q n k m s.registrants w.registrants_rise)
one q n s (Deregister k m) rs w =
    by_cases ((k == q) && bytes_eq m n) (λ b. ((k == q) && bytes_eq m n) ≡ b
    → (if b || list_any (deregisters q n) rs then None else knows q n (commits (s.next + 1) rs) s) ≡ known q n
    (step s (Deregister k m)) rs)
    (λ _ e. none_kept q n rs ∙ ap (kept q n rs) (deregister_none q n (commits (s.next + 1) rs) s k m e))
    (λ _ e. ap (kept q n rs) (deregister_knows q n (commits (s.next + 1) rs) s k m e)) refl
one q n s (Enqueue u k priority by payload) rs w =
    operated q n (commits (s.next + 1) rs) (list_any (deregisters q n) rs) (first_last
    (of_client q n s.registrants)) s.notes
    (operation s (Enqueue u k priority by payload))
one q n s (Dequeue u k by) rs w =
    operated q n (commits (s.next + 1) rs) (list_any (deregisters q n) rs) (first_last
    (of_client q n s.registrants)) s.notes
    (operation s (Dequeue u k by))
one q n s (Commit u) rs w = ap (kept q n rs) (commit_knows q n (commits s.next (Commit u ∷ rs)) (commits (s.next
    + 1) rs) s u w
    (ap (λ b. is_committed (if b then Committed s.next else outcome_from (s.next + 1) u rs)) (eq-eqb u u refl))
    (λ v apart. grind (arith, nat_tests)))
one q n s (Abort u) rs w = ap (kept q n rs) (abort_knows q n (commits s.next (Abort u ∷ rs)) (commits (s.next
    + 1) rs) s u
    (ap (λ b. is_committed (if b then Aborted s.next else outcome_from (s.next + 1) u rs)) (eq-eqb u u refl))
    (λ v apart. grind (arith, nat_tests)))

-- At the end.

each_first : (rs : List Registrant) → Ordered (λ r t. registrant_before r t ≡ true) rs
    → AllByRecursion (λ (r : Registrant). r.last ≡ first_last (of_client r.queue r.name rs)) rs
each_first [] rise = tt
each_first (x ∷ xs) rise = (
  sym (ap (λ b. first_last (cond b (x ∷ of_client x.queue x.name xs) (of_client x.queue x.name xs)))
      (itself x.queue x.name x.last)),
  each_weaker (λ (r : Registrant). (r.last ≡ first_last (of_client r.queue r.name xs)) × (registrant_before x r
      ≡ true))
      (λ (r : Registrant). r.last ≡ first_last (of_client r.queue r.name (x ∷ xs)))
      (λ r y. by_cases (is_registrant r.queue r.name x) (λ b. is_registrant r.queue r.name x ≡ b
      → r.last ≡ first_last (cond b (x ∷ of_client r.queue r.name xs) (of_client r.queue r.name xs)))
      (λ _ e. absurd (same_key r.queue r.name x r e (itself r.queue r.name r.last) y.1)) (λ _ _. y.0) refl) xs
      (each_both _ _ xs (each_first xs rise.1) rise.0),
)

known_all : (version : Version) (s : State) (rs : List Record) → IsWellFormed s → all_lawful version s rs ≡ true
    → AllByRecursion (λ (r : Registrant). r.last ≡ latest (known r.queue r.name s rs) (hears r.queue r.name s rs))
    (run s rs).registrants
known_all version s [] w lawful = each_weaker _ _
    (λ r e. e ∙ sym (ap (latest (first_last (of_client r.queue r.name s.registrants)))
    (filter_none (λ m. is_note_of r.queue r.name m && false) s.notes
    (each_of _ (λ m. grind (arith, cases_Bool (is_note_of r.queue r.name m))) s.notes)))) s.registrants
    (each_first s.registrants w.registrants_rise)
known_all version s (r ∷ rs) w lawful =
    each_weaker _ _ (λ t e. e ∙ ap (λ z. latest z (hears t.queue t.name (step s r) rs)) (sym
    (one t.queue t.name s r rs w))
    ∙ sym (latest-append (known t.queue t.name s (r ∷ rs)) (filter (is_heard t.queue t.name (s.next + 1) rs)
    (operation s r))
    (hears t.queue t.name (step s r) rs))) (run s (r ∷ rs)).registrants
    (known_all version (step s r) rs (step_kept version s r (and_parts _ _ lawful).0 w) (and_parts _ _ lawful).1)

pub how_far : HowFar
how_far version rs lawful = each_weaker _ _ (λ t e. e ∙ ap (λ z. latest z (hears t.queue t.name empty rs))
    (nothing t)) (run empty rs).registrants
    (known_all version empty rs empty_is_well_formed lawful)
  where
    nothing : (t : Registrant) → known t.queue t.name empty rs ≡ None
    nothing t = by_cases (list_any (deregisters t.queue t.name) rs)
        (λ b. (if b then None else knows t.queue t.name (commits 0 rs) empty) ≡ None) (λ _. refl) (λ _. refl)
