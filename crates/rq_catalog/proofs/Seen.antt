-- Units in the order in which they began.
use Rattle.std.proofs.Common.{◌≡◌, ℕ, zero, suc, ◌+◌, ◌<◌, ◌≤◌, Bool, true, false, cond, ◌||◌, ◌&&◌, List, [], ◌∷◌}
use Rattle.std.proofs.Common.{◌++◌, length, map, refl, sym, ap, ◌∙◌, arith, take, get_or, append_assoc, Some, None}
use Rattle.std.specs.Prelude.{◌==◌, nat_eq, if◌then◌else◌}
use Rattle.std.specs.List.{filter, list_any, AllByRecursion}
use Rattle.std.proofs.lemmas.Bool.{and_parts, eq-eqb}
use Rattle.std.proofs.lemmas.List.{append-nil, map-append}
use Rattle.std.proofs.lemmas.List.Elements.{filter-append}
use Rattle.std.proofs.Math.Seq.{take-suc}
use Rattle.rq_model.specs.Records as model
use Rattle.rq_model.specs.Records.{Version}
use Rattle.rq_model.specs.States.{State}
use Rattle.rq_model.specs.Machine.{is_lawful, all_lawful, is_open, step, run, outcome_from}
use Rattle.rq_model.specs.WellFormed.{Ordered, IsWellFormed}
use Rattle.rq_model.specs.Laws.{begun, is_still_open}
use Rattle.rq_model.proofs.Lists.{filter_same, each_weaker, each_append}
use Rattle.rq_model.proofs.Numbers.{numbers_after}
use Rattle.rq_record.specs.declared.record.RecordOf.TheVariants.{Begin}
use Rattle.rq_record.specs.declared.record.UnitNo.{UnitNo}
use Rattle.rq_record.specs.Views.{Record, record_of}
use Rattle.rq_state.specs.Views.{unit_of}
use Rattle.rq_catalog.specs.declared.units.Outcome.TheVariants.{Open}
use Rattle.rq_catalog.specs.Catalogues.{begun_after}
use Rattle.rq_catalog.proofs.Runs.{any_filter, any_push, greatest_rises}

-- The units of a state.

each_get : (P : ℕ → Type 0) (us : List UnitNo) (i : ℕ) (u : UnitNo) → AllByRecursion P (map unit_of us) → i < length us
    → P (get_or us i u).0
each_get P [] i u h l = let no : ⊥ = omega (arith, l) in absurd no
each_get P (v ∷ us) zero u h l = h.0
each_get P (v ∷ us) (suc i) u h l = each_get P us i u h.1 (omega (arith, l))

pub below_next : (us : List UnitNo) (i : ℕ) (u : UnitNo) → Ordered (λ a b. a < b) (map unit_of us) → i < length us
    → AllByRecursion (λ v. v < (get_or us i u).0) (map unit_of (take i us))
below_next [] i u h l = let no : ⊥ = omega (arith, l) in absurd no
below_next (v ∷ us) zero u h l = tt
below_next (v ∷ us) (suc i) u h l =
    (each_get (λ w. v.0 < w) us i u h.0 (omega (arith, l)), below_next us i u h.1 (omega (arith, l)))

-- a turn of the loop over the units of a state
pub one_more : (us : List UnitNo) (i : ℕ) (u : UnitNo) → i < length us
    → map unit_of (take i us) ++ (get_or us i u).0 ∷ [] ≡ map unit_of (take (i + 1) us)
one_more us i u l = sym (ap (λ n. map unit_of (take n us)) (up i) ∙ ap (map unit_of) (take-suc us i u l)
    ∙ map-append unit_of (take i us) (get_or us i u ∷ []))
  where
    up : (n : ℕ) → n + 1 ≡ suc n
    up n = omega arith

pub one_open : (us : List ℕ) (n u : ℕ)
    → cond (nat_eq n u) (Some Open) (if list_any (λ v. v == u) us then Some Open else None)
    ≡ (if list_any (λ v. v == u) (us ++ n ∷ []) then Some Open else None)
one_open us n u = either (list_any (λ v. v == u) us) (n == u)
    ∙ ap (λ b. if b then Some Open else None) (sym (any_push (λ v. v == u) us n))
  where
    either : (a b : Bool) → cond b (Some Open) (if a then Some Open else None)
        ≡ (if a || b then Some Open else None)
    either true true = refl
    either false true = refl
    either true false = refl
    either false false = refl

-- a turn of the loop over the units of an analysis
pub open_more : (p : ℕ → Bool) (us done new : List ℕ) (i : ℕ) → i < length us → done ≡ filter p (take i us)
    → new ≡ (if p (get_or us i 0) then done ++ get_or us i 0 ∷ [] else done) → new ≡ filter p (take (i + 1) us)
open_more p us done new i l d n = n ∙ ap (λ k. if p (get_or us i 0) then k ++ get_or us i 0 ∷ [] else k) d
    ∙ one (p (get_or us i 0))
    ∙ sym (ap (λ n. filter p (take n us)) (up i) ∙ ap (filter p) (take-suc us i 0 l)
    ∙ filter-append p (take i us) (get_or us i 0 ∷ []))
  where
    up : (n : ℕ) → n + 1 ≡ suc n
    up n = omega arith

    one : (b : Bool) → (if b then filter p (take i us) ++ get_or us i 0 ∷ [] else filter p (take i us))
        ≡ filter p (take i us) ++ cond b (get_or us i 0 ∷ []) []
    one true = refl
    one false = sym (append-nil (filter p (take i us)))

-- The units of a run.

begun_push : (xs : List model.Record) (r : model.Record) → begun (xs ++ r ∷ []) ≡ begun xs ++ begun (r ∷ [])
begun_push [] r = refl
begun_push (model.Begin u ∷ xs) r = ap (λ l. u ∷ l) (begun_push xs r)
begun_push (model.Define limit error name ∷ xs) r = begun_push xs r
begun_push (model.Register q name ∷ xs) r = begun_push xs r
begun_push (model.Deregister q name ∷ xs) r = begun_push xs r
begun_push (model.Enqueue u q priority by payload ∷ xs) r = begun_push xs r
begun_push (model.Dequeue u q by ∷ xs) r = begun_push xs r
begun_push (model.Commit u ∷ xs) r = begun_push xs r
begun_push (model.Abort u ∷ xs) r = begun_push xs r
begun_push (model.Checkpoint bytes ∷ xs) r = begun_push xs r
begun_push (model.Kill q i ∷ xs) r = begun_push xs r

begun_below : (version : Version) (s : State) (xs : List model.Record) → all_lawful version s xs ≡ true
    → AllByRecursion (λ v. v ≤ (run s xs).greatest) (begun xs)
begun_below version s [] h = tt
begun_below version s (x ∷ xs) h =
    at x (and_parts (is_lawful version s x) (all_lawful version (step s x) xs) h).1
    (begun_below version (step s x) xs (and_parts (is_lawful version s x) (all_lawful version (step s x) xs) h).1)
  where
    at : (x : model.Record) → all_lawful version (step s x) xs ≡ true
        → AllByRecursion (λ v. v ≤ (run (step s x) xs).greatest) (begun xs)
        → AllByRecursion (λ v. v ≤ (run (step s x) xs).greatest) (begun (x ∷ xs))
    at (model.Begin u) l k = (greatest_rises version (step s (model.Begin u)) xs l, k)
    at (model.Define limit error name) l k = k
    at (model.Register q name) l k = k
    at (model.Deregister q name) l k = k
    at (model.Enqueue u q priority by payload) l k = k
    at (model.Dequeue u q by) l k = k
    at (model.Commit u) l k = k
    at (model.Abort u) l k = k
    at (model.Checkpoint bytes) l k = k
    at (model.Kill q i) l k = k

module _ (version : Version) (s : State) (xs : List model.Record) (well : IsWellFormed s)
    (lawful : all_lawful version s xs ≡ true) where
  pub seen_below : AllByRecursion (λ v. v ≤ (run s xs).greatest) (s.units ++ begun xs)
  seen_below = each_append (λ v. v ≤ (run s xs).greatest) s.units (begun xs)
      (each_weaker (λ v. (1 ≤ v) × (v ≤ s.greatest)) (λ v. v ≤ (run s xs).greatest)
      (λ v k. omega (arith, k.1, greatest_rises version s xs lawful)) s.units well.units)
      (begun_below version s xs lawful)

  -- the units that are open after the run are those begun that have no outcome yet
  units_here : (run s xs).units ≡ filter (λ u. is_still_open (outcome_from s.next u xs)) (s.units ++ begun xs)
  units_here = (numbers_after version s xs well lawful).units

  -- an open unit was begun
  pub open_seen : (u : ℕ) → is_open (run s xs) u ≡ true → list_any (λ v. v == u) (s.units ++ begun xs) ≡ true
  open_seen u h = (and_parts (list_any (λ v. v == u) (s.units ++ begun xs)) (is_still_open (outcome_from s.next u xs))
      (sym (any_filter (λ v. is_still_open (outcome_from s.next v xs)) u (s.units ++ begun xs))
      ∙ ap (list_any (λ v. v == u)) (sym units_here) ∙ h)).0

  -- those begun that are open, in their order, are the open units
  pub open_again : filter (λ u. is_open (run s xs) u) (s.units ++ begun xs) ≡ (run s xs).units
  open_again = ap (λ us. filter (λ u. list_any (λ v. v == u) us) (s.units ++ begun xs)) units_here
      ∙ again (λ u. is_still_open (outcome_from s.next u xs)) (s.units ++ begun xs) ∙ sym units_here
    where
      members : (l : List ℕ) → AllByRecursion (λ u. list_any (λ v. v == u) l ≡ true) l
      members [] = tt
      members (x ∷ l) = (
        ap (λ b. b || list_any (λ v. v == x) l) (eq-eqb x x refl),
        each_weaker (λ u. list_any (λ v. v == u) l ≡ true) (λ u. ((x == u) || list_any (λ v. v == u) l) ≡ true)
            (λ u h. or_right (x == u) (list_any (λ v. v == u) l) h) l (members l),
      )
        where
          or_right : (a b : Bool) → b ≡ true → (a || b) ≡ true
          or_right true b h = refl
          or_right false b h = h

      again : (p : ℕ → Bool) (l : List ℕ) → filter (λ u. list_any (λ v. v == u) (filter p l)) l ≡ filter p l
      again p l = filter_same (λ u. list_any (λ v. v == u) (filter p l)) p l
          (each_weaker (λ u. list_any (λ v. v == u) l ≡ true) (λ u. list_any (λ v. v == u) (filter p l) ≡ p u)
          (λ u h. any_filter p u l ∙ ap (λ b. b && p u) h) l (members l))

-- a record adds the unit that it begins
pub numbers_step : (s : State) (xs : List model.Record) (r : Record)
    → begun_after r (s.units ++ begun xs) ≡ s.units ++ begun (xs ++ record_of r ∷ [])
numbers_step s xs r = at r ∙ ap (λ l. s.units ++ l) (sym (begun_push xs (record_of r)))
  where
    same : s.units ++ begun xs ≡ s.units ++ (begun xs ++ [])
    same = ap (λ l. s.units ++ l) (sym (append-nil (begun xs)))

    at : (r : Record) → begun_after r (s.units ++ begun xs) ≡ s.units ++ (begun xs ++ begun (record_of r ∷ []))
    at (Begin unit) = append_assoc s.units (begun xs) (unit.0 ∷ [])
    at _ = same
