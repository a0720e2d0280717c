-- What a record changes in the grounds of judgement; the registrants of one queue leave those of the others.
use Rattle.std.proofs.Common.{◌≡◌, ℕ, zero, suc, ◌<◌, Bool, true, false, cond, ◌&&◌, List, [], ◌∷◌, length, refl, sym}
use Rattle.std.proofs.Common.{ap, ◌∙◌, subst, arith, slice_set, not, ◌||◌, ◌++◌, None}
use Rattle.std.specs.Prelude.{nat_eq, slice_index_or, Result, Ok, Err, IfErr, ◌==◌, if◌then◌else◌, OnOk}
use Rattle.std.specs.List.{list_any, filter}
use Rattle.std.specs.Ordering.{nat_cmp}
use Rattle.std.specs.Cmp.Lexicographic.{pointwise, slice_cmp}
use Rattle.std.specs.BTreeMap.{is_at}
use Rattle.std.specs.BTreeSet as ordered
use Rattle.std.specs.BTreeSet.{BTreeSet}
use Rattle.std.proofs.lemmas.Bool.{eqb-true, eqb-false, cases_Bool, and_parts, and_from, eq-eqb, false≢true}
use Rattle.std.proofs.lemmas.Map.Text.{is_eq-slice_cmp}
use Rattle.rq_model.proofs.Lists.{by_cases}
use Rattle.rq_catalog.specs.Grounds.{key_eq, names_with, is_on_roll, is_registered_in, AreGroundsOf}
use Rattle.std.specs.Str.{bytes_eq}
use Rattle.indexmap.specs.IndexSet.{contains}
use Rattle.std.proofs.lemmas.Slice.Eq.{bytes_eq-Decides}
use Rattle.rq_model.specs.Records as model
use Rattle.rq_model.specs.States.{State, Definition, Registrant, is_registrant, put, registrant_before}
use Rattle.rq_model.specs.Machine as machine
use Rattle.rq_model.specs.Machine.{closed_units, step}
use Rattle.rq_model.proofs.WellFormedRuns.{any_put}
use Rattle.rq_model.proofs.Decided.{any_map}
use Rattle.rq_model.proofs.Parts.{any_filter}
use Rattle.rq_record.specs.declared.record.RecordOf.TheVariants.{Define, Register, Deregister, Begin, Commit, Abort}
use Rattle.rq_record.specs.declared.record.QueueNo.{QueueNo}
use Rattle.rq_record.specs.declared.record.UnitNo.{UnitNo}
use Rattle.rq_record.specs.Views.{Record, record_of}
use Rattle.rq_catalog.specs.declared.grounds.Grounds.{Grounds}
use Rattle.rq_catalog.proofs.Runs.{any_push}

abbrev Sets : Type 0
Sets = List (BTreeSet (List ℕ))

at_set : (sets : Sets) (i : ℕ) (t : BTreeSet (List ℕ)) → i < length sets → names_with (slice_set sets i t) i ≡ t.keys
at_set [] i t lt = let no : ⊥ = omega (arith, lt) in absurd no
at_set (s ∷ sets) zero t lt = refl
at_set (s ∷ sets) (suc i) t lt = at_set sets i t (omega (arith, lt))

elsewhere : (sets : Sets) (i q : ℕ) (t : BTreeSet (List ℕ)) → (i ≡ q → ⊥)
    → names_with (slice_set sets i t) q ≡ names_with sets q
elsewhere [] i q t differ = refl
elsewhere (s ∷ sets) zero zero t differ = absurd (differ refl)
elsewhere (s ∷ sets) zero (suc q) t differ = refl
elsewhere (s ∷ sets) (suc i) zero t differ = refl
elsewhere (s ∷ sets) (suc i) (suc q) t differ = elsewhere sets i q t (λ e. differ (ap suc e))

set_at : (sets : Sets) (i : ℕ) (s d : BTreeSet (List ℕ)) → i < length sets → s ≡ slice_index_or sets i d
    → names_with sets i ≡ s.keys
set_at [] i s d lt e = let no : ⊥ = omega (arith, lt) in absurd no
set_at (t ∷ sets) zero s d lt e = ap (λ (u : BTreeSet (List ℕ)). u.keys) (sym e)
set_at (t ∷ sets) (suc i) s d lt e = set_at sets i s d (omega (arith, lt)) e

-- one queue's set is changed at one name
pub changed : (sets : Sets) (i : ℕ) (s d t : BTreeSet (List ℕ)) (name : List ℕ) (b : Bool) → i < length sets
    → s ≡ slice_index_or sets i d
    → ((m : List ℕ) → ordered.contains (slice_cmp nat_cmp) t m
    ≡ cond (is_at (slice_cmp nat_cmp name) m) b (ordered.contains (slice_cmp nat_cmp) s m))
    → (k : ℕ × List ℕ) → is_on_roll (slice_set sets i t) k ≡ cond (key_eq (i, name) k) b (is_on_roll sets k)
changed sets i s d t name b lt here more k =
    by_cases (nat_eq i k.0)
    (λ c. nat_eq i k.0 ≡ c
    → is_on_roll (slice_set sets i t) k ≡ cond (c && pointwise nat_eq name k.1) b (is_on_roll sets k))
    (λ _ e. let is : i ≡ k.0 = eqb-true i k.0 e in
    subst (λ q. list_any (is_at (slice_cmp nat_cmp k.1)) (names_with (slice_set sets i t) q)
    ≡ cond (pointwise nat_eq name k.1) b (list_any (is_at (slice_cmp nat_cmp k.1)) (names_with sets q))) is
    (ap (list_any (is_at (slice_cmp nat_cmp k.1))) (at_set sets i t lt) ∙ more k.1
    ∙ (λ j. cond (is_eq-slice_cmp name k.1 j) b
    (list_any (is_at (slice_cmp nat_cmp k.1)) (sym (set_at sets i s d lt here) j)))))
    (λ _ e. ap (list_any (is_at (slice_cmp nat_cmp k.1))) (elsewhere sets i k.0 t (eqb-false i k.0 e))) refl

-- a set that has the same names
pub same_names : (sets : Sets) (i : ℕ) (s d t : BTreeSet (List ℕ)) → i < length sets → s ≡ slice_index_or sets i d
    → t.keys ≡ s.keys → (k : ℕ × List ℕ) → is_on_roll (slice_set sets i t) k ≡ is_on_roll sets k
same_names sets i s d t lt here same k =
    by_cases (nat_eq i k.0) (λ c. nat_eq i k.0 ≡ c → is_on_roll (slice_set sets i t) k ≡ is_on_roll sets k)
    (λ _ e. ap (list_any (is_at (slice_cmp nat_cmp k.1)))
    (subst (λ q. names_with (slice_set sets i t) q ≡ names_with sets q) (eqb-true i k.0 e)
    (at_set sets i t lt ∙ same ∙ sym (set_at sets i s d lt here))))
    (λ _ e. ap (list_any (is_at (slice_cmp nat_cmp k.1))) (elsewhere sets i k.0 t (eqb-false i k.0 e))) refl

-- nobody is registered with a queue that is not reached
pub beyond : (sets : Sets) (queue : ℕ) (name : List ℕ) → (queue < length sets → ⊥) → (k : ℕ × List ℕ)
    → is_on_roll sets k ≡ cond (key_eq (queue, name) k) false (is_on_roll sets k)
beyond sets queue name far k =
    by_cases (nat_eq queue k.0)
    (λ c. nat_eq queue k.0 ≡ c → is_on_roll sets k ≡ cond (c && pointwise nat_eq name k.1) false (is_on_roll sets k))
    (λ _ e. nothing (pointwise nat_eq name k.1) (ap (list_any (is_at (slice_cmp nat_cmp k.1)))
    (subst (λ q. names_with sets q ≡ []) (eqb-true queue k.0 e) (none sets queue far)))) (λ _ _. refl) refl
  where
    none : (sets : Sets) (q : ℕ) → (q < length sets → ⊥) → names_with sets q ≡ []
    none [] q far = refl
    none (s ∷ sets) zero far = absurd (far (omega arith))
    none (s ∷ sets) (suc q) far = none sets q (λ h. far (omega (arith, h)))

    nothing : {b : Bool} (c : Bool) → b ≡ false → b ≡ cond c false b
    nothing true e = e
    nothing false e = refl

-- what holds whatever the answer is
pub if_err : {T E : Type 0} (P : Type 0) (r : Result T E) → P → IfErr r (λ e. P)
if_err P (Ok x) p = tt
if_err P (Err e) p = p

cond_or : (a b : Bool) → cond b true a ≡ (a || b)
cond_or true true = refl
cond_or false true = refl
cond_or true false = refl
cond_or false false = refl

cond_or_first : (a b : Bool) → cond b true a ≡ (b || a)
cond_or_first a true = refl
cond_or_first a false = refl

module _ (q : ℕ) (n : List ℕ) (k : ℕ × List ℕ) where
  key_parts : key_eq (q, n) k ≡ true → (q ≡ k.0) × (n ≡ k.1)
  key_parts h = let p = and_parts (nat_eq q k.0) (pointwise nat_eq n k.1) h in
      (eqb-true q k.0 p.0, (bytes_eq-Decides n k.1).0 p.1)

  -- a registrant of both keys
  same_key : (r : Registrant) → is_registrant q n r ≡ true → is_registrant k.0 k.1 r ≡ true → key_eq (q, n) k ≡ true
  same_key r a b =
      let x = and_parts (r.queue == q) (bytes_eq r.name n) a in
      let y = and_parts (r.queue == k.0) (bytes_eq r.name k.1) b in
      and_from (nat_eq q k.0) (pointwise nat_eq n k.1)
      (eq-eqb q k.0 (sym (eqb-true r.queue q x.0) ∙ eqb-true r.queue k.0 y.0))
      ((bytes_eq-Decides n k.1).1 (sym ((bytes_eq-Decides r.name n).0 x.1) ∙ (bytes_eq-Decides r.name k.1).0 y.1))

  deregistered_step : (rs : List Registrant) → cond (key_eq (q, n) k) false (list_any (is_registrant k.0 k.1) rs)
      ≡ list_any (is_registrant k.0 k.1) (filter (λ r. not (is_registrant q n r)) rs)
  deregistered_step rs = by_cases (key_eq (q, n) k)
      (λ b. key_eq (q, n) k ≡ b → cond b false (list_any (is_registrant k.0 k.1) rs)
      ≡ list_any (is_registrant k.0 k.1) (filter (λ r. not (is_registrant q n r)) rs))
      (λ _ e. sym (gone (key_parts e) rs))
      (λ _ e. sym (any_filter (is_registrant k.0 k.1) (λ r. not (is_registrant q n r))
      (λ r p. ap not (other e r p)) rs)) refl
    where
      other : key_eq (q, n) k ≡ false → (r : Registrant) → is_registrant k.0 k.1 r ≡ true → is_registrant q n r ≡ false
      other e r p = by_cases (is_registrant q n r) (λ b. is_registrant q n r ≡ b → b ≡ false)
          (λ _ h. absurd (false≢true (sym e ∙ same_key r h p))) (λ _ _. refl) refl

      gone : (q ≡ k.0) × (n ≡ k.1) → (rs : List Registrant)
          → list_any (is_registrant k.0 k.1) (filter (λ r. not (is_registrant q n r)) rs) ≡ false
      gone e rs = ap (λ l. l)
          (subst (λ m. list_any (is_registrant k.0 m) (filter (λ r. not (is_registrant q n r)) rs) ≡ false) e.1
          (subst (λ p. list_any (is_registrant p n) (filter (λ r. not (is_registrant q n r)) rs) ≡ false) e.0
          (none (is_registrant q n) rs)))
        where
          none : (p : Registrant → Bool) (rs : List Registrant) → list_any p (filter (λ r. not (p r)) rs) ≡ false
          none p [] = refl
          none p (r ∷ rs) = grind (arith, none p rs, cases_Bool (p r))

  registered_step : (rs : List Registrant) → cond (key_eq (q, n) k) true (list_any (is_registrant k.0 k.1) rs)
      ≡ list_any (is_registrant k.0 k.1) (machine.registered q n rs)
  registered_step rs =
      by_cases (list_any (is_registrant q n) rs)
      (λ b. list_any (is_registrant q n) rs ≡ b → cond (key_eq (q, n) k) true (list_any (is_registrant k.0 k.1) rs)
      ≡ list_any (is_registrant k.0 k.1)
      (if b then rs else put registrant_before (record { queue = q; name = n; last = None }) rs))
      (λ _ e. by_cases (key_eq (q, n) k)
      (λ b. key_eq (q, n) k ≡ b → cond b true (list_any (is_registrant k.0 k.1) rs)
      ≡ list_any (is_registrant k.0 k.1) rs)
      (λ _ h. let p = key_parts h in
      sym (subst (λ m. list_any (is_registrant k.0 m) rs ≡ true) p.1
      (subst (λ l. list_any (is_registrant l n) rs ≡ true) p.0 e))) (λ _ _. refl) refl)
      (λ _ _. cond_or_first (list_any (is_registrant k.0 k.1) rs) (key_eq (q, n) k)
      ∙ sym (any_put (is_registrant k.0 k.1) registrant_before (record { queue = q; name = n; last = None }) rs))
      refl

-- the names with one more
pub name_more : (ds : List Definition) (d : Definition) (n : List ℕ) (old new : Bool)
    → old ≡ list_any (λ (e : Definition). bytes_eq e.name n) ds → new ≡ cond (pointwise nat_eq d.name n) true old
    → new ≡ list_any (λ (e : Definition). bytes_eq e.name n) (ds ++ d ∷ [])
name_more ds d n old new before after =
    after ∙ ap (cond (pointwise nat_eq d.name n) true) before
    ∙ cond_or (list_any (λ (e : Definition). bytes_eq e.name n) ds) (bytes_eq d.name n)
    ∙ sym (any_push (λ (e : Definition). bytes_eq e.name n) ds d)

module _ (g h : Grounds) (s : State) (knows : AreGroundsOf g s) where
  pub defined : (limit error : ℕ) (name : List ℕ) → h ≡ record g { definitions = h.definitions; names = h.names }
      → h.definitions.items ≡ g.definitions.items ++ record { limit = limit; error = error; name = name } ∷ []
      → ((n : List ℕ) → contains (pointwise nat_eq) h.names n
      ≡ cond (pointwise nat_eq name n) true (contains (pointwise nat_eq) g.names n))
      → AreGroundsOf h (step s (model.Define limit error name))
  defined limit error name frame definitions names = record {
    definitions = definitions
        ∙ ap (λ l. l ++ record { limit = limit; error = error; name = name } ∷ []) knows.definitions;
    names = λ n. name_more s.definitions (record { limit = limit; error = error; name = name }) n _ _
        (knows.names n) (names n);
    registrants = λ k. ap (λ (f : Grounds). is_registered_in f.registrants k) frame ∙ knows.registrants k;
    greatest = ap (λ (f : Grounds). f.greatest) frame ∙ knows.greatest;
  }

  pub registers : (queue : ℕ) (name : List ℕ) → h ≡ record g { registrants = h.registrants }
      → ((k : ℕ × List ℕ) → is_registered_in h.registrants k
      ≡ cond (key_eq (queue, name) k) true (is_registered_in g.registrants k))
      → AreGroundsOf h (step s (model.Register queue name))
  registers queue name frame more = record {
    definitions = ap (λ (f : Grounds). f.definitions.items) frame ∙ knows.definitions;
    names = λ n. ap (λ (f : Grounds). contains (pointwise nat_eq) f.names n) frame ∙ knows.names n;
    registrants = λ k. more k ∙ ap (cond (key_eq (queue, name) k) true) (knows.registrants k)
        ∙ registered_step queue name k s.registrants;
    greatest = ap (λ (f : Grounds). f.greatest) frame ∙ knows.greatest;
  }

  pub deregisters : (queue : ℕ) (name : List ℕ) → h ≡ record g { registrants = h.registrants }
      → ((k : ℕ × List ℕ) → is_registered_in h.registrants k
      ≡ cond (key_eq (queue, name) k) false (is_registered_in g.registrants k))
      → AreGroundsOf h (step s (model.Deregister queue name))
  deregisters queue name frame less = record {
    definitions = ap (λ (f : Grounds). f.definitions.items) frame ∙ knows.definitions;
    names = λ n. ap (λ (f : Grounds). contains (pointwise nat_eq) f.names n) frame ∙ knows.names n;
    registrants = λ k. less k ∙ ap (cond (key_eq (queue, name) k) false) (knows.registrants k)
        ∙ deregistered_step queue name k s.registrants;
    greatest = ap (λ (f : Grounds). f.greatest) frame ∙ knows.greatest;
  }

-- a COMMIT tells registrants, and leaves who they are
pub commits : (g : Grounds) (s : State) (unit : ℕ) → AreGroundsOf g s → AreGroundsOf g (step s (model.Commit unit))
commits g s unit knows = record {
  definitions = knows.definitions;
  names = knows.names;
  registrants = λ k. knows.registrants k
      ∙ sym (any_map (machine.told unit s.notes) (is_registrant k.0 k.1) s.registrants);
  greatest = knows.greatest;
}

-- an ABORT changes none of this
pub aborts : (g : Grounds) (s : State) (unit : ℕ) → AreGroundsOf g s → AreGroundsOf g (step s (model.Abort unit))
aborts g s unit k =
    record { definitions = k.definitions; names = k.names; registrants = k.registrants; greatest = k.greatest }

-- nor do other records than these
pub quiet : (g : Grounds) (s : State) (r : Record)
    → ((limit : ℕ) (error : QueueNo) (name : List ℕ) → r ≡ Define limit error name → ⊥)
    → ((queue : QueueNo) (name : List ℕ) → r ≡ Register queue name → ⊥)
    → ((queue : QueueNo) (name : List ℕ) → r ≡ Deregister queue name → ⊥)
    → ((unit : UnitNo) → r ≡ Begin unit → ⊥) → AreGroundsOf g s → AreGroundsOf g (step s (record_of r))
quiet g s (Define limit error name) define register deregister begin k = absurd (define limit error name refl)
quiet g s (Register queue name) define register deregister begin k = absurd (register queue name refl)
quiet g s (Deregister queue name) define register deregister begin k = absurd (deregister queue name refl)
quiet g s (Begin unit) define register deregister begin k = absurd (begin unit refl)
quiet g s (Commit unit) define register deregister begin k = commits g s unit.0 k
quiet g s (Abort unit) define register deregister begin k = aborts g s unit.0 k
quiet g s _ define register deregister begin k =
    record { definitions = k.definitions; names = k.names; registrants = k.registrants; greatest = k.greatest }

-- a unit that is closed is open no more, and the others are as before
pub closed_step : (unit u : ℕ) (units : List ℕ) → cond (nat_eq unit u) false (list_any (λ v. v == u) units)
    ≡ list_any (λ v. v == u) (closed_units unit units)
closed_step unit u [] = by_cases (nat_eq unit u) (λ b. cond b false false ≡ false) (λ _. refl) (λ _. refl)
closed_step unit u (v ∷ units) =
    grind (
      arith,
      closed_step unit u units,
      eqb-true unit u,
      eqb-true v u,
      eqb-true v unit,
      cases_Bool (nat_eq unit u),
      cases_Bool (v == u),
      cases_Bool (v == unit),
    )

-- a record that neither begins nor ends a unit
pub same_units : (s : State) (r : Record) → ((unit : UnitNo) → r ≡ Begin unit → ⊥)
    → ((unit : UnitNo) → r ≡ Commit unit → ⊥) → ((unit : UnitNo) → r ≡ Abort unit → ⊥)
    → s.units ≡ (step s (record_of r)).units
same_units s (Begin unit) begin commit abort = absurd (begin unit refl)
same_units s (Commit unit) begin commit abort = absurd (commit unit refl)
same_units s (Abort unit) begin commit abort = absurd (abort unit refl)
same_units s _ begin commit abort = refl

-- what follows if there is no error, and if there is one
pub on_ok : {T E A B : Type 0} (r : Result T E) → (A → B) → OnOk r A → OnOk r B
on_ok (Ok x) f a = f a
on_ok (Err e) f a = a

pub on_err : {T E A B : Type 0} (r : Result T E) → (A → B) → IfErr r (λ e. A) → IfErr r (λ e. B)
on_err (Ok x) f a = a
on_err (Err e) f a = f a
