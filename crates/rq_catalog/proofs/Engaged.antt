-- The queues of a unit are kept while it is open.
use Rattle.std.proofs.Common.{◌≡◌, ℕ, ◌≤◌, ◌<◌, Bool, true, false, cond, not, ◌&&◌, ◌||◌, List, [], ◌∷◌, ◌++◌, refl}
use Rattle.std.proofs.Common.{sym, ap, ◌∙◌, subst, arith}
use Rattle.std.specs.Prelude.{◌==◌, nat_eq}
use Rattle.std.specs.List.{list_any, AllByRecursion}
use Rattle.std.proofs.lemmas.Bool.Decides.{nat_tests}
use Rattle.std.proofs.lemmas.Bool.{and_parts, eqb-true, ne_eqb, ltb-true, false≢true}
use Rattle.rq_model.specs.Records as model
use Rattle.rq_model.specs.Records.{Version}
use Rattle.rq_model.specs.States.{State, Element, Note, Mark, Free, Fresh, Held}
use Rattle.rq_model.specs.Machine as machine
use Rattle.rq_model.specs.Machine.{is_lawful, all_lawful, is_open, is_known, step, run}
use Rattle.rq_model.specs.Queues.{is_engaged, is_marked, engages}
use Rattle.rq_model.specs.WellFormed.{IsWellFormed, IsElement, IsNote, unit_is_open}
use Rattle.rq_model.proofs.Lists.{by_cases}
use Rattle.rq_model.proofs.Kept.{step_kept}
use Rattle.rq_record.specs.declared.record.RecordOf.TheVariants.{Begin, Enqueue, Dequeue, Commit, Abort}
use Rattle.rq_record.specs.Views.{Record, record_of}
use Rattle.rq_catalog.specs.Catalogues.{engaged_after}
use Rattle.rq_catalog.proofs.Runs.{any_push, any_filter, open_below, greatest_rises}

-- Booleans.

pub or_false : (a : Bool) → (a || false) ≡ a
or_false true = refl
or_false false = refl

pub and_false : (a : Bool) → (a && false) ≡ false
and_false true = refl
and_false false = refl

turn : (a b c : Bool) → (c || (a || b)) ≡ (a || (b || c))
turn true b true = refl
turn true b false = refl
turn false true true = refl
turn false true false = refl
turn false false true = refl
turn false false false = refl

-- one more engagement, of an open unit
engaged_more : (e p o a b : Bool) → (e ≡ true → o ≡ true)
    → ((e && p) || (o && (a || b))) ≡ (o && (a || (b || (e && p))))
engaged_more false p o a b h = ap (λ x. o && (a || x)) (sym (or_false b))
engaged_more true p true a b h = turn a b p
engaged_more true p false a b h = absurd (false≢true (h refl))

-- what is closed is not open
closed_more : (c o k : Bool) → cond c false (o && k) ≡ ((o && not c) && k)
closed_more true true k = refl
closed_more true false k = refl
closed_more false true k = refl
closed_more false false k = refl

-- a unit that is begun has engaged nothing
begun_more : (o b k : Bool) → (k ≡ true → b ≡ false) → (o && k) ≡ ((o || b) && k)
begun_more true b k h = refl
begun_more false b false h = sym (and_false b)
begun_more false b true h = sym (ap (λ c. c && true) (h refl))

-- Units that engaged a queue.

pub any_holds : {X : Type 0} (P : X → Type 0) (Q : Type 0) (p : X → Bool) → ((x : X) → p x ≡ true → P x → Q)
    → (xs : List X) → AllByRecursion P xs → list_any p xs ≡ true → Q
any_holds P Q p f [] k o = absurd (false≢true o)
any_holds P Q p f (x ∷ xs) k o = by_cases (p x) (λ b. p x ≡ b → (b || list_any p xs) ≡ true → Q) (λ _ e _. f x e k.0)
    (λ _ _ o. any_holds P Q p f xs k.1 o) refl o

marked_open : (s : State) (u : ℕ) (m : Mark) → is_marked u m ≡ true → unit_is_open s m → is_open s u ≡ true
marked_open s u Free h o = absurd (false≢true h)
marked_open s u (Fresh v) h o = subst (λ w. is_open s w ≡ true) (eqb-true v u h) o
marked_open s u (Held v) h o = subst (λ w. is_open s w ≡ true) (eqb-true v u h) o

-- at first they are open
pub open_at_first : (s : State) (q u : ℕ) → IsWellFormed s → is_engaged s q u ≡ true → is_open s u ≡ true
open_at_first s q u well h =
    by_cases (list_any (λ (e : Element). (e.home == q) && is_marked u e.mark) s.elements)
    (λ b. list_any (λ (e : Element). (e.home == q) && is_marked u e.mark) s.elements ≡ b
    → (b || list_any (λ (n : Note). (n.queue == q) && (n.unit == u)) s.notes) ≡ true → is_open s u ≡ true)
    (λ _ e _. any_holds (IsElement s) (is_open s u ≡ true) (λ (e : Element). (e.home == q) && is_marked u e.mark)
    (λ e p k. marked_open s u e.mark (and_parts (e.home == q) (is_marked u e.mark) p).1 k.unit) s.elements well.elements
    e)
    (λ _ _ o. any_holds (IsNote s) (is_open s u ≡ true) (λ (n : Note). (n.queue == q) && (n.unit == u))
    (λ n p k. subst (λ w. is_open s w ≡ true) (eqb-true n.unit u (and_parts (n.queue == q) (n.unit == u) p).1) k.unit)
    s.notes well.notes o)
    refl h

-- later they were begun
begun_later : (version : Version) (s : State) (xs : List model.Record) (q u : ℕ) → IsWellFormed s
    → all_lawful version s xs ≡ true → list_any (engages q u) xs ≡ true → u ≤ (run s xs).greatest
begun_later version s [] q u well lawful h = absurd (false≢true h)
begun_later version s (x ∷ xs) q u well lawful h =
    by_cases (engages q u x) (λ b. engages q u x ≡ b → (b || list_any (engages q u) xs) ≡ true
    → u ≤ (run (step s x) xs).greatest)
    (λ _ e _. at x e parts.0 (greatest_rises version s (x ∷ xs) lawful))
    (λ _ _ o. begun_later version (step s x) xs q u (step_kept version s x parts.0 well) parts.1 o) refl h
  where
    parts : (is_lawful version s x ≡ true) × (all_lawful version (step s x) xs ≡ true)
    parts = and_parts (is_lawful version s x) (all_lawful version (step s x) xs) lawful

    of_open : {n : ℕ} (v k : ℕ) (d w : Bool) → ((v == u) && (k == q)) ≡ true → (d && (is_open s v && w)) ≡ true
        → s.greatest ≤ n → u ≤ n
    of_open v k d w e l g =
        omega (
          arith,
          g,
          open_below v s.greatest s.units well.units
              (and_parts (is_open s v) w (and_parts d (is_open s v && w) l).1).0,
          eqb-true v u (and_parts (v == u) (k == q) e).0,
        )

    at : (x : model.Record) → engages q u x ≡ true → is_lawful version s x ≡ true
        → s.greatest ≤ (run s (x ∷ xs)).greatest → u ≤ (run s (x ∷ xs)).greatest
    at (model.Enqueue v k priority by payload) e l g = of_open v k (machine.is_defined s k) (is_known s k by) e l g
    at (model.Dequeue v k by) e l g = of_open v k (machine.is_defined s k) (is_known s k by) e l g
    at _ e l g = absurd (false≢true e)

engaged_begun : (version : Version) (s : State) (xs : List model.Record) (q u : ℕ) → IsWellFormed s
    → all_lawful version s xs ≡ true → (is_engaged s q u || list_any (engages q u) xs) ≡ true → u ≤ (run s xs).greatest
engaged_begun version s xs q u well lawful h =
    by_cases (is_engaged s q u) (λ b. is_engaged s q u ≡ b → (b || list_any (engages q u) xs) ≡ true
    → u ≤ (run s xs).greatest)
    (λ _ e _. omega (
      arith,
      greatest_rises version s xs lawful,
      open_below u s.greatest s.units well.units (open_at_first s q u well e),
    ))
    (λ _ _ o. begun_later version s xs q u well lawful o) refl h

-- the unit that is begun next has engaged nothing
begins_anew : (version : Version) (s : State) (xs : List model.Record) (q u v : ℕ) → IsWellFormed s
    → all_lawful version s xs ≡ true → (is_engaged s q u || list_any (engages q u) xs) ≡ true → (run s xs).greatest < v
    → (v == u) ≡ false
begins_anew version s xs q u v well lawful k g =
    ne_eqb v u (λ e. omega (arith, g, engaged_begun version s xs q u well lawful k, e))

-- A lawful record keeps the queues of the units that are open.

module _ (version : Version) (s : State) (xs : List model.Record) (u q : ℕ) (well : IsWellFormed s)
    (lawful : all_lawful version s xs ≡ true) where
  abbrev t : State
  t = run s xs

  abbrev a : Bool
  a = is_engaged s q u

  abbrev b : Bool
  b = list_any (engages q u) xs

  engaged_same : (is_open t u && (a || b)) ≡ (is_open t u && (a || (b || false)))
  engaged_same = ap (λ c. is_open t u && (a || c)) (sym (or_false b))

  engaged_by_open : (v k : ℕ) (d w : Bool) → (d && (is_open t v && w)) ≡ true
      → (((v == u) && (k == q)) || (is_open t u && (a || b))) ≡ (is_open t u && (a || (b || ((v == u) && (k == q)))))
  engaged_by_open v k d w l = engaged_more (v == u) (k == q) (is_open t u) a b
      (λ e. subst (λ x. is_open t x ≡ true) (eqb-true v u e)
      (and_parts (is_open t v) w (and_parts d (is_open t v && w) l).1).0)

  closed_unit : (v : ℕ) → cond (nat_eq v u) false (is_open t u && (a || b))
      ≡ (list_any (λ x. x == u) (machine.closed_units v t.units) && (a || (b || false)))
  closed_unit v = closed_more (v == u) (is_open t u) (a || b)
      ∙ ap (λ c. (is_open t u && not c) && (a || b)) (turned v u)
      ∙ ap (λ c. c && (a || b)) (sym (any_filter (λ x. not (x == v)) u t.units))
      ∙ ap (λ c. list_any (λ x. x == u) (machine.closed_units v t.units) && (a || c)) (sym (or_false b))
    where
      turned : (v u : ℕ) → (v == u) ≡ (u == v)
      turned v u = grind (arith, nat_tests)

  begun_unit : (v : ℕ) → is_lawful version t (model.Begin v) ≡ true
      → (is_open t u && (a || b)) ≡ (list_any (λ x. x == u) (t.units ++ v ∷ []) && (a || (b || false)))
  begun_unit v l = begun_more (is_open t u) (v == u) (a || b)
      (λ k. begins_anew version s xs q u v well lawful k (ltb-true t.greatest v l))
      ∙ ap (λ c. c && (a || b)) (sym (any_push (λ x. x == u) t.units v))
      ∙ ap (λ c. list_any (λ x. x == u) (t.units ++ v ∷ []) && (a || c)) (sym (or_false b))

  engaged_at : (r : Record) → is_lawful version t (record_of r) ≡ true
      → engaged_after r u q (is_open t u && (a || b))
      ≡ (is_open (step t (record_of r)) u && (a || (b || engages q u (record_of r))))
  engaged_at (Enqueue priority queue unit by payload) l =
      engaged_by_open unit.0 queue.0 (machine.is_defined t queue.0) (is_known t queue.0 by) l
  engaged_at (Dequeue unit queue by) l =
      engaged_by_open unit.0 queue.0 (machine.is_defined t queue.0) (is_known t queue.0 by) l
  engaged_at (Begin unit) l = begun_unit unit.0 l
  engaged_at (Commit unit) l = closed_unit unit.0
  engaged_at (Abort unit) l = closed_unit unit.0
  engaged_at _ l = engaged_same

pub engaged_step : (version : Version) (s : State) (xs : List model.Record) (r : Record) (u q : ℕ) → IsWellFormed s
    → all_lawful version s xs ≡ true → is_lawful version (run s xs) (record_of r) ≡ true
    → engaged_after r u q (is_open (run s xs) u && (is_engaged s q u || list_any (engages q u) xs))
    ≡ (is_open (step (run s xs) (record_of r)) u
    && (is_engaged s q u || list_any (engages q u) (xs ++ record_of r ∷ [])))
engaged_step version s xs r u q well lawful ok = engaged_at version s xs u q well lawful r ok
    ∙ ap (λ b. is_open (step (run s xs) (record_of r)) u && (is_engaged s q u || b))
    (sym (any_push (engages q u) xs (record_of r)))
