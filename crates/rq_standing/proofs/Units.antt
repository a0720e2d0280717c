-- The open units go along with the state, whose elements and notes name their queues.
use Rattle.std.proofs.Common.{◌≡◌, ℕ, ◌<◌, ◌≤◌, Bool, true, false, cond, not, ◌&&◌, ◌||◌, ◌++◌, List, [], ◌∷◌, Some}
use Rattle.std.proofs.Common.{None, refl, sym, ap, ◌∙◌, subst, arith}
use Rattle.std.specs.Prelude.{◌==◌, nat_lt, if◌then◌else◌}
use Rattle.std.specs.List.{list_any, AllByRecursion}
use Rattle.std.specs.Ordering.{nat_cmp, is_eq}
use Rattle.std.specs.declared.cmp.Ordering.TheVariants.{Less}
use Rattle.std.specs.List.Sorted.{IsStrictlySortedBy}
use Rattle.std.specs.BTreeMap.{keys, is_at, IsOrdered}
use Rattle.std.specs.BTreeSet.{BTreeSet}
use Rattle.std.proofs.lemmas.Cmp.{nat_cmp_total}
use Rattle.std.proofs.lemmas.Map.Lookups.{btree_set_from_contains, exact_unsigned}
use Rattle.std.proofs.lemmas.Map.Made.{is_some-lookup}
use Rattle.std.proofs.lemmas.Bool.{and_parts, false≢true, ltb-true, eqb-true}
use Rattle.rq_model.specs.Records.{Record, Begin, Enqueue, Dequeue, Version}
use Rattle.rq_model.specs.States.{State}
use Rattle.rq_model.specs.WellFormed.{IsWellFormed, Ordered}
use Rattle.rq_model.specs.Machine.{is_open, is_lawful, closed_units, step}
use Rattle.rq_model.specs.Queues.{is_engaged, engages}
use Rattle.rq_model.specs.StepLaws.{StepByParts}
use Rattle.rq_model.proofs.Lists.{by_cases, each_weaker}
use Rattle.rq_standing.specs.Stands.{queue_named, unit_named}
use Rattle.rq_standing.specs.Units.{AreUnits, has_open, queues_of, engages_in}
use Rattle.rq_standing.specs.declared.open_units.OpenUnits.{OpenUnits}
use Rattle.rq_catalog.specs.Units.{is_marked_at, is_noted_at}

or_nothing : (b : Bool) → (b || false) ≡ b
or_nothing true = refl
or_nothing false = refl

pub any_both : (p : ℕ → Bool) (xs ys : List ℕ) → list_any p (xs ++ ys) ≡ (list_any p xs || list_any p ys)
any_both p [] ys = refl
any_both p (x ∷ xs) ys = ap (λ b. p x || b) (any_both p xs ys) ∙ or_joined (p x) (list_any p xs) (list_any p ys)
  where
    or_joined : (a b c : Bool) → (a || (b || c)) ≡ ((a || b) || c)
    or_joined true b c = refl
    or_joined false b c = refl

same_unit : (unit u : ℕ) → (unit == u) ≡ true → is_eq (nat_cmp unit u) ≡ true
same_unit unit u h = grind (arith, h)

other_unit : (unit u : ℕ) → (unit == u) ≡ false → is_eq (nat_cmp unit u) ≡ false
other_unit unit u h = grind (arith, h)

-- the units are as they were, with the queues that they were filed with
pub same_number : (unit u : ℕ) → is_eq (nat_cmp unit u) ≡ (unit == u)
same_number unit u = by_cases (unit == u) (λ b. (unit == u) ≡ b → is_eq (nat_cmp unit u) ≡ b)
    (λ _ t. same_unit unit u t) (λ _ f. other_unit unit u f) refl

-- Operations.

engages_none : (r : Record) → unit_named r ≡ None → (q u : ℕ) → engages q u r ≡ false
engages_none (Enqueue unit k priority by payload) e q u = absurd (let no : ⊥ = grind (arith, e) in no)
engages_none (Dequeue unit k by) e q u = absurd (let no : ⊥ = grind (arith, e) in no)
engages_none _ e q u = refl

same_some : (a b : ℕ) → Some a ≡ Some b → a ≡ b
same_some a b e = grind (arith, e)

-- an operation engages its unit, which is open, in its queue
pub record IsOperation (r : Record) (unit queue : ℕ) : Type 0 where
  pub engages : (q u : ℕ) → engages q u r ≡ ((unit == u) && (queue == q))
  pub opened : (version : Version) (s : State) → is_lawful version s r ≡ true → is_open s unit ≡ true

pub operation : (r : Record) (unit queue : ℕ) → unit_named r ≡ Some unit → queue_named r ≡ Some queue → IsOperation r unit queue
operation (Enqueue v k priority by payload) unit queue e f = record {
  engages = λ q u. ap (λ n. (n == u) && (k == q)) (same_some v unit e) ∙ ap (λ n. (unit == u) && (n == q)) (same_some k queue f);
  opened = λ version s h. subst (λ n. is_open s n ≡ true) (same_some v unit e) (and_parts _ _ (and_parts _ _ h).1).0;
}
operation (Dequeue v k by) unit queue e f = record {
  engages = λ q u. ap (λ n. (n == u) && (k == q)) (same_some v unit e) ∙ ap (λ n. (unit == u) && (n == q)) (same_some k queue f);
  opened = λ version s h. subst (λ n. is_open s n ≡ true) (same_some v unit e) (and_parts _ _ (and_parts _ _ h).1).0;
}
operation _ unit queue e f = absurd (let no : ⊥ = grind (arith, e) in no)

-- who engaged a queue before a record that engages none
engaged_before : StepByParts → (s : State) (r : Record) → ((q u : ℕ) → engages q u r ≡ false) → (q u : ℕ)
    → is_engaged (step s r) q u ≡ true → is_engaged s q u ≡ true
engaged_before law s r nobody q u now = sym (or_nothing (is_engaged s q u))
    ∙ ap (λ b. is_engaged s q u || (b || false)) (sym (nobody q u)) ∙ law.engages s r q u now

-- a record that is no operation, and neither begins nor ends a unit
pub units_same : StepByParts → (s : State) (r : Record) (x : OpenUnits) → (step s r).units ≡ s.units → unit_named r ≡ None
    → AreUnits x s → AreUnits x (step s r)
units_same law s r x same nobody are = record {
  opened = λ u. are.opened u ∙ ap (list_any (λ v. v == u)) (sym same);
  engaged = λ u q now. are.engaged u q (engaged_before law s r (engages_none r nobody) q u now);
}

engaged_more : (x y : OpenUnits) (unit queue u q : ℕ) → has_open x unit ≡ true
    → engages_in y u q ≡ ((has_open x u && ((queue == q) && (unit == u))) || engages_in x u q)
    → (before : Bool) → (before ≡ true → engages_in x u q ≡ true)
    → (before || (((unit == u) && (queue == q)) || false)) ≡ true → engages_in y u q ≡ true
engaged_more x y unit queue u q here more true had h =
    more ∙ ap (λ b. (has_open x u && ((queue == q) && (unit == u))) || b) (had refl)
    ∙ or_true (has_open x u && ((queue == q) && (unit == u)))
  where
    or_true : (b : Bool) → (b || true) ≡ true
    or_true true = refl
    or_true false = refl
engaged_more x y unit queue u q here more false had h =
    let both = and_parts (unit == u) (queue == q) (sym (or_nothing ((unit == u) && (queue == q))) ∙ h) in
    more
    ∙ ap (λ b. (b && ((queue == q) && (unit == u))) || engages_in x u q)
    (subst (λ n. has_open x n ≡ true) (eqb-true unit u both.0) here)
    ∙ ap (λ b. (true && (b && (unit == u))) || engages_in x u q) both.1
    ∙ ap (λ b. (true && (true && b)) || engages_in x u q) both.0

-- an operation of a unit that is open
pub units_engaged : StepByParts → (s : State) (r : Record) (unit queue : ℕ) (x y : OpenUnits) → (step s r).units ≡ s.units
    → IsOperation r unit queue → is_open s unit ≡ true → ((u : ℕ) → has_open y u ≡ has_open x u)
    → ((u q : ℕ) → engages_in y u q ≡ ((has_open x u && ((queue == q) && (unit == u))) || engages_in x u q))
    → AreUnits x s → AreUnits y (step s r)
units_engaged law s r unit queue x y same it here opened more are = record {
  opened = λ u. opened u ∙ are.opened u ∙ ap (list_any (λ v. v == u)) (sym same);
  engaged = λ u q now. engaged_more x y unit queue u q (are.opened unit ∙ here) (more u q) (is_engaged s q u)
      (are.engaged u q)
      (ap (λ b. is_engaged s q u || (b || false)) (sym (it.engages q u)) ∙ law.engages s r q u now);
}

-- A unit begins.

apart : (u unit g : ℕ) → u ≤ g → g < unit → (u == unit) ≡ false
apart u unit g a b = grind (arith, a, b)

none_is : (unit g : ℕ) → g < unit → (us : List ℕ) → AllByRecursion (λ u. (1 ≤ u) × (u ≤ g)) us
    → list_any (λ v. v == unit) us ≡ false
none_is unit g l [] h = refl
none_is unit g l (u ∷ us) h =
    ap (λ b. b || list_any (λ v. v == unit) us) (apart u unit g h.0.1 l) ∙ none_is unit g l us h.1

begun_open : (unit u : ℕ) (us : List ℕ)
    → (if is_eq (nat_cmp unit u) then true else list_any (λ v. v == u) us) ≡ list_any (λ v. v == u) (us ++ unit ∷ [])
begun_open unit u us = ap (λ b. if b then true else list_any (λ v. v == u) us) (same_number unit u)
    ∙ either (unit == u) (list_any (λ v. v == u) us) ∙ sym (any_both (λ v. v == u) us (unit ∷ []))
  where
    either : (a b : Bool) → (if a then true else b) ≡ (b || (a || false))
    either true true = refl
    either true false = refl
    either false true = refl
    either false false = refl

pub units_begun : StepByParts → (s : State) (unit : ℕ) (x y : OpenUnits) → IsWellFormed s → nat_lt s.greatest unit ≡ true
    → ((u : ℕ) → has_open y u ≡ (if is_eq (nat_cmp unit u) then true else has_open x u))
    → ((u : ℕ) → queues_of y u ≡ (if is_eq (nat_cmp unit u) then [] else queues_of x u))
    → AreUnits x s → AreUnits y (step s (Begin unit))
units_begun law s unit x y well lawful opened queues are = record {
  opened = λ u. opened u ∙ ap (λ b. if is_eq (nat_cmp unit u) then true else b) (are.opened u) ∙ begun_open unit u s.units;
  engaged = λ u q now.
      let before : is_engaged s q u ≡ true = engaged_before law s (Begin unit) (λ k v. refl) q u now in
      by_cases (unit == u) (λ b. (unit == u) ≡ b → engages_in y u q ≡ true)
      (λ _ same. absurd (false≢true (sym (law.closes s q u well
      (subst (λ n. is_open s n ≡ false) (eqb-true unit u same)
      (none_is unit s.greatest (ltb-true s.greatest unit lawful) s.units well.units))) ∙ before)))
      (λ _ other. ap (list_any (λ k. k == q))
      (queues u ∙ ap (λ b. if b then [] else queues_of x u) (other_unit unit u other)) ∙ are.engaged u q before)
      refl;
}

-- A unit ends.

closed_unit : (u : ℕ) (us : List ℕ) → list_any (λ v. v == u) (closed_units u us) ≡ false
closed_unit u [] = refl
closed_unit u (v ∷ us) = by_cases (v == u)
    (λ b. list_any (λ v. v == u) (cond (not b) (v ∷ closed_units u us) (closed_units u us)) ≡ false)
    (λ _. closed_unit u us) (λ f. ap (λ b. b || list_any (λ v. v == u) (closed_units u us)) f ∙ closed_unit u us)

kept_unit : (unit u : ℕ) → (unit == u) ≡ false → (us : List ℕ)
    → list_any (λ v. v == u) (closed_units unit us) ≡ list_any (λ v. v == u) us
kept_unit unit u other [] = refl
kept_unit unit u other (v ∷ us) = by_cases (v == unit)
    (λ b. (v == unit) ≡ b → list_any (λ v. v == u) (cond (not b) (v ∷ closed_units unit us) (closed_units unit us))
    ≡ ((v == u) || list_any (λ v. v == u) us))
    (λ _ same. kept_unit unit u other us ∙ ap (λ b. b || list_any (λ v. v == u) us)
    (sym (ap (λ n. n == u) (eqb-true v unit same) ∙ other)))
    (λ _ _. ap (λ b. (v == u) || b) (kept_unit unit u other us)) refl

closed_open : (unit u : ℕ) (us : List ℕ)
    → (if is_eq (nat_cmp unit u) then false else list_any (λ v. v == u) us) ≡ list_any (λ v. v == u) (closed_units unit us)
closed_open unit u us = ap (λ b. if b then false else list_any (λ v. v == u) us) (same_number unit u)
    ∙ by_cases (unit == u) (λ b. (unit == u) ≡ b
    → (if b then false else list_any (λ v. v == u) us) ≡ list_any (λ v. v == u) (closed_units unit us))
    (λ _ same. sym (subst (λ n. list_any (λ v. v == u) (closed_units n us) ≡ false) (sym (eqb-true unit u same))
    (closed_unit u us)))
    (λ _ other. sym (kept_unit unit u other us)) refl

pub units_ended : StepByParts → (s : State) (r : Record) (unit : ℕ) (x y : OpenUnits) → IsWellFormed (step s r)
    → (step s r).units ≡ closed_units unit s.units → unit_named r ≡ None
    → ((u : ℕ) → has_open y u ≡ (if is_eq (nat_cmp unit u) then false else has_open x u))
    → ((u : ℕ) → queues_of y u ≡ (if is_eq (nat_cmp unit u) then [] else queues_of x u))
    → AreUnits x s → AreUnits y (step s r)
units_ended law s r unit x y well closed nobody opened queues are = record {
  opened = λ u. opened u ∙ ap (λ b. if is_eq (nat_cmp unit u) then false else b) (are.opened u)
      ∙ closed_open unit u s.units ∙ ap (list_any (λ v. v == u)) (sym closed);
  engaged = λ u q now.
      let before : is_engaged s q u ≡ true = engaged_before law s r (engages_none r nobody) q u now in
      by_cases (unit == u) (λ b. (unit == u) ≡ b → engages_in y u q ≡ true)
      (λ _ same. absurd (false≢true (sym (law.closes (step s r) q u well
      (subst (λ n. is_open (step s r) n ≡ false) (eqb-true unit u same)
      (ap (list_any (λ v. v == unit)) closed ∙ closed_unit unit s.units))) ∙ now)))
      (λ _ other. ap (list_any (λ k. k == q))
      (queues u ∙ ap (λ b. if b then [] else queues_of x u) (other_unit unit u other)) ∙ are.engaged u q before)
      refl;
}

-- The open units in their order.

rises : (us : List ℕ) → Ordered (λ u v. u < v) us → IsStrictlySortedBy nat_cmp us
unfolding IsStrictlySortedBy
rises [] h = tt
rises (u ∷ us) h = (each_weaker (λ v. u < v) (λ v. nat_cmp u v ≡ Less) (below u) us h.0, rises us h.1)
  where
    below : (u v : ℕ) → u < v → nat_cmp u v ≡ Less
    below u v l = grind (arith, l)

has_unit : (u : ℕ) (us : List ℕ) → list_any (λ v. v == u) us ≡ list_any (is_at (nat_cmp u)) us
has_unit u [] = refl
has_unit u (v ∷ us) = ap (λ b. b || list_any (λ v. v == u) us) (sym (same_number u v ∙ turned u v))
    ∙ ap (λ b. is_at (nat_cmp u) v || b) (has_unit u us)
  where
    turned : (a b : ℕ) → (a == b) ≡ (b == a)
    turned a b = grind arith

abbrev set_of : List ℕ → BTreeSet ℕ
set_of us = record { keys = us }

-- the units of a state, rising, are the keys
pub keys_are : (x : OpenUnits) (s : State) → IsWellFormed s → IsOrdered nat_cmp x.named → AreUnits x s
    → keys x.named ≡ s.units
keys_are x s well ordered are = btree_set_from_contains nat_cmp_total (set_of (keys x.named)) (set_of s.units)
    ordered (rises s.units well.units_rise)
    (λ u. sym (is_some-lookup (is_at (nat_cmp u)) x.named.entries) ∙ are.opened u ∙ has_unit u s.units) exact_unsigned

engaged_open : StepByParts → (s : State) (u q : ℕ) → IsWellFormed s → is_engaged s q u ≡ true → is_open s u ≡ true
engaged_open law s u q well h = by_cases (is_open s u) (λ b. is_open s u ≡ b → b ≡ true) (λ _ _. refl)
    (λ _ f. absurd (false≢true (sym (law.closes s q u well f) ∙ h))) refl

either : (m n e : Bool) → (m || n) ≡ true → ((true && n) || ((true && m) || e)) ≡ true
either true true e h = refl
either true false e h = refl
either false true e h = refl
either false false e h = absurd (false≢true h)

pub all_engaged : StepByParts → (s : State) (x y z : OpenUnits) → IsWellFormed s
    → ((u : ℕ) → has_open x u ≡ is_open s u)
    → ((u : ℕ) → has_open y u ≡ has_open x u) → ((u : ℕ) → has_open z u ≡ has_open y u)
    → ((u q : ℕ) → engages_in y u q ≡ ((has_open x u && list_any (is_marked_at u q) s.elements) || engages_in x u q))
    → ((u q : ℕ) → engages_in z u q ≡ ((has_open y u && list_any (is_noted_at u q) s.notes) || engages_in y u q))
    → AreUnits z s
all_engaged law s x y z well first second third marked noted = record {
  opened = λ u. third u ∙ second u ∙ first u;
  engaged = λ u q h.
      let here : is_open s u ≡ true = engaged_open law s u q well h in
      noted u q
      ∙ ap (λ b. (b && list_any (is_noted_at u q) s.notes) || engages_in y u q) (second u ∙ first u ∙ here)
      ∙ ap (λ b. (true && list_any (is_noted_at u q) s.notes) || b) (marked u q)
      ∙ ap (λ b. (true && list_any (is_noted_at u q) s.notes)
      || ((b && list_any (is_marked_at u q) s.elements) || engages_in x u q)) (first u ∙ here)
      ∙ either (list_any (is_marked_at u q) s.elements) (list_any (is_noted_at u q) s.notes) (engages_in x u q) h;
}

pub all_begun : (u : ℕ) (us all : List ℕ) (before after : Bool) → us ≡ all → before ≡ false
    → after ≡ (list_any (λ v. v == u) us || before) → after ≡ list_any (λ v. v == u) all
all_begun u us all before after same none is =
    is ∙ ap (λ b. list_any (λ v. v == u) us || b) none ∙ or_nothing (list_any (λ v. v == u) us)
    ∙ ap (list_any (λ v. v == u)) same
  where
    or_nothing : (b : Bool) → (b || false) ≡ b
    or_nothing true = refl
    or_nothing false = refl

-- one unit more of those over which a loop goes
pub one_begun : (u n : ℕ) (sofar next : List ℕ) (old mid new : Bool) → next ≡ sofar ++ n ∷ []
    → mid ≡ (list_any (λ v. v == u) sofar || old) → new ≡ (if is_eq (nat_cmp n u) then true else mid)
    → new ≡ (list_any (λ v. v == u) next || old)
one_begun u n sofar next old mid new more before now =
    now ∙ ap (λ b. if is_eq (nat_cmp n u) then true else b) before
    ∙ ap (λ b. if b then true else (list_any (λ v. v == u) sofar || old)) (same_number n u)
    ∙ turned (list_any (λ v. v == u) sofar) old (n == u)
    ∙ ap (λ b. b || old) (sym (ap (list_any (λ v. v == u)) more ∙ any_both (λ v. v == u) sofar (n ∷ [])))
  where
    turned : (a b c : Bool) → (if c then true else (a || b)) ≡ ((a || (c || false)) || b)
    turned true true true = refl
    turned true true false = refl
    turned true false true = refl
    turned true false false = refl
    turned false true true = refl
    turned false true false = refl
    turned false false true = refl
    turned false false false = refl
