-- The redo of each queue goes well.
use Rattle.std.proofs.Common.{◌≡◌, ◌≢◌, ℕ, ◌+◌, ◌<◌, ◌≤◌, ◌^◌, Bool, true, false, cond, List, [], ◌∷◌, ◌++◌, length}
use Rattle.std.proofs.Common.{refl, sym, ap, ◌∙◌, subst, arith}
use Rattle.std.specs.Prelude.{◌==◌}
use Rattle.std.specs.List.{AllByRecursion}
use Rattle.std.proofs.lemmas.Bool.{and_parts, and_from, eqb-true}
use Rattle.rq_model.specs.Records.{Record, Define, Register, Deregister, Begin, Enqueue, Dequeue, Commit, Abort}
use Rattle.rq_model.specs.Records.{Checkpoint, Kill, Version}
use Rattle.rq_model.specs.States.{Element, Definition, State, definition_at}
use Rattle.rq_model.specs.WellFormed.{Ordered, IsWellFormed, IsElement, IsNote}
use Rattle.rq_model.specs.Machine.{is_lawful, all_lawful, step}
use Rattle.rq_model.specs.Queues.{Part, defined_by, Op, touches, touching_from, Move, transfers_at}
use Rattle.rq_model.specs.Queues.{arrivals_of, arrivals, elements_at}
use Rattle.rq_model.specs.Redo.{act, receive, before as before_place, from as from_place}
use Rattle.rq_model.specs.Redo.{IsOf, IsReady, AreNew, GoesWell, RedoGoesWell, GoesOn}
use Rattle.rq_model.proofs.Lists.{each_weaker, each_passes, each_filter}
use Rattle.rq_model.proofs.Merged.{ordered_filter, ordered_weaker}
use Rattle.rq_model.proofs.Steps.{core, Knows, known_by, step_part}
use Rattle.rq_model.proofs.Sound.{agree_from, same_definitions, knows_step, knows_start}
use Rattle.rq_model.proofs.WellFormedRuns.{sound}
use Rattle.rq_model.proofs.Kept.{runs_are_well_formed}
use Rattle.rq_model.proofs.ByQueue.{Since, At, OpsSince, arrivals_at, arrivals_of-append, arrivals_since, ops_since}
use Rattle.rq_model.proofs.ByQueue.{receive-append, before_all, from_none, since_before, since_from}
use Rattle.rq_model.proofs.Apart.{Apart, are_new, new_append}

-- what an operation finds, if these arrivals come first and those later
abbrev Meets : Part → Op → List Op → List Move × List Move → Type 0
Meets p op ops ms = AreNew ms.0 p.elements
    × (IsReady op.place op.does (receive ms.0 p) × GoesWell (act op.place op.does (receive ms.0 p)) ops ms.1)

-- One arrival or one operation at a time.

arrives : (p : Part) (op : Op) (ops : List Op) (m : Move) (ms : List Move) → m.place < op.place
    → GoesWell p (op ∷ ops) (m ∷ ms)
    → AllByRecursion (λ e. e.id ≢ m.element.id) p.elements × GoesWell (receive (m ∷ []) p) (op ∷ ops) ms
arrives p op ops m ms l h = grind arith

acts : (p : Part) (op : Op) (ops : List Op) (ms : List Move) → AllByRecursion (λ m. op.place ≤ m.place) ms
    → GoesWell p (op ∷ ops) ms
    → IsReady op.place op.does p × GoesWell (act op.place op.does p) ops ms
acts p op ops ms l h =
    let met = subst (Meets p op ops) (λ i. (since_before op.place ms l i, since_from op.place ms l i)) h in
    met.1

pub goes_on : GoesOn
goes_on = record { arrives = arrives; acts = acts; ends = λ p m ms h. h }

-- The run.

pub first_goes : (b : Bool) (place : ℕ) (r : Record) (p : Part) (ops : List Op) (ms : List Move) → Since place ms
    → (b ≡ true → IsReady place r p)
    → GoesWell (cond b (act place r p) p) ops ms → GoesWell p (cond b (record { place = place; does = r } ∷ ops) ops) ms
first_goes true place r p ops ms l ready h =
    subst (Meets p _ ops) (λ i. (sym (since_before place ms l) i, sym (since_from place ms l) i)) (tt, (ready refl, h))
first_goes false place r p ops ms l ready h = h

pub absorb_goes : (n : ℕ) (p : Part) (ops : List Op) (now later : List Move) → At n now → OpsSince (n + 1) ops
    → AreNew now p.elements → GoesWell (receive now p) ops later → GoesWell p ops (now ++ later)
absorb_goes n p [] now later a l new h = new_append now later p.elements new h
absorb_goes n p (op ∷ ops) now later a l new h =
    subst (Meets p op ops)
    (λ i. (
      sym (before_all n now later op.place a (omega (arith, l.0))) i,
      sym (from_none n now later op.place a (omega (arith, l.0))) i,
    )) (
      new_append now _ _ new h.0,
      subst (λ (q : Part). IsReady op.place op.does q
          × GoesWell (act op.place op.does q) ops (from_place op.place later))
          (sym (receive-append now (before_place op.place later) p)) h.1,
    )

is_of : (s₀ : State) (past : List Record) (q : ℕ) (r : Record) → touches s₀ past q r ≡ true → IsOf q r
is_of s₀ past q (Define limit error name) h = tt
is_of s₀ past q (Register k name) h = eqb-true k q h
is_of s₀ past q (Deregister k name) h = eqb-true k q h
is_of s₀ past q (Begin unit) h = tt
is_of s₀ past q (Enqueue unit k priority by payload) h = eqb-true k q h
is_of s₀ past q (Dequeue unit k by) h = eqb-true k q h
is_of s₀ past q (Commit unit) h = tt
is_of s₀ past q (Abort unit) h = tt
is_of s₀ past q (Checkpoint bytes) h = tt
is_of s₀ past q (Kill k element) h = eqb-true k q h

pub ready : (d : Definition) (s : State) (q n : ℕ) (r : Record) → IsWellFormed s → s.next + (n + 1) < 2 ^ 64 → IsOf q r
    → IsReady s.next r (core d s q)
ready d s q n r well fits named = record {
  of_queue = named;
  homes = each_passes (λ e. e.home ≡ q) (λ e. e.home == q) (λ e t. eqb-true e.home q t) s.elements;
  older = each_filter (λ e. e.id < s.next) (λ e. e.home == q) s.elements
      (each_weaker (IsElement s) (λ e. e.id < s.next) (λ e h. h.id) s.elements well.elements);
  room = each_filter _ _ _
      (each_weaker (IsElement s) (λ e. e.attempts + 1 < 2 ^ 64)
      (λ e h. let a = h.attempts in omega (arith, fits)) s.elements well.elements);
  notes = each_filter _ _ _
      (each_weaker (IsNote s) (λ n. n.last.place < s.next) (λ n h. h.last.place) s.notes well.notes);
}

pub rising_apart : (es : List Element) → Ordered (λ e f. e.id < f.id) es → Apart es
rising_apart es h = ordered_weaker _ _ (λ e f l k. absurd (let n : ⊥ = omega (arith, l, k) in n)) es h

goes : (version : Version) (s₀ : State) (past : List Record) (s : State) (rs : List Record) (q : ℕ) (d : Definition)
    → definition_at (s.definitions ++ defined_by rs) q ≡ d
    → IsWellFormed s → Knows (known_by s₀ past q) q s → all_lawful version s rs ≡ true → s.next + length rs < 2 ^ 64
    → GoesWell (core d s q) (touching_from s.next s₀ past rs q) (arrivals s rs q)
goes version s₀ past s [] q d e well knows lawful fits = tt
goes version s₀ past s (r ∷ rs) q d e well knows lawful fits =
    subst (GoesWell _ _) (sym come)
    (first_goes (touches s₀ past q r) s.next r (core d s q) ops (now ++ rest)
    (subst (Since s.next) come (arrivals_since s (r ∷ rs) q))
    (λ t. ready d s q (length rs) r well (omega (arith, fits)) (is_of s₀ past q r t))
    (absorb_goes s.next acted ops now rest (arrivals_at s r q) (ops_since (s.next + 1) s₀ (past ++ r ∷ []) rs q) new
    (subst (λ (p : Part). GoesWell p ops rest) same
    (goes version s₀ (past ++ r ∷ []) (step s r) rs q d
    (ap (λ ds. definition_at ds q) (same_definitions s r rs) ∙ e) well_then
    (knows_step s₀ past q s r knows) lawful_parts.1 (omega (arith, fits))))))
  where
    now : List Move
    now = arrivals_of q (transfers_at s r)

    rest : List Move
    rest = arrivals (step s r) rs q

    ops : List Op
    ops = touching_from (s.next + 1) s₀ (past ++ r ∷ []) rs q

    come : arrivals s (r ∷ rs) q ≡ now ++ rest
    come = arrivals_of-append q _ _

    acted : Part
    acted = cond (touches s₀ past q r) (act s.next r (core d s q)) (core d s q)

    lawful_parts : (is_lawful version s r ≡ true) × (all_lawful version (step s r) rs ≡ true)
    lawful_parts = and_parts _ _ lawful

    agree : AllByRecursion (λ e. (e.home == q) ≡ true → definition_at s.definitions e.home ≡ d) s.elements
    agree = subst (λ c. AllByRecursion (λ (e : Element). (e.home == q) ≡ true → definition_at s.definitions e.home ≡ c)
        s.elements) e (agree_from s (defined_by (r ∷ rs)) q (sound s well))

    same : core d (step s r) q ≡ receive now acted
    same = step_part s₀ past d s r q agree (sound s well).rising knows

    well_then : IsWellFormed (step s r)
    well_then = runs_are_well_formed version s (r ∷ []) well (and_from (is_lawful version s r) true lawful_parts.0 refl)

    new : AreNew now acted.elements
    new = (are_new now acted.elements
        (subst (λ (p : Part). Apart p.elements) same
        (rising_apart (elements_at q (step s r).elements) (ordered_filter _ _ _ well_then.elements_rise)))).0

pub redo_goes_well : RedoGoesWell
redo_goes_well version s rs q well lawful fits = goes _ s [] s rs q _ refl well (knows_start s q) lawful fits
