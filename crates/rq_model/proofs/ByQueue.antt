-- A queue by itself makes of its operations and of what arrives what the whole machine makes of it,
-- one operation or one arrival at a time.
use Rattle.std.proofs.Common.{◌≡◌, ℕ, ◌+◌, ◌<◌, ◌≤◌, Bool, true, false, cond, List, [], ◌∷◌, ◌++◌, map, refl, sym, ap}
use Rattle.std.proofs.Common.{◌∙◌, subst, arith}
use Rattle.std.specs.Prelude.{◌==◌, nat_lt, nat_le, ⊤}
use Rattle.std.specs.List.{AllByRecursion}
use Rattle.std.proofs.lemmas.Bool.{and_parts, lt-ltb, le-ltb, le-leb, lt-leb}
use Rattle.std.proofs.lemmas.List.{append-nil, map-append}
use Rattle.std.proofs.lemmas.List.Elements.{filter-append}
use Rattle.rq_model.specs.Records.{Record, Abort, Version}
use Rattle.rq_model.specs.States.{Element, Definition, State, definition_at, put, id_before}
use Rattle.rq_model.specs.Machine.{is_lawful, all_lawful, step, run}
use Rattle.rq_model.specs.Queues.{Part, defined_by, Op, touches, touching_from, Move, Transfer, transfers_at, transfers}
use Rattle.rq_model.specs.Queues.{moves_of, arrivals_of, moves, arrivals}
use Rattle.rq_model.specs.Redo.{act, sent, receive, put_all, before as before_place, from as from_place, redone}
use Rattle.rq_model.specs.Redo.{all_sent}
use Rattle.rq_model.specs.Laws.{IsSound, Projection, QueueIsDecided, RedoSteps}
use Rattle.rq_model.proofs.Lists.{by_cases, filter_all, filter_none, each_weaker, each_of, each_append, each_map}
use Rattle.rq_model.proofs.Lists.{each_filter}
use Rattle.rq_model.proofs.Steps.{core, Knows, known_by, step_part, step_moves}
use Rattle.rq_model.proofs.Sound.{agree_from, same_definitions, knows_step, knows_start, sound_step}

-- Places.

abbrev pub Since : ℕ → List Move → Type 0
Since n ms = AllByRecursion (λ m. n ≤ m.place) ms

abbrev pub At : ℕ → List Move → Type 0
At n ms = AllByRecursion (λ m. m.place ≡ n) ms

abbrev pub OpsSince : ℕ → List Op → Type 0
OpsSince n ops = AllByRecursion (λ op. n ≤ op.place) ops

pub arrivals_at : (s : State) (r : Record) (q : ℕ) → At s.next (arrivals_of q (transfers_at s r))
arrivals_at s r q = each_map _ _ _ (λ t h. h) _ (each_filter _ _ _ (places r))
  where
    places : (r : Record) → AllByRecursion (λ (t : Transfer). t.move.place ≡ s.next) (transfers_at s r)
    places (Abort u) = each_map _ _ _ (λ e h. refl) _ (each_of (λ _. ⊤) (λ _. tt) _)
    places r = tt

pub arrivals_of-append : (q : ℕ) (xs ys : List Transfer)
    → arrivals_of q (xs ++ ys) ≡ arrivals_of q xs ++ arrivals_of q ys
arrivals_of-append q xs ys = ap (map (λ (t : Transfer). t.move)) (filter-append _ xs ys) ∙ map-append _ _ _

pub moves_of-append : (q : ℕ) (xs ys : List Transfer) → moves_of q (xs ++ ys) ≡ moves_of q xs ++ moves_of q ys
moves_of-append q xs ys = ap (map (λ (t : Transfer). t.move)) (filter-append _ xs ys) ∙ map-append _ _ _

pub arrivals_since : (s : State) (rs : List Record) (q : ℕ) → Since s.next (arrivals s rs q)
arrivals_since s [] q = tt
arrivals_since s (r ∷ rs) q = subst (Since s.next) (sym (arrivals_of-append q _ _))
    (each_append _ _ _ (each_weaker _ _ (λ m e. omega arith) (arrivals_of q (transfers_at s r)) (arrivals_at s r q))
    (each_weaker _ _ (λ m e. omega arith) _ (arrivals_since (step s r) rs q)))

pub ops_since : (place : ℕ) (s : State) (before rs : List Record) (q : ℕ)
    → OpsSince place (touching_from place s before rs q)
ops_since place s before [] q = tt
ops_since place s before (r ∷ rs) q =
    let rest = each_weaker _ _ (λ op l. omega arith) _ (ops_since (place + 1) s (before ++ r ∷ []) rs q) in
    by_cases (touches s before q r)
    (λ b. OpsSince place
    (cond b (record { place = place; does = r } ∷ touching_from (place + 1) s (before ++ r ∷ []) rs q)
    (touching_from (place + 1) s (before ++ r ∷ []) rs q)))
    (λ _. (omega arith, rest)) (λ _. rest)

-- What arrives before the first operation is put in first.

put_all-append : (xs ys : List Move) (es : List Element) → put_all (xs ++ ys) es ≡ put_all ys (put_all xs es)
put_all-append [] ys es = refl
put_all-append (x ∷ xs) ys es = put_all-append xs ys (put id_before x.element es)

pub receive-append : (xs ys : List Move) (p : Part) → receive (xs ++ ys) p ≡ receive ys (receive xs p)
receive-append xs ys p = grind (arith, put_all-append xs ys p.elements)

pub before_all : (n : ℕ) (now later : List Move) (place : ℕ) → At n now → n < place
    → before_place place (now ++ later) ≡ now ++ before_place place later
before_all n now later place h l = filter-append (λ m. nat_lt m.place place) now later
    ∙ ap (λ ms. ms ++ before_place place later)
    (filter_all (λ m. nat_lt m.place place) now (each_weaker _ _ (λ m e. lt-ltb m.place place (omega arith)) now h))

pub from_none : (n : ℕ) (now later : List Move) (place : ℕ) → At n now → n < place
    → from_place place (now ++ later) ≡ from_place place later
from_none n now later place h l = filter-append (λ m. nat_le place m.place) now later
    ∙ ap (λ ms. ms ++ from_place place later)
    (filter_none (λ m. nat_le place m.place) now (each_weaker _ _ (λ m e. lt-leb place m.place (omega arith)) now h))

pub absorb : (n : ℕ) (p : Part) (ops : List Op) (now later : List Move) → At n now → OpsSince (n + 1) ops
    → redone p ops (now ++ later) ≡ redone (receive now p) ops later
absorb n p [] now later h l = receive-append now later p
absorb n p (op ∷ ops) now later h l =
    ap (λ (x : List Move × List Move). redone (act op.place op.does (receive x.0 p)) ops x.1)
    (λ i. (
      before_all n now later op.place h (omega (arith, l.0)) i,
      from_none n now later op.place h (omega (arith, l.0)) i,
    ))
    ∙ ap (λ (p : Part). redone (act op.place op.does p) ops (from_place op.place later))
    (receive-append now (before_place op.place later) p)

pub absorb_sent : (n : ℕ) (p : Part) (ops : List Op) (now later : List Move) → At n now → OpsSince (n + 1) ops
    → all_sent p ops (now ++ later) ≡ all_sent (receive now p) ops later
absorb_sent n p [] now later h l = refl
absorb_sent n p (op ∷ ops) now later h l =
    ap (λ (x : List Move × List Move). sent op.place op.does (receive x.0 p)
    ++ all_sent (act op.place op.does (receive x.0 p)) ops x.1)
    (λ i. (
      before_all n now later op.place h (omega (arith, l.0)) i,
      from_none n now later op.place h (omega (arith, l.0)) i,
    ))
    ∙ ap (λ (p : Part). sent op.place op.does p ++ all_sent (act op.place op.does p) ops (from_place op.place later))
    (receive-append now (before_place op.place later) p)

-- One record.

pub since_before : (place : ℕ) (ms : List Move) → Since place ms → before_place place ms ≡ []
since_before place ms h = filter_none (λ m. nat_lt m.place place) ms
    (each_weaker _ _ (λ m l. le-ltb m.place place l) ms h)

pub since_from : (place : ℕ) (ms : List Move) → Since place ms → from_place place ms ≡ ms
since_from place ms h = filter_all (λ m. nat_le place m.place) ms (each_weaker _ _ (λ m l. le-leb place m.place l) ms h)

pub first_op : (b : Bool) (place : ℕ) (r : Record) (p : Part) (ops : List Op) (ms : List Move) → Since place ms
    → redone p (cond b (record { place = place; does = r } ∷ ops) ops) ms ≡ redone (cond b (act place r p) p) ops ms
first_op true place r p ops ms h =
    ap (λ (x : List Move × List Move). redone (act place r (receive x.0 p)) ops x.1)
    (λ i. (since_before place ms h i, since_from place ms h i))
first_op false place r p ops ms h = refl

pub first_sent : (b : Bool) (place : ℕ) (r : Record) (p : Part) (ops : List Op) (ms : List Move) → Since place ms
    → all_sent p (cond b (record { place = place; does = r } ∷ ops) ops) ms
    ≡ cond b (sent place r p) [] ++ all_sent (cond b (act place r p) p) ops ms
first_sent true place r p ops ms h =
    ap (λ (x : List Move × List Move). sent place r (receive x.0 p) ++ all_sent (act place r (receive x.0 p)) ops x.1)
    (λ i. (since_before place ms h i, since_from place ms h i))
first_sent false place r p ops ms h = refl

-- The whole run.

pub run_definitions : (s : State) (rs : List Record) → (run s rs).definitions ≡ s.definitions ++ defined_by rs
run_definitions s [] = sym (append-nil s.definitions)
run_definitions s (r ∷ rs) = run_definitions (step s r) rs ∙ same_definitions s r rs

project : (version : Version) (s₀ : State) (before : List Record) (s : State) (rs : List Record) (q : ℕ)
    (d : Definition) → definition_at (s.definitions ++ defined_by rs) q ≡ d
    → IsSound s → Knows (known_by s₀ before q) q s → all_lawful version s rs ≡ true
    → redone (core d s q) (touching_from s.next s₀ before rs q) (arrivals s rs q) ≡ core d (run s rs) q
project version s₀ before s [] q d e sound knows lawful = refl
project version s₀ before s (r ∷ rs) q d e sound knows lawful =
    ap (redone (core d s q) (touching_from s.next s₀ before (r ∷ rs) q)) come
    ∙ first_op _ _ r _ ops _ (subst (Since s.next) come (arrivals_since s (r ∷ rs) q))
    ∙ absorb _ _ ops now rest (arrivals_at s r q) (ops_since (s.next + 1) s₀ (before ++ r ∷ []) rs q)
    ∙ ap (λ (p : Part). redone p ops rest) (sym (step_part s₀ before d s r q agree sound.rising knows))
    ∙ project version s₀ (before ++ r ∷ []) (step s r) rs q d
    (ap (λ ds. definition_at ds q) (same_definitions s r rs) ∙ e) (sound_step version s r lawful_parts.0 sound)
    (knows_step s₀ before q s r knows) lawful_parts.1
  where
    now : List Move
    now = arrivals_of q (transfers_at s r)

    rest : List Move
    rest = arrivals (step s r) rs q

    ops : List Op
    ops = touching_from (s.next + 1) s₀ (before ++ r ∷ []) rs q

    come : arrivals s (r ∷ rs) q ≡ now ++ rest
    come = arrivals_of-append q _ _

    lawful_parts : (is_lawful version s r ≡ true) × (all_lawful version (step s r) rs ≡ true)
    lawful_parts = and_parts _ _ lawful

    agree : AllByRecursion (λ e. (e.home == q) ≡ true → definition_at s.definitions e.home ≡ d) s.elements
    agree = grind (arith, e, agree_from s (defined_by (r ∷ rs)) q sound)

project_moves : (version : Version) (s₀ : State) (before : List Record) (s : State) (rs : List Record) (q : ℕ)
    (d : Definition) → definition_at (s.definitions ++ defined_by rs) q ≡ d
    → IsSound s → Knows (known_by s₀ before q) q s → all_lawful version s rs ≡ true
    → all_sent (core d s q) (touching_from s.next s₀ before rs q) (arrivals s rs q) ≡ moves s rs q
project_moves version s₀ before s [] q d e sound knows lawful = refl
project_moves version s₀ before s (r ∷ rs) q d e sound knows lawful =
    ap (all_sent (core d s q) (touching_from s.next s₀ before (r ∷ rs) q)) come
    ∙ first_sent _ _ r _ ops _ (subst (Since s.next) come (arrivals_since s (r ∷ rs) q))
    ∙ ap (λ (ms : List Move). cond (touches s₀ before q r) (sent s.next r (core d s q)) [] ++ ms)
    (absorb_sent _ _ ops now rest (arrivals_at s r q) (ops_since (s.next + 1) s₀ (before ++ r ∷ []) rs q)
    ∙ ap (λ (p : Part). all_sent p ops rest) (sym (step_part s₀ before d s r q agree sound.rising knows))
    ∙ project_moves version s₀ (before ++ r ∷ []) (step s r) rs q d
    (ap (λ ds. definition_at ds q) (same_definitions s r rs) ∙ e) (sound_step version s r lawful_parts.0 sound)
    (knows_step s₀ before q s r knows) lawful_parts.1)
    ∙ ap (λ (ms : List Move). ms ++ moves (step s r) rs q) (sym (step_moves s₀ before d s r q agree knows))
    ∙ sym (moves_of-append q (transfers_at s r) (transfers (step s r) rs))
  where
    now : List Move
    now = arrivals_of q (transfers_at s r)

    rest : List Move
    rest = arrivals (step s r) rs q

    ops : List Op
    ops = touching_from (s.next + 1) s₀ (before ++ r ∷ []) rs q

    come : arrivals s (r ∷ rs) q ≡ now ++ rest
    come = arrivals_of-append q (transfers_at s r) (transfers (step s r) rs)

    lawful_parts : (is_lawful version s r ≡ true) × (all_lawful version (step s r) rs ≡ true)
    lawful_parts = and_parts _ _ lawful

    agree : AllByRecursion (λ e. (e.home == q) ≡ true → definition_at s.definitions e.home ≡ d) s.elements
    agree = subst (λ c. AllByRecursion (λ (e : Element). (e.home == q) ≡ true → definition_at s.definitions e.home ≡ c)
        s.elements) e (agree_from s (defined_by (r ∷ rs)) q sound)

pub projection : Projection
projection version s rs q sound lawful = (
  project _ s [] s rs q _ refl sound (knows_start s q) lawful
      ∙ ap (λ (ds : List Definition). core (definition_at ds q) (run s rs) q) (sym (run_definitions s rs)),
  project_moves _ s [] s rs q _ refl sound (knows_start s q) lawful,
)

arrives : (p : Part) (op : Op) (ops : List Op) (m : Move) (ms : List Move) → m.place < op.place
    → (redone p (op ∷ ops) (m ∷ ms) ≡ redone (receive (m ∷ []) p) (op ∷ ops) ms)
    × (all_sent p (op ∷ ops) (m ∷ ms) ≡ all_sent (receive (m ∷ []) p) (op ∷ ops) ms)
arrives p op ops m ms l = grind arith

pub redo_steps : RedoSteps
redo_steps = record {
  arrives = arrives;
  acts = λ p op ops ms h. (first_op true op.place op.does p ops ms h, first_sent true op.place op.does p ops ms h);
  ends = λ p m ms. (refl, refl);
}

pub queue_is_decided : QueueIsDecided
queue_is_decided v w s t rs us queue sound_s sound_t lawful_s lawful_t part touch arrive =
    let a = projection v s rs queue sound_s lawful_s in
    let b = projection w t us queue sound_t lawful_t in (
      sym a.0 ∙ (λ i. redone (part i) (touch i) (arrive i)) ∙ b.0,
      sym a.1 ∙ (λ i. all_sent (part i) (touch i) (arrive i)) ∙ b.1,
    )
