use Rattle.std.proofs.Common.{◌≡◌, ℕ, ◌<◌, List, length, map, ap, sym, ◌∙◌, subst, arith, inl, inr}
use Rattle.std.proofs.lemmas.List.{length-map}
use Rattle.rq_model.specs.States.{Definition, State}
use Rattle.rq_pool.specs.Countdowns.Arrivals.{last_lists}
use Rattle.rq_pool.specs.Ledger.{times}
use Rattle.rq_exchange.specs.declared.course.Course.{Course}
use Rattle.rq_exchange.specs.Courses.{StartsByLast, all_told, redone_by, redone_of, told_to}
use Rattle.rq_exchange.specs.Links.{naming}
use Rattle.rq_rows.proofs.replays.traced.Goals as goal

abbrev errors_of : State → List ℕ
errors_of s = map (λ (d : Definition). d.error) s.definitions

inside : (s : State) (x : ℕ) → x < length s.definitions → x < length (errors_of s)
inside s x near = omega (arith, near, length-map s.definitions (λ (d : Definition). d.error))

starts_of : (s t : State) (course : Course) → s ≡ t → StartsByLast (errors_of t) course
    → StartsByLast (errors_of s) course
starts_of s t course same starts = subst (λ (u : State). StartsByLast (errors_of u) course) (sym same) starts

begun : (errors : List ℕ) (course : Course) → StartsByLast errors course → (x : ℕ) → x < length errors
    → 0 < length (naming errors x)
    → (k : ℕ) × (k < length (redone_of course)) × (times x (redone_by course k) ≡ 1)
    × (length (last_lists (told_to course k x)) ≡ 1)
begun errors course starts x near some =
    let alone = starts.once x near in
    (alone.index, alone.within, alone.here, sym (starts.by_last x alone.index near some alone.within) ∙ alone.here)

nobody_else : (errors : List ℕ) (course : Course) → StartsByLast errors course → (x : ℕ) → x < length errors
    → 0 < length (naming errors x) → length (last_lists (all_told course x)) ≡ 1
nobody_else errors course starts x near some =
    elim (starts.settled x near some).outcome [ inl few ↦ absurd (omega (arith, few.0)) | inr all ↦ ap length all.1 ]

pub returns-clause-once : goal.returns-clause-once
returns-clause-once g c = λ x near.
    let starts = starts_of c.in_ok-state.state _ c.in_ok-all.course
    (c.in_ok-state.ensures.state _ c.in_ok-all.ensures.redone) c.in_ok-all.ensures.course in
    starts.once x (inside c.in_ok-state.state x near)

pub returns-clause-begun : goal.returns-clause-begun
returns-clause-begun g c = λ x near.
    let starts = starts_of c.in_ok-state.state _ c.in_ok-all.course
    (c.in_ok-state.ensures.state _ c.in_ok-all.ensures.redone) c.in_ok-all.ensures.course in
    begun (errors_of c.in_ok-state.state) c.in_ok-all.course starts x (inside c.in_ok-state.state x near)

pub returns-clause-nobody_else : goal.returns-clause-nobody_else
returns-clause-nobody_else g c = λ x near.
    let starts = starts_of c.in_ok-state.state _ c.in_ok-all.course
    (c.in_ok-state.ensures.state _ c.in_ok-all.ensures.redone) c.in_ok-all.ensures.course in
    nobody_else (errors_of c.in_ok-state.state) c.in_ok-all.course starts x (inside c.in_ok-state.state x near)
