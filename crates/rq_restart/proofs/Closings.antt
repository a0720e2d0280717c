-- Open units are aborted behind lawful records; what the first record spells does nothing there.
use Rattle.std.proofs.Common.{◌≡◌, ℕ, ◌+◌, Bool, List, [], ◌∷◌, ◌++◌, length, map, refl, sym, ap, ◌∙◌, subst, ◌-◌, true}
use Rattle.std.proofs.Common.{take, ◌≤◌, arith, length-append}
use Rattle.std.specs.Prelude.{if◌then◌else◌}
use Rattle.rq_model.specs.Records.{Record, Begin, Checkpoint, Version, Abort}
use Rattle.rq_model.specs.States.{State}
use Rattle.rq_model.specs.Machine.{all_lawful, run, aborts, final, outcome_from}
use Rattle.rq_model.specs.Queues.{Op, touches, touching_from}
use Rattle.rq_catalog.specs.Lists.{place_and_index}
use Rattle.rq_exchange.specs.Agendas.{IsAgenda}
use Rattle.rq_exchange.specs.Gathering.{HasAllButMembers}
use Rattle.rq_exchange.specs.declared.agenda.Agenda.{Agenda}
use Rattle.rq_restart.specs.Restarts.{first_cleared}
use Rattle.std.proofs.Math.Seq.{take-length}
use Rattle.rq_model.specs.WellFormed.{IsWellFormed}
use Rattle.rq_model.specs.Laws.{CrashIsHarmless, RunsAreWellFormed, NumbersAfter, begun, is_still_open}
use Rattle.rq_model.specs.Fronts.{Why, restarted}
use Rattle.rq_model.proofs.Restarts.{run_join, lawful_join}
use Rattle.rq_model.proofs.WellFormedRuns.{fewer}

-- a record begins one unit at most
few_begun : (rs : List Record) → length (begun rs) ≤ length rs
few_begun [] = omega arith
few_begun (Begin unit ∷ rs) = omega (arith, few_begun rs)
few_begun (r ∷ rs) = omega (arith, few_begun rs)

-- so no more units are open after records than were open before, and records
pub few_open : (version : Version) → NumbersAfter → (s : State) (rs : List Record) → IsWellFormed s
    → all_lawful version s rs ≡ true → length (run s rs).units ≤ length s.units + length rs
few_open version law s rs well lawful =
    let is_open = λ (u : ℕ). is_still_open (outcome_from s.next u rs) in
    omega (
      arith,
      ap length (law version s rs well lawful).units,
      fewer is_open (s.units ++ begun rs),
      length-append s.units (begun rs),
      few_begun rs,
    )

pub run_cleared : (s : State) (rs : List Record) → run s (first_cleared rs) ≡ run s rs
run_cleared s [] = refl
run_cleared s (Checkpoint bytes ∷ rs) = refl
run_cleared s (r ∷ rs) = refl

pub lawful_cleared : (version : Version) (s : State) (rs : List Record)
    → all_lawful version s (first_cleared rs) ≡ all_lawful version s rs
lawful_cleared version s [] = refl
lawful_cleared version s (Checkpoint bytes ∷ rs) = refl
lawful_cleared version s (r ∷ rs) = refl

pub length_cleared : (rs : List Record) → length (first_cleared rs) ≡ length rs
length_cleared [] = refl
length_cleared (r ∷ rs) = refl

-- a checkpoint before a record engages nothing, whatever it spells
touches_behind : (s : State) (q : ℕ) (bytes : List ℕ) (before : List Record) (r : Record)
    → touches s (Checkpoint [] ∷ before) q r ≡ touches s (Checkpoint bytes ∷ before) q r
touches_behind s q bytes before (Checkpoint others) = refl
touches_behind s q bytes before r = refl

touching_behind : (place : ℕ) (s : State) (q : ℕ) (bytes : List ℕ) (before rs : List Record)
    → touching_from place s (Checkpoint [] ∷ before) rs q ≡ touching_from place s (Checkpoint bytes ∷ before) rs q
touching_behind place s q bytes before [] = refl
touching_behind place s q bytes before (r ∷ rs) =
    ap (λ (b : Bool). if b then record { place = place; does = r }
    ∷ touching_from (place + 1) s (Checkpoint [] ∷ before ++ r ∷ []) rs q
    else touching_from (place + 1) s (Checkpoint [] ∷ before ++ r ∷ []) rs q)
    (touches_behind s q bytes before r)
    ∙ ap (λ (ops : List Op). if touches s (Checkpoint bytes ∷ before) q r
    then record { place = place; does = r } ∷ ops else ops)
    (touching_behind (place + 1) s q bytes (before ++ r ∷ []) rs)

touching_cleared : (place : ℕ) (s : State) (rs : List Record) (q : ℕ)
    → touching_from place s [] (first_cleared rs) q ≡ touching_from place s [] rs q
touching_cleared place s [] q = refl
touching_cleared place s (Checkpoint bytes ∷ rs) q = touching_behind (place + 1) s q bytes [] rs
touching_cleared place s (r ∷ rs) q = refl

pub agenda_cleared : (s : State) (rs : List Record) (a : Agenda) → IsAgenda s rs a → IsAgenda s (first_cleared rs) a
agenda_cleared s rs a is = record {
  fields = subst (λ (t : State). HasAllButMembers t a.fields) (sym (run_cleared s rs)) is.fields;
  touching = λ q. is.touching q ∙ ap (map (place_and_index s.next)) (sym (touching_cleared s.next s rs q));
}

-- records and, behind them, the aborts of the units that are open then
pub record AreClosed (version : Version) (s : State) (rs all : List Record) : Type 0 where
  pub lawful : all_lawful version s all ≡ true
  pub state : run s all ≡ final (run s rs)

pub closed : (version : Version) → CrashIsHarmless → RunsAreWellFormed
    → (s : State) (rs all : List Record) (units : List ℕ) → IsWellFormed s → all_lawful version s rs ≡ true
    → units ≡ (run s rs).units → all ≡ rs ++ map Abort units
    → AreClosed version s rs all
closed version harmless keeps s rs all units well lawful open_units is =
    let t = run s rs in
    let whole : all ≡ rs ++ aborts t = is ∙ ap (λ (us : List ℕ). rs ++ map Abort us) open_units in
    let all_of : take (length (aborts t)) (aborts t) ≡ aborts t = take-length (aborts t) in
    let none_else : all_lawful version t (aborts t) ≡ true =
    subst (λ (xs : List Record). all_lawful version t xs ≡ true) all_of
    (harmless version t (length (aborts t)) (keeps version s rs well lawful)).0 in
    record {
      lawful = subst (λ (xs : List Record). all_lawful version s xs ≡ true) (sym whole)
          (lawful_join version s rs (aborts t) lawful none_else);
      state = ap (run s) whole ∙ run_join s rs (aborts t);
    }

-- the numbers before the aborts, and the state after them
pub answered : (version : Version) → NumbersAfter
    → (s t : State) (rs all : List Record) (rest total used next committed aborted cut_off : ℕ) (units : List ℕ)
    (why : Why) → IsWellFormed s → all_lawful version s rs ≡ true → AreClosed version s rs all
    → t ≡ run s all → used ≡ total - rest → next ≡ s.next + length rs → committed ≡ (run s rs).committed
    → aborted ≡ (run s rs).aborted → units ≡ (run s rs).units → cut_off ≡ length units
    → record {
      state = t;
      records = next;
      used = used;
      total = total;
      why = why;
      committed = committed;
      aborted =
          aborted;
      cut_off = cut_off;
    } ≡ restarted (run s rs) rest total why
answered version law s t rs all rest total used next committed aborted cut_off units why well lawful all_are t_is
    used_is next_is committed_is aborted_is units_are cut_is =
    let after = law version s rs well lawful in
    let state : t ≡ final (run s rs) = t_is ∙ all_are.state in
    let records : next ≡ (run s rs).next = next_is ∙ sym after.next in
    let cut : cut_off ≡ length (run s rs).units = cut_is ∙ ap length units_are in
    cc
