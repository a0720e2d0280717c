-- The tail of a log is the frames of records that may follow, and a crash leaves some of them: the final state is
-- the same.
use Rattle.std.proofs.Common.{◌≡◌, ℕ, zero, suc, ◌<◌, true, cond, not, ◌||◌, List, [], ◌∷◌, take, refl, ap, ◌∙◌, subst}
use Rattle.std.proofs.Common.{arith, ◌^◌, length, map, sym}
use Rattle.std.specs.Prelude.{◌==◌}
use Rattle.std.specs.List.{list_any, AllByRecursion}
use Rattle.std.proofs.lemmas.Bool.{eq-eqb, ne_eqb}
use Rattle.std.proofs.Math.Seq.{take-length}
use Rattle.rq_model.specs.Records.{Abort, Record, Version}
use Rattle.rq_model.specs.Spelling.{IsRecord}
use Rattle.rq_model.specs.Frames.{start, frames_of, last_of}
use Rattle.rq_model.specs.States.{empty}
use Rattle.rq_model.specs.Machine.{is_open, all_lawful, closed_units, step, run, aborts, final}
use Rattle.rq_model.specs.WellFormed.{Ordered}
use Rattle.rq_model.specs.Fronts.{Restarted, restarted}
use Rattle.rq_model.specs.Laws.{CrashIsHarmless}
use Rattle.rq_model.specs.Closing.{CrashInTheTail}
use Rattle.rq_model.specs.Appending.{MayFollow}
use Rattle.rq_model.proofs.Lists.{filter_all, each_weaker}
use Rattle.rq_model.proofs.Kept.{step_kept, runs_are_well_formed, empty_is_well_formed}
use Rattle.rq_model.proofs.Longest.{one_front, front_ends}
use Rattle.rq_model.proofs.Widths.{runs_fit, empty_fits}
use Rattle.rq_model.proofs.Restarts.{run_join}
use Rattle.rq_model.proofs.Appended.{front_follows, crash_while_appending}

-- the first open unit goes, the others stay
pub first_closed : (u : ℕ) (us : List ℕ) → Ordered (λ a b. a < b) (u ∷ us) → closed_units u (u ∷ us) ≡ us
first_closed u us h = ap (λ b. cond (not b) (u ∷ closed_units u us) (closed_units u us)) (eq-eqb u u refl)
    ∙ filter_all (λ v. not (v == u)) us (each_weaker _ _ (λ v l. ap not (ne_eqb v u (λ e. omega arith))) us h.0)

first_open : (u : ℕ) (us : List ℕ) → list_any (λ v. v == u) (u ∷ us) ≡ true
first_open u us = ap (λ b. b || list_any (λ v. v == u) us) (eq-eqb u u refl)

pub crash_is_harmless : CrashIsHarmless
crash_is_harmless version s zero h = (refl, refl)
crash_is_harmless version s (suc k) h =
    at s.units refl (λ u o. crash_is_harmless version (step s (Abort u)) k (step_kept version s (Abort u) o h))
  where
    at : (us : List ℕ) → s.units ≡ us
        → ((u : ℕ) → is_open s u ≡ true
        → (all_lawful version (step s (Abort u)) (take k (aborts (step s (Abort u)))) ≡ true)
        × (final (run (step s (Abort u)) (take k (aborts (step s (Abort u))))) ≡ final (step s (Abort u))))
        → (all_lawful version s (take (suc k) (aborts s)) ≡ true) × (final (run s (take (suc k) (aborts s))) ≡ final s)
    at [] e rest = grind arith
    at (u ∷ us) e rest =
        let o = ap (list_any (λ v. v == u)) e ∙ first_open u us in
        let left = ap (closed_units u) e ∙ first_closed u us (subst (Ordered (λ a b. a < b)) e h.units_rise) in
        let r = rest u o in (
          grind arith,
          grind arith,
        )

abort_records : (version : Version) (us : List ℕ) → AllByRecursion (λ u. u < 2 ^ 64) us
    → AllByRecursion (IsRecord version) (map Abort us)
abort_records version [] h = tt
abort_records version (u ∷ us) h = (h.0, abort_records version us h.1)

-- the aborts of the units that are open after lawful records may follow these
pub aborts_follow : (version : Version) (rs : List Record) → MayFollow version empty rs
    → MayFollow version (run empty rs) (aborts (run empty rs))
aborts_follow version rs old =
    let s = run empty rs in
    let xs = aborts s in
    let keeps = runs_are_well_formed version empty rs empty_is_well_formed old.lawful in
    let fits = runs_fit version empty rs empty_fits old.records in
    record {
      records = abort_records version s.units
          (each_weaker _ _ (λ u x. omega (arith, x.1, fits.greatest)) s.units keeps.units);
      lawful = subst (λ (ys : List Record). all_lawful version s ys ≡ true) (take-length xs)
          (crash_is_harmless version s (length xs) keeps).0;
    }

pub crash_in_the_tail : CrashInTheTail
crash_in_the_tail b tail part missing version records rest r front tailed parts short restart =
    let s = run empty records in
    let old = front_follows b version records rest front in
    let keeps = runs_are_well_formed version empty records empty_is_well_formed old.lawful in
    let same = one_front b _ _ _ _ _ rest tailed.front front in
    let is_tail = tailed.bytes ∙ (λ i. frames_of (last_of (start (same.0 i)) (same.1 i)) (aborts (run empty (same.1 i)))) in
    let left = crash_while_appending b version records rest (aborts s) part missing front
    (aborts_follow version records old) (sym is_tail ∙ parts) short in
    let xs = take left.count (aborts s) in
    let harmless = crash_is_harmless version s left.count keeps in
    let ended = front_ends b version records rest r front restart in
    let again = restarted _ _ _ _ in
    let state = ap final (run_join empty records xs) ∙ harmless.1
    ∙ sym (ap (λ (z : Restarted). z.state) ended.answer) in
    record {
      again = again;
      restart = left.restart;
      state = state;
      lines = grind arith;
    }
