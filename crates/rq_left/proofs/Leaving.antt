-- What is left of a log.
use Rattle.std.proofs.Common.{◌≡◌, ℕ, ◌≤◌, List, [], ◌∷◌, ◌++◌, length, take, drop, true}
use Rattle.std.proofs.Common.{refl, sym, ap, subst, ◌∙◌, arith, append_assoc}
use Rattle.std.proofs.lemmas.Bool.{and_parts}
use Rattle.std.proofs.lemmas.List.{append-nil, take-take, take-append-le, take-append-drop, take_all}
use Rattle.std.proofs.lemmas.List.{append_cancel_left, length-append}
use Rattle.rq_model.specs.Records.{Record, Commit, Version}
use Rattle.rq_model.specs.Frames.{log_limit, log_of, header, start, frames_of, last_of, Whole}
use Rattle.rq_model.specs.States.{empty}
use Rattle.rq_model.specs.Machine.{all_lawful, run, outcome_from, Committed}
use Rattle.rq_model.specs.Fronts.{IsFront, Ends}
use Rattle.rq_model.specs.LogLaws.{LogJoins, FrontStops}
use Rattle.rq_model.specs.FateLaws.{OutcomeIsAhead}
use Rattle.rq_model.specs.Appending.{IsLeftOf, WrittenStays, CrashWhileAppending}
use Rattle.rq_model.proofs.Restarts.{parts_follow, header_long, lawful_cut}
use Rattle.rq_left.specs.Left.{SyncedStays, SyncedIsHeaded, BeginningIsExact, CommitStays}

-- bytes that agree with others up to behind a front of these begin with it
begins_with : (n : ℕ) (c front more : List ℕ) → length front ≤ n → take n c ≡ take n (front ++ more)
    → c ≡ front ++ drop (length front) c
begins_with n c front more within same =
    let m = length front in
    let taken : take m c ≡ front =
    sym (take-take m n c within) ∙ ap (take m) same ∙ take-take m n (front ++ more) within
    ∙ take-append-le m front more (omega arith) ∙ take_all m front (omega arith) in
    sym (take-append-drop m c) ∙ ap (λ (x : List ℕ). x ++ drop m c) taken

pub synced_stays : WrittenStays → LogJoins → SyncedStays
synced_stays stays joins version w rs later found n c rest follow within left front =
    let log = log_of version rs in
    let is = begins_with n c log (frames_of (last_of (start version) rs) later) within
    (left ∙ ap (take n) (joins version rs later)) in
    stays version w rs found (drop (length log) c) rest (parts_follow version empty rs later follow).0
    (subst (λ (b : List ℕ). IsFront b w found rest) is front)

-- a header alone is a front without records
pub bare : (version : Version) → FrontStops → IsFront (header version ++ []) version [] []
bare version stops = record {
  short = subst (λ (n : ℕ). n ≤ log_limit)
      (sym (ap length (append-nil (header version)) ∙ header_long version)) (omega arith);
  bytes = [];
  whole = refl;
  longest = stops version empty (start version) [] [] [] (Ends Whole)
      (record { records = tt; lawful = refl; whole = refl }) refl;
}

pub beginning_is_exact : CrashWhileAppending → FrontStops → BeginningIsExact
beginning_is_exact crash stops version rs c missing follow is long short =
    let h = header version in
    let part = drop 40 c in
    let size = header_long version in
    let frames = frames_of (start version) rs in
    let front : take 40 c ≡ h =
    sym (take-append-le 40 c missing long) ∙ ap (take 40) (sym is)
    ∙ take-append-le 40 h frames (omega (arith, size)) ∙ take_all 40 h (omega (arith, size)) in
    let whole : c ≡ h ++ part =
    sym (take-append-drop 40 c) ∙ ap (λ (x : List ℕ). x ++ part) front in
    let rest : frames ≡ part ++ missing =
    append_cancel_left h frames (part ++ missing)
    (is ∙ ap (λ (x : List ℕ). x ++ missing) whole ∙ append_assoc h part missing) in
    let same : log_of version [] ++ part ≡ c =
    ap (λ (x : List ℕ). x ++ part) (append-nil h) ∙ sym whole in
    subst (IsLeftOf version [] rs part) same
    (crash (h ++ []) version [] [] rs part missing (bare version stops) follow rest
    (subst (λ (x : List ℕ). length x ≤ log_limit) (sym same) short))

first_is : (unit place : ℕ) (others : List Record)
    → outcome_from place unit (Commit unit ∷ others) ≡ Committed place
first_is unit place others = grind arith

pub commit_stays : OutcomeIsAhead → CommitStays
commit_stays ahead version rs others unit lawful =
    let all = append_assoc rs (Commit unit ∷ []) others in
    let is : all_lawful version empty (rs ++ Commit unit ∷ others) ≡ true =
    ap (all_lawful version empty) (sym all) ∙ lawful in
    let later = (lawful_cut version empty rs (Commit unit ∷ others) is).1 in
    ap (outcome_from 0 unit) all
    ∙ ahead version rs (Commit unit ∷ others) unit is ((and_parts _ _ later).0)
    ∙ first_is unit (run empty rs).next others

pub synced_is_headed : SyncedIsHeaded
synced_is_headed version rs n c within left =
    let h = header version in
    let frames = frames_of (start version) rs in
    let size = header_long version in
    let long = length-append h frames in
    sym (take-take 40 n c (omega (arith, size, long, within))) ∙ ap (take 40) left
    ∙ take-take 40 n (h ++ frames) (omega (arith, size, long, within))
    ∙ take-append-le 40 h frames (omega (arith, size)) ∙ take_all 40 h (omega (arith, size))
