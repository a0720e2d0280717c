-- A log that goes on from the front of another.
use Rattle.std.proofs.Common.{◌≡◌, ℕ, ◌<◌, ◌≤◌, List, [], ◌∷◌, ◌++◌, length, drop, refl, sym, ap, subst}
use Rattle.std.proofs.Common.{◌∙◌, arith}
use Rattle.std.specs.Prelude.{Result, Ok, Err}
use Rattle.std.specs.Global.{Vec}
use Rattle.std.proofs.lemmas.List.{append-nil, length-append}
use Rattle.rq_model.specs.Records.{Record, Checkpoint, Version}
use Rattle.rq_model.specs.Spelling.{body_of}
use Rattle.rq_model.specs.Frames.{log_limit, header, start, frame, frames_of, last_of}
use Rattle.rq_model.specs.LogLaws.{FrontsAreSpelt}
use Rattle.rq_model.specs.States.{State, empty}
use Rattle.rq_model.specs.Machine.{run}
use Rattle.rq_model.specs.StateSpelling.{carried_next, state_bytes, SpellsCarried}
use Rattle.rq_model.specs.Fronts.{IsFront}
use Rattle.rq_model.specs.Carrying.{carried_file, as_log, begun_anew, StartsAnew, IsNoLog, ReadsAsLog, AnewJoins}
use Rattle.rq_model.proofs.Runs.{frame_long}
use Rattle.rq_model.proofs.Longest.{log_ends}
use Rattle.rq_model.proofs.Restarts.{header_long}
use Rattle.rq_record.specs.Views.{version_of}
use Rattle.rq_record.specs.declared.fault.Fault.{Fault}
use Rattle.rq_record.specs.declared.fault.Fault.TheVariants as faults
use Rattle.rq_restart.specs.declared.redone.RedoneFront.{RedoneFront}
use Rattle.rq_restart.specs.RedoneFronts.{IsRedoneFront}
use Rattle.rq_journal.specs.Checkpoints.{HasNoCheckpointOf, IsCheckpointOf}
use Rattle.rq_journal.specs.Carries.{BeginsFile, IsBegunIn, IsCarriedOn, StaysHere, Carries}
use Rattle.rq_journal.proofs.WithCheckpoint.{next_fits}

-- how long it is
anew_short : ReadsAsLog → (version : Version) (p : List ℕ) (s : State) → length p ≡ 32
    → length (state_bytes s) ≤ 268435455 → length (begun_anew version p s) ≤ log_limit
anew_short reads version p s long small =
    let body = body_of (Checkpoint (state_bytes s)) in
    let f = frames_of p (Checkpoint (state_bytes s) ∷ []) in
    omega (
      arith,
      small,
      long,
      reads.size version (begun_anew version p s) (reads.headed version p f),
      ap length (reads.whole version p f),
      header_long version,
      length-append (header version) (p ++ f),
      length-append p f,
      length-append (frame p body) [],
      frame_long p body,
    )

-- what begins anew with the body of a checkpoint
module _ (version : Version) (p : List ℕ) (s : State) (body : List ℕ) (long : length p ≡ 32) (is : IsCheckpointOf s body)
    (spelt : SpellsCarried version s (state_bytes s)) where
  abbrev anew : List ℕ
  anew = begun_anew version p s

  whole : carried_file version p (frame p body) ≡ anew
  whole = ap (carried_file version p)
      (ap (frame p) is.bytes ∙ sym (append-nil (frame p (body_of (Checkpoint (state_bytes s))))))

  pub begun_in : StartsAnew → IsNoLog → ReadsAsLog → (new : List ℕ) → new ≡ carried_file version p (frame p body)
      → IsBegunIn version p s new
  begun_in starts apart reads new new_is =
      let made = starts carried_next version p s (as_log version anew) long spelt is.small (anew_short reads version p s long is.small) refl in
      let head = reads.headed version p (frames_of p (Checkpoint (state_bytes s) ∷ [])) in
      subst (IsBegunIn version p s) (sym (new_is ∙ whole)) (record {
        bytes = refl;
        headed = head;
        linked = made.1;
        there = made.0;
        restart = made.2;
        apart = λ log. apart.headed version log.0 anew head log.1;
      })

-- no log numbers so many records that none behind its checkpoint is spelled
pub unnumbered : (b : List ℕ) (f : RedoneFront) → FrontsAreSpelt → IsRedoneFront b f → carried_next ≤ f.state.next
    → StaysHere b faults.TooLong
unnumbered b f spelt h high = let low = next_fits b f spelt h in absurd (omega (arith, high, low))

-- a log whose state has no checkpoint is not carried
pub not_carried : (b : List ℕ) (f : RedoneFront) (e : Fault) → FrontsAreSpelt → IsRedoneFront b f
    → HasNoCheckpointOf f.state e → StaysHere b e
not_carried b f faults.TooLong spelt h high = unnumbered b f spelt h (omega (arith, high))
not_carried b f faults.TooLarge spelt h large = (
  version_of f.version,
  h.records,
  drop f.end.used b,
  h.front,
  subst (λ (z : State). 268435455 < length (state_bytes z)) h.state large.1,
)
not_carried b f faults.Resources spelt h none = tt
not_carried b f _ spelt h none = absurd none

module _ (b : List ℕ) (f : RedoneFront) (body : List ℕ) (h : IsRedoneFront b f) (is : IsCheckpointOf f.state body) where
  abbrev version : Version
  version = version_of f.version

  abbrev state : State
  state = run empty h.records

  abbrev link : List ℕ
  link = last_of (start version) h.records

  -- what a log spells a carried file spells
  spelt_here : FrontsAreSpelt → SpellsCarried version state (state_bytes state)
  spelt_here law =
      let is = law b version h.records [] (drop f.end.used b)
      (subst (λ (z : List Record). IsFront b version z (drop f.end.used b)) (sym (append-nil h.records)) h.front) in
      record {
        next = omega (arith, is.next);
        counted = is.counted;
        keeps = is.keeps;
        fits = is.fits;
        deep = is.deep;
        spelling = is.spelling;
      }

  pub carried_on : (new : List ℕ) → FrontsAreSpelt → StartsAnew → IsNoLog → ReadsAsLog → AnewJoins
      → new ≡ carried_file version f.last (frame f.last body) → IsCarriedOn b new
  carried_on new law starts apart reads join new_is =
      let here = subst (λ (z : State). IsCheckpointOf z body) h.state is in
      let all = new_is ∙ ap (λ (z : List ℕ). carried_file version z (frame z body)) h.last in
      let begun = begun_in version link state body (log_ends version h.records).2 here (spelt_here law) starts apart reads
      new all in
      record {
        version = version;
        records = h.records;
        rest = drop f.end.used b;
        front = h.front;
        begun = begun;
        joins = λ more s kept after left at. join carried_next b (new ++ more) more version h.records (drop f.end.used b)
            s kept after left h.front here.small (ap (λ (z : List ℕ). z ++ more) begun.bytes) at;
      }

  pub carries : (result : Result (Vec ℕ) Fault) → FrontsAreSpelt → StartsAnew → IsNoLog → ReadsAsLog → AnewJoins
      → BeginsFile version f.last body result → Carries b result
  carries (Ok v) law starts apart reads join begun = carried_on v.items law starts apart reads join begun
  carries (Err e) law starts apart reads join begun = subst (StaysHere b) (sym begun) tt
