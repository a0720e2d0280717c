-- The front of a log, and the aborts behind it.
use Rattle.std.proofs.Common.{◌≡◌, ℕ, ◌+◌, ◌*◌, ◌<◌, ◌≤◌, List, get_or, [], ◌∷◌, ◌++◌, length, map, take}
use Rattle.std.proofs.Common.{drop, refl, sym, ap, subst, ◌∙◌, append_assoc, arith}
use Rattle.std.proofs.lemmas.List.{drop_more, take_at, length-append, length-take, length-drop}
use Rattle.rq_model.specs.Records.{Record, Abort, Version}
use Rattle.rq_model.specs.Spelling.{body_of}
use Rattle.rq_model.specs.Frames.{log_limit, start, HasHeader, before, digest, frame, frames_of, last_of, log_of}
use Rattle.rq_model.specs.LogLaws.{LogEnds}
use Rattle.rq_model.specs.States.{empty}
use Rattle.rq_model.specs.Machine.{run, aborts}
use Rattle.rq_model.specs.Fronts.{IsFront, Why}
use Rattle.rq_model.specs.Closing.{IsClosedBy}
use Rattle.rq_model.proofs.Longest.{front_whole}
use Rattle.rq_model.proofs.Runs.{frame_long}
use Rattle.rq_record.specs.declared.fault.Fault.{Fault}
use Rattle.rq_record.specs.declared.fault.Fault.TheVariants as faults
use Rattle.rq_record.specs.declared.record.UnitNo.{UnitNo}
use Rattle.rq_state.specs.Views.{unit_of}
use Rattle.rq_judged.specs.FrontEnds.{IsFrontFrom}
use Rattle.rq_restart.specs.Tails.{StaysOpen}
use Rattle.rq_judged.proofs.Starts.{before_is, started, whole_front}

-- of the aborts of units, one is written, and the others are still to come
pub one_written : (us : List UnitNo) (i : ℕ) (d : UnitNo) (out new p last whole : List ℕ) → i < length us
    → out ++ frames_of p (map Abort (map unit_of (drop i us))) ≡ whole
    → new ≡ out ++ frame p (body_of (Abort (unit_of (get_or us i d))))
    → last ≡ digest p (body_of (Abort (unit_of (get_or us i d))))
    → new ++ frames_of last (map Abort (map unit_of (drop (i + 1) us))) ≡ whole
one_written us i d out new p last whole lt so_far wrote end =
    let body = body_of (Abort (unit_of (get_or us i d))) in
    let others = frames_of (digest p body) (map Abort (map unit_of (drop (i + 1) us))) in
    (λ k. wrote k ++ frames_of (end k) (map Abort (map unit_of (drop (i + 1) us))))
    ∙ append_assoc out (frame p body) others
    ∙ ap (λ (vs : List UnitNo). out ++ frames_of p (map Abort (map unit_of vs))) (sym (drop_more us i d lt))
    ∙ so_far

-- the frames of aborts have 45 bytes each
pub aborts_long : (p : List ℕ) (us : List ℕ) → length (frames_of p (map Abort us)) ≡ 45 * length us
aborts_long p [] = refl
aborts_long p (u ∷ us) =
    let body = body_of (Abort u) in
    let nine : length body ≡ 9 = refl in
    omega (
      arith,
      length-append (frame p body) (frames_of (digest p body) (map Abort us)),
      frame_long p body,
      nine,
      aborts_long (digest p body) us,
    )

-- up to where the front ends stands its log
pub front_bytes : (b : List ℕ) (version : Version) (rs : List Record) (end : ℕ) → end ≤ length b
    → IsFront b version rs (drop end b) → take end b ≡ log_of version rs
front_bytes b version rs end within front =
    let log = log_of version rs in
    let rest : List ℕ = drop end b in
    let whole : b ≡ log ++ rest = front_whole b version rs rest front in
    let long : length log ≡ end = omega (arith, ap length whole, length-append log rest, length-drop end b, within) in
    ap (take end) whole ∙ take_at log rest end long

-- of a log and where its front ends: the bytes up to there, the last 32 of them, and what closes it
pub record IsFrontOf (version : Version) (b : List ℕ) (rs : List Record) (end : ℕ) : Type 0 where
  pub front : IsFront b version rs (drop end b)
  pub bytes : take end b ≡ log_of version rs
  pub last : before end b ≡ last_of (start version) rs

pub front_of : (version : Version) → LogEnds → (b : List ℕ) (rs : List Record) (end : ℕ) (why : Why)
    → length b ≤ log_limit → HasHeader version b → IsFrontFrom version empty b 40 rs end why
    → IsFrontOf version b rs end
front_of version law b rs end why short head h =
    let front = whole_front version b rs end why (started version law b head) short h in
    let rest : List ℕ = drop end b in
    let bytes = front_bytes b version rs end h.within front in
    let ends = law version rs in
    let apart : b ≡ ends.0 ++ (last_of (start version) rs ++ rest) =
    front_whole b version rs rest front ∙ ap (λ (z : List ℕ). z ++ rest) ends.1 ∙ append_assoc ends.0 (last_of (start version) rs) rest in
    let here : end ≡ length ends.0 + 32 =
    omega (
      arith,
      h.within,
      length-take end b,
      ap length (bytes ∙ ends.1),
      length-append ends.0 (last_of (start version) rs),
      ends.2,
    ) in
    record {
      front = front;
      bytes = bytes;
      last = ap (before end) apart ∙ before_is ends.0 (last_of (start version) rs) rest end ends.2 here;
    }

pub closed_by : (version : Version) (b tail : List ℕ) (rs : List Record) (end : ℕ) → IsFrontOf version b rs end
    → tail ≡ frames_of (last_of (start version) rs) (aborts (run empty rs)) → IsClosedBy b tail (take end b ++ tail)
closed_by version b tail rs end h is = record {
  version = version;
  records = rs;
  rest = drop end b;
  front = h.front;
  aborts = record { version = version; records = rs; rest = drop end b; front = h.front; bytes = is };
  bytes = ap (λ (z : List ℕ). z ++ tail) h.bytes;
}

-- refused memory leaves it open
pub no_memory : (b : List ℕ) (e : Fault) → e ≡ faults.Resources → StaysOpen b e
no_memory b e is = subst (StaysOpen b) (sym is) tt
