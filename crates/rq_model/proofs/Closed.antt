-- A closed log, and what there is of it while its tail is written.
use Rattle.std.proofs.Common.{◌≡◌, ℕ, ◌+◌, ◌-◌, ◌<◌, ◌≤◌, true, List, [], ◌∷◌, ◌++◌, length, map, take, drop, refl, sym}
use Rattle.std.proofs.Common.{ap, subst, ◌∙◌, arith}
use Rattle.std.proofs.Math.Seq.{take-length, take-append-add}
use Rattle.std.proofs.lemmas.List.{append-nil, length-append, length-take, take-append-drop}
use Rattle.sha2.specs.Sha256.{sha256}
use Rattle.rq_model.specs.Records.{Record, Abort, Version}
use Rattle.rq_model.specs.Frames.{log_limit, magic, log_of, frames_of, last_of, Whole}
use Rattle.rq_model.specs.States.{State, empty}
use Rattle.rq_model.specs.Machine.{all_lawful, closed_units, step, run, aborts, final}
use Rattle.rq_model.specs.WellFormed.{Ordered}
use Rattle.rq_model.specs.Fronts.{Ends, IsFront, Restarted, IsRestart}
use Rattle.rq_model.specs.Closing.{IsClosed, OneClosed, ClosedFront, when_closed, HaveSameQueues, ClosedStands}
use Rattle.rq_model.proofs.Tails.{crash_is_harmless, first_closed, aborts_follow, crash_in_the_tail}
use Rattle.rq_model.proofs.Kept.{runs_are_well_formed, empty_is_well_formed}
use Rattle.rq_model.proofs.Longest.{one_front, log_joins, used_long}
use Rattle.rq_model.proofs.Restarts.{run_join, lawful_join}
use Rattle.rq_model.proofs.Appended.{front_follows, appended_is_front}
use Rattle.rq_model.proofs.Found.{front_restart, restart_lines}

-- the numbers after this many aborts, if no unit is open any more
pub record AreAborted (s t : State) (count : ℕ) : Type 0 where
  pub units : t.units ≡ []
  pub next : t.next ≡ s.next + count
  pub committed : t.committed ≡ s.committed
  pub aborted : t.aborted ≡ s.aborted + count

pub are_aborted : (us : List ℕ) (s : State) → s.units ≡ us → Ordered (λ a b. a < b) us
    → AreAborted s (run s (map Abort us)) (length us)
are_aborted [] s is rise = record { units = is; next = omega arith; committed = refl; aborted = omega arith }
are_aborted (u ∷ us) s is rise =
    let left = ap (closed_units u) is ∙ first_closed u us rise in
    let more = are_aborted us (step s (Abort u)) left rise.1 in
    record {
      units = more.units;
      next = omega (arith, more.next);
      committed = more.committed;
      aborted =
          omega (arith, more.aborted);
    }

-- lawful records, and the aborts of the units that are open after them
pub record AreEnded (version : Version) (rs : List Record) : Type 0 where
  pub lawful : all_lawful version empty (rs ++ aborts (run empty rs)) ≡ true
  pub state : final (run empty (rs ++ aborts (run empty rs))) ≡ final (run empty rs)
  pub numbers : AreAborted (run empty rs) (run empty (rs ++ aborts (run empty rs))) (length (run empty rs).units)

pub are_ended : (version : Version) (rs : List Record) → all_lawful version empty rs ≡ true → AreEnded version rs
are_ended version rs lawful =
    let s = run empty rs in
    let xs = aborts s in
    let keeps = runs_are_well_formed version empty rs empty_is_well_formed lawful in
    let harmless = crash_is_harmless version s (length xs) keeps in
    let all = take-length xs in
    let joined = run_join empty rs xs in
    record {
      lawful = lawful_join version empty rs xs lawful
          (subst (λ (ys : List Record). all_lawful version s ys ≡ true) all harmless.0);
      state = ap final joined ∙ subst (λ (ys : List Record). final (run s ys) ≡ final s) all harmless.1;
      numbers = subst (λ (t : State). AreAborted s t (length s.units)) (sym joined)
          (are_aborted s.units s refl keeps.units_rise);
    }

-- a closed log is the log of the front's records and the aborts
spelt : (b closed : List ℕ) (version : Version) (rs : List Record) (rest : List ℕ) → IsClosed b closed
    → IsFront b version rs rest → closed ≡ log_of version (rs ++ aborts (run empty rs))
spelt b closed version rs rest (tail, h) front =
    let one = one_front b h.version version h.records rs h.rest rest h.front front in
    let two = one_front b _ _ _ rs _ rest h.aborts.front front in
    let tail_is = h.aborts.bytes
    ∙ (λ i. frames_of (last_of (sha256 (magic (two.0 i))) (two.1 i)) (aborts (run empty (two.1 i)))) in
    h.bytes ∙ (λ i. log_of (one.0 i) (one.1 i) ++ tail_is i) ∙ sym (log_joins version rs (aborts (run empty rs)))

pub one_closed : OneClosed
one_closed b x y (tail, h) k = spelt b x h.version h.records h.rest (tail, h) h.front
    ∙ sym (spelt b y h.version h.records h.rest k h.front)

pub closed_front : ClosedFront
closed_front b closed version rs rest h short front =
    let xs = aborts (run empty rs) in
    let is = spelt b closed version rs rest h front in
    subst (λ (z : List ℕ). IsFront z version (rs ++ xs) []) (sym is)
    (appended_is_front b version rs rest xs front (aborts_follow version rs (front_follows b version rs rest front))
    (subst (λ (z : List ℕ). length z ≤ log_limit) is short))

-- the restart of a closed log
whole : (b closed : List ℕ) (r : Restarted) → IsClosed b closed → length closed ≤ log_limit → IsRestart b r
    → IsRestart closed (when_closed r (length closed))
whole b closed r h short restart =
    let rs = restart.records in
    let s = run empty rs in
    let t = run empty (rs ++ aborts s) in
    let n = length closed in
    let ended = are_ended restart.version rs restart.front.longest.begins.lawful in
    let next = sym ended.numbers.next in
    let used : n ≡ n - 0 = omega arith in
    let aborted = sym ended.numbers.aborted in
    let none = sym (ap length ended.numbers.units) in
    record {
      version = restart.version;
      records = rs ++ aborts s;
      rest = [];
      why = Ends Whole;
      front = closed_front b closed restart.version rs restart.rest h short restart.front;
      ends = refl;
      answer = grind arith;
    }

-- a beginning of a closed log that holds the front
crash : (b closed : List ℕ) (r : Restarted) (n : ℕ) → IsClosed b closed → length closed ≤ log_limit → IsRestart b r
    → r.used ≤ n → HaveSameQueues b (take n closed)
crash b closed r n (tail, h) short restart low =
    let front = log_of h.version h.records in
    let k = n - r.used in
    let part = take k tail in
    let used = used_long b h.version h.records h.rest r h.front restart in
    let parts = sym (take-append-drop k tail) in
    let room : length (front ++ part) ≤ log_limit =
    omega (
      arith,
      short,
      ap length h.bytes,
      length-append front tail,
      length-append front part,
      length-take k tail,
    ) in
    let here = ap (λ (m : ℕ). take m closed) (omega (arith, low, used)) ∙ ap (take (length front + k)) h.bytes
    ∙ take-append-add front tail k in
    let after = crash_in_the_tail b tail part (drop k tail) h.version h.records h.rest r h.front h.aborts parts room
    restart in
    let (queues, told) = restart_lines b r restart in
    subst (HaveSameQueues b) (sym here) (grind arith)

-- a closed log, closed again
again : (b closed twice : List ℕ) → IsClosed b closed → length closed ≤ log_limit → IsClosed closed twice
    → twice ≡ closed
again b closed twice (tail, h) short k =
    let version = h.version in
    let rs = h.records in
    let all = rs ++ aborts (run empty rs) in
    let front = closed_front b closed version rs h.rest (tail, h) short h.front in
    let ended = are_ended version rs h.front.longest.begins.lawful in
    let none = sym (grind arith) in
    let itself : IsClosed closed closed = (
      [],
      record {
        version = version;
        records = all;
        rest = [];
        front = front;
        aborts = record { version = version; records = all; rest = []; front = front; bytes = none };
        bytes = spelt b closed version rs h.rest (tail, h) h.front ∙ sym (append-nil (log_of version all));
      },
    ) in
    one_closed closed twice closed k itself

pub closed_stands : ClosedStands
closed_stands b closed fits h short =
    let by = h.1 in
    let (r, restart) = front_restart b by.version by.records by.rest fits by.front in
    record {
      found = r;
      restart = restart;
      whole = whole b closed r h short restart;
      crash = λ n low. crash b closed r n h short restart low;
      again = λ twice k. again b closed twice h short k;
    }
