-- The tail of a log, a crash in it, and a closed log: why it can take the place of the log that was
-- closed.
use Rattle.std.specs.Prelude.{◌≡◌, ◌↔◌, ℕ, ◌+◌, ◌≤◌, List, [], ◌++◌, length, take}
use Rattle.rq_model.specs.Records.{Record, Version}
use Rattle.rq_model.specs.Frames.{log_limit, start, log_of, frames_of, last_of, AreBytes, Whole}
use Rattle.rq_model.specs.States.{empty}
use Rattle.rq_model.specs.Machine.{run, aborts}
use Rattle.rq_model.specs.Fronts.{IsFront, Restarted, IsRestart, Ends}
use Rattle.rq_model.specs.Reports.{IsReport, IsQueueText, front_line, units_line}

-- The frames of the aborts of the units that are open after the front
pub record IsTail (b tail : List ℕ) : Type 0 where
  pub version : Version
  pub records : List Record
  pub rest : List ℕ
  pub front : IsFront b version records rest
  pub bytes : tail ≡ frames_of (last_of (start version) records) (aborts (run empty records))

-- the report of b has these lines for what a restart returns, and these queue lines
pub record HasReport (b : List ℕ) (r : Restarted) (queues : List ℕ) : Type 0 where
  pub restart : IsRestart b r
  pub lines : IsQueueText r.state queues
  pub report : IsReport b (front_line r ++ (units_line r ++ queues))

-- there are two reports, with the same queue lines
abbrev pub HaveSameQueues : List ℕ → List ℕ → Type 0
HaveSameQueues b c = (r t : Restarted) × (queues : List ℕ)
    × HasReport b r queues × HasReport c t queues

-- a restart with the same state, and so with the same queue lines
pub record IsAsBefore (r : Restarted) (b : List ℕ) : Type 0 where
  pub again : Restarted
  pub restart : IsRestart b again
  pub state : again.state ≡ r.state
  pub lines : (text : List ℕ) → IsQueueText again.state text ↔ IsQueueText r.state text

-- A crash during or after restart is harmless: whatever beginning of the tail follows the front,
-- these bytes have a restart, with the same state
abbrev pub CrashInTheTail : Type 0
CrashInTheTail =
    (b tail part missing : List ℕ) (version : Version)
    (records : List Record) (rest : List ℕ) (r : Restarted)
    → IsFront b version records rest → IsTail b tail → tail ≡ part ++ missing
    → length (log_of version records ++ part) ≤ log_limit
    → IsRestart b r → IsAsBefore r (log_of version records ++ part)

-- so it is for every log
abbrev pub CrashSaysTheSame : Type 0
CrashSaysTheSame =
    (b tail part missing : List ℕ) (version : Version) (records : List Record) (rest : List ℕ)
    → AreBytes b → IsFront b version records rest → IsTail b tail
    → tail ≡ part ++ missing → length (log_of version records ++ part) ≤ log_limit
    → HaveSameQueues b (log_of version records ++ part)

-- The front of b, and the tail of b after it
pub record IsClosedBy (b tail closed : List ℕ) : Type 0 where
  pub version : Version
  pub records : List Record
  pub rest : List ℕ
  pub front : IsFront b version records rest
  pub aborts : IsTail b tail
  pub bytes : closed ≡ log_of version records ++ tail

abbrev pub IsClosed : List ℕ → List ℕ → Type 0
IsClosed b closed = (tail : List ℕ) × IsClosedBy b tail closed

-- A log is closed in one way
abbrev pub OneClosed : Type 0
OneClosed = (b x y : List ℕ) → IsClosed b x → IsClosed b y → x ≡ y

-- The front of a closed log is the front of b, then the aborts of the open units; nothing follows
-- it
abbrev pub ClosedFront : Type 0
ClosedFront =
    (b closed : List ℕ) (version : Version) (records : List Record) (rest : List ℕ) →
    IsClosed b closed → length closed ≤ log_limit → IsFront b version records rest
    → IsFront closed version (records ++ aborts (run empty records)) []

-- what a restart of a closed log of this length returns: the same state, and all of it is front;
-- the units that were cut off are aborted
abbrev pub when_closed : Restarted → ℕ → Restarted
when_closed r total = record r {
  records = r.records + r.cut_off;
  used = total;
  total = total;
  why = Ends Whole;
  aborted = r.aborted + r.cut_off;
  cut_off = 0;
}

-- A closed log has the restart of b, and is whole. However much of its tail is there, the queue
-- lines are those of b. Closing it again changes nothing
pub record StandsFor (b closed : List ℕ) : Type 0 where
  pub found : Restarted
  pub restart : IsRestart b found
  pub whole : IsRestart closed (when_closed found (length closed))
  pub crash : (n : ℕ) → found.used ≤ n → HaveSameQueues b (take n closed)
  pub again : (twice : List ℕ) → IsClosed closed twice → twice ≡ closed

-- so does each closed log that is no longer than a log may be
abbrev pub ClosedStands : Type 0
ClosedStands = (b closed : List ℕ) → AreBytes b → IsClosed b closed
    → length closed ≤ log_limit → StandsFor b closed
