-- No request is lost, done twice or tried without end, and a client that registers again learns how
-- far it came. A restart changes nothing of this, and its report says the same.
use Rattle.std.specs.Prelude.{◌≡◌, ◌≢◌, ◌≤◌, ℕ, ◌+◌, Bool, true, List, ◌++◌, None, ◌<◌, ◌^◌, ◌==◌}
use Rattle.std.specs.Prelude.{◌&&◌, if◌then◌else◌, [], ◌∷◌, length, take, codes}
use Rattle.std.specs.List.{AllByRecursion}
use Rattle.std.specs.Fmt.{decimal}
use Rattle.std.specs.Str.{bytes_eq}
use Rattle.rq_model.specs.Records.{Record, Version}
use Rattle.rq_model.specs.Frames.{log_limit, log_of, AreBytes}
use Rattle.rq_model.specs.States.{Free, Element, State, empty, definition_at}
use Rattle.rq_model.specs.Machine.{all_lawful, run, final, is_open, is_registered, latest, outcome_from}
use Rattle.rq_model.specs.Fronts.{IsFront, Restarted, IsRestart}
use Rattle.rq_model.specs.Reports.{IsReport}
use Rattle.rq_model.specs.Checkpoints.{TrueAt, IsRestartAt, IsReportAt}
use Rattle.rq_model.specs.Closing.{IsTail, IsClosed}
use Rattle.rq_model.specs.Fates.{IsAt, IsEnqueued, IsCommitted, with_aborts, counted, IsPassing}
use Rattle.rq_model.specs.Fates.{requests, takes, done, kills, shown, IsPath, limits_left, tries}
use Rattle.rq_model.specs.Fates.{tries_at, leavings, IsBounded, remains, hears}

-- One fate.

-- How often a number is shown, was done and was killed adds up to how often it was requested
abbrev pub OneFate : Type 0
OneFate = (version : Version) (rs : List Record) (p : ℕ) → all_lawful version empty rs ≡ true
    → shown p (final (run empty rs)) + (done p (with_aborts rs) + kills p (with_aborts rs))
    ≡ requests p (with_aborts rs)

-- and it is requested at most once
abbrev pub OneRequest : Type 0
OneRequest = (rs : List Record) (p : ℕ) → requests p rs ≤ 1

-- So a request whose unit commits has one fate
abbrev pub CommittedHasOneFate : Type 0
CommittedHasOneFate =
    (version : Version) (rs : List Record) (p unit queue priority : ℕ) (payload : List ℕ)
    → all_lawful version empty rs ≡ true → IsEnqueued rs p unit queue priority payload
    → IsCommitted rs unit
    → shown p (final (run empty rs)) + (done p (with_aborts rs) + kills p (with_aborts rs)) ≡ 1

-- What no committing unit enqueued was never taken
abbrev pub OthersAreUntaken : Type 0
OthersAreUntaken = (version : Version) (rs : List Record) (p : ℕ)
    → all_lawful version empty rs ≡ true → requests p rs ≡ 0 → takes p rs ≡ 0

-- Elements.

-- an element is as the ENQUEUE of its own number made it; it is where its limits led it; its tries
-- are the limits that it left behind plus its attempts
pub record IsAsEnqueued (rs : List Record) (s : State) (e : Element) : Type 0 where
  pub unit : ℕ
  pub enqueued : IsEnqueued rs e.id unit e.origin e.priority e.payload
  pub homes : List ℕ
  pub path : IsPath s.definitions e.origin homes e.home
  pub tried : tries e.id rs ≡ limits_left s.definitions e.origin homes + e.attempts

-- Each element of a lawful run is like this
abbrev pub AllAsEnqueued : Type 0
AllAsEnqueued = (version : Version) (rs : List Record) → all_lawful version empty rs ≡ true
    → AllByRecursion (IsAsEnqueued rs (run empty rs)) (run empty rs).elements

-- There is one record of a number
abbrev pub OneRecord : Type 0
OneRecord = (rs : List Record) (p : ℕ) (a b : List Record) (r t : Record) →
    IsAt rs p a r → IsAt rs p b t → (a ≡ b) × (r ≡ t)

-- What is left at the end is Free
abbrev pub AllAreFree : Type 0
AllAreFree = (version : Version) (rs : List Record) → all_lawful version empty rs ≡ true
    → AllByRecursion (λ e. e.mark ≡ Free) (final (run empty rs)).elements

-- Tries.

-- In a queue with a limit the tries are bounded
abbrev pub BoundedTries : Type 0
BoundedTries = (version : Version) (rs : List Record) (p home : ℕ)
    → all_lawful version empty rs ≡ true
    → (definition_at (run empty rs).definitions home).limit ≢ 0
    → IsBounded (definition_at (run empty rs).definitions home).limit (tries_at p home rs)
    (leavings p home rs)

-- The attempts of an element are its tries in its home
abbrev pub AttemptsAreTries : Type 0
AttemptsAreTries = (version : Version) (rs : List Record) → all_lawful version empty rs ≡ true
    → AllByRecursion (λ e. e.attempts ≡ tries_at e.id e.home rs) (run empty rs).elements

-- At the end, how often a number was taken is how often it was tried plus how often it was done
abbrev pub TakesAreTries : Type 0
TakesAreTries = (version : Version) (rs : List Record) (p : ℕ) → all_lawful version empty rs ≡ true
    → takes p (with_aborts rs) ≡ tries p (with_aborts rs) + done p (with_aborts rs)

-- The records and the ABORTs after them are lawful, and end where a restart does: so what holds for
-- runs holds for what a report shows
abbrev pub RunsEnd : Type 0
RunsEnd = (version : Version) (rs : List Record) → all_lawful version empty rs ≡ true
    → (all_lawful version empty (with_aborts rs) ≡ true)
    × (run empty (with_aborts rs) ≡ final (run empty rs))

-- Clients.

-- A registrant's last operation is the latest that it hears of
abbrev pub HowFar : Type 0
HowFar = (version : Version) (rs : List Record) → all_lawful version empty rs ≡ true
    → AllByRecursion (λ r. r.last ≡ latest None (hears r.queue r.name empty rs))
    (run empty rs).registrants

-- Whoever is registered has a REGISTER with no DEREGISTER after it
abbrev pub WhoIsRegistered : Type 0
WhoIsRegistered = (rs : List Record) (queue : ℕ) (name : List ℕ)
    → is_registered (run empty rs) queue name ≡ remains queue name rs

-- What the counts mean.

-- If the count is 0, no record passes; if it is 1, exactly one does
abbrev pub CountIsNone : Type 0
CountIsNone = (test : State → List Record → Bool) (s : State) (rs : List Record) (p : ℕ)
    → counted test s rs ≡ 0 → IsPassing test s rs p → ⊥

abbrev pub CountIsOne : Type 0
CountIsOne = (test : State → List Record → Bool) (s : State) (rs : List Record)
    → counted test s rs ≡ 1
    → (p : ℕ) × IsPassing test s rs p × ((q : ℕ) → IsPassing test s rs q → q ≡ p)

-- The outcome of an open unit is what the records ahead say
abbrev pub OutcomeIsAhead : Type 0
OutcomeIsAhead = (version : Version) (before ahead : List Record) (unit : ℕ)
    → all_lawful version empty (before ++ ahead) ≡ true → is_open (run empty before) unit ≡ true
    → outcome_from 0 unit (before ++ ahead) ≡ outcome_from (run empty before).next unit ahead

-- what a state says about the requests and clients of records that were run, with the ABORTs after
-- them
pub record Accounts (rs : List Record) (s : State) : Type 0 where
  pub fates : (p : ℕ) → shown p s + (done p rs + kills p rs) ≡ requests p rs
  pub elements : AllByRecursion (IsAsEnqueued rs s) s.elements
  pub free : AllByRecursion (λ e. e.mark ≡ Free) s.elements
  pub attempts : AllByRecursion (λ e. e.attempts ≡ tries_at e.id e.home rs) s.elements
  pub bounded : (p home : ℕ) → (definition_at s.definitions home).limit ≢ 0
      → IsBounded (definition_at s.definitions home).limit (tries_at p home rs) (leavings p home rs)
  pub taken : (p : ℕ) → takes p rs ≡ tries p rs + done p rs
  pub registered : (queue : ℕ) (name : List ℕ)
      → is_registered s queue name ≡ remains queue name rs
  pub clients : AllByRecursion (λ r. r.last ≡ latest None (hears r.queue r.name empty rs))
      s.registrants

-- A restart accounts for the front
abbrev pub RestartAccounts : Type 0
RestartAccounts =
    (b : List ℕ) (version : Version) (rs : List Record) (rest : List ℕ) (r : Restarted) →
    IsFront b version rs rest → IsRestart b r → Accounts (with_aborts rs) r.state

-- so does a restart of the closed log
abbrev pub ClosedAccounts : Type 0
ClosedAccounts =
    (b closed : List ℕ) (version : Version) (rs : List Record) (rest : List ℕ) (r : Restarted) →
    AreBytes b → IsFront b version rs rest → IsClosed b closed → length closed ≤ log_limit
    → IsRestart closed r → Accounts (with_aborts rs) r.state

-- a restart of the front with a beginning of its tail
abbrev pub BeginningAccounts : Type 0
BeginningAccounts =
    (b tail part missing : List ℕ) (version : Version) (rs : List Record) (rest : List ℕ)
    (r : Restarted) → AreBytes b → IsFront b version rs rest → IsTail b tail
    → tail ≡ part ++ missing → length (log_of version rs ++ part) ≤ log_limit
    → IsRestart (log_of version rs ++ part) r → Accounts (with_aborts rs) r.state

-- and a restart from a true checkpoint
abbrev pub CheckpointAccounts : Type 0
CheckpointAccounts =
    (b : List ℕ) (offset : ℕ) (version : Version) (rs : List Record) (rest : List ℕ)
    (r : Restarted) → IsFront b version rs rest → TrueAt b offset
    → IsRestartAt b offset r → Accounts (with_aborts rs) r.state

-- Lines of reports.

abbrev pub begins_with : List ℕ → List ℕ → Bool
begins_with head text = bytes_eq (take (length head) text) head

-- how many lines of a text begin this way; `starts` says whether the text begins a line
abbrev pub lines_that_begin : List ℕ → Bool → List ℕ → ℕ
lines_that_begin head starts [] = 0
lines_that_begin head starts (b ∷ text) =
    (if starts && begins_with head (b ∷ text) then 1 else 0)
    + lines_that_begin head (b == 10) text

-- how many lines `e p ..` the text has
abbrev pub element_lines : ℕ → List ℕ → ℕ
element_lines p text = lines_that_begin (codes "e " ++ (decimal p ++ codes " ")) true text

-- In a report of the log each number of 64 bits, as record numbers are, has a line as often as it
-- was requested, less how often it was done and killed
abbrev pub ReportAccounts : Type 0
ReportAccounts =
    (b : List ℕ) (version : Version) (rs : List Record) (rest text : List ℕ) (p : ℕ) →
    p < 2 ^ 64 → IsFront b version rs rest → IsReport b text
    → element_lines p text + (done p (with_aborts rs) + kills p (with_aborts rs))
    ≡ requests p (with_aborts rs)

-- in one of the front with a beginning of its tail
abbrev pub BeginningReportAccounts : Type 0
BeginningReportAccounts =
    (b tail part missing : List ℕ) (version : Version) (rs : List Record) (rest text : List ℕ)
    (p : ℕ) → p < 2 ^ 64 → AreBytes b → IsFront b version rs rest → IsTail b tail
    → tail ≡ part ++ missing → length (log_of version rs ++ part) ≤ log_limit
    → IsReport (log_of version rs ++ part) text
    → element_lines p text + (done p (with_aborts rs) + kills p (with_aborts rs))
    ≡ requests p (with_aborts rs)

-- and in one from a true checkpoint
abbrev pub CheckpointReportAccounts : Type 0
CheckpointReportAccounts =
    (b : List ℕ) (offset : ℕ) (version : Version) (rs : List Record) (rest text : List ℕ) (p : ℕ)
    → p < 2 ^ 64 → IsFront b version rs rest → TrueAt b offset → IsReportAt b offset text
    → element_lines p text + (done p (with_aborts rs) + kills p (with_aborts rs))
    ≡ requests p (with_aborts rs)
