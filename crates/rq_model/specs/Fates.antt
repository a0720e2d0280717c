-- What becomes of a request, how often it is tried, and how far a client came: counts of records
-- that pass a test.
use Rattle.std.specs.Prelude.{◌≡◌, ◌≢◌, ◌⊎◌, ◌<◌, ℕ, ◌+◌, ◌==◌, Bool, true, false, not, ◌&&◌, ◌||◌, if◌then◌else◌}
use Rattle.std.specs.Prelude.{List, [], ◌∷◌, ◌++◌, length, filter, Option, Some, None, option_map}
use Rattle.std.specs.List.{list_any}
use Rattle.std.specs.Str.{bytes_eq}
use Rattle.rq_model.specs.Records.{By, Record, Register, Deregister, Enqueue, Dequeue, Abort, Kill}
use Rattle.rq_model.specs.States.{Enqueued, Dequeued, Element, Note, Definition, State, empty}
use Rattle.rq_model.specs.States.{definition_at, is_held, is_note_of}
use Rattle.rq_model.specs.Machine.{is_free_at, best, leaves, noted, step, run, aborts, Outcome}
use Rattle.rq_model.specs.Machine.{Committed, Aborted, Open, outcome_from}

-- Records by their number.

-- record p of rs is r; `before` are those before it
pub record IsAt (rs : List Record) (p : ℕ) (before : List Record) (r : Record) : Type 0 where
  pub after : List Record
  pub whole : rs ≡ before ++ r ∷ after
  pub place : p ≡ length before

-- record p is an ENQUEUE by the unit into the queue
pub record IsEnqueued (rs : List Record) (p unit queue priority : ℕ) (payload : List ℕ)
    : Type 0 where
  pub before : List Record
  pub by : Option By
  pub there : IsAt rs p before (Enqueue unit queue priority by payload)

-- the unit ends by COMMIT
abbrev pub IsCommitted : List Record → ℕ → Type 0
IsCommitted rs unit = (place : ℕ) × (outcome_from 0 unit rs ≡ Committed place)

-- the records, then the ABORTs of the units that are still open
abbrev pub with_aborts : List Record → List Record
with_aborts rs = rs ++ aborts (run empty rs)

-- Counts.

-- how many records of a run pass a test; the test sees the state before the record, and the records
-- from it on
abbrev pub counted : (State → List Record → Bool) → State → List Record → ℕ
counted test s [] = 0
counted test s (r ∷ rs) = (if test s (r ∷ rs) then 1 else 0) + counted test (step s r) rs

-- the record of that number passes
abbrev pub IsPassing : (State → List Record → Bool) → State → List Record → ℕ → Type 0
IsPassing test s [] p = ⊥
IsPassing test s (r ∷ rs) p = ((p ≡ s.next) × (test s (r ∷ rs) ≡ true))
    ⊎ IsPassing test (step s r) rs p

abbrev pub is_committed : Outcome → Bool
is_committed (Committed place) = true
is_committed (Aborted place) = false
is_committed Open = false

-- the unit commits in the records ahead; the first of these has the number `place`
abbrev pub commits : ℕ → List Record → ℕ → Bool
commits place ahead unit = is_committed (outcome_from place unit ahead)

-- Fates.

abbrev pub has_id : ℕ → Element → Bool
has_id p e = e.id == p

-- there is an element, and it is p
abbrev pub is_that : ℕ → Option Element → Bool
is_that p None = false
is_that p (Some e) = has_id p e

-- record p is an ENQUEUE by a unit that commits
abbrev pub is_request : ℕ → State → List Record → Bool
is_request p s (Enqueue unit queue priority by payload ∷ ahead) =
    (s.next == p) && commits (s.next + 1) ahead unit
is_request p s rs = false

-- a DEQUEUE that takes p, since p is the best element of the queue
abbrev pub is_take : ℕ → State → List Record → Bool
is_take p s (Dequeue unit queue by ∷ ahead) = is_that p (best queue s.elements)
is_take p s rs = false

-- a DEQUEUE that takes p, of a unit that commits
abbrev pub is_taken_for_good : ℕ → State → List Record → Bool
is_taken_for_good p s (Dequeue unit queue by ∷ ahead) =
    is_that p (best queue s.elements) && commits (s.next + 1) ahead unit
is_taken_for_good p s rs = false

-- a KILL of p that finds it Free in the queue that it names
abbrev pub is_kill : ℕ → State → List Record → Bool
is_kill p s (Kill queue element ∷ ahead) = (element == p)
    && list_any (λ e. is_free_at queue e && (e.id == element)) s.elements
is_kill p s rs = false

-- how often p was requested, taken, done and killed
abbrev pub requests : ℕ → List Record → ℕ
requests p rs = counted (is_request p) empty rs

abbrev pub takes : ℕ → List Record → ℕ
takes p rs = counted (is_take p) empty rs

abbrev pub done : ℕ → List Record → ℕ
done p rs = counted (is_taken_for_good p) empty rs

abbrev pub kills : ℕ → List Record → ℕ
kills p rs = counted (is_kill p) empty rs

-- how often p is in the state
abbrev pub shown : ℕ → State → ℕ
shown p s = length (filter (has_id p) s.elements)

-- Homes.

-- from a queue with a limit to its error queue
abbrev pub IsNextHome : List Definition → ℕ → ℕ → Type 0
IsNextHome definitions home next = ((definition_at definitions home).limit ≢ 0)
    × (next ≡ (definition_at definitions home).error)

-- each of the homes is the next one of that before it, and the last one is `home`
abbrev pub IsPath : List Definition → ℕ → List ℕ → ℕ → Type 0
IsPath definitions queue [] home = home ≡ queue
IsPath definitions queue (next ∷ homes) home = IsNextHome definitions queue next
    × IsPath definitions next homes home

-- the sum of the limits of the queues that a path leaves
abbrev pub limits_left : List Definition → ℕ → List ℕ → ℕ
limits_left definitions queue [] = 0
limits_left definitions queue (next ∷ homes) =
    (definition_at definitions queue).limit + limits_left definitions next homes

-- Tries.

-- an ABORT of a unit that holds p
abbrev pub is_try : ℕ → State → List Record → Bool
is_try p s (Abort unit ∷ ahead) = list_any (λ e. has_id p e && is_held unit e.mark) s.elements
is_try p s rs = false

-- an ABORT of a unit that holds p, while that queue is its home
abbrev pub is_try_at : ℕ → ℕ → State → List Record → Bool
is_try_at p home s (Abort unit ∷ ahead) =
    list_any (λ e. has_id p e && ((e.home == home) && is_held unit e.mark)) s.elements
is_try_at p home s rs = false

-- and by it p leaves for its error queue
abbrev pub is_leave : ℕ → ℕ → State → List Record → Bool
is_leave p home s (Abort unit ∷ ahead) =
    list_any (λ e. has_id p e && ((e.home == home)
    && leaves (definition_at s.definitions home) unit e)) s.elements
is_leave p home s rs = false

-- how often p was tried, in any queue and in this one, and how often it left this one
abbrev pub tries : ℕ → List Record → ℕ
tries p rs = counted (is_try p) empty rs

abbrev pub tries_at : ℕ → ℕ → List Record → ℕ
tries_at p home rs = counted (is_try_at p home) empty rs

abbrev pub leavings : ℕ → ℕ → List Record → ℕ
leavings p home rs = counted (is_leave p home) empty rs

-- fewer tries than the limit and it has not left, or as many and it has left once
abbrev pub IsBounded : ℕ → ℕ → ℕ → Type 0
IsBounded limit tried left = ((tried < limit) × (left ≡ 0)) ⊎ ((tried ≡ limit) × (left ≡ 1))

-- Clients.

-- the operation of a client, if the record is one
abbrev pub operation : State → Record → List Note
operation s (Enqueue unit queue priority by payload) =
    noted s.next unit queue by Enqueued (Some s.next)
operation s (Dequeue unit queue by) =
    noted s.next unit queue by Dequeued (option_map (λ e. e.id) (best queue s.elements))
operation s r = []

-- a REGISTER and a DEREGISTER of the client
abbrev pub registers : ℕ → List ℕ → Record → Bool
registers queue name (Register q n) = (q == queue) && bytes_eq n name
registers queue name r = false

abbrev pub deregisters : ℕ → List ℕ → Record → Bool
deregisters queue name (Deregister q n) = (q == queue) && bytes_eq n name
deregisters queue name r = false

-- a REGISTER of the client has no DEREGISTER of it after it
abbrev pub remains : ℕ → List ℕ → List Record → Bool
remains queue name [] = false
remains queue name (r ∷ rs) =
    (registers queue name r && not (list_any (deregisters queue name) rs)) || remains queue name rs

-- the operation names the client, its unit commits, and no DEREGISTER of the client follows
abbrev pub is_heard : ℕ → List ℕ → ℕ → List Record → Note → Bool
is_heard queue name place ahead n = is_note_of queue name n
    && (commits place ahead n.unit && not (list_any (deregisters queue name) ahead))

-- the operations that the client hears of, rising
abbrev pub hears : ℕ → List ℕ → State → List Record → List Note
hears queue name s [] = []
hears queue name s (r ∷ rs) = filter (is_heard queue name (s.next + 1) rs) (operation s r)
    ++ hears queue name (step s r) rs
