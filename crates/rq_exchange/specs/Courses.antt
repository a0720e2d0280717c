-- How a replay went, as its countdowns tell it.
use Rattle.std.specs.Prelude.{◌≡◌, ◌≢◌, ◌<◌, ℕ, List, [], length, map, slice_index_or, flat_map}
use Rattle.rq_pool.specs.declared.countdown.arrival.Entry.{Entry}
use Rattle.rq_pool.specs.Countdowns.Arrivals.{Settled, arrivals_for, last_lists}
use Rattle.rq_pool.specs.Countdowns.Words.{histories_of}
use Rattle.rq_pool.specs.Ledger.{times}
use Rattle.rq_exchange.specs.declared.chain.CountdownChain.{CountdownChain}
use Rattle.rq_exchange.specs.declared.course.Course.{Course}
use Rattle.rq_exchange.specs.declared.crew.WorkDone.{WorkDone}
use Rattle.rq_exchange.specs.declared.outboxes.Outbox.{Outbox}
use Rattle.rq_exchange.specs.Chains.{redone_in, diaries_of}
use Rattle.rq_exchange.specs.Coverage.{told_at}
use Rattle.rq_exchange.specs.Links.{at, naming}

-- the queues that each thread redid
abbrev pub redone_of : Course → List (List ℕ)
redone_of c = c.redone

-- those of the kth thread
abbrev pub redone_by : Course → ℕ → List ℕ
redone_by c k = slice_index_or (redone_of c) k []

-- what the closed countdown of a queue tells: the arrivals of each thread, for the sources of the
-- queue
abbrev pub told_of : Course → ℕ → List (List (Entry Outbox))
told_of c queue = slice_index_or (map histories_of c.closings.items) (at c.slots.items queue) []

-- those of the kth thread
abbrev pub told_to : Course → ℕ → ℕ → List (Entry Outbox)
told_to c k queue = slice_index_or (told_of c queue) k []

-- the arrivals of all threads, one thread after the other
abbrev pub all_told : Course → ℕ → List (Entry Outbox)
all_told c queue = flat_map (λ es. es) (told_of c queue)

-- one of the lists has it, once, and no other has it
pub record IsAlone (x : ℕ) (lists : List (List ℕ)) : Type 0 where
  pub index : ℕ
  pub within : index < length lists
  pub here : times x (slice_index_or lists index []) ≡ 1
  pub nowhere_else : (k : ℕ) → k < length lists → k ≢ index
      → times x (slice_index_or lists k []) ≡ 0

-- Each queue is redone by one thread, once. What leaves a queue is handed in by the thread that
-- redid it, as often. An error queue is redone by the thread that was told Last, as often as it was
-- told so. All sources of the error queue have arrived, so one thread was told Last, once, and was
-- given what left them all
pub record StartsByLast (errors : List ℕ) (c : Course) : Type 0 where
  pub once : (x : ℕ) → x < length errors → IsAlone x (redone_of c)
  pub handed_in : (x i k : ℕ) → x < length errors
      → i < length (naming errors x) → k < length (redone_of c)
      → length (arrivals_for i (told_to c k x)) ≡ times (at (naming errors x) i) (redone_by c k)
  pub by_last : (x k : ℕ) → x < length errors → 0 < length (naming errors x)
      → k < length (redone_of c) → times x (redone_by c k) ≡ length (last_lists (told_to c k x))
  pub settled : (x : ℕ) → x < length errors → 0 < length (naming errors x)
      → Settled (length (naming errors x)) (all_told c x) (length (naming errors x)) []

-- the course tells which queues the threads redid, and what the passes that they keep tell
pub record Recounts (chain : CountdownChain) (kept : List WorkDone) (c : Course) : Type 0 where
  pub redone : redone_of c ≡ map (λ k. redone_in k.done.items) kept
  pub told : (x : ℕ) → at chain.slots.items x < length chain.countdowns.items
      → told_of c x ≡ map (λ k. told_at (diaries_of k.passes.items) (at chain.slots.items x)) kept
