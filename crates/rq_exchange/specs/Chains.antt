-- The countdowns of the error queues, and the passes of a thread.
use Rattle.std.specs.Prelude.{◌≡◌, ◌<◌, ℕ, List, [], ◌∷◌, length, map, All, slice_index_or, Option, Some, None}
use Rattle.std.specs.Global.{Vec}
use Rattle.rq_model.specs.Machine.{run}
use Rattle.rq_model.specs.Queues as queues
use Rattle.rq_state.specs.Orders.{listed}
use Rattle.rq_pool.specs.declared.countdown.Countdown.{Countdown}
use Rattle.rq_pool.specs.declared.countdown.pass.Pass.{Pass}
use Rattle.rq_pool.specs.declared.countdown.fits.Fits.{Ghosts}
use Rattle.rq_pool.specs.Countdowns.Arrivals.{Settled}
use Rattle.rq_pool.specs.Countdowns.Words.{IsPassOf, key_of, sources_of, passes_of, history_of, history_in}
use Rattle.rq_pool.specs.declared.countdown.arrival.Entry.{Entry}
use Rattle.rq_exchange.specs.declared.chain.CountdownChain.{CountdownChain}
use Rattle.rq_exchange.specs.declared.outboxes.Outbox.{Outbox}
use Rattle.rq_exchange.specs.declared.outboxes.Target.{Target}
use Rattle.rq_exchange.specs.declared.outboxes.Redone.{Redone}
use Rattle.rq_exchange.specs.declared.jobs.Job.{Job}
use Rattle.rq_exchange.specs.Jobs.{records_of, errors_in}
use Rattle.rq_exchange.specs.Coverage.{Web, IsWeb, DiariesTell}
use Rattle.rq_exchange.specs.Links.{at}
use Rattle.rq_pool.specs.declared.countdown.arrival.Arrival.{Arrival}
use Rattle.rq_pool.specs.declared.countdown.arrival.Arrival.TheVariants.{Twice, NotLast, Last}

abbrev pub web_of : Job → CountdownChain → Web
web_of job chain = record {
  n = length job.definitions.now;
  error = λ q. at (errors_in job) q;
  sources = λ q. listed job.sources.now q;
  slot = λ q. at chain.slots.items q;
  count = length chain.countdowns.items;
  rank = λ q. at job.ranks.now q;
}

-- what left the sources of the queue
abbrev pub due : Job → ℕ → List (List queues.Move)
due job queue = map (queues.moves job.state.now (records_of job)) (listed job.sources.now queue)

-- the outboxes are those of the sources of the queue, in their order
abbrev pub AreBoxes : Job → ℕ → List Outbox → Type 0
AreBoxes job queue boxes = map (λ b. b.moves.items) boxes ≡ due job queue

-- the outboxes that an arrival was given, if it was the last
abbrev pub boxes_of : {T : Type 0} → Arrival T → Option (Vec T)
boxes_of (Twice y) = None
boxes_of NotLast = None
boxes_of (Last ys) = Some ys

-- the countdown is that of the queue
abbrev pub IsCountdownOf : Job → ℕ → Countdown Outbox Target → Type 0
IsCountdownOf job queue c = (sources_of c ≡ length (listed job.sources.now queue))
    × ((key_of c).due ≡ due job queue)

pub record IsChainOf (job : Job) (chain : CountdownChain) : Type 0 where
  pub web : IsWeb (web_of job chain)
  pub slots : length chain.slots.items ≡ length job.definitions.now
  pub keyed : (e : ℕ) (d : Countdown Outbox Target) →
      e < length job.definitions.now → 0 < length (listed job.sources.now e)
      → IsCountdownOf job e (slice_index_or chain.countdowns.items (at chain.slots.items e) d)

-- each countdown has this many passes
abbrev pub HasPasses : CountdownChain → ℕ → Type 0
HasPasses chain workers = All (λ c. passes_of c ≡ workers) chain.countdowns.items

-- the queue exists, and it is no queue's error queue
abbrev pub IsBare : Job → ℕ → Type 0
IsBare job queue = (queue < length job.definitions.now) × (listed job.sources.now queue ≡ [])

-- the part of the queue is the one after the run
abbrev pub IsRedone : Job → Redone → Type 0
IsRedone job r = (r.queue < length job.definitions.now)
    × (r.part ≡ queues.part_of (run job.state.now (records_of job)) r.queue)

abbrev pub redone_in : List Redone → List ℕ
redone_in = map (λ r. r.queue)

module _ {g : Ghosts Outbox Target} where
  -- one of each countdown
  pub record ArePasses (chain : CountdownChain) (passes : List (Pass Outbox Target g))
      : Type 0 where
    pub each : length passes ≡ length chain.countdowns.items
    pub own : (k : ℕ) (d : Countdown Outbox Target) (p : Pass Outbox Target g) →
        k < length chain.countdowns.items
        → IsPassOf (slice_index_or chain.countdowns.items k d) (slice_index_or passes k p)

  abbrev pub diaries_of : List (Pass Outbox Target g) → List (List (Entry Outbox))
  diaries_of = map (λ p. history_of p)

  -- a thread that was given these queues has redone all that it began
  abbrev pub HasFollowed : Job → CountdownChain → List ℕ
      → List Redone → List (Pass Outbox Target g) → Type 0
  HasFollowed job chain starts done passes = DiariesTell (web_of job chain) starts
      (redone_in done) (redone_in done) (diaries_of passes)

  -- all passes of the countdown
  abbrev pub IsColumn : Countdown Outbox Target → Vec (Pass Outbox Target g) → Type 0
  IsColumn c column = All (IsPassOf c) column.items × (length column.items ≡ passes_of c)

  -- what is known of the countdown once it is closed with these passes
  abbrev pub IsSettled : Countdown Outbox Target → Vec (Pass Outbox Target g) → Type 0
  IsSettled c column = (arrived : ℕ) × (home : List Outbox)
      × Settled (sources_of c) (history_in column.items) arrived home

-- the queue to begin next
abbrev pub next_of : Option (ℕ × Vec Outbox) → List ℕ
next_of None = []
next_of (Some r) = r.0 ∷ []
