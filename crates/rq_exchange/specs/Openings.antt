-- How the countdowns are opened, queue by queue.
use Rattle.std.specs.Prelude.{◌≡◌, ◌⊎◌, ◌<◌, ◌≤◌, ◌++◌, ℕ, List, [], ◌∷◌, length, All}
use Rattle.std.specs.Global.{Vec}
use Rattle.rq_state.specs.Orders.{listed}
use Rattle.rq_pool.specs.declared.countdown.Countdown.{Countdown}
use Rattle.rq_pool.specs.declared.countdown.pass.Pass.{Pass}
use Rattle.rq_pool.specs.declared.countdown.fits.Fits.{Ghosts}
use Rattle.rq_pool.specs.Countdowns.Words.{IsPassOf, passes_of, history_of}
use Rattle.rq_exchange.specs.declared.outboxes.Outbox.{Outbox}
use Rattle.rq_exchange.specs.declared.outboxes.Target.{Target}
use Rattle.rq_exchange.specs.declared.jobs.Job.{Job}
use Rattle.rq_exchange.specs.Chains.{IsCountdownOf}
use Rattle.rq_exchange.specs.Links.{at}
use Rattle.rq_exchange.specs.Pairs.{EachWith}

module _ {g : Ghosts Outbox Target} where
  -- all passes of the countdown, this many; nobody has arrived with one
  pub record IsFreshColumn (workers : ℕ) (c : Countdown Outbox Target)
      (column : Vec (Pass Outbox Target g)) : Type 0 where
    pub own : All (λ p. IsPassOf c p) column.items
    pub count : length column.items ≡ workers
    pub passes : passes_of c ≡ workers
    pub blank : All (λ p. history_of p ≡ []) column.items

  -- if the queue has sources, one more countdown, and its passes
  pub record AddsCountdown (job : Job) (workers queue : ℕ)
      (countdowns : List (Countdown Outbox Target)) (columns : List (Vec (Pass Outbox Target g)))
      (slot : ℕ) (after : List (Countdown Outbox Target)) (more : List (Vec (Pass Outbox Target g)))
      : Type 0 where
    pub countdown : Countdown Outbox Target
    pub column : Vec (Pass Outbox Target g)
    pub after_is : after ≡ countdowns ++ countdown ∷ []
    pub more_is : more ≡ columns ++ column ∷ []
    pub slot_is : slot ≡ length countdowns
    pub fed : 0 < length (listed job.sources.now queue)
    pub keyed : IsCountdownOf job queue countdown
    pub fresh : IsFreshColumn workers countdown column

  -- nothing is opened for a queue without sources
  pub record Stays (job : Job) (queue : ℕ) (countdowns : List (Countdown Outbox Target))
      (columns : List (Vec (Pass Outbox Target g))) (slot : ℕ)
      (after : List (Countdown Outbox Target)) (more : List (Vec (Pass Outbox Target g)))
      : Type 0 where
    pub after_is : after ≡ countdowns
    pub more_is : more ≡ columns
    pub slot_is : slot ≡ length job.definitions.now
    pub bare : length (listed job.sources.now queue) ≡ 0

  -- the countdown of a queue is opened, or it needs none
  abbrev pub Opened : Job → ℕ → ℕ → List (Countdown Outbox Target)
      → List (Vec (Pass Outbox Target g)) → ℕ → List (Countdown Outbox Target)
      → List (Vec (Pass Outbox Target g)) → Type 0
  Opened job workers queue countdowns columns slot after more =
      Stays job queue countdowns columns slot after more
      ⊎ AddsCountdown job workers queue countdowns columns slot after more

  -- The countdowns of the first m queues are opened. They are those of these queues, which are all
  -- that have sources, each where its slot says
  pub record AreOpened (job : Job) (workers m : ℕ) (slots : List ℕ)
      (countdowns : List (Countdown Outbox Target)) (columns : List (Vec (Pass Outbox Target g)))
      : Type 0 where
    pub queues : List ℕ
    pub long : length slots ≡ m
    pub few : length countdowns ≤ m
    pub bare : (x : ℕ) → x < m → length (listed job.sources.now x) ≡ 0
        → at slots x ≡ length job.definitions.now
    pub fed : (x : ℕ) → x < m → 0 < length (listed job.sources.now x)
        → (at slots x < length queues) × (at queues (at slots x) ≡ x)
    pub keyed : EachWith (IsCountdownOf job) queues countdowns
    pub fresh : EachWith (IsFreshColumn workers) countdowns columns
