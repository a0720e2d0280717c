-- What the workers hand back.
use Rattle.std.specs.Prelude.{◌≡◌, ◌<◌, ℕ, List, [], length, map, flat_map, All, slice_index_or, Result, Ok, Err}
use Rattle.rq_record.specs.declared.fault.Fault.{Fault}
use Rattle.rq_record.specs.declared.fault.Fault.TheVariants.{Resources}
use Rattle.rq_pool.specs.declared.room.Room.{Room}
use Rattle.rq_pool.specs.declared.seat.Seat.{Seat}
use Rattle.rq_pool.specs.Ledger.{times, times_in}
use Rattle.rq_pool.specs.declared.countdown.Countdown.{Countdown}
use Rattle.rq_pool.specs.Countdowns.Words.{sources_of, history_of}
use Rattle.rq_pool.specs.Countdowns.Arrivals.{Settled}
use Rattle.rq_exchange.specs.declared.outboxes.Outbox.{Outbox}
use Rattle.rq_exchange.specs.declared.outboxes.Target.{Target}
use Rattle.rq_pool.specs.Rooms.{IsSeatOf, taken_of}
use Rattle.rq_exchange.specs.declared.chain.CountdownChain.{CountdownChain}
use Rattle.rq_exchange.specs.declared.jobs.Job.{Job}
use Rattle.rq_exchange.specs.declared.crew.WorkDone.{WorkDone}
use Rattle.rq_exchange.specs.declared.crew.Ended.{Ended}
use Rattle.rq_exchange.specs.declared.crew.Worker.{Worker}
use Rattle.std.specs.Global.{Vec}
use Rattle.rq_pool.specs.declared.countdown.fits.Fits.{Ghosts}
use Rattle.rq_pool.specs.declared.countdown.pass.Pass.{Pass}
use Rattle.rq_exchange.specs.Chains.{ArePasses, IsRedone, diaries_of, HasFollowed}
use Rattle.rq_exchange.specs.Coverage.{told_at}
use Rattle.rq_exchange.specs.Pairs.{EachWith}

-- the thread has a pass of each countdown, its parts are right, and its passes tell of these queues
-- that it began with
pub record HasKept (job : Job) (chain : CountdownChain) (starts : List ℕ) (k : WorkDone)
    : Type 0 where
  pub passes : ArePasses chain k.passes.items
  pub done : All (IsRedone job) k.done.items
  pub follows : HasFollowed job chain starts k.done.items k.passes.items

pub record HasEnded (job : Job) (chain : CountdownChain) (room : Room) (w : Ended) : Type 0 where
  pub seat : IsSeatOf room w.seat
  pub keeps : HasKept job chain (taken_of w.seat) w.kept

-- or it was refused memory
abbrev pub Works : Job → CountdownChain → Room → Result Ended Fault → Type 0
Works job chain room (Ok w) = HasEnded job chain room w
Works job chain room (Err e) = e ≡ Resources

-- each thread keeps its own
abbrev pub AllKeep : Job → CountdownChain → List (List ℕ) → List WorkDone → Type 0
AllKeep job chain = EachWith (HasKept job chain)

-- all seats, and beside each what its thread keeps of what the seat took
pub record AreHandedBack (job : Job) (chain : CountdownChain) (room : Room)
    (count : ℕ) (back : List Seat) (all : List WorkDone) : Type 0 where
  pub each : length back ≡ count
  pub many : length all ≡ count
  pub seats : All (IsSeatOf room) back
  pub keep : AllKeep job chain (map taken_of back) all

-- if all workers worked so, their seats and what they keep are handed back
abbrev pub HandsBack : List (Result Ended Fault) → List Seat → List WorkDone → Type 0
HandsBack ended back all = (job : Job) (chain : CountdownChain) (room : Room) →
    All (Works job chain room) ended → AreHandedBack job chain room (length ended) back all

-- a seat that has taken nothing
abbrev pub IsFreshSeat : Room → Seat → Type 0
IsFreshSeat room s = IsSeatOf room s × (taken_of s ≡ [])

-- passes with which nobody has arrived
abbrev pub AreFreshPasses : {g : Ghosts Outbox Target} → CountdownChain
    → Vec (Pass Outbox Target g) → Type 0
AreFreshPasses chain ps = ArePasses chain ps.items × All (λ p. history_of p ≡ []) ps.items

-- a worker that has not begun
abbrev pub IsFreshWorker : CountdownChain → Room → Worker → Type 0
IsFreshWorker chain room w = IsSeatOf room w.seat × (taken_of w.seat ≡ [])
    × ArePasses chain w.passes.items × All (λ p. history_of p ≡ []) w.passes.items

-- if the seats and the passes are fresh, so are the workers that they make
abbrev pub Pairs : {g : Ghosts Outbox Target} → List Seat
    → List (Vec (Pass Outbox Target g)) → List Worker → Type 0
Pairs seats rows workers = (chain : CountdownChain) (room : Room) → All (IsFreshSeat room) seats
    → All (AreFreshPasses chain) rows → All (IsFreshWorker chain room) workers

-- the threads began with the tasks, each with its own
pub record HaveKept (job : Job) (chain : CountdownChain) (tasks : List ℕ) (all : List WorkDone)
    : Type 0 where
  pub starts : List (List ℕ)
  pub keep : AllKeep job chain starts all
  pub dealt : (x : ℕ) → times_in x starts ≡ times x tasks

-- each countdown is closed with what all threads' passes tell of it
abbrev pub AreSettled : CountdownChain → List WorkDone → Type 0
AreSettled chain all = (c : ℕ) (d : Countdown Outbox Target) → c < length chain.countdowns.items
    → (arrived : ℕ) × (home : List Outbox)
    × Settled (sources_of (slice_index_or chain.countdowns.items c d))
    (flat_map (λ k. told_at (diaries_of k.passes.items) c) all) arrived home
