-- What a thread has to show once it has ended, and what it is to follow its arrivals.
use Rattle.std.specs.Prelude.{◌≡◌, ℕ, ◌+◌, ◌<◌, ◌≤◌, ◌++◌, List, [], length, slice_index_or, ◌∷◌, Option, Some, None}
use Rattle.std.specs.Prelude.{flat_map}
use Rattle.rq_pool.specs.declared.countdown.arrival.Entry.{Entry}
use Rattle.rq_pool.specs.Countdowns.Arrivals.{arrivals_for, last_lists, Settled}
use Rattle.rq_pool.specs.Ledger.{times, times_in}
use Rattle.rq_exchange.specs.Pairs.{EachWith}

module _ {T : Type 0} where
  -- the arrivals at the countdown at this index; none if it does not exist
  abbrev pub told_at : List (List (Entry T)) → ℕ → List (Entry T)
  told_at diaries slot = slice_index_or diaries slot []

  -- how often it was told Last there
  abbrev pub lasts_at : List (List (Entry T)) → ℕ → ℕ
  lasts_at diaries slot = length (last_lists (told_at diaries slot))

  -- how often it arrived there for the ith source
  abbrev pub arrived_at : ℕ → List (List (Entry T)) → ℕ → ℕ
  arrived_at i diaries slot = length (arrivals_for i (told_at diaries slot))

-- the queue to begin next: the error queue, if its outboxes were given out
abbrev pub asked : {B : Type 0} → ℕ → Option B → List ℕ
asked e None = []
asked e (Some b) = e ∷ []

-- the ith queue whose error queue is this one
abbrev pub source_at : (ℕ → List ℕ) → ℕ → ℕ → ℕ
source_at sources e i = slice_index_or (sources e) i 0

-- How n queues are linked: the error queue of each, the queues whose error queue it is, the index
-- of its countdown among this many, and its index among the sources of its error queue
pub record Web : Type 0 where
  pub n : ℕ
  pub error : ℕ → ℕ
  pub sources : ℕ → List ℕ
  pub slot : ℕ → ℕ
  pub count : ℕ
  pub rank : ℕ → ℕ

-- there is a countdown for each queue that has sources, and for no other; error queues have smaller
-- numbers
pub record IsWeb (w : Web) : Type 0 where
  pub fall : (q : ℕ) → q < w.n → w.error q < w.n → w.error q < q
  pub apart : (x y : ℕ) → x < w.n → y < w.n → w.slot x < w.count → w.slot y ≡ w.slot x → y ≡ x
  pub fed : (x : ℕ) → x < w.n → 0 < length (w.sources x) → w.slot x < w.count
  pub bare : (x : ℕ) → x < w.n → length (w.sources x) ≡ 0 → w.count ≤ w.slot x
  pub ranked : (q : ℕ) → q < w.n → w.error q < w.n → (w.rank q < length (w.sources (w.error q)))
      × (source_at w.sources (w.error q) (w.rank q) ≡ q)
  pub exact : (e i : ℕ) → e < w.n → i < length (w.sources e) → (source_at w.sources e i < w.n)
      × (w.error (source_at w.sources e i) ≡ e) × (w.rank (source_at w.sources e i) ≡ i)

module _ {T : Type 0} where
  -- What a thread began to redo is what it was given and the queues whose countdown told it Last.
  -- For each queue that it redid it arrived, once for each time, if that queue is a source.
  pub record DiariesTell (w : Web) (starts begun redone : List ℕ) (diaries : List (List (Entry T)))
      : Type 0 where
    pub long : length diaries ≡ w.count
    pub redid : (x : ℕ) → x < w.n → times x begun ≡ times x starts + lasts_at diaries (w.slot x)
    pub arrived : (e i : ℕ) → e < w.n → i < length (w.sources e)
        → arrived_at i diaries (w.slot e) ≡ times (source_at w.sources e i) redone

  -- a queue more was redone, and what left it was handed on: the error queue is to begin next, if
  -- its outboxes were given out
  abbrev pub HandsOn : {B : Type 0} → Web → ℕ → ℕ → Option B
      → List (List (Entry T)) → List (List (Entry T)) → Type 0
  HandsOn w queue error given old new = (starts begun redone : List ℕ) →
      DiariesTell w starts begun redone old
      → DiariesTell w starts (begun ++ asked error given) (redone ++ queue ∷ []) new

  -- a thread that was to redo this queue has done so, and is to redo what is next
  abbrev pub StepsOn : Web → ℕ → List ℕ → List (List (Entry T))
      → List ℕ → List (List (Entry T)) → List ℕ → Type 0
  StepsOn w queue done old after new next = (starts : List ℕ) →
      DiariesTell w starts (done ++ queue ∷ []) done old
      → DiariesTell w starts (after ++ next) after new

  -- What is known once the room and all countdowns are closed, of threads of which each redid
  -- queues and has its diaries
  pub record IsWebClosed {K : Type 0} (w : Web) (redone : K → List ℕ)
      (diaries : K → List (List (Entry T))) (starts : List (List ℕ)) (ks : List K) : Type 0 where
    pub web : IsWeb w
    -- of the room: a queue without sources was given out once, no other was
    pub bare : (x : ℕ) → x < w.n → length (w.sources x) ≡ 0 → times_in x starts ≡ 1
    pub fed : (x : ℕ) → x < w.n → 0 < length (w.sources x) → times_in x starts ≡ 0
    -- of each thread: it has redone all that it began
    pub follow : EachWith (λ s k. DiariesTell w s (redone k) (redone k) (diaries k)) starts ks
    -- of each countdown
    pub settled : (e : ℕ) → e < w.n → 0 < length (w.sources e)
        → (arrived : ℕ) × (home : List T) × Settled (length (w.sources e))
        (flat_map (λ k. told_at (diaries k) (w.slot e)) ks) arrived home
