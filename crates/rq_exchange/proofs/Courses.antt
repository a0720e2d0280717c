-- From what the threads keep and the closed countdowns tell: each queue is redone once, and how the replay went.
use Rattle.std.proofs.Common.{◌≡◌, ℕ, ◌<◌, List, [], length, ap, ◌∙◌, arith, slice_index_or, zero, suc, ◌+◌, ◌≤◌, ◌∷◌}
use Rattle.std.proofs.Common.{map, length-append, refl, sym, sum_by, flat_map, inl, inr}
use Rattle.rq_exchange.proofs.Words.{get_or-map, length-map, get_or-le-sum_by, Entry, Settled, arrivals_for}
use Rattle.rq_exchange.proofs.Words.{last_lists, times, times_in, listed, CountdownChain, WorkDone, Job, Outbox}
use Rattle.rq_exchange.proofs.Words.{IsChainOf, redone_in, diaries_of, redone_of, redone_by, told_to, all_told}
use Rattle.rq_exchange.proofs.Words.{StartsByLast, Recounts, told_at, IsJob, errors_in, at, naming, AreBare, HasKept}
use Rattle.rq_exchange.proofs.Words.{HaveKept, AreSettled, flat_map-map, cases_lt, fold-map, fold_stays, get_or_past}
use Rattle.rq_exchange.proofs.Words.{sum_by-cons, Web, IsWebClosed, lasts_at, arrived_at, source_at, DiariesTell}
use Rattle.rq_exchange.proofs.Words.{EachWith, flat_map-append, web_of}
use Rattle.rq_exchange.specs.declared.course.Course.{Course}
use Rattle.rq_exchange.proofs.Counting.{alone}
use Rattle.rq_exchange.proofs.Openings.{many, sources_name}
use Rattle.rq_exchange.proofs.Pairs.{some_of, pairs_at, pairs_long, pairs_sum, pairs_of}

-- a list of lists, each of some length, is as long as these together
flat_long : {A B C : Type 0} (f : B → List C) (d : A → List B) (xs : List A)
    → length (flat_map f (flat_map d xs)) ≡ sum_by (λ x. length (flat_map f (d x))) xs
flat_long f d [] = refl
flat_long f d (x ∷ xs) = rw (flat_map-append, length-append)
    (omega (arith, flat_long f d xs, sum_by-cons (λ y. length (flat_map f (d y))) x xs))

-- if each source of a countdown has an arrival, one was told Last, and was given all
pub all_given : {T : Type 0} (n : ℕ) (es : List (Entry T)) (arrived : ℕ) (home : List T) → Settled n es arrived home
    → ((i : ℕ) → i < n → 0 < length (arrivals_for i es)) → (arrived ≡ n) × (length (last_lists es) ≡ 1) × (home ≡ [])
all_given n es arrived home s each = elim s.outcome [
  | inl few ↦ let none = s.missing.0 few.0 in absurd (omega (arith, each none.0 none.1, ap length none.2))
  | inr full ↦ (full.0, ap length full.1, full.2)
]

none_in : {A : Type 0} (xs : List A) → sum_by (λ (x : A). 0) xs ≡ 0
none_in {A} xs = fold_stays (λ (n : ℕ) (x : A). n + 0) 0 (λ x. refl) xs

-- over all threads
module _ {T K : Type 0} (w : Web) (redone : K → List ℕ) (diaries : K → List (List (Entry T))) where
  abbrev Told : List ℕ → K → Type 0
  Told s k = DiariesTell w s (redone k) (redone k) (diaries k)

  abbrev lasts : ℕ → K → ℕ
  lasts x k = lasts_at (diaries k) (w.slot x)

  abbrev Once : List K → ℕ → Type 0
  Once ks x = times_in x (map redone ks) ≡ 1

  -- how often all threads together redid a queue
  redid_by : (x : ℕ) (ks : List K) → times_in x (map redone ks) ≡ sum_by (λ k. times x (redone k)) ks
  redid_by x ks = fold-map (λ (n : ℕ) (l : List ℕ). n + times x l) redone 0 ks

  all_redid : (x : ℕ) → x < w.n → (ss : List (List ℕ)) (ks : List K) → EachWith Told ss ks
      → times_in x (map redone ks) ≡ times_in x ss + sum_by (lasts x) ks
  all_redid x near ss ks f = redid_by x ks
      ∙ pairs_sum Told (times x) (lasts x) (λ k. times x (redone k)) (λ s k t. t.redid x near) ss ks f

  all_arrived : (e i : ℕ) → e < w.n → i < length (w.sources e) → (ss : List (List ℕ)) (ks : List K)
      → EachWith Told ss ks
      → sum_by (λ k. arrived_at i (diaries k) (w.slot e)) ks ≡ times_in (source_at w.sources e i) (map redone ks)
  all_arrived e i within near ss ks f =
      let arrived = pairs_sum Told (λ s. 0) (λ k. times (source_at w.sources e i) (redone k))
      (λ k. arrived_at i (diaries k) (w.slot e)) (λ s k t. omega (arith, t.arrived e i within near)) ss ks f in
      omega (arith, arrived, none_in ss, redid_by (source_at w.sources e i) ks)

  no_lasts : (x : ℕ) → w.count ≤ w.slot x → (ss : List (List ℕ)) (ks : List K) → EachWith Told ss ks
      → sum_by (lasts x) ks ≡ 0
  no_lasts x none ss ks f =
      let sums = pairs_sum Told (λ s. 0) (λ k. 0) (lasts x) (λ s k t. ap (λ es. length (last_lists es))
      (get_or_past (diaries k) (w.slot x) [] (omega (arith, t.long, none)))) ss ks f in
      omega (arith, sums, none_in ss, none_in ks)

  module _ (ss : List (List ℕ)) (ks : List K) (c : IsWebClosed w redone diaries ss ks) where
    abbrev told : ℕ → List (Entry T)
    told x = flat_map (λ (k : K). told_at (diaries k) (w.slot x)) ks

    -- if the queues of greater numbers were redone once, the sources of this one have arrived
    pub arrive : (x : ℕ) → x < w.n → ((y : ℕ) → x < y → y < w.n → Once ks y) → (i : ℕ) → i < length (w.sources x)
        → 0 < length (arrivals_for i (told x))
    arrive x near above i lt =
        let up = c.web.exact x i near lt in
        let down : w.error (source_at w.sources x i) < source_at w.sources x i =
        c.web.fall (source_at w.sources x i) up.0 (omega (arith, up.1, near)) in
        let one : length (arrivals_for i (told x)) ≡ 1 = flat_long _ (λ (k : K). told_at (diaries k) (w.slot x)) ks
        ∙ all_arrived x i near lt ss ks c.follow ∙ above (source_at w.sources x i) (omega (arith, down, up.1)) up.0 in
        omega (arith, one)

    -- so it was redone once
    step : (x : ℕ) → x < w.n → ((y : ℕ) → x < y → y < w.n → Once ks y) → Once ks x
    step x near above = all_redid x near ss ks c.follow ∙ elim (cases_lt 0 (length (w.sources x))) [
      | inl some ↦ let s = c.settled x near some in
          let last : sum_by (lasts x) ks ≡ length (last_lists (told x)) =
          sym (flat_long _ (λ (k : K). told_at (diaries k) (w.slot x)) ks) in
          omega (arith, c.fed x near some, last, (all_given _ (told x) s.0 s.1 s.2 (arrive x near above)).1)
      | inr none ↦ let bare : length (w.sources x) ≡ 0 = omega (arith, none) in
          omega (arith, c.bare x near bare, no_lasts x (c.web.bare x near bare) ss ks c.follow)
    ]

    falling : (k x : ℕ) → x < w.n → w.n ≤ x + k → Once ks x
    falling zero x near far = absurd (omega arith)
    falling (suc k) x near far = step x near (λ y up lt. falling k y lt (omega arith))

    -- each queue was redone once, by one thread
    pub each_once : (x : ℕ) → x < w.n → Once ks x
    each_once x near = falling w.n x near (omega arith)

abbrev redone : WorkDone → List ℕ
redone k = redone_in k.done.items

abbrev diaries : WorkDone → List (List (Entry Outbox))
diaries k = diaries_of k.passes.items

module _ (job : Job) (chain : CountdownChain) (is : IsChainOf job chain) (tasks : List ℕ)
    (are : AreBare job.sources.now (length job.definitions.now) tasks) (kept : List WorkDone)
    (keep : HaveKept job chain tasks kept) (settled : AreSettled chain kept) where
  -- no queue with sources is dealt
  pub nowhere : (x : ℕ) → 0 < length (listed job.sources.now x) → times_in x keep.starts ≡ 0
  nowhere x some =
      let none : 0 < times x tasks → ⊥ = λ stands. omega (arith, some, ap length (are.no_other x stands).1) in
      omega (arith, keep.dealt x, none)

  -- what the closed countdown of a queue says of the threads' arrivals
  ends : (e : ℕ) → e < length job.definitions.now → 0 < length (listed job.sources.now e)
      → (arrived : ℕ) × (home : List Outbox) × Settled (length (listed job.sources.now e))
      (flat_map (λ (k : WorkDone). told_at (diaries k) (at chain.slots.items e)) kept) arrived home
  ends e within some =
      let d = some_of chain.countdowns.items (at chain.slots.items e) (is.web.fed e within some) in
      let s = settled (at chain.slots.items e) d (is.web.fed e within some) in
      (s.0, s.1, rw (is.keyed e d within some).0 at s.2)

  closed : IsWebClosed (web_of job chain) redone diaries keep.starts kept
  closed = record {
    web = is.web;
    bare = λ y within none. keep.dealt y ∙ are.once y within none;
    fed = λ y within some. nowhere y some;
    follow = pairs_of _ keep.starts kept (pairs_long (HasKept job chain) keep.starts kept keep.keep)
        (λ k d e lt. (pairs_at (HasKept job chain) keep.starts kept keep.keep k d e lt).follows);
    settled = ends;
  }

  -- all threads together have redone each queue once
  pub whole : (x : ℕ) → x < length job.definitions.now → times_in x (map redone kept) ≡ 1
  whole = each_once (web_of job chain) redone diaries keep.starts kept closed

  -- all sources of a queue arrived, so that the last was given the outboxes of all, and none is left
  pub all_arrive : (x : ℕ) → x < length job.definitions.now → 0 < length (listed job.sources.now x)
      → Settled (length (listed job.sources.now x))
      (flat_map (λ (k : WorkDone). told_at (diaries k) (at chain.slots.items x)) kept)
      (length (listed job.sources.now x)) []
  all_arrive x near some =
      let s = ends x near some in
      let all = all_given _ _ s.0 s.1 s.2
      (arrive (web_of job chain) redone diaries keep.starts kept closed x near (λ y _ lt. whole y lt)) in
      rw (all.0, all.2) at s.2

module _ (job : Job) (chain : CountdownChain) (is : IsJob job) (web : IsChainOf job chain) (tasks : List ℕ)
    (are : AreBare job.sources.now (length job.definitions.now) tasks) (kept : List WorkDone)
    (keep : HaveKept job chain tasks kept) (settled : AreSettled chain kept) (c : Course)
    (tells : Recounts chain kept c) where
  -- the kth of the threads
  abbrev one : (k : ℕ) → k < length kept → WorkDone
  one k here = slice_index_or kept k (some_of kept k here)

  as_many : length keep.starts ≡ length kept
  as_many = pairs_long (HasKept job chain) keep.starts kept keep.keep

  keeps : (k : ℕ) (here : k < length kept) → HasKept job chain (slice_index_or keep.starts k []) (one k here)
  keeps k here = pairs_at (HasKept job chain) keep.starts kept keep.keep k [] (some_of kept k here)
      (omega (arith, here, as_many))

  redone_is : (k : ℕ) (here : k < length kept) → redone_by c k ≡ redone_in (one k here).done.items
  redone_is k here = ap (λ (ls : List (List ℕ)). slice_index_or ls k []) tells.redone
      ∙ get_or-map (λ (o : WorkDone). redone_in o.done.items) kept k (some_of kept k here) [] here

  told_is : (x k : ℕ) → at chain.slots.items x < length chain.countdowns.items → (here : k < length kept)
      → told_to c k x ≡ told_at (diaries_of (one k here).passes.items) (at chain.slots.items x)
  told_is x k there here = ap (λ (ls : List (List (Entry Outbox))). slice_index_or ls k []) (tells.told x there)
      ∙ get_or-map (λ (o : WorkDone). told_at (diaries_of o.passes.items) (at chain.slots.items x)) kept k
      (some_of kept k here) [] here

  module _ (x : ℕ) (inside : x < length (errors_in job)) where
    near : x < length job.definitions.now
    near = omega (arith, inside, many job is)

    fed : 0 < length (naming (errors_in job) x) → 0 < length (listed job.sources.now x)
    fed some = rw (sources_name job is x near) some

    there : 0 < length (naming (errors_in job) x) → at chain.slots.items x < length chain.countdowns.items
    there some = web.web.fed x near (fed some)

    handed : (i k : ℕ) → i < length (naming (errors_in job) x) → (here : k < length kept)
        → length (arrivals_for i (told_to c k x)) ≡ times (at (naming (errors_in job) x) i) (redone_by c k)
    handed i k lt here =
        rw (told_is x k (there (omega (arith, lt))) here, redone_is k here, ← sources_name job is x near)
        ((keeps k here).follows.arrived x i near (rw (sources_name job is x near) lt))

    last : (k : ℕ) → 0 < length (naming (errors_in job) x) → (here : k < length kept)
        → times x (redone_by c k) ≡ length (last_lists (told_to c k x))
    last k some here =
        let none = nowhere job chain web tasks are kept keep settled x (fed some) in
        let few = get_or-le-sum_by (times x) keep.starts k [] (omega (arith, here, as_many)) in
        rw (told_is x k (there some) here, redone_is k here)
        ((keeps k here).follows.redid x near ∙ omega (arith, few, none))

    ended : 0 < length (naming (errors_in job) x)
        → Settled (length (naming (errors_in job) x)) (all_told c x) (length (naming (errors_in job) x)) []
    ended some = rw (tells.told x (there some), flat_map-map, ← sources_name job is x near)
        (all_arrive job chain web tasks are kept keep settled x near (fed some))

  thread : (k : ℕ) → k < length (redone_of c) → k < length kept
  thread k here =
      omega (arith, here, ap length tells.redone, length-map kept (λ (one : WorkDone). redone_in one.done.items))

  pub starts_by_last : StartsByLast (errors_in job) c
  starts_by_last = record {
    once = λ x inside. alone x (redone_of c)
        (ap (times_in x) tells.redone ∙ whole job chain web tasks are kept keep settled x (near x inside));
    handed_in = λ x i k inside lt here. handed x inside i k lt (thread k here);
    by_last = λ x k inside some here. last x inside k some (thread k here);
    settled = λ x inside some. ended x inside some;
  }
