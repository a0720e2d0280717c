-- The countdowns, one queue more, and how the queues are linked once they are opened.
use Rattle.std.proofs.Common.{◌≡◌, ℕ, ◌+◌, ◌<◌, List, [], ◌∷◌, ◌++◌, All, length, length-append, sym, ◌∙◌, arith, inl}
use Rattle.std.proofs.Common.{inr, Vec, Global, ap, slice_index_or, ◌==◌}
use Rattle.rq_exchange.proofs.Words.{cases_lt, common_steps, get_or_push, listed, Countdown, Pass, Ghosts, history_of}
use Rattle.rq_exchange.proofs.Words.{CountdownChain, Outbox, Target, Job, IsCountdownOf, ArePasses, HasPasses}
use Rattle.rq_exchange.proofs.Words.{AreColumns, IsFreshColumn, Opened, AreOpened, cases_eq, eqb-true, get_or-map}
use Rattle.rq_exchange.proofs.Words.{length-map, Definition, no_definition, indices_of, IsChainOf, IsJob, errors_in}
use Rattle.rq_exchange.proofs.Words.{at, naming, All-from_recursion}
use Rattle.rq_exchange.proofs.Pairs.{some_of, pairs_at, pairs_long, pairs_push, all_second, column_at}
use Rattle.rq_exchange.proofs.Counting.{Passes, all_pass, once, same_index, indices_map}

module _ {g : Ghosts Outbox Target} (job : Job) (workers : ℕ) where
  module _ (m slot : ℕ) (slots : List ℕ) (cs : List (Countdown Outbox Target))
      (columns : List (Vec (Pass Outbox Target g) Global)) (o : AreOpened job workers m slots cs columns) where
    stays : slot ≡ length job.definitions.now → length (listed job.sources.now m) ≡ 0
        → AreOpened job workers (m + 1) (slots ++ slot ∷ []) cs columns
    stays slot_is none_here = record {
      queues = o.queues;
      long = omega (arith, o.long, length-append slots (slot ∷ []));
      few = omega (arith, o.few);
      bare = λ x lt none. grind (arith, common_steps, get_or_push, cases_lt x m, o.bare x, o.long);
      fed = λ x lt some. grind (arith, common_steps, cases_lt x m, o.fed x, o.long);
      keyed = o.keyed;
      fresh = o.fresh;
    }

    adds : (c : Countdown Outbox Target) (column : Vec (Pass Outbox Target g) Global) → slot ≡ length cs
        → 0 < length (listed job.sources.now m) → IsCountdownOf job m c → IsFreshColumn workers c column
        → AreOpened job workers (m + 1) (slots ++ slot ∷ []) (cs ++ c ∷ []) (columns ++ column ∷ [])
    adds c column slot_is some_here keyed fresh =
        let many = pairs_long (IsCountdownOf job) o.queues cs o.keyed in
        record {
          queues = o.queues ++ m ∷ [];
          long = omega (arith, o.long, length-append slots (slot ∷ []));
          few = omega (arith, o.few, length-append cs (c ∷ []));
          bare = λ x lt none. grind (arith, common_steps, cases_lt x m, o.bare x, o.long);
          fed = λ x lt some. grind (arith, common_steps, get_or_push, cases_lt x m, o.fed x, o.long);
          keyed = pairs_push _ _ _ _ _ o.keyed keyed;
          fresh = pairs_push _ _ _ _ _ o.fresh fresh;
        }

    pub opened_more : (slots' : List ℕ) (cs' : List (Countdown Outbox Target))
        (columns' : List (Vec (Pass Outbox Target g) Global)) → Opened job workers m cs columns slot cs' columns'
        → slots' ≡ slots ++ slot ∷ [] → AreOpened job workers (m + 1) slots' cs' columns'
    opened_more slots' cs' columns' (inl s) e = rw (e, s.after_is, s.more_is) (stays s.slot_is s.bare)
    opened_more slots' cs' columns' (inr a) e =
        rw (e, a.after_is, a.more_is) (adds a.countdown a.column a.slot_is a.fed a.keyed a.fresh)

  -- the passes by worker
  module _ (m : ℕ) (chain : CountdownChain) (columns : List (Vec (Pass Outbox Target g) Global))
      (o : AreOpened job workers m chain.slots.items chain.countdowns.items columns) where
    as_many : length chain.countdowns.items ≡ length columns
    as_many = pairs_long (IsFreshColumn workers) chain.countdowns.items columns o.fresh

    pub columns_long : All (λ r. length r.items ≡ workers) columns
    columns_long = all_second (IsFreshColumn workers) _ (λ c r h. h.count) _ _ o.fresh

    pub has_passes : HasPasses chain workers
    has_passes = λ k d lt. (pairs_at (IsFreshColumn workers) _ _ o.fresh k d
        (some_of columns k (omega (arith, lt, as_many))) lt).passes

    pub rows_are : (rows : List (Vec (Pass Outbox Target g) Global)) → AreColumns columns workers rows
        → All (λ ps. ArePasses chain ps.items × All (λ p. history_of p ≡ []) ps.items) rows
    rows_are rows turned k d lt =
        let near : k < workers = omega (arith, lt, turned.len) in (
          record {
            each = turned.long k d near ∙ sym as_many;
            own = λ j c p there.
                let f = pairs_at (IsFreshColumn workers) _ _ o.fresh j c d there in
                rw (column_at columns rows workers turned k j d p near (omega (arith, there, as_many)))
                (f.own k p (omega (arith, near, f.count)));
          },
          λ j p there.
              let within : j < length columns = omega (arith, there, turned.long k d near) in
              let blank = all_second (IsFreshColumn workers) (λ r. All (λ p. history_of p ≡ []) r.items)
              (λ c r h. h.blank) _ _ o.fresh j d within in
              rw (column_at columns rows workers turned k j d p near within)
              (blank k p (omega (arith, near, columns_long j d within))),
        )

module _ (job : Job) (is : IsJob job) where
  pub many : length (errors_in job) ≡ length job.definitions.now
  many = length-map job.definitions.now (λ (d : Definition). d.error)

  -- the sources of a queue are those that name it
  pub sources_name : (e : ℕ) → e < length job.definitions.now → listed job.sources.now e ≡ naming (errors_in job) e
  sources_name e near = is.sources e near
      ∙ sym (indices_map (λ n. n == e) (λ (d : Definition). d.error) 0 job.definitions.now)

  ranked : (q : ℕ) → q < length job.definitions.now → at (errors_in job) q < length job.definitions.now
      → (at job.ranks.now q < length (listed job.sources.now (at (errors_in job) q)))
      × (slice_index_or (listed job.sources.now (at (errors_in job) q)) (at job.ranks.now q) 0 ≡ q)
  ranked q near inside = rw (sources_name (at (errors_in job) q) inside) (is.ranks.ranked q near inside)

  -- each of them has this error queue
  source_is : (e i : ℕ) → e < length job.definitions.now → i < length (listed job.sources.now e)
      → (slice_index_or (listed job.sources.now e) i 0 < length job.definitions.now)
      × (at (errors_in job) (slice_index_or (listed job.sources.now e) i 0) ≡ e)
  source_is e i near lt =
      let k = slice_index_or (indices_of (λ (d : Definition). d.error == e) 0 job.definitions.now) i 0 in
      let passes = All-from_recursion
      (Passes (λ (d : Definition). d.error == e) no_definition 0 job.definitions.now) _
      (all_pass (λ (d : Definition). d.error == e) no_definition 0 job.definitions.now) i 0
      (rw (is.sources e near) at lt) in
      let within : k < length job.definitions.now = omega (arith, passes.high) in
      rw (is.sources e near) (
        within,
        get_or-map (λ (d : Definition). d.error) job.definitions.now k no_definition 0 within
            ∙ eqb-true _ e (passes.holds k (omega arith)),
      )

  rank_is : (e i : ℕ) → e < length job.definitions.now → i < length (listed job.sources.now e)
      → at job.ranks.now (slice_index_or (listed job.sources.now e) i 0) ≡ i
  rank_is e i near lt =
      let s = slice_index_or (listed job.sources.now e) i 0 in
      let known = source_is e i near lt in
      let here = rw known.1 at (ranked s known.0 (omega (arith, known.1, near))) in
      same_index (listed job.sources.now e)
      (rw (is.sources e near) (once (λ (d : Definition). d.error == e) no_definition 0 job.definitions.now))
      (at job.ranks.now s) i here.0 lt here.1

  module _ {g : Ghosts Outbox Target} (workers : ℕ) (chain : CountdownChain)
      (columns : List (Vec (Pass Outbox Target g) Global))
      (o : AreOpened job workers (length job.definitions.now) chain.slots.items chain.countdowns.items columns) where
    -- a queue whose slot is that of a countdown has sources, and is the queue of that countdown
    is_at : (x : ℕ) → x < length job.definitions.now → at chain.slots.items x < length chain.countdowns.items
        → at o.queues (at chain.slots.items x) ≡ x
    is_at x near there = elim (cases_eq (length (listed job.sources.now x)) 0) [
      | inl none ↦ absurd (omega (arith, o.bare x near none, o.few, there))
      | inr some ↦ (o.fed x near (omega (arith, some))).1
    ]

    pub is_chain : IsChainOf job chain
    is_chain = record {
      web = record {
        fall = λ q l m. is.fall q (omega (arith, l, many)) (omega (arith, m, many));
        apart = λ x y l m there e. sym (is_at y m (omega (arith, there, e))) ∙ ap (at o.queues) e ∙ is_at x l there;
        fed = λ x l some. let many = pairs_long (IsCountdownOf job) _ _ o.keyed in omega (arith, (o.fed x l some).0);
        bare = λ x l none. omega (arith, o.bare x l none, o.few);
        ranked = ranked;
        exact = λ e i l lt. ((source_is e i l lt).0, (source_is e i l lt).1, rank_is e i l lt);
      };
      slots = o.long;
      keyed = λ e d l some. let slot = o.fed e l some in
          rw slot.1 at (pairs_at (IsCountdownOf job) _ _ o.keyed (at chain.slots.items e) 0 d slot.0);
    }
