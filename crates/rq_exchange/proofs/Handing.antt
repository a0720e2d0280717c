-- What an arrival at a countdown tells.
use Rattle.std.proofs.Common.{◌≡◌, ℕ, suc, ◌+◌, ◌<◌, ◌≤◌, cond, eqb, List, [], ◌∷◌, ◌++◌, length, length-append, map}
use Rattle.std.proofs.Common.{set, refl, sym, ◌∙◌, arith, slice_set, IfSome, slice_index_or}
use Rattle.rq_exchange.proofs.Words.{cases_eq, cases_Bool, nat_tests, map-set, length-map, length-set, get_or-map}
use Rattle.rq_exchange.proofs.Words.{get_or-set_at, get_or-set_other, sum_by_push, sum_by-append, flat_map-append}
use Rattle.rq_exchange.proofs.Words.{listed, Pass, Countdown, Ghosts, Entry, key_of, sources_of, history_of}
use Rattle.rq_exchange.proofs.Words.{arrivals_for, last_lists, if_last, times, CountdownChain, Outbox, Target, Job}
use Rattle.rq_exchange.proofs.Words.{errors_in, at, Web, IsWeb, DiariesTell, told_at, source_at, asked, web_of, due}
use Rattle.rq_exchange.proofs.Words.{AreBoxes, IsCountdownOf, IsChainOf, diaries_of, boxes_of, HandsOn}
use Rattle.rq_pool.specs.declared.countdown.arrival.Arrival.{Arrival}
use Rattle.rq_pool.specs.Countdowns.History.{entry, Answered}
use Rattle.rq_pool.specs.declared.countdown.arrival.Arrival.TheVariants.{Twice, NotLast, Last}
use mathlib.Core.Option.{some}
use lib.ListN.{get_elem?}

-- One arrival, or one queue that has no error queue.

module _ {T : Type 0} where
  lasts_more : (d : List (Entry T)) (e : Entry T)
      → length (last_lists (d ++ e ∷ [])) ≡ length (last_lists d) + length (if_last e.answer)
  lasts_more d e = grind (arith, flat_map-append, length-append)

  arrived_more : (i : ℕ) (d : List (Entry T)) (e : Entry T)
      → length (arrivals_for i (d ++ e ∷ [])) ≡ length (arrivals_for i d) + cond (eqb e.source i) 1 0
  arrived_more i d e = grind (arith, flat_map-append, length-append, cases_Bool (eqb e.source i))

  next_times : (e x : ℕ) (a : Arrival T) → times x (asked e (boxes_of a)) ≡ cond (eqb e x) (length (if_last a)) 0
  next_times e x a = grind (arith, cases_Bool (eqb e x))

  -- a queue was redone and arrived at the countdown of its error queue
  pub arrives : (w : Web) → IsWeb w → (q e : ℕ) → q < w.n → w.error q ≡ e → e < w.n → w.slot e < w.count
      → (starts begun redone : List ℕ) (ds : List (List (Entry T))) (x : T) (a : Arrival T)
      → DiariesTell w starts begun redone ds
      → DiariesTell w starts (begun ++ asked e (boxes_of a)) (redone ++ q ∷ [])
      (set ds (w.slot e) (told_at ds (w.slot e) ++ entry (w.rank q) x a ∷ []))
  arrives w web q e near err within there starts begun redone ds x a t = record {
    long = length-set ds (w.slot e) _ ∙ t.long;
    redid = λ y lt.
        let begins = sum_by-append (λ z. cond (eqb z y) 1 0) begun (asked e (boxes_of a)) in
        let next = next_times e y a in
        let more = lasts_more (told_at ds (w.slot e)) (entry (w.rank q) x a) in
        let apart = web.apart e y within lt there in
        let old = t.redid y lt in
        grind (arith, nat_tests, get_or-set_at, get_or-set_other, cases_eq (w.slot y) (w.slot e));
    arrived = λ f i lt some.
        let redoes = sum_by_push (λ z. cond (eqb z (source_at w.sources f i)) 1 0) redone q in
        let more = arrived_more i (told_at ds (w.slot e)) (entry (w.rank q) x a) in
        let apart = web.apart e f within lt there in
        let source = web.exact f i lt some in
        let ranked = web.ranked q near in
        let old = t.arrived f i lt some in
        grind (arith, nat_tests, get_or-set_at, get_or-set_other, cases_eq (w.slot f) (w.slot e));
  }

  -- a queue that has no error queue was redone
  pub ends : (w : Web) → IsWeb w → (q : ℕ) → w.n ≤ w.error q
      → (starts begun redone : List ℕ) (ds : List (List (Entry T)))
      → DiariesTell w starts begun redone ds → DiariesTell w starts begun (redone ++ q ∷ []) ds
  ends w web q none starts begun redone ds t = record {
    long = t.long;
    redid = t.redid;
    arrived = λ f i lt some.
        let source = web.exact f i lt some in
        let old = t.arrived f i lt some in
        grind (arith, nat_tests, sum_by_push);
  }

-- The error queue of a queue.

-- a list of the values that another has at its indices
same_lists : {X Y : Type 0} (f : X → Y) (d : Y) (xs : List X) (ys : List Y) → length xs ≡ length ys
    → ((i : ℕ) (x : X) → get_elem? xs i ≡ some x → slice_index_or ys i d ≡ f x) → map f xs ≡ ys
same_lists f d [] [] e h = refl
same_lists f d [] (y ∷ ys) e h = absurd (omega (arith, e))
same_lists f d (x ∷ xs) [] e h = absurd (omega (arith, e))
same_lists f d (x ∷ xs) (y ∷ ys) e h =
    λ i. sym (h 0 x refl) i ∷ same_lists f d xs ys (omega (arith, e)) (λ k z is. h (suc k) z is) i

module _ (job : Job) (chain : CountdownChain) (is : IsChainOf job chain) (q e : ℕ)
    (close : q < length job.definitions.now) (err : e ≡ at (errors_in job) q)
    (within : e < length job.definitions.now) where
  fed : 0 < length (listed job.sources.now e)
  fed = rw err (omega (arith, (is.web.ranked q close (omega (arith, err, within))).0))

  -- the last is given what left the sources
  pub given : (cd : Countdown Outbox Target) (k : ℕ) (a : Arrival Outbox) (x : Outbox) → k ≡ at chain.slots.items e
      → cd ≡ slice_index_or chain.countdowns.items k cd
      → Answered (λ (i : ℕ) (y : Outbox). slice_index_or (key_of cd).due i [] ≡ y.moves.items) (sources_of cd) x a
      → IfSome (boxes_of a) (λ b. AreBoxes job e b.items)
  given cd k (Twice y) x slot at_index answer = tt
  given cd k NotLast x slot at_index answer = tt
  given cd k (Last boxes) x slot at_index answer =
      let own : IsCountdownOf job e cd = rw (← slot, ← at_index) at (is.keyed e cd within fed) in
      same_lists (λ (b : Outbox). b.moves.items) [] boxes.items (due job e) (rw length-map (answer.0 ∙ own.0))
      (λ i y at. rw (← own.1) (answer.1 i y at))

  -- the arrival is told by the pass that made it
  pub handed : {g : Ghosts Outbox Target} (k : ℕ) (ps : List (Pass Outbox Target g)) (p p' : Pass Outbox Target g)
      (x : Outbox) (a : Arrival Outbox) → k ≡ at chain.slots.items e
      → history_of p' ≡ history_of (slice_index_or ps k p) ++ entry (at job.ranks.now q) x a ∷ []
      → length ps ≡ length chain.countdowns.items → HandsOn (web_of job chain) q e (boxes_of a) (diaries_of ps)
      (diaries_of (slice_set ps k p'))
  handed {g} k ps p p' x a slot told each starts begun redone t =
      let near : k < length ps = omega (arith, slot, each, is.web.fed e within fed) in
      rw (map-set, told, ← get_or-map (λ (y : Pass Outbox Target g). history_of y) ps k p [] near, slot)
      (arrives (web_of job chain) is.web q e close (sym err) within (is.web.fed e within fed) starts begun redone
      (diaries_of ps) x a t)
