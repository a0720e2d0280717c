-- What the arrivals of a closed countdown came to: by the rule, and by one pass that has all parts.
use Rattle.std.proofs.Common.{◌≡◌, ◌≢◌, ◌⊎◌, ℕ, zero, suc, ◌+◌, ◌-◌, ◌<◌, ◌≤◌, eqb, eq-eqb, ne_eqb, List, [], ◌∷◌, ◌++◌}
use Rattle.std.proofs.Common.{map, length, get_or, take, sum_by, flat_map, All, slice_index_or, sym, refl, ap, ◌∙◌}
use Rattle.std.proofs.Common.{subst, ⊎_elim, inl, inr, arith, Option, Some, None, option_to_list, length-append, set}
use Rattle.std.specs.Option.{ForSome, ForNone}
use Rattle.std.proofs.lemmas.List.Sums.{sum_by-cons, sum_by-le, get_or-le-sum_by}
use Rattle.rq_pool.proofs.Countdowns.Words.{some, none, some-injective, some-ne-none, dite, ℕ_discrete, get_elem?}
use Rattle.rq_pool.proofs.Countdowns.Words.{State, Final, Seen, at_longer, at_map, set_else, Made, View, Terms, total}
use Rattle.rq_pool.proofs.Countdowns.Words.{Phase, clear, away, home, gone, back, flag, waits, is_away, is_done}
use Rattle.rq_pool.proofs.Countdowns.Words.{is_shut, outbox_of, place, count, add_some, somes, one_if, here, parts}
use Rattle.rq_pool.proofs.Countdowns.Words.{stands_at, names, made_for, lasts, times_told, HasMade, HasLast, SomeView}
use Rattle.rq_pool.proofs.Countdowns.Words.{IsOpen, IsShut, Held, spent_view, Entry, Arrival, if_twice}
use Rattle.rq_pool.proofs.Countdowns.Words.{refused_outboxes, back_in, made_by, made_in, refused_in, only, if_kept}
use Rattle.rq_pool.proofs.Countdowns.Words.{if_last, arrivals_for, kept_for, kept_from, last_lists, Settled, all_made}
use Rattle.rq_pool.proofs.Countdowns.Words.{all_refused, flat_map-append, length-map, nil_from_length}
use Rattle.rq_pool.specs.declared.countdown.fits.Fits.{Ghosts}
use Rattle.rq_pool.specs.declared.countdown.pass.Pass.{Pass}
use Rattle.rq_pool.specs.Countdowns.Words.{TellsLast}
use mathlib.Core.Option as maybe
use Rattle.rq_pool.proofs.Totals.{there, read, from_map, total_set, total_at, total_none, total_append, Each}
use Rattle.rq_pool.proofs.Countdowns.Views.{Counted, Counts, words_counted, shut_as, passes_set, knows_spent}
use Rattle.rq_pool.proofs.Countdowns.Joins.{at_later, at_either}

module _ {A : Type 0} where
  -- something counts, if all together do
  some_counts : (f : A → ℕ) (xs : List A) → 0 < total f xs
      → (i : ℕ) × (x : A) × (get_elem? xs i ≡ some x) × (0 < f x)
  some_counts f [] h = absurd (omega arith)
  some_counts f (x ∷ xs) h = dite (ℕ_discrete (f x) 0)
      (λ zero_here. let r = some_counts f xs (omega arith) in (suc r.0, r.1, r.2, r.3))
      (λ one. (0, x, refl, omega arith))

  lone : (xs : List A) (k : ℕ) (x : A) → get_elem? xs k ≡ some x → length xs ≡ 1 → xs ≡ x ∷ []
  lone [] k x e one = absurd (omega arith)
  lone (y ∷ []) zero x e one = ap (λ z. z ∷ []) (some-injective y x e)
  lone (y ∷ []) (suc k) x e one = absurd (some-ne-none x (sym e))
  lone (y ∷ z ∷ ys) k x e one = absurd (omega arith)

  module _ {B C : Type 0} (f : A → List B) (g : A → List C) where
    flat_long : (w : C → ℕ) → ((x : A) → length (f x) ≡ total w (g x)) → (xs : List A)
        → length (flat_map f xs) ≡ total w (flat_map g xs)
    flat_long w each [] = refl
    flat_long w each (x ∷ xs) = let here = each x in let more = flat_long w each xs in
        omega (arith, length-append (f x) (flat_map f xs), total_append w (g x) (flat_map g xs))

    -- b comes of each x of which such a c comes
    carried : (b : B) (P : C → Type 0)
        → ((x : A) (j : ℕ) (c : C) → get_elem? (g x) j ≡ some c → P c → (k : ℕ) × (get_elem? (f x) k ≡ some b))
        → (xs : List A) (j : ℕ) (c : C) → get_elem? (flat_map g xs) j ≡ some c → P c
        → (k : ℕ) × (get_elem? (flat_map f xs) k ≡ some b)
    carried b P each [] j c e p = absurd (some-ne-none c (sym e))
    carried b P each (x ∷ xs) j c e p =
        ⊎_elim (λ (t : (k : ℕ) × (get_elem? (g x) k ≡ some c)). let q = each x t.0 c t.1 p in
        (q.0, at_longer (f x) (flat_map f xs) q.0 b q.1))
        (λ (t : (k : ℕ) × (get_elem? (flat_map g xs) k ≡ some c)). let q = carried b P each xs t.0 c t.1 p in
        at_later (f x) (flat_map f xs) q.0 b q.1) (at_either (g x) (flat_map g xs) j c e)

abbrev named : ℕ → ℕ → ℕ
named i k = one_if (eqb k i)

none_named : (i : ℕ) (ks : List ℕ) → ((j : ℕ) → get_elem? ks j ≢ some i) → total (named i) ks ≡ 0
none_named i [] never = refl
none_named i (k ∷ ks) never = let other = ne_eqb k i (λ e. never 0 (ap some e)) in let here = ap one_if other in
    omega (arith, none_named i ks (λ j. never (suc j)))

module _ {T : Type 0} where
  kept_long_by : (i k : ℕ) (x : T) (a : Arrival T)
      → length (only (eqb k i) (if_kept x a)) ≡ total (names i) (made_by k x a)
  kept_long_by i k x a = grind arith

  lasts_long_by : (k : ℕ) (x : T) (a : Arrival T) → length (if_last a) ≡ total times_told (made_by k x a)
  lasts_long_by k x a = grind arith

  kept_by : (i : ℕ) (x : T) (k : ℕ) (y : T) (a : Arrival T) (j : ℕ) (m : Made T) → get_elem? (made_by k y a) j ≡ some m
      → (m.source ≡ i) × (m.outbox ≡ x) → (l : ℕ) × (get_elem? (only (eqb k i) (if_kept y a)) l ≡ some x)
  kept_by i x k y a j m e p = (0, grind (arith, eq-eqb))

  told_by : (ys : List T) (k : ℕ) (y : T) (a : Arrival T) (j : ℕ) (m : Made T) → get_elem? (made_by k y a) j ≡ some m
      → m.told ≡ Some ys → (l : ℕ) × (get_elem? (if_last a) l ≡ some ys)
  told_by ys k y a j m e p = (0, grind arith)

  arrivals_long_by : (i : ℕ) (e : Entry T) → length (only (eqb e.source i) (e ∷ []))
      ≡ length (only (eqb e.source i) (if_kept e.outbox e.answer)) + total (named i) (if_twice e.source e.answer)
  arrivals_long_by i e = grind arith

  arrivals_long : (i : ℕ) (es : List (Entry T))
      → length (arrivals_for i es) ≡ length (kept_for i es) + total (named i) (refused_in es)
  arrivals_long i [] = refl
  arrivals_long i (e ∷ es) = let b = eqb e.source i in let here = arrivals_long_by i e in let more =
      arrivals_long i es in let l = length-append (only b (e ∷ [])) (arrivals_for i es) in let k =
      length-append (only b (if_kept e.outbox e.answer)) (kept_for i es) in
      omega (arith, total_append (named i) (if_twice e.source e.answer) (refused_in es))

  lasts_in : (es : List (Entry T)) → length (last_lists es) ≡ total times_told (made_in es)
  lasts_in = flat_long _ _ times_told (λ e. lasts_long_by e.source e.outbox e.answer)

  abbrev listed : maybe.Option T → List T
  listed none = []
  listed (some x) = x ∷ []

  abbrev slot : maybe.Option T → Option T
  slot none = None
  slot (some x) = Some x

  abbrev outs : List (Phase T) → List T
  outs = flat_map (λ p. listed (outbox_of p))

  outs_kept : (ps : List (Phase T)) (k : ℕ) (es : List (Entry T))
      → ((i : ℕ) (p : Phase T) → get_elem? ps i ≡ some p → (j : ℕ) → k + i ≡ j → kept_for j es ≡ listed (outbox_of p))
      → kept_from k (length ps) es ≡ outs ps
  outs_kept [] k es each = refl
  outs_kept (p ∷ ps) k es each = λ j. each 0 p refl k (omega arith) j
      ++ outs_kept ps (suc k) es (λ i q e l is. each (suc i) q e l (omega arith)) j

  outs_somes : (ps : List (Phase T)) (xs : List (Option T)) → length xs ≡ length ps
      → Each (λ i p. get_elem? xs i ≡ some (slot (outbox_of p))) ps → somes xs ≡ outs ps
  outs_somes [] [] l each = refl
  outs_somes [] (x ∷ xs) l each = absurd (omega arith)
  outs_somes (p ∷ ps) [] l each = absurd (omega arith)
  outs_somes (p ∷ ps) (x ∷ xs) l each = (λ j. add_some (some-injective x (slot (outbox_of p)) (each 0 p refl) j)
      (outs_somes ps xs (omega arith) (λ i. each (suc i)) j)) ∙ one (outbox_of p)
    where
      one : (o : maybe.Option T) → add_some (slot o) (outs ps) ≡ listed o ++ outs ps
      one none = refl
      one (some y) = refl

  outs_counted : (f : T → Phase T) → Counts f → (ys : List T) → outs (map f ys) ≡ ys
  outs_counted f all [] = refl
  outs_counted f all (y ∷ ys) = λ j. listed ((all y).4 j) ++ outs_counted f all ys j

  waits_or_listed : (p : Phase T) → is_away p ≡ 0 → waits p + length (listed (outbox_of p)) ≡ 1
  waits_or_listed p here = grind arith

  -- if none is away, what waits and what is kept are all
  outs_long : (ps : List (Phase T)) → Each (λ _ p. is_away p ≡ 0) ps → count ps + length (outs ps) ≡ length ps
  outs_long [] none_away = refl
  outs_long (p ∷ ps) none_away = let here = waits_or_listed p (none_away 0 p refl) in
      omega (arith, length-append (listed (outbox_of p)) (outs ps), outs_long ps (λ i. none_away (suc i)))

  waits_once : (p : Phase T) → waits p ≤ 1
  waits_once p = grind arith

  count_small : (ps : List (Phase T)) → count ps ≤ length ps
  count_small [] = omega arith
  count_small (p ∷ ps) = omega (arith, waits_once p, count_small ps)

  at_place : (p : Phase T) → is_away p ≡ 0 → is_shut p ≡ 0 → place p ≡ some (slot (outbox_of p))
  at_place p a b = grind arith

  by_phase : (p : Phase T) → is_away p ≡ 0 → (p ≡ clear) ⊎ ((x : T) × Counted p x)
  by_phase clear here = inl refl
  by_phase away here = absurd (omega arith)
  by_phase (home x) here = inr (x, (refl, refl, refl, refl, refl))
  by_phase (gone x) here = inr (x, (refl, refl, refl, refl, refl))
  by_phase (back x) here = inr (x, (refl, refl, refl, refl, refl))

  somes_next : (xs : List (Option T)) (i : ℕ) (o : Option T) → get_elem? xs i ≡ some o
      → somes (take (suc i) xs) ≡ somes (take i xs) ++ option_to_list o
  somes_next [] i o e = absurd (some-ne-none o (sym e))
  somes_next (x ∷ xs) zero None e = ap (λ z. add_some z []) (some-injective x None e)
  somes_next (x ∷ xs) zero (Some y) e = ap (λ z. add_some z []) (some-injective x (Some y) e)
  somes_next (None ∷ xs) (suc i) o e = somes_next xs i o e
  somes_next (Some x ∷ xs) (suc i) o e = ap (λ l. x ∷ l) (somes_next xs i o e)

  pub next_home : (xs : List (Option T)) (i j : ℕ) (o : Option T) (h h' : List T) → suc i ≡ j → get_elem? xs i ≡ some o
      → h ≡ somes (take i xs) → h' ≡ h ++ option_to_list o → h' ≡ somes (take j xs)
  next_home xs i j o h h' is e was now =
      subst (λ k. h' ≡ somes (take k xs)) is (now ∙ ap (λ l. l ++ option_to_list o) was ∙ sym (somes_next xs i o e))

  pub one_more : (h h' : List T) (o : Option T) (i : ℕ) → length h ≤ i → h' ≡ h ++ option_to_list o → length h' ≤ i + 1
  one_more h h' o i short is = grind (arith, length-append)

module _ {A T K : Type 0} (g : A → View T K) (each : (p : A) → (g p).parts ≡ 1) where
  pub parts_long : (ps : List A) → total parts (map g ps) ≡ length ps
  parts_long [] = refl
  parts_long (p ∷ ps) = let q = each p in let r = parts_long ps in omega arith

module _ {A T K : Type 0} (g : A → View T K) where
  lasts_total : (xs : List A) → total times_told (all_made (map g xs)) ≡ sum_by (λ x. lasts (g x)) xs
  lasts_total [] = refl
  lasts_total (x ∷ xs) = let more = lasts_total xs in
      omega (arith, sum_by-cons (λ x. lasts (g x)) x xs, total_append times_told (g x).made (all_made (map g xs)))

  pub none_last : (xs : List A) → All (λ p. lasts (g p) ≡ 0) xs → total times_told (all_made (map g xs)) ≡ 0
  none_last xs all = let few = sum_by-le (λ x. lasts (g x)) 0 xs (λ k d near. omega (arith, all k d near)) in
      omega (arith, lasts_total xs)

  pub one_last : (xs : List A) (k : ℕ) → k < length xs → ((d : A) → lasts (g (get_or xs k d)) ≡ 1)
      → 0 < total times_told (all_made (map g xs))
  one_last xs k near one = let x = (there xs k near).0 in let at = one x in
      omega (arith, lasts_total xs, get_or-le-sum_by (λ x. lasts (g x)) xs k x near)

module _ {A T K : Type 0} (g : A → View T K) (d : A → List (Entry T)) where
  pub all_made_in : ((p : A) → made_in (d p) ≡ (g p).made) → (ps : List A)
      → made_in (flat_map d ps) ≡ all_made (map g ps)
  all_made_in each [] = refl
  all_made_in each (p ∷ ps) = flat_map-append _ (d p) (flat_map d ps) ∙ (λ j. each p j ++ all_made_in each ps j)

  pub all_refused_in : ((p : A) → refused_in (d p) ≡ (g p).refused) → (ps : List A)
      → refused_in (flat_map d ps) ≡ all_refused (map g ps)
  all_refused_in each [] = refl
  all_refused_in each (p ∷ ps) = flat_map-append _ (d p) (flat_map d ps) ∙ (λ j. each p j ++ all_refused_in each ps j)

module _ {A T : Type 0} (d : A → List (Entry T)) where
  pub all_back : ((p : A) → back_in (d p) ≡ refused_outboxes (d p)) → (ps : List A)
      → back_in (flat_map d ps) ≡ refused_outboxes (flat_map d ps)
  all_back each [] = refl
  all_back each (p ∷ ps) = flat_map-append _ (d p) (flat_map d ps) ∙ (λ j. each p j ++ all_back each ps j)
      ∙ sym (flat_map-append _ (d p) (flat_map d ps))

module _ {T K : Type 0} {g : Ghosts T K} where
  of_pass : (p : Pass T K g) → length (last_lists p.diary) ≡ lasts p.seat.me.0
  of_pass p = lasts_in p.diary ∙ ap (total times_told) p.told.0

  pub tells_last : (ps : List (Pass T K g)) (o : Option ℕ)
      → ForSome o (λ k. (k < length ps) × ((d : Pass T K g) → lasts (slice_index_or ps k d).seat.me.0 ≡ 1))
      → ForNone o (All (λ p. lasts p.seat.me.0 ≡ 0) ps) → TellsLast ps o
  tells_last ps (Some k) was was_not = ((was k refl).0, λ d. of_pass (slice_index_or ps k d) ∙ (was k refl).1 d)
  tells_last ps None was was_not = λ k d near.
      nil_from_length _ (of_pass (slice_index_or ps k d) ∙ was_not refl k d near)

module _ {T K : Type 0} (fits : K → ℕ → T → Type 0) (terms : Terms K) (s : State (Option T) (View T K))
    (h : Held fits terms s) (id : ℕ) (v : View T K) (at : get_elem? s.views id ≡ some v)
    (whole : v.parts ≡ terms.passes) (rests : v.at ≡ None) (es : List (Entry T)) (made : made_in es ≡ v.made)
    (refused : refused_in es ≡ v.refused) (gave_back : back_in es ≡ refused_outboxes es) where
  abbrev ps : List (Phase T)
  ps = h.phases

  abbrev others : List (View T K)
  others = set s.views id spent_view

  idle : (j : ℕ) (u : View T K) → get_elem? others j ≡ some u → (u.made ≡ []) × (u.at ≡ None) × (u.refused ≡ [])
  idle j u e = let t = total_set parts s.views id v spent_view at in let all = h.all_parts in
      (passes_set terms.key ps ps s.views id spent_view (λ _ is. is) (knows_spent terms.key ps) h.each_pass j u e).idle
      (omega (arith, total_at parts others j u e))

  -- the pass has all
  alone : (f : View T K → ℕ) → ((u : View T K) → u.made ≡ [] → u.at ≡ None → f u ≡ 0) → total f s.views ≡ f v
  alone f bare = let t = total_set f s.views id v spent_view at in let zero = bare spent_view refl refl in
      omega (arith, total_none f others (λ j u e. bare u (idle j u e).0 (idle j u e).1))

  has_it : (P : List (Made T) → Type 0) → ¬ P [] → SomeView P s.views → P (made_in es)
  has_it P never (j, u, e, has) = dite (ℕ_discrete j id)
      (λ (same : j ≡ id). let is : u ≡ v = some-injective u v (sym e ∙ ap (get_elem? s.views) same ∙ at) in
      subst P (ap (λ (y : View T K). y.made) is ∙ sym made) has)
      (λ other. absurd (never (subst P (idle j u (set_else s.views id j spent_view other ∙ e)).0 has)))

  all_lasts : length (last_lists es) ≡ total lasts s.views
  all_lasts = lasts_in es ∙ ap (total times_told) made ∙ sym (alone lasts (λ u bare _. ap (total times_told) bare))

  none_away : Each (λ _ p. is_away p ≡ 0) ps
  none_away i p e = sym (h.each_source i p e).standing
      ∙ alone (stands_at i) (λ u _ bare. ap (here i) bare) ∙ ap (here i) rests

  abbrev Shown : ℕ → Phase T → Type 0
  Shown i p = ((p ≡ clear) × (kept_for i es ≡ []) × (arrivals_for i es ≡ []))
      ⊎ ((x : T) × Counted p x × (kept_for i es ≡ x ∷ []))

  shown : Each Shown ps
  shown i p e = let src = h.each_source i p e in let long =
      flat_long _ _ (names i) (λ e. kept_long_by i e.source e.outbox e.answer) es ∙ ap (total (names i)) made
      ∙ sym (alone (made_for i) (λ u bare _. ap (total (names i)) bare)) ∙ src.done in
      ⊎_elim (λ (c : p ≡ clear). let no_kept = long ∙ ap is_done c in let no_name =
      none_named i (refused_in es) (λ k is. let b =
      (h.each_pass id v at).set_before k i (ap (λ l. get_elem? l k) (sym refused) ∙ is) in let set = b.2 in
      omega (arith, ap flag (some-injective b.0 p (sym b.1 ∙ e)), ap flag c)) in let all = arrivals_long i es in
      inl (c, nil_from_length (kept_for i es) no_kept, nil_from_length (arrivals_for i es) (omega arith)))
      (λ (x : (x : T) × Counted p x). let m = has_it (HasMade i x.0) (λ m. some-ne-none m.1 (sym m.2))
      (src.holding x.0 x.1.4).1 in let k =
      carried (λ e. only (eqb e.source i) (if_kept e.outbox e.answer)) (λ e. made_by e.source e.outbox e.answer) x.0
      (λ m. (m.source ≡ i) × (m.outbox ≡ x.0)) (λ e. kept_by i x.0 e.source e.outbox e.answer) es m.0 m.1 m.2
      (m.3, m.4) in inr (x.0, x.1, lone (kept_for i es) k.0 x.0 k.1 (long ∙ x.1.3))) (by_phase p (none_away i p e))

  whole_kept : kept_from 0 (length ps) es ≡ outs ps
  whole_kept = outs_kept ps 0 es (λ i p e j is. let same : i ≡ j = omega arith in
      subst (λ k. kept_for k es ≡ listed (outbox_of p)) same
      (⊎_elim (λ c. c.1 ∙ sym (ap (λ p. listed (outbox_of p)) c.0)) (λ x. x.2 ∙ sym (ap listed x.1.4)) (shown i p e)))

  once : (i : ℕ) → i < length ps → (arrivals_for i es ≡ []) ⊎ ((x : T) × (kept_for i es ≡ x ∷ []))
  once i near = let t = there ps i near in ⊎_elim (λ c. inl c.2) (λ x. inr (x.0, x.2)) (shown i t.0 t.1)

  arrivals : length ps - count ps ≡ length (kept_from 0 (length ps) es)
  arrivals = omega (arith, ap length whole_kept, outs_long ps none_away)

  -- nobody was told Last: the slots have what was kept
  settles_open : lasts v ≡ 0 → (xs : List (Option T)) → length s.homes ≡ length xs
      → ((k : ℕ) (y : Option T) → get_elem? s.homes k ≡ some (some y) → get_elem? xs k ≡ some y)
      → (rest : List T) → rest ≡ somes xs → Settled (length ps) es (length ps - count ps) rest
  settles_open none_told xs long same rest is = let told = alone lasts (λ u bare _. ap (total times_told) bare) in
      let o : IsOpen s.views ps = ⊎_elim (λ (o : IsOpen s.views ps). o)
      (λ (c : IsShut s.views ps). absurd (omega (arith, c.one))) h.told_once in
      let some_wait = o.waiting in let l = outs_long ps none_away in let few : length ps - count ps < length ps =
      omega arith in record {
        once = once;
        gave_back = gave_back;
        arrivals = arrivals;
        missing = (
          (λ _. let t = some_counts waits ps o.waiting in (
            t.0,
            (read ps t.0 t.1 t.2).0,
            ⊎_elim (λ c. c.2) (λ x. absurd (let z = x.1.1 in let w = t.3 in omega arith)) (shown t.0 t.1 t.2),
          )),
          λ _. few,
        );
        outcome = inl (
          few,
          nil_from_length (last_lists es) (all_lasts ∙ o.nobody),
          is ∙ outs_somes ps xs (sym long ∙ ap length h.homes_are ∙ length-map ps place)
              (λ i p e. same i (slot (outbox_of p)) (ap (λ hs. get_elem? hs i) h.homes_are ∙ at_map place ps i p e
              ∙ ap some (at_place p (none_away i p e) (o.none_shut i p e)))) ∙ sym whole_kept,
        );
        placed = λ full. absurd (omega arith);
      }

  -- else that pass was given all
  settles_shut : 0 < lasts v → (rest : List T) → rest ≡ [] → Settled (length ps) es (length ps - count ps) rest
  settles_shut some_told rest is = let told = alone lasts (λ u bare _. ap (total times_told) bare) in
      let c : IsShut s.views ps = ⊎_elim (λ (o : IsOpen s.views ps). absurd (omega (arith, o.nobody)))
      (λ (c : IsShut s.views ps). c) h.told_once in let ys : List T = c.outboxes in
      let f = shut_as ps ys c.all_shut in let none_wait = ap count f.1 ∙ (words_counted f.0 f.2 ys).0 in
      let kept : kept_from 0 (length ps) es ≡ ys = whole_kept ∙ ap outs f.1 ∙ outs_counted f.0 f.2 ys in
      let m = has_it (HasLast ys) (λ m. some-ne-none m.1 (sym m.2)) c.has_it in let k =
      carried _ _ ys (λ m. m.told ≡ Some ys) (λ e. told_by ys e.source e.outbox e.answer) es m.0 m.1 m.2 m.3 in
      let full : (i : ℕ) → i < length ps → (x : T) × (get_elem? ys i ≡ some x) × (kept_for i es ≡ x ∷ []) =
      λ i near. let t = there ps i near in let y = from_map f.0 ys i t.0 (ap (λ l. get_elem? l i) (sym f.1) ∙ t.1) in
      let w = (f.2 y.0).1 in ⊎_elim (λ c. absurd (omega (arith, ap waits (y.2 ∙ c.0))))
      (λ x. (x.0, y.1 ∙ sym (f.2 y.0).4 ∙ ap outbox_of y.2 ∙ x.1.4, x.2)) (shown i t.0 t.1) in record {
        once = once;
        gave_back = gave_back;
        arrivals = arrivals;
        missing = (
          (λ few. absurd (omega arith)),
          λ m. absurd (let one = ap length (full m.0 m.1).2 in let no_arrival =
              ap length m.2 in omega (arith, arrivals_long m.0 es)),
        );
        outcome = inr (
          omega arith,
          lone (last_lists es) k.0 ys k.1 (all_lasts ∙ c.one) ∙ ap (λ l. l ∷ []) (sym kept),
          is,
        );
        placed = λ _ i near. let x = full i near in (x.0, ap (λ l. get_elem? l i) kept ∙ x.1, x.2);
      }

module _ {T K : Type 0} (fits : K → ℕ → T → Type 0) (terms : Terms K) (id : ℕ) (v : View T K) (ws : List ℕ)
    (xs : List (Option T)) (n w : ℕ) (long : length xs ≡ n) (word : get_elem? ws 0 ≡ some w)
    (end : Final (Seen (Held fits terms) id v) ws xs) where
  ends : (length end.1.0.phases ≡ n) × (count end.1.0.phases ≡ w)
  ends = let h = end.1.0 in (
    sym (ap length h.homes_are ∙ length-map h.phases place) ∙ end.3 ∙ long,
    some-injective (count h.phases) w (ap (λ l. get_elem? l 0) (sym h.words_are ∙ end.2) ∙ word),
  )

  pub word_small : w ≤ n
  word_small = let e = ends in omega (arith, count_small end.1.0.phases)

  pub settles : (es : List (Entry T)) → made_in es ≡ v.made → refused_in es ≡ v.refused
      → back_in es ≡ refused_outboxes es → v.parts ≡ terms.passes → v.at ≡ None → (rest : List T)
      → ((lasts v ≡ 0) × (rest ≡ somes xs)) ⊎ ((0 < lasts v) × (rest ≡ [])) → Settled n es (n - w) rest
  settles es m r was_back whole rests rest outcome = let s = end.0 in let h = end.1.0 in let at = end.1.1 in
      subst (λ (z : ℕ × ℕ). Settled z.0 es (z.0 - z.1) rest) (λ j. (ends.0 j, ends.1 j))
      (⊎_elim (λ o. settles_open fits terms s h id v at whole rests es m r was_back o.0 xs end.3 end.4 rest o.1)
      (λ o. settles_shut fits terms s h id v at whole rests es m r was_back o.0 rest o.1) outcome)
