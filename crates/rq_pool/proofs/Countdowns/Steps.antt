-- Each step of a pass keeps the rule: the swap on a source's flag, the fetch_sub on the count, and the load by
-- which the last gives all slots back.
use Rattle.std.proofs.Common.{◌≡◌, ◌≢◌, ◌⊎◌, ℕ, zero, suc, ◌+◌, ◌-◌, ◌%◌, ◌^◌, ◌<◌, eqb, eq-eqb, ne_eqb, List, [], ◌∷◌}
use Rattle.std.proofs.Common.{◌++◌, map, length, get_or, set, replicate, sym, refl, ap, ◌∙◌, subst, ⊎_elim, inl, inr}
use Rattle.std.proofs.Common.{arith, Option, Some, None, length-set, append-nil, append_assoc}
use Rattle.std.proofs.lemmas.List.{set-get_or, set_at}
use Rattle.rq_pool.proofs.Countdowns.Words.{some, none, some-injective, some-ne-none, dite, ℕ_discrete, get_elem?}
use Rattle.rq_pool.proofs.Countdowns.Words.{map-set, map-set_same, map-map, get_or-map, length-map, length_push, State}
use Rattle.rq_pool.proofs.Countdowns.Words.{Me, step, Act, keeps, takes, gives, chain, stepped, Valid, Allows}
use Rattle.rq_pool.proofs.Countdowns.Words.{carried_after, homes_after, rest, at_snoc, at_map, at_longer, at_last}
use Rattle.rq_pool.proofs.Countdowns.Words.{set_here, set_again, View, Terms, Phase, clear, away, home, gone, back}
use Rattle.rq_pool.proofs.Countdowns.Words.{flag, waits, is_away, is_shut, place, count, indexed, one_if, here, parts}
use Rattle.rq_pool.proofs.Countdowns.Words.{stands_at, names, lasts, view, made_of, after, HasMade, HasLast, AtSource}
use Rattle.rq_pool.proofs.Countdowns.Words.{IsSet, Knows, IsOpen, IsShut, Held, Fit, claimed, tallied, hands_back}
use mathlib.Core.Option as maybe
use Rattle.rq_pool.proofs.Totals.{there, read, from_map, total_set, total_at, total_append, Each, each_set}
use Rattle.rq_pool.proofs.Countdowns.Views.{one_slot, set_still, Counts, words_counted, set_counted, shut_as, some_set}
use Rattle.rq_pool.proofs.Countdowns.Views.{same_total, source_set, sources_counted, knows_still, passes_set}
use Rattle.rq_pool.proofs.Countdowns.Views.{told_still, lasts_after}

module _ {S : Type 0} where
  -- the last slot first, so that the first is the one taken last
  abbrev take_all : ℕ → List S → Act S
  take_all k [] = keeps
  take_all k (x ∷ xs) = chain (take_all (suc k) xs) (takes k x)

  taking : (xs : List S) (front hs : List (maybe.Option S)) (c : List (ℕ × S)) (k : ℕ) → length front ≡ k
      → hs ≡ front ++ map some xs → Valid hs c (take_all k xs)
      × (homes_after hs c (take_all k xs) ≡ front ++ map (λ (x : S). none) xs)
      × (carried_after c (take_all k xs) ≡ indexed k xs ++ c)
  taking [] front hs c k e is = (tt, is, refl)
  taking (x ∷ xs) front hs c k e is = let nones : List (maybe.Option S) = map (λ (x : S). none) xs in let q =
      taking xs (front ++ some x ∷ []) hs c (suc k) (omega (arith, length_push front (some x)))
      (is ∙ sym (append_assoc front (some x ∷ []) (map some xs))) in (
        (
          q.0,
          ap (λ l. get_elem? l k) q.1
              ∙ at_longer (front ++ some x ∷ []) nones k (some x) (at_last front (some x) k e),
        ),
        ap (λ l. set l k none) (q.1 ∙ append_assoc front (some x ∷ []) nones) ∙ set_at front (some x) nones none k e,
        ap (λ l. (k, x) ∷ l) q.2,
      )

  abbrev give_all : ℕ → Act S
  give_all zero = keeps
  give_all (suc n) = chain gives (give_all n)

  giving : (later front hs : List (maybe.Option S)) (x : S) (k : ℕ) → length front ≡ k → hs ≡ front ++ later → let c =
      indexed k (replicate (length later) x) in Valid hs c (give_all (length later))
      × (homes_after hs c (give_all (length later)) ≡ front ++ map (λ (h : maybe.Option S). some x) later)
      × (carried_after c (give_all (length later)) ≡ [])
  giving [] front hs x k e is = (tt, is, refl)
  giving (h ∷ later) front hs x k e is = let q =
      giving later (front ++ some x ∷ []) (set hs k (some x)) x (suc k) (omega (arith, length_push front (some x)))
      (ap (λ l. set l k (some x)) is ∙ set_at front h later (some x) k e
      ∙ sym (append_assoc front (some x ∷ []) later)) in
      ((tt, q.0), q.1 ∙ append_assoc front (some x ∷ []) (map (λ (h : maybe.Option S). some x) later), q.2)

module _ {T : Type 0} where
  clear_or_set : (p : Phase T) → (p ≡ clear) ⊎ (flag p ≡ 1)
  clear_or_set p = grind arith

  away_only : (p : Phase T) → 0 < is_away p → p ≡ away
  away_only p h = grind arith

  -- if none waits and none is shut, all are at home
  all_home : (ps : List (Phase T)) → count ps ≡ 0 → Each (λ _ p. is_shut p ≡ 0) ps → (ys : List T) × (ps ≡ map home ys)
  all_home [] z none_shut = ([], refl)
  all_home (home x ∷ ps) z none_shut = let q = all_home ps (omega arith) (λ i. none_shut (suc i)) in
      (x ∷ q.0, ap (λ l. home x ∷ l) q.1)
  all_home (clear ∷ ps) z none_shut = absurd (omega arith)
  all_home (away ∷ ps) z none_shut = absurd (omega arith)
  all_home (gone x ∷ ps) z none_shut = absurd (omega (arith, none_shut 0 (gone x) refl))
  all_home (back x ∷ ps) z none_shut = absurd (omega (arith, none_shut 0 (back x) refl))

module _ {T K : Type 0} (fits : K → ℕ → T → Type 0) (terms : Terms K) where
  abbrev St : Type 0
  St = State (Option T) (View T K)

  abbrev H : St → Type 0
  H = Held fits terms

  abbrev M : Type 0
  M = Me (Option T) (View T K)

  -- if one is not shut, nobody was told Last
  still_open : (views : List (View T K)) (ps : List (Phase T)) (i : ℕ) (p : Phase T) → get_elem? ps i ≡ some p
      → is_shut p ≡ 0 → (IsOpen views ps ⊎ IsShut views ps) → IsOpen views ps
  still_open views ps i p at e (inl o) = o
  still_open views ps i p at e (inr s) = let f = shut_as ps s.outboxes s.all_shut in let y =
      from_map f.0 s.outboxes i p (ap (λ l. get_elem? l i) (sym f.1) ∙ at) in
      absurd (omega (arith, f.3 y.0, ap is_shut y.2))

  abbrev Goes : St → ℕ → ℕ → M → (ℕ → M → Type 0) → Type 0
  Goes s i id me then = (w : View T K) × (a : Act (Option T)) × Valid s.homes me.1 a × H (stepped s i 1 id me.1 w a)
      × then (get_or s.words i 0) (w, carried_after me.1 a)

  taken : (s : St) (h : H s) (slots id : ℕ) (me : M) (i : ℕ) → get_elem? s.views id ≡ some me.0 → me.0.at ≡ None
      → 0 < me.0.parts → get_elem? h.phases i ≡ some clear
      → get_or s.words (suc i) 0 ≡ 0 → Goes s (suc i) id me (claimed (step slots (suc i) 1 0 none) me)
  taken s h slots id me i at idle part clear_at found =
      let v : View T K = me.0 in let ps : List (Phase T) = h.phases in let w : View T K =
      view v.parts v.key (Some i) v.made v.refused in let b : i ≡ suc i - 1 = omega arith in
      let o = still_open s.views ps i clear clear_at refl h.told_once in let old = h.each_pass id v at in
      let same : count (set ps i away) ≡ count ps = omega (arith, total_set waits ps i clear away clear_at) in
      let still = set_still ps i away (read ps i clear clear_at).0 refl in (
        w,
        takes i None,
        ap (λ hs. get_elem? hs i) h.homes_are ∙ at_map place ps i clear clear_at,
        record {
          phases = set ps i away;
          words_are = (λ j. set (h.words_are j) (suc i) 1) ∙ (λ j. sym same j ∷ sym (map-set flag ps i away) j);
          homes_are = (λ j. set (h.homes_are j) i none) ∙ sym (map-set place ps i away);
          all_parts = same_total parts s.views id v w at refl ∙ h.all_parts;
          each_source = each_set (AtSource (fits terms.key) (set s.views id w)) ps i away
              (source_set (fits terms.key) s.views id v w i clear away at
              (omega (arith, ap (here i) idle, ap one_if (eq-eqb i i refl))) refl (λ x had. had)
              (λ x e. absurd (some-ne-none x (sym e))) (h.each_source i clear clear_at))
              (λ j p other e. source_set (fits terms.key) s.views id v w j p p at
              (omega (arith, ap (here j) idle, ap one_if (ne_eqb i j (λ z. other (sym z))))) refl (λ x had. had)
              (λ x is. inl is) (h.each_source j p e));
          each_pass = passes_set terms.key ps (set ps i away) s.views id w still
              (knows_still terms.key ps (set ps i away) v w part part refl old
              (λ k j e. still j (old.set_before k j e))) h.each_pass;
          told_once = inl record {
            waiting = omega (arith, o.waiting);
            nobody = same_total lasts s.views id v w at refl ∙ o.nobody;
            none_shut = each_set (λ _ p. is_shut p ≡ 0) ps i away refl (λ j p _. o.none_shut j p);
          };
        },
        (
          (λ _. (
            omega (arith, total_at lasts s.views id v at, o.nobody),
            λ j. (view v.parts v.key (Some (b j)) v.made v.refused, (b j, None) ∷ me.1),
          )),
          λ ne. absurd (ne found),
        ),
      )

  untaken : (s : St) (h : H s) (slots id : ℕ) (me : M) (i : ℕ) (p : Phase T) → get_elem? s.views id ≡ some me.0
      → me.0.at ≡ None → 0 < me.0.parts → get_elem? h.phases i ≡ some p → flag p ≡ 1
      → get_or s.words (suc i) 0 ≡ 1 → Goes s (suc i) id me (claimed (step slots (suc i) 1 0 none) me)
  untaken s h slots id me i p at idle part p_at set_flag found =
      let v : View T K = me.0 in let ps : List (Phase T) = h.phases in let w : View T K =
      view v.parts v.key None v.made (v.refused ++ i ∷ []) in let b : i ≡ suc i - 1 = omega arith in
      let old = h.each_pass id v at in (
        w,
        keeps,
        tt,
        record {
          phases = ps;
          words_are = ap (set s.words (suc i)) (sym found) ∙ set-get_or s.words (suc i) 0 ∙ h.words_are;
          homes_are = h.homes_are;
          all_parts = same_total parts s.views id v w at refl ∙ h.all_parts;
          each_source = λ j q e. source_set (fits terms.key) s.views id v w j q q at
              (omega (arith, ap (here j) idle)) refl
              (λ x had. had) (λ x is. inl is) (h.each_source j q e);
          each_pass = passes_set terms.key ps ps s.views id w (λ j is. is)
              (knows_still terms.key ps ps v w part part refl old (λ k j e. ⊎_elim (old.set_before k j)
              (λ (same : i ≡ j). subst (IsSet ps) same (p, p_at, set_flag)) (at_snoc v.refused i j k e))) h.each_pass;
          told_once = told_still s.views (set s.views id w) ps (same_total lasts s.views id v w at refl)
              (λ ys. some_set (HasLast ys) s.views id v w at (λ had. had)) h.told_once;
        },
        ((λ z. absurd (omega arith)), λ _ j. (view v.parts v.key None v.made (v.refused ++ b j ∷ []), me.1)),
      )

  pub claims : (slots id : ℕ) (me : M) (n i : ℕ) → suc i ≡ n → i < slots → me.0.at ≡ None → 0 < me.0.parts
      → Allows H slots id me n (λ _. 1) (claimed (step slots n 1 0 none) me)
  claims slots id me n i e near idle part =
      subst (λ k. Allows H slots id me k (λ _. 1) (claimed (step slots k 1 0 none) me)) e
      (λ s h wide at small. let ps : List (Phase T) = h.phases in let t =
      there ps i (omega (arith, ap length h.homes_are, length-map ps place)) in let r = read ps i t.0 t.1 in
      let found = ap (λ ws. get_or ws (suc i) 0) h.words_are ∙ get_or-map flag ps i t.0 0 r.0 ∙ ap flag r.1 in
      ⊎_elim (λ (c : t.0 ≡ clear). taken s h slots id me i at idle part (t.1 ∙ ap some c) (found ∙ ap flag c))
      (λ (one : flag t.0 ≡ 1). untaken s h slots id me i t.0 at idle part t.1 one (found ∙ one)) (clear_or_set t.0))

  module _ (s : St) (h : H s) (id : ℕ) (v : View T K) (i : ℕ) (x : T) (at : get_elem? s.views id ≡ some v)
      (stands : v.at ≡ Some i) (part : 0 < v.parts) (fit : fits terms.key i x) (slots : ℕ) (c : List (ℕ × Option T))
      (has : c ≡ (i, Some x) ∷ []) (near : i < length h.phases) (wide : length h.phases ≡ slots) where
    abbrev ps : List (Phase T)
    ps = h.phases

    abbrev ps' : List (Phase T)
    ps' = set ps i (home x)

    abbrev found : ℕ
    found = get_or s.words 0 0

    abbrev next : ℕ
    next = (found + (2 ^ 64 - 1)) % 2 ^ 64

    one : one_if (eqb i i) ≡ 1
    one = ap one_if (eq-eqb i i refl)

    at_away : get_elem? ps i ≡ some away
    at_away = let t = there ps i near in let st = (h.each_source i t.0 t.1).standing in let mine = ap (here i) stands in
        let o = one in t.1 ∙ ap some (away_only t.0 (omega (arith, total_at (stands_at i) s.views id v at)))

    opened : IsOpen s.views ps
    opened = still_open s.views ps i away at_away refl h.told_once

    one_less : count ps' + 1 ≡ found
    one_less = let f = ap (λ ws. get_or ws 0 0) h.words_are in
        omega (arith, total_set waits ps i away (home x) at_away)

    flags' : map flag ps' ≡ map flag ps
    flags' = map-set_same flag ps i (home x) away (sym (ap flag (read ps i away at_away).1))

    words' : (qs : List (Phase T)) → next ≡ count qs → map flag ps ≡ map flag qs
        → set s.words 0 next ≡ count qs ∷ map flag qs
    words' qs e same = ap (λ ws. set ws 0 next) h.words_are ∙ (λ j. e j ∷ same j)

    homes' : homes_after s.homes c gives ≡ map place ps'
    homes' = ap (λ l. homes_after s.homes l gives) has ∙ ap (λ hs. set hs i (some (Some x))) h.homes_are
        ∙ sym (map-set place ps i (home x))

    none_shut' : Each (λ _ p. is_shut p ≡ 0) ps'
    none_shut' = each_set (λ _ p. is_shut p ≡ 0) ps i (home x) refl (λ j p _. opened.none_shut j p)

    module _ (ys : Option (List T)) where
      abbrev w : View T K
      w = after v i x ys

      grows : (j : ℕ) (y : T) → HasMade j y v.made → HasMade j y w.made
      grows j y had = (had.0, had.1, at_longer v.made (made_of i x ys ∷ []) had.0 had.1 had.2, had.3, had.4)

      sources' : Each (AtSource (fits terms.key) (set s.views id w)) ps'
      sources' = let more = λ (j : ℕ). total_append (names j) v.made (made_of i x ys ∷ []) in let o = one in
          each_set (AtSource (fits terms.key) (set s.views id w)) ps i (home x)
          (source_set (fits terms.key) s.views id v w i away (home x) at (omega (arith, ap (here i) stands))
          (omega (arith, more i)) (grows i)
          (λ y e. inr (subst (λ (y : T). fits terms.key i y × HasMade i y w.made) (some-injective x y e)
          (fit, (length v.made, made_of i x ys, at_last v.made (made_of i x ys) (length v.made) refl, refl, refl))))
          (h.each_source i away at_away))
          (λ j p other e. let z : one_if (eqb i j) ≡ 0 = ap one_if (ne_eqb i j (λ q. other (sym q))) in
          source_set (fits terms.key) s.views id v w j p p at (omega (arith, ap (here j) stands))
          (omega (arith, more j)) (grows j) (λ y is. inl is) (h.each_source j p e))

      passes' : (qs : List (Phase T)) → ((j : ℕ) → IsSet ps j → IsSet qs j)
          → Each (λ _. Knows terms.key qs) (set s.views id w)
      passes' qs still = let old = h.each_pass id v at in passes_set terms.key ps qs s.views id w still
          (knows_still terms.key ps qs v w part part refl old (λ k j e. still j (old.set_before k j e))) h.each_pass

    abbrev Counted : Type 0
    Counted = (u : View T K) × (a : Act (Option T)) × Valid s.homes c a × H (stepped s 0 next id c u a)
        × tallied fits (step slots 0 1 0 none) (v, c) found (u, carried_after c a)

    abbrev Told : ℕ × T → View T K → List (ℕ × Option T) → Type 0
    Told z u d = let me' : M = (u, d) in (found ≢ 1 → me' ≡ (after v z.0 z.1 None, []))
        × (found ≡ 1 → (lasts v ≡ 0)
        × ((ys : List T) × (length ys ≡ slots) × ((k : K) → v.key ≡ Some k → Fit (fits k) ys)
        × (me' ≡ (after v z.0 z.1 (Some ys), indexed 0 (map Some ys)))))

    -- what the slot held names the source and the outbox
    tells : (u : View T K) (d : List (ℕ × Option T)) → Told (i, x) u d
        → tallied fits (step slots 0 1 0 none) (v, c) found (u, d)
    tells u d t j y e = let same = one_slot i j x y [] [] (sym has ∙ e) in
        subst (λ (z : ℕ × T). Told z u d) (λ k. (same.0 k, same.1 k)) t

    not_last : found ≢ 1 → found < 18446744073709551616 → Counted
    not_last ne small = let l = one_less in (
      w None,
      gives,
      tt,
      record {
        phases = ps';
        words_are = words' ps' (omega arith) (sym flags');
        homes_are = homes';
        all_parts = same_total parts s.views id v (w None) at refl ∙ h.all_parts;
        each_source = sources' None;
        each_pass = passes' None ps' (set_still ps i (home x) near refl);
        told_once = inl record {
          waiting = omega arith;
          nobody = same_total lasts s.views id v (w None) at (omega (arith, lasts_after v i x None)) ∙ opened.nobody;
          none_shut = none_shut';
        };
      },
      tells (w None) (rest c) ((λ _ j. (w None, rest (has j))), λ is. absurd (ne is)),
    )

    last : found ≡ 1 → Counted
    last is = let l = one_less in let e : next ≡ 0 = ap (λ n. (n + (2 ^ 64 - 1)) % 2 ^ 64) is in let all =
        all_home ps' (omega arith) none_shut' in let ys : List T = all.0 in let u : View T K = w (Some ys) in
        let in_home : map place (map home ys) ≡ map some (map Some ys) = simp map-map in
        let t : Act (Option T) = take_all 0 (map Some ys) in let took =
        taking (map Some ys) [] (homes_after s.homes c gives) (rest c) 0 refl
        (homes' ∙ ap (map place) all.1 ∙ in_home) in
        let at_home : Counts {T = T} home = λ y. (refl, refl, refl, refl, refl) in
        let now_gone : Counts {T = T} gone = λ y. (refl, refl, refl, refl, refl) in
        let words = words_counted gone now_gone ys in
        let sources = subst (Each (AtSource (fits terms.key) (set s.views id u))) all.1 (sources' (Some ys)) in
        let none_told = opened.nobody in (
          u,
          chain gives t,
          (tt, took.0),
          record {
            phases = map gone ys;
            words_are = words' (map gone ys) (e ∙ sym words.0)
                (sym flags' ∙ ap (map flag) all.1 ∙ (words_counted home at_home ys).1 ∙ sym words.1);
            homes_are = took.1 ∙ (simp map-map);
            all_parts = same_total parts s.views id v u at refl ∙ h.all_parts;
            each_source = sources_counted (fits terms.key) (set s.views id u) home gone at_home now_gone ys sources;
            each_pass = passes' (Some ys) (map gone ys) (λ j old. set_counted home gone now_gone ys j
                (subst (λ m. IsSet m j) all.1 (set_still ps i (home x) near refl j old)));
            told_once = inr record {
              outboxes = ys;
              all_shut = inl refl;
              one = omega (arith, total_set lasts s.views id v u at, lasts_after v i x (Some ys));
              has_it = (
                id,
                u,
                set_here s.views id u (read s.views id v at).0,
                (
                  length v.made,
                  made_of i x (Some ys),
                  at_last v.made (made_of i x (Some ys)) (length v.made) refl,
                  refl,
                ),
              );
            };
          },
          tells u (carried_after (rest c) t) (
            (λ ne. absurd (ne is)),
            λ _. (
              omega (arith, total_at lasts s.views id v at),
              (
                ys,
                omega (arith, ap length all.1, length-map ys (λ (y : T). home y), length-set ps i (home x)),
                (λ k has_key j y g. let key = (h.each_pass id v at).same_key part in let same : terms.key ≡ k = cc in
                    subst (λ (k : K). fits k j y) same ((sources j (home y) (at_map home ys j y g)).holding y refl).0),
                λ j. (
                  u,
                  (took.2 ∙ ap (λ d. indexed 0 (map Some ys) ++ rest d) has
                      ∙ append-nil (indexed 0 (map Some ys))) j,
                ),
              ),
            ),
          ),
        )

  pub counts : (slots id : ℕ) (me : M) (i : ℕ) (x : T) → i < slots → me.0.at ≡ Some i → 0 < me.0.parts
      → me.1 ≡ (i, Some x) ∷ [] → fits terms.key i x
      → Allows H slots id me 0 (λ n. (n + (2 ^ 64 - 1)) % 2 ^ 64) (tallied fits (step slots 0 1 0 none) me)
  counts slots id me i x near stands part has fit s h wide at small = let long : length s.homes ≡ length h.phases =
      ap length h.homes_are ∙ length-map h.phases place in
      dite (ℕ_discrete (get_or s.words 0 0) 1)
      (last s h id me.0 i x at stands part fit slots me.1 has (omega arith) (omega arith))
      (λ ne. not_last s h id me.0 i x at stands part fit slots me.1 has (omega arith) (omega arith) ne small)

  shut : (views : List (View T K)) (ps : List (Phase T)) (id : ℕ) (v : View T K) → get_elem? views id ≡ some v
      → lasts v ≡ 1 → (IsOpen views ps ⊎ IsShut views ps) → IsShut views ps
  shut views ps id v at one (inl o) = absurd (omega (arith, total_at lasts views id v at, o.nobody))
  shut views ps id v at one (inr o) = o

  pub gives_back : (slots id : ℕ) (me : M) → lasts me.0 ≡ 1 → me.1 ≡ indexed 0 (replicate slots None)
      → Allows H slots id me 0 (λ n. n) (hands_back (step slots 0 0 0 none) me)
  gives_back slots id me one has s h wide at small = let ps : List (Phase T) = h.phases in let o =
      shut s.views ps id me.0 at one h.told_once in let ys : List T = o.outboxes in let f = shut_as ps ys o.all_shut in
      let now_back : Counts {T = T} back = λ y. (refl, refl, refl, refl, refl) in let now =
      words_counted back now_back ys in let before = words_counted f.0 f.2 ys in
      let nothing : Option T = None in let g = giving s.homes [] s.homes nothing 0 refl refl in
      let c = has ∙ ap (λ n. indexed 0 (replicate n nothing)) (sym wide) in
      let give : Act (Option T) = give_all (length s.homes) in let words : List ℕ =
      set s.words 0 (get_or s.words 0 0) in let homes : List (maybe.Option (Option T)) =
      homes_after s.homes me.1 give in
      let same = sym (set_again s.views id me.0 at) in (
        me.0,
        give,
        subst (λ d. Valid s.homes d give) (sym c) g.0,
        subst (λ views. H record { words = words; homes = homes; views = views }) same record {
          phases = map back ys;
          words_are = set-get_or s.words 0 0 ∙ h.words_are ∙ ap (λ l. count l ∷ map flag l) f.1
              ∙ (λ j. (before.0 ∙ sym now.0) j ∷ (before.1 ∙ sym now.1) j);
          homes_are = ap (λ d. homes_after s.homes d give) c ∙ g.1
              ∙ ap (map (λ _. some nothing)) (h.homes_are ∙ ap (map place) f.1) ∙ (simp map-map);
          all_parts = h.all_parts;
          each_source = sources_counted (fits terms.key) s.views f.0 back f.2 now_back ys
              (subst (Each (AtSource (fits terms.key) s.views)) f.1 h.each_source);
          each_pass = λ j u e. let old = h.each_pass j u e in record {
            same_key = old.same_key;
            idle = old.idle;
            set_before = λ k i is. set_counted f.0 back now_back ys i
                (subst (λ l. IsSet l i) f.1 (old.set_before k i is));
          };
          told_once = inr record { outboxes = ys; all_shut = inr refl; one = o.one; has_it = o.has_it };
        },
        λ j. (me.0, (ap (λ d. carried_after d give) c ∙ g.2) j),
      )
