-- The table at the start, a view that is cut in two, and views that are made one.
use Rattle.std.proofs.Common.{◌≡◌, ◌⊎◌, ℕ, zero, suc, ◌+◌, ◌<◌, List, [], ◌∷◌, ◌++◌, map, set, replicate, sym, refl, ap}
use Rattle.std.proofs.Common.{◌∙◌, subst, ⊎_elim, inl, inr, arith, Option, Some, None, append_assoc, append-nil, flat_map}
use Rattle.std.proofs.lemmas.List.{get_or-replicate}
use Rattle.rq_pool.proofs.Countdowns.Words.{some, some-injective, some-ne-none, dite, ℕ_discrete, get_elem?, State}
use Rattle.rq_pool.proofs.Countdowns.Words.{opening, Splits, Joins, set_here, set_else, at_longer, Made, View, Terms}
use Rattle.rq_pool.proofs.Countdowns.Words.{total, Phase, clear, flag, is_shut, place, count, here, parts, stands_at}
use Rattle.rq_pool.proofs.Countdowns.Words.{names, made_for, times_told, lasts, view, HasMade, HasLast, SomeView}
use Rattle.rq_pool.proofs.Countdowns.Words.{AtSource, Knows, Held, left_of, right_of, both_of, spent_view}
use Rattle.rq_pool.proofs.Countdowns.Words.{length-replicate, all_made, all_refused, map_push, flat_map-append}
use Rattle.rq_pool.proofs.Totals.{read, total_set, total_append, Each, each_set, each_snoc}
use Rattle.rq_pool.proofs.Countdowns.Views.{some_set, knows_still, knows_spent, told_still}

module _ {A : Type 0} where
  pub at_later : (more xs : List A) (k : ℕ) (x : A) → get_elem? xs k ≡ some x
      → (j : ℕ) × (get_elem? (more ++ xs) j ≡ some x)
  at_later [] xs k x e = (k, e)
  at_later (y ∷ more) xs k x e = let q = at_later more xs k x e in (suc q.0, q.1)

  pub at_either : (xs ys : List A) (k : ℕ) (x : A) → get_elem? (xs ++ ys) k ≡ some x
      → ((j : ℕ) × (get_elem? xs j ≡ some x)) ⊎ ((j : ℕ) × (get_elem? ys j ≡ some x))
  at_either [] ys k x e = inr (k, e)
  at_either (y ∷ xs) ys zero x e = inl (0, e)
  at_either (y ∷ xs) ys (suc k) x e =
      ⊎_elim (λ (t : (j : ℕ) × (get_elem? xs j ≡ some x)). inl (suc t.0, t.1))
      (λ (t : (j : ℕ) × (get_elem? ys j ≡ some x)). inr t) (at_either xs ys k x e)

module _ (T : Type 0) where
  abbrev cleared : ℕ → List (Phase T)
  cleared n = replicate n clear

  all_clear : (n : ℕ) → (count (cleared n) ≡ n) × (replicate n 0 ≡ map flag (cleared n))
      × (map some (replicate {A = Option T} n None) ≡ map place (cleared n))
  all_clear zero = (refl, refl, refl)
  all_clear (suc n) = let q = all_clear n in
      (omega (arith, q.0), ap (λ l. 0 ∷ l) q.1, ap (λ l. some None ∷ l) q.2)

  clear_only : (n i : ℕ) (p : Phase T) → get_elem? (cleared n) i ≡ some p → clear ≡ p
  clear_only n i p e = let r = read (cleared n) i p e in
      sym (get_or-replicate n i clear p (omega (arith, r.0, length-replicate {A = Phase T} n clear))) ∙ r.1

-- a list that is longer at either end has what it had
abbrev Grows : {T : Type 0} → (List (Made T) → Type 0) → Type 0
Grows {T} P = (more ms : List (Made T)) → P ms → P (ms ++ more) × P (more ++ ms)

module _ {T K : Type 0} (fits : K → ℕ → T → Type 0) (terms : Terms K) where
  abbrev H : State (Option T) (View T K) → Type 0
  H = Held fits terms

  abbrev Views : Type 0
  Views = List (View T K)

  abbrev first : View T K
  first = view terms.passes (Some terms.key) None [] []

  pub starts : (n m : ℕ) (ws : List ℕ) → suc n ≡ m → 0 < n → 0 < terms.passes → ws ≡ set (replicate m 0) 0 n
      → H (opening ws (replicate n None) first)
  starts n m ws e some_source some_pass is = let q = all_clear T n in record {
    phases = replicate n clear;
    words_are = is ∙ ap (λ k. set (replicate k 0) 0 n) (sym e) ∙ (λ j. sym q.0 j ∷ q.1 j);
    homes_are = q.2;
    all_parts = omega arith;
    each_source = λ i p at. subst (AtSource (fits terms.key) (first ∷ []) i) (clear_only T n i p at)
        record { standing = refl; done = refl; holding = λ x none. absurd (some-ne-none x (sym none)) };
    each_pass = each_snoc (Knows terms.key (replicate n clear)) [] first record {
      same_key = λ _. refl;
      idle = λ z. absurd (omega arith);
      set_before = λ k i none. absurd (some-ne-none i (sym none));
    } (λ j v none. absurd (some-ne-none v (sym none)));
    told_once = inl record {
      waiting = omega (arith, q.0);
      nobody = refl;
      none_shut = λ i p at. ap is_shut (sym (clear_only T n i p at));
    };
  }

  -- other views with the same totals, which have no less
  reviewed : (s : State (Option T) (View T K)) (views' : Views) → H s → total parts views' ≡ total parts s.views
      → ((i : ℕ) → total (stands_at i) views' ≡ total (stands_at i) s.views)
      → ((i : ℕ) → total (made_for i) views' ≡ total (made_for i) s.views) → total lasts views' ≡ total lasts s.views
      → ((P : List (Made T) → Type 0) → Grows P → SomeView P s.views → SomeView P views')
      → ((ps : List (Phase T)) → Each (λ _. Knows terms.key ps) s.views → Each (λ _. Knows terms.key ps) views')
      → H record { words = s.words; homes = s.homes; views = views' }
  reviewed s views' h a b c d grow know = record {
    phases = h.phases;
    words_are = h.words_are;
    homes_are = h.homes_are;
    all_parts = a ∙ h.all_parts;
    each_source = λ i p at. let old = h.each_source i p at in record {
      standing = b i ∙ old.standing;
      done = c i ∙ old.done;
      holding = λ x is. let had = old.holding x is in (
        had.0,
        grow (HasMade i x) (λ more ms m. let q =
            at_later more ms m.0 m.1 m.2 in
            ((m.0, m.1, at_longer ms more m.0 m.1 m.2, m.3, m.4), (q.0, m.1, q.1, m.3, m.4))) had.1,
      );
    };
    each_pass = know h.phases h.each_pass;
    told_once = told_still s.views views' h.phases d (λ ys. grow (HasLast ys) (λ more ms m. let q =
        at_later more ms m.0 m.1 m.2 in ((m.0, m.1, at_longer ms more m.0 m.1 m.2, m.3), (q.0, m.1, q.1, m.3))))
        h.told_once;
  }

  pub splits : (id : ℕ) (v : View T K) → 1 < v.parts → Splits H id v (left_of v) (right_of v)
  splits id v some_parts s h at = let l : View T K = left_of v in let r : View T K = right_of v in let views' : Views =
      set s.views id l ++ r ∷ [] in
      let same : (f : View T K → ℕ) → f l + f r ≡ f v → total f views' ≡ total f s.views =
      λ f e. omega (arith, total_append f (set s.views id l) (r ∷ []), total_set f s.views id v l at) in
      reviewed s views' h (same parts (omega arith)) (λ i. same (stands_at i) (omega arith))
      (λ i. same (made_for i) (omega arith)) (same lasts (omega arith))
      (λ P _ had. let q = some_set P s.views id v l at (λ has. has) had in
      (q.0, q.1, at_longer (set s.views id l) (r ∷ []) q.0 q.1 q.2, q.3))
      (λ ps each. let old = each id v at in each_snoc (Knows terms.key ps) (set s.views id l) r
      (knows_still terms.key ps ps v r (omega arith) (omega arith) refl old (λ k i e. absurd (some-ne-none i (sym e))))
      (each_set (λ _. Knows terms.key ps) s.views id l
      (knows_still terms.key ps ps v l (omega arith) (omega arith) refl old old.set_before) (λ j u _. each j u)))

  pub joins : (id : ℕ) (v : View T K) (other : ℕ) (w : View T K) → 0 < v.parts → v.at ≡ None → w.at ≡ None
      → Joins H id v other w (both_of v w) spent_view
  joins id v other w part va wa s h at apart at' = let b : View T K = both_of v w in let u : View T K = spent_view in
      let views' : Views = set (set s.views id b) other u in
      let same : (f : View T K → ℕ) → f b + f u ≡ f v + f w → total f views' ≡ total f s.views =
      λ f e. omega (arith, total_set f s.views id v b at, total_set f (set s.views id b) other w u at') in
      let was : get_elem? s.views other ≡ some w = sym (set_else s.views id other b apart) ∙ at' in
      let at_b : get_elem? views' id ≡ some b = set_else (set s.views id b) other id u (λ z. apart (sym z))
      ∙ set_here s.views id b (read s.views id v at).0 in
      reviewed s views' h (same parts (omega arith))
      (λ i. same (stands_at i) (omega (arith, ap (here i) va, ap (here i) wa)))
      (λ i. same (made_for i) (omega (arith, total_append (names i) w.made v.made)))
      (same lasts (omega (arith, total_append times_told w.made v.made)))
      (λ P grows had. dite (ℕ_discrete had.0 id)
      (λ same. let is : had.1 ≡ v = some-injective had.1 v (sym had.2 ∙ ap (get_elem? s.views) same ∙ at) in
      (id, b, at_b, (grows w.made v.made (subst (λ (z : View T K). P z.made) is had.3)).1))
      (λ not_id. dite (ℕ_discrete had.0 other)
      (λ same. let is : had.1 ≡ w = some-injective had.1 w (sym had.2 ∙ ap (get_elem? s.views) same ∙ was) in
      (id, b, at_b, (grows v.made w.made (subst (λ (z : View T K). P z.made) is had.3)).0))
      (λ not_other. (
        had.0,
        had.1,
        set_else (set s.views id b) other had.0 u not_other
            ∙ set_else s.views id had.0 b not_id ∙ had.2,
        had.3,
      ))))
      (λ ps each. each_set (λ _. Knows terms.key ps) (set s.views id b) other u (knows_spent terms.key ps)
      (λ j y _. each_set (λ _. Knows terms.key ps) s.views id b
      (knows_still terms.key ps ps v b part (omega arith) refl (each id v at)
      (λ k i g. ⊎_elim (λ (n : (l : ℕ) × (get_elem? w.refused l ≡ some i)). (each other w was).set_before n.0 i n.1)
      (λ (n : (l : ℕ) × (get_elem? v.refused l ≡ some i)). (each id v at).set_before n.0 i n.1)
      (at_either w.refused v.refused k i g))) (λ k z _. each k z) j y))

module _ {A T K : Type 0} (g : A → View T K) where
  further : {B : Type 0} (f : View T K → List B) (ys xs : List A) (x : A) (a b all : List B) → ys ≡ xs ++ x ∷ []
      → b ≡ f (g x) ++ a → flat_map f (map g ys) ++ a ≡ all → flat_map f (map g xs) ++ b ≡ all
  further f ys xs x a b all e is h = ap (λ l. flat_map f (map g xs) ++ l) is
      ∙ sym (append_assoc (flat_map f (map g xs)) (f (g x)) a)
      ∙ ap (λ l. (flat_map f (map g xs) ++ l) ++ a) (sym (append-nil (f (g x))))
      ∙ ap (λ l. l ++ a) (sym (ap (λ l. flat_map f (map g l)) e ∙ ap (flat_map f) (map_push g xs x)
      ∙ flat_map-append f (map g xs) (g x ∷ []))) ∙ h

  -- v has what the others made; v and what is left of the passes make up all passes
  abbrev pub Holds : List A → View T K → List A → Type 0
  Holds xs v all = (total parts (map g xs) + v.parts ≡ total parts (map g all))
      × (all_made (map g xs) ++ v.made ≡ all_made (map g all))
      × (all_refused (map g xs) ++ v.refused ≡ all_refused (map g all))

  pub goes_on : (all ys xs : List A) (x : A) (v w : View T K) → ys ≡ xs ++ x ∷ [] → w.parts ≡ v.parts + (g x).parts
      → w.made ≡ (g x).made ++ v.made → w.refused ≡ (g x).refused ++ v.refused → Holds ys v all → Holds xs w all
  goes_on all ys xs x v w e p m r h = (
    (let a = ap (λ l. total parts (map g l)) e ∙ ap (total parts) (map_push g xs x)
        ∙ total_append parts (map g xs) (g x ∷ []) in let d = h.0 in omega arith),
    further (λ u. u.made) ys xs x v.made w.made (all_made (map g all)) e m h.1,
    further (λ u. u.refused) ys xs x v.refused w.refused (all_refused (map g all)) e r h.2,
  )

  pub begins : (all xs : List A) (x : A) (v : View T K) → all ≡ xs ++ x ∷ [] → v ≡ g x → Holds xs v all
  begins all xs x v e is = subst (λ (w : View T K). Holds xs w all) (sym is)
      (goes_on all all xs x spent_view (g x) e (omega arith) (sym (append-nil (g x).made))
      (sym (append-nil (g x).refused))
      (omega arith, append-nil (all_made (map g all)), append-nil (all_refused (map g all))))
