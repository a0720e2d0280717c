-- What a step of one pass does to the facts about all passes, and what the phases of counted sources have in common.
use Rattle.std.proofs.Common.{◌≡◌, ◌⊎◌, ℕ, ◌+◌, ◌<◌, List, [], ◌∷◌, map, length, set, sym, refl, ap, ◌∙◌, subst, ⊎_elim}
use Rattle.std.proofs.Common.{inl, inr, arith, Option, Some}
use Rattle.rq_pool.proofs.Countdowns.Words.{some, some-injective, some-ne-none, dite, ℕ_discrete, get_elem?, at_map}
use Rattle.rq_pool.proofs.Countdowns.Words.{set_here, set_else, Made, View, total, Phase, back, gone, flag, waits}
use Rattle.rq_pool.proofs.Countdowns.Words.{count, is_away, is_done, is_shut, outbox_of, stands_at, made_for}
use Rattle.rq_pool.proofs.Countdowns.Words.{times_told, lasts, count_told, after, made_of, spent_view, HasMade, HasLast}
use Rattle.rq_pool.proofs.Countdowns.Words.{SomeView, AtSource, IsSet, Knows, IsOpen, IsShut}
use Rattle.rq_pool.proofs.Totals.{read, from_map, total_set, total_append, Each, each_set}

-- what one slot is known to hold in two ways
pub one_slot : {T : Type 0} (i j : ℕ) (x y : T) (r s : List (ℕ × Option T)) → (i, Some x) ∷ r ≡ (j, Some y) ∷ s
    → (i ≡ j) × (x ≡ y)
one_slot {T} i j x y r s e = let both : ◌≡◌ {A = ℕ × Option T} (i, Some x) (j, Some y) = cc in
    let same : Some x ≡ Some y = ap (λ (z : ℕ × Option T). z.1) both in (ap (λ (z : ℕ × Option T). z.0) both, cc)

module _ {T : Type 0} where
  pub set_still : (ps : List (Phase T)) (i : ℕ) (q : Phase T) → i < length ps → flag q ≡ 1 → (j : ℕ) → IsSet ps j
      → IsSet (set ps i q) j
  set_still ps i q near is j old =
      dite (ℕ_discrete j i) (λ (same : j ≡ i). subst (IsSet (set ps i q)) (sym same) (q, set_here ps i q near, is))
      (λ other. (old.0, set_else ps i j q other ∙ old.1, old.2))

  -- the source was counted, with the outbox y
  abbrev pub Counted : Phase T → T → Type 0
  Counted p y = (flag p ≡ 1) × (waits p ≡ 0) × (is_away p ≡ 0) × (is_done p ≡ 1) × (outbox_of p ≡ some y)

  abbrev pub Counts : (T → Phase T) → Type 0
  Counts f = (y : T) → Counted (f y) y

  pub words_counted : (f : T → Phase T) → Counts f → (ys : List T)
      → (count (map f ys) ≡ 0) × (map flag (map f ys) ≡ map (λ _. 1) ys)
  words_counted f all [] = (refl, refl)
  words_counted f all (y ∷ ys) = let q = words_counted f all ys in let w = all y in
      (omega (arith, q.0, w.1), λ j. w.0 j ∷ q.1 j)

  pub set_counted : (f g : T → Phase T) → Counts g → (ys : List T) (j : ℕ) → IsSet (map f ys) j → IsSet (map g ys) j
  set_counted f g all ys j old = let y = from_map f ys j old.0 old.1 in (g y.0, at_map g ys j y.0 y.1, (all y.0).0)

  pub shut_as : (ps : List (Phase T)) (ys : List T) → ((ps ≡ map gone ys) ⊎ (ps ≡ map back ys))
      → (f : T → Phase T) × (ps ≡ map f ys) × Counts f × ((y : T) → is_shut (f y) ≡ 1)
  shut_as ps ys (inl e) = (gone, e, (λ y. (refl, refl, refl, refl, refl)), λ y. refl)
  shut_as ps ys (inr e) = (back, e, (λ y. (refl, refl, refl, refl, refl)), λ y. refl)

module _ {T K : Type 0} where
  pub some_set : (P : List (Made T) → Type 0) (views : List (View T K)) (id : ℕ) (v w : View T K)
      → get_elem? views id ≡ some v → (P v.made → P w.made) → SomeView P views → SomeView P (set views id w)
  some_set P views id v w at grows (j, u, e, has) = dite (ℕ_discrete j id)
      (λ same. let is : u ≡ v = some-injective u v (sym e ∙ ap (get_elem? views) same ∙ at) in
      (id, w, set_here views id w (read views id v at).0, grows (subst (λ (y : View T K). P y.made) is has)))
      (λ other. (j, u, set_else views id j w other ∙ e, has))

  -- a total that the step does not change
  pub same_total : (f : View T K → ℕ) (views : List (View T K)) (id : ℕ) (v w : View T K) → get_elem? views id ≡ some v
      → f w ≡ f v → total f (set views id w) ≡ total f views
  same_total f views id v w at e = omega (arith, total_set f views id v w at)

  module _ (fit : ℕ → T → Type 0) (views : List (View T K)) where
    -- a source, once w stands in place of v, and the phase q in place of p
    pub source_set : (id : ℕ) (v w : View T K) (i : ℕ) (p q : Phase T) → get_elem? views id ≡ some v
        → stands_at i w + is_away p ≡ stands_at i v + is_away q → made_for i w + is_done p ≡ made_for i v + is_done q
        → ((x : T) → HasMade i x v.made → HasMade i x w.made)
        → ((x : T) → outbox_of q ≡ some x → (outbox_of p ≡ some x) ⊎ (fit i x × HasMade i x w.made))
        → AtSource fit views i p → AtSource fit (set views id w) i q
    source_set id v w i p q at a b grows new h = record {
      standing = (let s = h.standing in omega (arith, total_set (stands_at i) views id v w at));
      done = (let d = h.done in omega (arith, total_set (made_for i) views id v w at));
      holding = λ x e. ⊎_elim (λ old. let had = h.holding x old in
          (had.0, some_set (HasMade i x) views id v w at (grows x) had.1))
          (λ mine. (mine.0, (id, w, set_here views id w (read views id v at).0, mine.1))) (new x e);
    }

    -- the sources of counted outboxes are the same in phases of another kind
    pub sources_counted : (f g : T → Phase T) → Counts f → Counts g → (ys : List T)
        → Each (AtSource fit views) (map f ys) → Each (AtSource fit views) (map g ys)
    sources_counted f g cf cg ys each i p e = let y = from_map g ys i p e in let a = cf y.0 in let b = cg y.0 in
        let old = each i (f y.0) (at_map f ys i y.0 y.1) in subst (AtSource fit views i) y.2 record {
          standing = old.standing ∙ a.2 ∙ sym b.2;
          done = old.done ∙ a.3 ∙ sym b.3;
          holding = λ x is. old.holding x (a.4 ∙ sym b.4 ∙ is);
        }

  module _ (key : K) (ps ps' : List (Phase T)) where
    pub knows_still : (v w : View T K) → 0 < v.parts → 0 < w.parts → w.key ≡ v.key → Knows key ps v
        → ((k i : ℕ) → get_elem? w.refused k ≡ some i → IsSet ps' i) → Knows key ps' w
    knows_still v w some_part part same old before =
        record { same_key = λ _. same ∙ old.same_key some_part; idle = λ z. absurd (omega arith); set_before = before }

    pub passes_set : (views : List (View T K)) (id : ℕ) (w : View T K) → ((j : ℕ) → IsSet ps j → IsSet ps' j)
        → Knows key ps' w → Each (λ _. Knows key ps) views → Each (λ _. Knows key ps') (set views id w)
    passes_set views id w still mine each = each_set (λ _. Knows key ps') views id w mine (λ j u _ e. let old =
        each j u e in
        record { same_key = old.same_key; idle = old.idle; set_before = λ k i at. still i (old.set_before k i at) })

  pub knows_spent : (key : K) (ps : List (Phase T)) → Knows key ps spent_view
  knows_spent key ps = record {
    same_key = λ z. absurd (omega arith);
    idle = λ _. (refl, refl, refl);
    set_before = λ k i e. absurd (some-ne-none i (sym e));
  }

  -- a step that nobody is told Last at
  pub told_still : (views views' : List (View T K)) (ps : List (Phase T)) → total lasts views' ≡ total lasts views
      → ((ys : List T) → SomeView (HasLast ys) views → SomeView (HasLast ys) views')
      → (IsOpen views ps ⊎ IsShut views ps) → (IsOpen views' ps ⊎ IsShut views' ps)
  told_still views views' ps same grows (inl o) =
      inl record { waiting = o.waiting; nobody = same ∙ o.nobody; none_shut = o.none_shut }
  told_still views views' ps same grows (inr o) = inr record {
    outboxes = o.outboxes;
    all_shut = o.all_shut;
    one = same ∙ o.one;
    has_it = grows o.outboxes o.has_it;
  }

  -- an arrival that was told Last is one more
  pub lasts_after : (v : View T K) (i : ℕ) (x : T) (ys : Option (List T))
      → lasts (after v i x ys) ≡ lasts v + count_told ys
  lasts_after v i x ys = omega (arith, total_append times_told v.made (made_of i x ys ∷ []))
