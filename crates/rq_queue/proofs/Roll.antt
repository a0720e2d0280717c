-- Entries of a map, in the order of their keys.
use Rattle.std.proofs.Common.{◌≡◌, Bool, true, false, cond, not, ◌||◌, List, [], ◌∷◌, ◌++◌, Some, None, is_some, map}
use Rattle.std.proofs.Common.{refl, sym, ap, ◌∙◌}
use Rattle.std.specs.List.{filter, list_any, AllByRecursion}
use Rattle.std.specs.List.Sorted.{IsStrictlySortedBy}
use Rattle.std.specs.Map.{keys_of, lookup, remove_entry, set_value}
use Rattle.std.specs.BTreeMap.{insert_entry, is_at}
use Rattle.std.specs.Ordering.{match_ordering, is_eq, is_lt, ordering_reverse}
use Rattle.std.specs.Cmp.{IsTotalOrder}
use Rattle.std.specs.declared.cmp.Ordering.{Ordering}
use Rattle.std.specs.declared.cmp.Ordering.TheVariants.{Less, Equal, Greater}
use Rattle.std.proofs.lemmas.Bool.{true≢false}
use Rattle.rq_model.specs.States.{put}
use Rattle.rq_model.specs.WellFormed.{Ordered}
use Rattle.rq_state.proofs.Neighbours.{ordered_unmap}
use Rattle.rq_queue.proofs.Units.{value_is}
use Rattle.rq_model.proofs.Lists.{by_cases, each_weaker, each_map, filter_all, filter_none, map_all}

pub turned : {K : Type 0} (R : K → K → Ordering) → IsTotalOrder R → (a b : K) (o : Ordering) → R a b ≡ o
    → R b a ≡ ordering_reverse o
turned R total a b o h = total.antisymm b a ∙ ap ordering_reverse h

module _ {K V : Type 0} (R : K → K → Ordering) (total : IsTotalOrder R) where
  abbrev pub Up : List (K × V) → Type 0
  Up es = Ordered (λ (a b : K × V). R a.0 b.0 ≡ Less) es

  -- what comes before the first entry, or ties with it, comes before those behind it
  behind_less : (k : K) (x : K × V) (es : List (K × V)) → R k x.0 ≡ Less
      → AllByRecursion (λ (e : K × V). R x.0 e.0 ≡ Less) es → AllByRecursion (λ (e : K × V). R k e.0 ≡ Less) es
  behind_less k x es l h = each_weaker (λ (e : K × V). R x.0 e.0 ≡ Less) (λ (e : K × V). R k e.0 ≡ Less)
      (λ e m. total.trans k x.0 e.0 l m) es h

  behind_equal : (k : K) (x : K × V) (es : List (K × V)) → R k x.0 ≡ Equal
      → AllByRecursion (λ (e : K × V). R x.0 e.0 ≡ Less) es → AllByRecursion (λ (e : K × V). R k e.0 ≡ Less) es
  behind_equal k x es l h = each_weaker (λ (e : K × V). R x.0 e.0 ≡ Less) (λ (e : K × V). R k e.0 ≡ Less)
      (λ e m. total.congr k x.0 e.0 l ∙ m) es h

  none_less : (k : K) (es : List (K × V)) → AllByRecursion (λ (e : K × V). R k e.0 ≡ Less) es
      → AllByRecursion (λ (e : K × V). is_eq (R k e.0) ≡ false) es
  none_less k es h = each_weaker (λ (e : K × V). R k e.0 ≡ Less) (λ (e : K × V). is_eq (R k e.0) ≡ false)
      (λ e l. ap is_eq l) es h

  not_found : (k : K) (es : List (K × V)) → AllByRecursion (λ (e : K × V). is_eq (R k e.0) ≡ false) es
      → lookup (is_at (R k)) es ≡ None
  not_found k [] h = refl
  not_found k (x ∷ es) h = ap (λ b. cond b (Some x.1) (lookup (is_at (R k)) es)) h.0 ∙ not_found k es h.1

  pub none_at : (k : K) (es : List (K × V)) → lookup (is_at (R k)) es ≡ None
      → AllByRecursion (λ (e : K × V). is_eq (R k e.0) ≡ false) es
  none_at k [] h = tt
  none_at k (x ∷ es) h = by_cases (is_eq (R k x.0))
      (λ b. cond b (Some x.1) (lookup (is_at (R k)) es) ≡ None
      → AllByRecursion (λ (e : K × V). is_eq (R k e.0) ≡ false) (x ∷ es))
      (λ _ n. absurd (cc)) (λ t n. (t, none_at k es n)) h

  pub any_at : (k : K) (es : List (K × V)) → list_any (λ (e : K × V). is_eq (R k e.0)) es
      ≡ is_some (lookup (is_at (R k)) es)
  any_at k [] = refl
  any_at k (x ∷ es) = by_cases (is_eq (R k x.0))
      (λ b. (b || list_any (λ (e : K × V). is_eq (R k e.0)) es) ≡ is_some (cond b (Some x.1) (lookup (is_at (R k)) es)))
      (λ _. refl) (λ _. any_at k es)

  -- the keys of a map ascend
  pub up_of : (es : List (K × V)) → IsStrictlySortedBy R (keys_of es) → Up es
  unfolding IsStrictlySortedBy
  up_of es h = ordered_unmap (λ a b. R a b ≡ Less) (λ (e : K × V). e.0) es (ascend (keys_of es) h)
    where
      ascend : (ks : List K) → IsStrictlySortedBy R ks → Ordered (λ a b. R a b ≡ Less) ks
      ascend [] h = tt
      ascend (k ∷ ks) h = (h.0, ascend ks h.1)

  pub removed : (k : K) (es : List (K × V)) → Up es
      → remove_entry (is_at (R k)) es ≡ filter (λ (e : K × V). not (is_eq (R k e.0))) es
  removed k [] h = refl
  removed k (x ∷ es) h = at (removed k es h.1) (R k x.0) refl
    where
      at : remove_entry (is_at (R k)) es ≡ filter (λ (e : K × V). not (is_eq (R k e.0))) es → (o : Ordering)
          → R k x.0 ≡ o → cond (is_eq o) es (x ∷ remove_entry (is_at (R k)) es)
          ≡ cond (not (is_eq o)) (x ∷ filter (λ (e : K × V). not (is_eq (R k e.0))) es)
          (filter (λ (e : K × V). not (is_eq (R k e.0))) es)
      at later Less e = ap (λ (xs : List (K × V)). x ∷ xs) later
      at later Equal e =
          sym (filter_all (λ (e : K × V). not (is_eq (R k e.0))) es
          (each_weaker (λ (e : K × V). is_eq (R k e.0) ≡ false) (λ (e : K × V). not (is_eq (R k e.0)) ≡ true)
          (λ e n. ap not n) es (none_less k es (behind_equal k x es e h.0))))
      at later Greater e = ap (λ (xs : List (K × V)). x ∷ xs) later

  pub updated : (g : V → V) (k : K) (w : V) (es : List (K × V)) → Up es → lookup (is_at (R k)) es ≡ Some w
      → set_value (is_at (R k)) es (g w) ≡ map (λ (e : K × V). cond (is_eq (R k e.0)) (e.0, g e.1) e) es
  updated g k w [] h l = absurd (cc)
  updated g k w (x ∷ es) h l = at (updated g k w es h.1) (R k x.0) refl l
    where
      at : (lookup (is_at (R k)) es ≡ Some w → set_value (is_at (R k)) es (g w)
          ≡ map (λ (e : K × V). cond (is_eq (R k e.0)) (e.0, g e.1) e) es) → (o : Ordering) → R k x.0 ≡ o
          → cond (is_eq o) (Some x.1) (lookup (is_at (R k)) es) ≡ Some w
          → cond (is_eq o) ((x.0, g w) ∷ es) (x ∷ set_value (is_at (R k)) es (g w))
          ≡ cond (is_eq o) (x.0, g x.1) x ∷ map (λ (e : K × V). cond (is_eq (R k e.0)) (e.0, g e.1) e) es
      at later Less e f = ap (λ (xs : List (K × V)). x ∷ xs) (later f)
      at later Equal e f = λ i. (x.0, g (sym (value_is x.1 w f) i))
          ∷ sym (map_all (λ (e : K × V). cond (is_eq (R k e.0)) (e.0, g e.1) e) es
          (each_weaker (λ (e : K × V). is_eq (R k e.0) ≡ false)
          (λ (e : K × V). cond (is_eq (R k e.0)) (e.0, g e.1) e ≡ e) (λ e n. ap (λ b. cond b (e.0, g e.1) e) n) es
          (none_less k es (behind_equal k x es e h.0)))) i
      at later Greater e f = ap (λ (xs : List (K × V)). x ∷ xs) (later f)

  pub appended : (k : K) (v : V) (es : List (K × V)) → AllByRecursion (λ (e : K × V). R e.0 k ≡ Less) es
      → insert_entry R es k v ≡ es ++ (k, v) ∷ []
  appended k v [] h = refl
  appended k v (x ∷ es) h = ap (λ o. match_ordering o ((k, v) ∷ x ∷ es) ((x.0, v) ∷ es) (x ∷ insert_entry R es k v))
      (turned R total x.0 k Less h.0) ∙ ap (λ (xs : List (K × V)). x ∷ xs) (appended k v es h.1)

  -- a new key, if the entries are seen as f sees them
  module _ {X : Type 0} (before : X → X → Bool) (f : K × V → X)
      (same : (a b : K × V) → is_lt (R a.0 b.0) ≡ before (f a) (f b)) where
    pub inserted : (k : K) (v : V) (es : List (K × V)) → Up es
        → AllByRecursion (λ (e : K × V). is_eq (R k e.0) ≡ false) es
        → map f (insert_entry R es k v) ≡ put before (f (k, v)) (map f es)
    inserted k v [] h n = refl
    inserted k v (x ∷ es) h n = at (inserted k v es h.1 n.1) (R k x.0) refl
      where
        at : map f (insert_entry R es k v) ≡ put before (f (k, v)) (map f es) → (o : Ordering) → R k x.0 ≡ o
            → map f (match_ordering o ((k, v) ∷ x ∷ es) ((x.0, v) ∷ es) (x ∷ insert_entry R es k v))
            ≡ put before (f (k, v)) (map f (x ∷ es))
        at later Less e =
            let less : AllByRecursion (λ (e : K × V). R k e.0 ≡ Less) (x ∷ es) = (e, behind_less k x es e h.0) in
            let none : AllByRecursion (λ y. before y (f (k, v)) ≡ false) (map f (x ∷ es)) =
            each_map (λ (e : K × V). R k e.0 ≡ Less) (λ y. before y (f (k, v)) ≡ false) f
            (λ e l. sym (same e (k, v)) ∙ ap is_lt (turned R total k e.0 Less l)) (x ∷ es) less in
            λ i. sym (filter_none (λ y. before y (f (k, v))) (map f (x ∷ es)) none) i
            ++ f (k, v) ∷ sym (filter_all (λ y. not (before y (f (k, v)))) (map f (x ∷ es))
            (each_weaker (λ y. before y (f (k, v)) ≡ false) (λ y. not (before y (f (k, v))) ≡ true)
            (λ y m. ap not m) (map f (x ∷ es)) none)) i
        at later Equal e = absurd (true≢false (sym (ap is_eq e) ∙ n.0))
        at later Greater e =
            let first : before (f x) (f (k, v)) ≡ true =
            sym (same x (k, v)) ∙ ap is_lt (turned R total k x.0 Greater e) in
            let front = filter (λ y. before y (f (k, v))) (map f es) in
            let back = filter (λ y. not (before y (f (k, v)))) (map f es) in
            ap (λ (ys : List X). f x ∷ ys) later
            ∙ ap (λ b. cond b (f x ∷ front) front ++ f (k, v) ∷ cond (not b) (f x ∷ back) back) (sym first)
