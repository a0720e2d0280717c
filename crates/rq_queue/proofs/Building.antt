-- The elements of a queue, out of a list: parted, and the map of the Free ones made at once.
use Rattle.std.proofs.Common.{◌≡◌, ◌≢◌, ℕ, ◌<◌, Bool, true, false, List, [], ◌∷◌, ◌++◌, refl, sym, ap, ◌∙◌}
use Rattle.std.proofs.Common.{subst, arith, cond, Some, None, map, length, ◌+◌, ◌-◌, ◌≤◌}
use Rattle.std.specs.Prelude.{slice_index_or}
use Rattle.std.specs.BTreeMap.{BTreeMap, IsFromIterResult}
use Rattle.std.specs.Cmp.{IsEquivalence, IsTotalOrder, nat_cmp_total, on_total, back_total}
use Rattle.std.specs.List.{AllByRecursion, IsDistinct}
use Rattle.std.specs.List.Sorted.{IsPermutation}
use Rattle.std.specs.Map.{keys_of, lookup, remove_entry, values_of}
use Rattle.std.specs.Ordering.{eq_by_cmp}
use Rattle.std.specs.declared.cmp.Reverse.{Reverse}
use Rattle.std.proofs.lemmas.Bool.{false_from_ne_true}
use Rattle.std.proofs.lemmas.Cmp.{eq_by_cmp_equiv, then_total}
use Rattle.std.proofs.lemmas.List.Elements.{All-from_recursion, recursion_from_All}
use Rattle.std.proofs.lemmas.List.Sorted.{All-permutation, IsPermutation-append_left, IsPermutation-cons}
use Rattle.std.proofs.lemmas.List.Sorted.{IsPermutation-map, IsPermutation-middle, IsPermutation-refl}
use Rattle.std.proofs.lemmas.List.Sorted.{IsPermutation-sym, IsPermutation-trans}
use Rattle.std.proofs.lemmas.Map.{lookup-remove_entry}
use Rattle.std.proofs.lemmas.Map.Entries.{lookup_head}
use Rattle.std.proofs.lemmas.Map.Keys.{IsDistinct-from_sorted, IsDistinct-tail}
use Rattle.std.proofs.lemmas.Map.Made.{update_all_none}
use Rattle.std.proofs.lemmas.Map.Views.{All-map-remove_entry}
use Rattle.rq_model.specs.States.{Element, is_free}
use Rattle.rq_model.specs.WellFormed.{Ordered}
use Rattle.rq_model.proofs.Apart.{Apart}
use Rattle.rq_model.proofs.Lists.{by_cases}
use Rattle.rq_queue.specs.Kept.{Entry, items_of, IsKeyed, Stowed}
use Rattle.rq_queue.specs.Sorted.{sorted}
use Rattle.rq_queue.proofs.Doing.{free_cmp}
use Rattle.rq_queue.proofs.ByNumber.{rising_apart, rising_is}
use Rattle.rq_queue.proofs.Known.{equal_rank}
use Rattle.rq_queue.proofs.Sorting.{apart_moved}
use Rattle.rq_queue.proofs.Units.{Lists, stowed_moved, value_is}

-- an element that goes from a list to that of its unit
pub marked_more : (items free rest : List Element) (old new : Lists) (e : Element) → Stowed e old new
    → IsPermutation free (e ∷ rest) → IsPermutation items (free ++ items_of old)
    → IsPermutation items (rest ++ items_of new)
marked_more items free rest old new e s taken h =
    IsPermutation-trans _ _ _ h
    (IsPermutation-trans _ _ _ (IsPermutation-append_left (items_of old) _ _ taken) (stowed_moved e rest old new s))

-- keys differ if ids do
free_total : IsTotalOrder free_cmp
free_total = then_total (on_total (λ (k : Reverse ℕ × ℕ). k.0.0) (back_total nat_cmp_total))
    (on_total (λ (k : Reverse ℕ × ℕ). k.1) nat_cmp_total)

unlike : (x y : Entry) → IsKeyed x → IsKeyed y → x.1.id ≢ y.1.id → eq_by_cmp free_cmp x.0 y.0 ≡ false
unlike x y j k n = false_from_ne_true _ (λ t. n (sym (ap (λ (q : Reverse ℕ × ℕ). q.1) j.0)
    ∙ (equal_rank x.0.0.0 x.0.1 y.0.0.0 y.0.1 t).1 ∙ ap (λ (q : Reverse ℕ × ℕ). q.1) k.0))

distinct_keys : (es : List Entry) → AllByRecursion IsKeyed es → Apart (values_of es)
    → IsDistinct (eq_by_cmp free_cmp) (keys_of es)
unfolding IsDistinct
distinct_keys [] keyed apart = tt
distinct_keys (x ∷ es) keyed apart = (others es keyed.1 apart.0, distinct_keys es keyed.1 apart.1)
  where
    others : (ys : List Entry) → AllByRecursion IsKeyed ys → AllByRecursion (λ y. x.1.id ≢ y.id) (values_of ys)
        → AllByRecursion (λ k. eq_by_cmp free_cmp x.0 k ≡ false) (keys_of ys)
    others [] k n = tt
    others (y ∷ ys) k n = (unlike x y keyed.0 k.0 n.0, others ys k.1 n.1)

abbrev is_same : Reverse ℕ × ℕ → Reverse ℕ × ℕ → Bool
is_same = eq_by_cmp free_cmp

same_laws : IsEquivalence is_same
same_laws = eq_by_cmp_equiv free_total

one_key : (x y : Reverse ℕ × ℕ) → is_same x y ≡ true → x ≡ y
one_key x y t = let parts = equal_rank x.0.0 x.1 y.0.0 y.1 t in λ i. (record { 0 = parts.0 i }, parts.1 i)

-- entries whose keys differ are those under the same keys, in some order
distinct_without : (t : Reverse ℕ × ℕ → Bool) (es : List Entry) → IsDistinct is_same (keys_of es)
    → IsDistinct is_same (keys_of (remove_entry t es))
unfolding IsDistinct
distinct_without t [] h = tt
distinct_without t (e ∷ es) h = by_cases (t e.0)
    (λ b. IsDistinct is_same (keys_of (cond b es (e ∷ remove_entry t es)))) (λ _. h.1)
    (λ _. (
      recursion_from_All _ _ (All-map-remove_entry t (λ (x : Entry). x.0) (λ k. is_same e.0 k ≡ false) es
          (All-from_recursion _ _ h.0)),
      distinct_without t es h.1,
    ))

pulled : (k : Reverse ℕ × ℕ) (v : Element) (es : List Entry) → lookup (is_same k) es ≡ Some v
    → IsPermutation es ((k, v) ∷ remove_entry (is_same k) es)
pulled k v [] h = absurd (cc)
pulled k v (e ∷ es) h =
    let more = remove_entry (is_same k) es in
    by_cases (is_same k e.0)
    (λ b. cond b (Some e.1) (lookup (is_same k) es) ≡ Some v
    → IsPermutation (e ∷ es) ((k, v) ∷ cond b es (e ∷ more)))
    (λ t f. subst (λ (x : Entry). IsPermutation (e ∷ es) (x ∷ es))
    (λ i. (sym (one_key k e.0 t) i, value_is e.1 v f i)) (IsPermutation-refl (e ∷ es)))
    (λ _ f. IsPermutation-trans _ _ _ (IsPermutation-cons e es ((k, v) ∷ more) (pulled k v es f))
    (IsPermutation-middle (e ∷ []) (k, v) more)) h

same_found : (es fs : List Entry) → IsDistinct is_same (keys_of es) → IsDistinct is_same (keys_of fs)
    → ((k : Reverse ℕ × ℕ) → lookup (is_same k) es ≡ lookup (is_same k) fs) → IsPermutation es fs
same_found [] [] c d h = IsPermutation-refl []
same_found [] (y ∷ ys) c d h =
    let f : None ≡ Some y.1 = h y.0 ∙ lookup_head (is_same y.0) y ys (same_laws.refl y.0) in absurd (cc)
same_found (x ∷ xs) fs c d h =
    let k = x.0 in
    let gone : remove_entry (is_same k) (x ∷ xs) ≡ xs =
    ap (λ b. cond b xs (x ∷ remove_entry (is_same k) xs)) (same_laws.refl k) in
    IsPermutation-trans _ _ _
    (IsPermutation-cons x xs (remove_entry (is_same k) fs)
    (same_found xs _ (IsDistinct-tail is_same k (keys_of xs) c) (distinct_without (is_same k) fs d)
    (λ q. ap (lookup (is_same q)) (sym gone)
    ∙ lookup-remove_entry same_laws (is_same k) (same_laws.congr k) q (x ∷ xs) c
    ∙ ap (cond (is_same k q) None) (h q)
    ∙ sym (lookup-remove_entry same_laws (is_same k) (same_laws.congr k) q fs d))))
    (IsPermutation-sym _ _ (pulled k x.1 fs (sym (h k) ∙ lookup_head (is_same k) x xs (same_laws.refl k))))

made_of : (es : List Entry) (m : BTreeMap (Reverse ℕ × ℕ) Element) → AllByRecursion IsKeyed es
    → Apart (values_of es) → IsFromIterResult free_cmp es m → IsPermutation es m.entries
made_of es m keyed apart made =
    let differ = distinct_keys es keyed apart in
    same_found es m.entries differ (IsDistinct-from_sorted free_cmp (keys_of m.entries) made.1)
    (λ k. sym (made.0 k ∙ update_all_none same_laws is_same (λ _ _. refl) es k differ))

-- elements by number, in the order of the containers
module _ (items : List Element) (rising : Ordered (λ (e f : Element). e.id < f.id) items) where
  pub parted_apart : (all : List Element) → IsPermutation items all → Apart all
  parted_apart all same = apart_moved items all same (rising_apart (λ (e : Element). e.id) items rising)

  pub parted_sorted : (all : List Element) → IsPermutation items all → sorted all ≡ items
  parted_sorted all same = rising_is (λ (e : Element). e.id) items all rising same

pub mapped_too : (items held list all : List Element) → IsPermutation items (list ++ held)
    → IsPermutation list all → IsPermutation items (all ++ held)
mapped_too items held list all same moved =
    IsPermutation-trans _ _ _ same (IsPermutation-append_left held list all moved)

-- Free elements from a place on

abbrev pub AreFreeFrom : ℕ → List Element → Type 0
AreFreeFrom at es = (k : ℕ) (e : Element) → at ≤ k → k < length es → is_free (slice_index_or es k e).mark ≡ true

pub all_free : (es : List Element) → AreFreeFrom 0 es → AllByRecursion (λ e. is_free e.mark ≡ true) es
all_free es h = recursion_from_All (λ (e : Element). is_free e.mark ≡ true) es (λ k d u. h k d (omega arith) u)

pub one_out : (at : ℕ) (es rest : List Element) → length rest + 1 ≡ length es
    → (((e : Element) → at + 1 < length es → slice_index_or rest at e ≡ slice_index_or es (length es - 1) e)
    × ((k : ℕ) (e : Element) → k ≢ at → k + 1 < length es → slice_index_or rest k e ≡ slice_index_or es k e))
    → AreFreeFrom (at + 1) es → AreFreeFrom at rest
one_out at es rest n by h k e l u = grind arith

-- each under its key
abbrev pub with_key : Element → Entry
with_key e = ((record { 0 = e.priority }, e.id), e)

pub with_keys : (es : List Element) → values_of (map with_key es) ≡ es
with_keys [] = refl
with_keys (e ∷ es) = ap (λ (xs : List Element). e ∷ xs) (with_keys es)

pub all_keyed : (es : List Element) → AllByRecursion (λ e. is_free e.mark ≡ true) es
    → AllByRecursion IsKeyed (map with_key es)
all_keyed [] h = tt
all_keyed (e ∷ es) h = ((refl, h.0), all_keyed es h.1)

pub made_keyed : (es : List Element) (m : BTreeMap (Reverse ℕ × ℕ) Element)
    → AllByRecursion (λ e. is_free e.mark ≡ true) es → Apart es → IsFromIterResult free_cmp (map with_key es) m
    → AllByRecursion IsKeyed m.entries × IsPermutation es (values_of m.entries)
made_keyed es m free apart made =
    let ps = map with_key es in
    let keyed = all_keyed es free in
    let same = made_of ps m keyed (subst Apart (sym (with_keys es)) apart) made in (
      recursion_from_All IsKeyed m.entries
          (All-permutation IsKeyed ps m.entries same (All-from_recursion IsKeyed ps keyed)),
      subst (λ (xs : List Element). IsPermutation xs (values_of m.entries)) (with_keys es)
          (IsPermutation-map (λ (e : Entry). e.1) ps m.entries same),
    )
