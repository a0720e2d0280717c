-- What the end of a unit does to the elements by id.
use Rattle.std.proofs.Common.{◌≡◌, ◌≢◌, ℕ, ◌+◌, ◌<◌, ◌==◌, Bool, true, false, cond, ◌&&◌, not, List, [], ◌∷◌, ◌++◌}
use Rattle.std.proofs.Common.{Some, None, map, refl, sym, ap, ◌∙◌, subst, arith, append_assoc}
use Rattle.std.specs.List.{AllByRecursion, filter}
use Rattle.std.specs.Map.{values_of, lookup}
use Rattle.std.specs.BTreeMap.{is_at}
use Rattle.std.specs.Ordering.{nat_cmp, is_eq}
use Rattle.std.proofs.lemmas.Bool.Decides.{nat_tests}
use Rattle.std.proofs.lemmas.List.{map-append, append-nil}
use Rattle.std.proofs.lemmas.List.Elements.{filter-append}
use Rattle.rq_model.specs.States.{Mark, Element, Definition, Free, Fresh, Held, is_free, is_fresh, is_held}
use Rattle.rq_model.specs.Queues.{is_marked}
use Rattle.rq_model.specs.Machine.{marked, committed_elements, leaves, returned}
use Rattle.rq_model.proofs.Lists.{by_cases, each_weaker, each_append, filter_all, filter_none, map_all}
use Rattle.rq_model.proofs.Steps.{returned_id, returned_same}
use Rattle.rq_model.specs.WellFormed.{Ordered}
use Rattle.rq_model.proofs.Merged.{ordered_filter, ordered_map}
use Rattle.rq_model.proofs.Apart.{Apart}
use Rattle.rq_queue.specs.Sorted.{sorted}
use Rattle.rq_queue.specs.Kept.{Entry, items_of, IsKeyed, IsOfUnit, Among, Frees, unheld, staying}
use Rattle.rq_queue.proofs.ByNumber.{each_front, each_back}
use Rattle.rq_queue.proofs.Sorting.{apart_front, rising_sorted, sorted_swapped, apart_swapped}
use Rattle.rq_queue.proofs.Sorting.{filter_sorted, map_sorted}
use Rattle.rq_queue.proofs.Units.{Lists}

abbrev IsOther : ℕ → Element → Type 0
IsOther unit e = (is_held unit e.mark ≡ false) × (is_fresh unit e.mark ≡ false)

free_other : (unit : ℕ) (m : Mark) → is_free m ≡ true → (is_held unit m ≡ false) × (is_fresh unit m ≡ false)
free_other unit Free h = (refl, refl)
free_other unit (Fresh v) h = absurd (cc)
free_other unit (Held v) h = absurd (cc)

marked_other : (unit n : ℕ) (m : Mark) → is_eq (nat_cmp unit n) ≡ false → is_marked n m ≡ true
    → (is_held unit m ≡ false) × (is_fresh unit m ≡ false)
marked_other unit n Free d h = (refl, refl)
marked_other unit n (Fresh v) d h = (refl, grind (arith, nat_tests))
marked_other unit n (Held v) d h = (grind (arith, nat_tests), refl)

fresh_else : (unit : ℕ) (m : Mark) → is_marked unit m ≡ true → is_held unit m ≡ false → is_fresh unit m ≡ true
fresh_else unit Free h k = absurd (cc)
fresh_else unit (Fresh v) h k = h
fresh_else unit (Held v) h k = absurd (cc)

free_ones : (unit : ℕ) (es : List Entry) → AllByRecursion IsKeyed es → AllByRecursion (IsOther unit) (values_of es)
free_ones unit [] h = tt
free_ones unit (x ∷ es) h = (free_other unit x.1.mark h.0.1, free_ones unit es h.1)

other_ones : (unit : ℕ) (es : Lists) → lookup (is_at (nat_cmp unit)) es ≡ None → AllByRecursion IsOfUnit es
    → AllByRecursion (IsOther unit) (items_of es)
other_ones unit [] h a = tt
other_ones unit (x ∷ es) h a = by_cases (is_eq (nat_cmp unit x.0))
    (λ b. is_eq (nat_cmp unit x.0) ≡ b → cond b (Some x.1) (lookup (is_at (nat_cmp unit)) es) ≡ None
    → AllByRecursion (IsOther unit) (x.1.items ++ items_of es))
    (λ _ t n. absurd (cc))
    (λ _ t n. each_append (IsOther unit) x.1.items (items_of es)
    (each_weaker (λ e. is_marked x.0 e.mark ≡ true) (IsOther unit)
    (λ e m. marked_other unit x.0 e.mark t m) x.1.items a.0) (other_ones unit es n a.1)) refl h

abbrev freshen : ℕ → Element → Element
freshen unit e = cond (is_fresh unit e.mark) (marked Free e) e

unheld_is : (unit : ℕ) (xs : List Element) → AllByRecursion (λ e. is_marked unit e.mark ≡ true) xs
    → map (freshen unit) (filter (λ e. not (is_held unit e.mark)) xs) ≡ unheld unit xs
unheld_is unit [] h = refl
unheld_is unit (x ∷ xs) h = by_cases (is_held unit x.mark)
    (λ b. is_held unit x.mark ≡ b → map (freshen unit)
    (cond (not b) (x ∷ filter (λ e. not (is_held unit e.mark)) xs) (filter (λ e. not (is_held unit e.mark)) xs))
    ≡ map (marked Free)
    (cond (not b) (x ∷ filter (λ e. not (is_held unit e.mark)) xs) (filter (λ e. not (is_held unit e.mark)) xs)))
    (λ _ t. unheld_is unit xs h.1)
    (λ _ t i. cond (fresh_else unit x.mark h.0 t i) (marked Free x) x ∷ unheld_is unit xs h.1 i) refl

same_id : (unit : ℕ) (e : Element) → (freshen unit e).id ≡ e.id
same_id unit e = by_cases (is_fresh unit e.mark) (λ b. (cond b (marked Free e) e).id ≡ e.id) (λ _. refl) (λ _. refl)

leaves_not : (home : Definition) (unit : ℕ) (e : Element) → is_held unit e.mark ≡ false → leaves home unit e ≡ false
leaves_not home unit e h = ap (λ b. b && (not (home.limit == 0) && (e.attempts + 1 == home.limit))) h

-- the list of a unit is taken out, and its elements that pass p come back as f makes them
module _ (free : List Entry) (old others : Lists) (list : List Element)
    (out : Among list (items_of old) (items_of others)) (apart : Apart (values_of free ++ items_of old)) where
  abbrev remaining : List Element
  remaining = values_of free ++ items_of others

  split : values_of free ++ items_of old ≡ (values_of free ++ out.front) ++ (list ++ out.back)
  split = ap (λ (x : List Element). values_of free ++ x) out.whole_is
      ∙ sym (append_assoc (values_of free) out.front (list ++ out.back))

  joined : list ++ ((values_of free ++ out.front) ++ out.back) ≡ list ++ remaining
  joined = ap (λ (x : List Element). list ++ x)
      (append_assoc (values_of free) out.front out.back
      ∙ ap (λ (x : List Element). values_of free ++ x) (sym out.others_are))

  apart_list : Apart (list ++ remaining)
  apart_list = subst Apart joined (apart_swapped (values_of free ++ out.front) list out.back (subst Apart split apart))

  whole : sorted (values_of free ++ items_of old) ≡ sorted (list ++ remaining)
  whole = ap sorted split
      ∙ (sorted_swapped (values_of free ++ out.front) list out.back (subst Apart split apart) ∙ ap sorted joined)

  pub each_listed : (P : Element → Type 0) → AllByRecursion P (values_of free ++ items_of old) → AllByRecursion P list
  each_listed P h = each_front P list out.back
      (each_back P (values_of free ++ out.front) (list ++ out.back) (subst (AllByRecursion P) split h))

  -- those of the list that pass q, by id
  pub chosen : (q : Element → Bool) → AllByRecursion (λ e. q e ≡ false) remaining
      → filter q (sorted (values_of free ++ items_of old)) ≡ sorted (filter q list)
  chosen q h = ap (filter q) whole ∙ (filter_sorted q (list ++ remaining) apart_list
      ∙ ap sorted (filter-append q list remaining
      ∙ (ap (λ (x : List Element). filter q list ++ x) (filter_none q remaining h) ∙ append-nil (filter q list))))

  pub chosen_rise : (q : Element → Bool) → Ordered (λ e f. e.id < f.id) (sorted (filter q list))
  chosen_rise q = rising_sorted (filter q list)
      (ordered_filter (λ (a b : Element). a.id ≢ b.id) q list (apart_front list remaining apart_list))

  pub changed : (p : Element → Bool) (f : Element → Element) → ((e : Element) → (f e).id ≡ e.id) → (next : List Entry)
      → AllByRecursion IsKeyed free → AllByRecursion (λ e. (p e ≡ true) × (f e ≡ e)) remaining
      → ((o : List Element) → Frees o free (map f (filter p list)) next [])
      → (AllByRecursion IsKeyed next × Apart (values_of next ++ items_of others))
      × (sorted (values_of next ++ items_of others) ≡ map f (filter p (sorted (values_of free ++ items_of old))))
  changed p f same next keyed rest frees = (
    (done.0, done.1.0),
    done.1.1
        ∙ (sym (sorted_swapped (map f (filter p list)) (values_of free) (items_of others) apart_changed)
        ∙ sym all_done),
  )
    where
      as_changed : map f (filter p (list ++ remaining)) ≡ map f (filter p list) ++ remaining
      as_changed = ap (map f) (filter-append p list remaining
          ∙ ap (λ (x : List Element). filter p list ++ x)
          (filter_all p remaining
          (each_weaker (λ e. (p e ≡ true) × (f e ≡ e)) (λ e. p e ≡ true) (λ e o. o.0) remaining rest)))
          ∙ (map-append f (filter p list) remaining
          ∙ ap (λ (x : List Element). map f (filter p list) ++ x)
          (map_all f remaining
          (each_weaker (λ e. (p e ≡ true) × (f e ≡ e)) (λ e. f e ≡ e) (λ e o. o.1) remaining rest)))

      apart_changed : Apart (map f (filter p list) ++ remaining)
      apart_changed = subst Apart as_changed
          (ordered_map (λ (a b : Element). a.id ≢ b.id) (λ (a b : Element). a.id ≢ b.id) f
          (λ a b n e. n (sym (same a) ∙ (e ∙ same b))) (filter p (list ++ remaining))
          (ordered_filter (λ (a b : Element). a.id ≢ b.id) p (list ++ remaining) apart_list))

      all_done : map f (filter p (sorted (values_of free ++ items_of old)))
          ≡ sorted (map f (filter p list) ++ remaining)
      all_done = ap (λ (x : List Element). map f (filter p x)) whole
          ∙ (ap (map f) (filter_sorted p (list ++ remaining) apart_list)
          ∙ (map_sorted f same (filter p (list ++ remaining)) ∙ ap sorted as_changed))

      done : AllByRecursion IsKeyed next
          × (Apart (values_of next ++ items_of others)
          × (sorted (values_of next ++ items_of others)
          ≡ sorted (values_of free ++ (map f (filter p list) ++ items_of others))))
      done = frees (items_of others) keyed
          (apart_swapped (map f (filter p list)) (values_of free) (items_of others) apart_changed)

-- the others are not the unit's
others_remain : (unit : ℕ) (free : List Entry) (others : Lists) → AllByRecursion IsKeyed free
    → lookup (is_at (nat_cmp unit)) others ≡ None → AllByRecursion IsOfUnit others
    → AllByRecursion (IsOther unit) (values_of free ++ items_of others)
others_remain unit free others keyed absent units =
    each_append (IsOther unit) (values_of free) (items_of others) (free_ones unit free keyed)
    (other_ones unit others absent units)

-- COMMIT
pub committed : (unit : ℕ) (free next : List Entry) (old others : Lists) (list : List Element)
    → AllByRecursion IsKeyed free → Among list (items_of old) (items_of others)
    → lookup (is_at (nat_cmp unit)) others ≡ None → AllByRecursion IsOfUnit others
    → AllByRecursion (λ e. is_marked unit e.mark ≡ true) list → Apart (values_of free ++ items_of old)
    → ((o : List Element) → Frees o free (unheld unit list) next [])
    → (AllByRecursion IsKeyed next × Apart (values_of next ++ items_of others))
    × (sorted (values_of next ++ items_of others)
    ≡ committed_elements unit (sorted (values_of free ++ items_of old)))
committed unit free next old others list keyed out absent units mine apart frees =
    changed free old others list out apart (λ e. not (is_held unit e.mark)) (freshen unit) (same_id unit) next keyed
    (each_weaker (IsOther unit) (λ e. (not (is_held unit e.mark) ≡ true) × (freshen unit e ≡ e))
    (λ e o. (ap not o.0, ap (λ b. cond b (marked Free e) e) o.1)) (values_of free ++ items_of others)
    (others_remain unit free others keyed absent units))
    (λ o. subst (λ (xs : List Element). Frees o free xs next []) (sym (unheld_is unit list mine)) (frees o))

-- ABORT
pub aborted : (home : Definition) (unit : ℕ) (free next : List Entry) (old others : Lists)
    (list : List Element) → AllByRecursion IsKeyed free → Among list (items_of old) (items_of others)
    → lookup (is_at (nat_cmp unit)) others ≡ None → AllByRecursion IsOfUnit others
    → Apart (values_of free ++ items_of old) → ((o : List Element) → Frees o free (staying home unit list) next [])
    → (AllByRecursion IsKeyed next × Apart (values_of next ++ items_of others))
    × (sorted (values_of next ++ items_of others) ≡ staying home unit (sorted (values_of free ++ items_of old)))
aborted home unit free next old others list keyed out absent units apart frees =
    changed free old others list out apart (λ e. not (is_fresh unit e.mark) && not (leaves home unit e))
    (returned unit) (returned_id unit) next keyed
    (each_weaker (IsOther unit) _
    (λ e o. ((λ i. not (o.1 i) && not (leaves_not home unit e o.0 i)), returned_same unit e o.0))
    (values_of free ++ items_of others) (others_remain unit free others keyed absent units)) frees

-- those that leave, by id
pub departed : (home : Definition) (unit : ℕ) (free : List Entry) (old others : Lists)
    (list : List Element) → AllByRecursion IsKeyed free → Among list (items_of old) (items_of others)
    → lookup (is_at (nat_cmp unit)) others ≡ None → AllByRecursion IsOfUnit others
    → Apart (values_of free ++ items_of old) → filter (leaves home unit) (sorted (values_of free ++ items_of old))
    ≡ sorted (filter (leaves home unit) list)
departed home unit free old others list keyed out absent units apart =
    chosen free old others list out apart (leaves home unit)
    (each_weaker (IsOther unit) (λ e. leaves home unit e ≡ false) (λ e o. leaves_not home unit e o.0)
    (values_of free ++ items_of others) (others_remain unit free others keyed absent units))
