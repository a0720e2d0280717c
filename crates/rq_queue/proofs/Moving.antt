-- The best element goes from the Free ones to the marked ones.
use Rattle.std.proofs.Common.{◌≡◌, ℕ, ◌==◌, true, false, cond, ◌&&◌, ◌||◌, List, sym, ap, ◌∙◌, arith}
use Rattle.std.specs.Prelude.{nat_lt, nat_le}
use Rattle.std.specs.List.{AllByRecursion, filter, list_all}
use Rattle.std.specs.declared.cmp.Ordering.{Ordering}
use Rattle.std.specs.declared.cmp.Ordering.TheVariants.{Less}
use Rattle.std.specs.Ordering.{ordering_then, nat_cmp}
use Rattle.std.proofs.lemmas.Bool.{cases_Bool}
use Rattle.std.proofs.lemmas.Bool.Decides.{nat_tests}
use Rattle.rq_model.specs.States.{Element, Held}
use Rattle.rq_model.specs.Machine.{is_free_at, is_best, comes_first, best_held, marked}
use Rattle.rq_model.proofs.Lists.{each_weaker, map_all}
use Rattle.rq_queue.specs.Sorted.{sorted}
use Rattle.rq_queue.proofs.Sorting.{held_sorted}
use Rattle.rq_queue.proofs.Firsts.{IsBehind}

-- greater priority first, then smaller number
abbrev pub rank_cmp : ℕ × ℕ → ℕ × ℕ → Ordering
rank_cmp a b = ordering_then (nat_cmp b.0 a.0) (nat_cmp a.1 b.1)

pub less_leads : (p i q j : ℕ) → rank_cmp (p, i) (q, j) ≡ Less
    → ((nat_lt q p || ((q == p) && nat_le i j)) ≡ true) × ((nat_lt p q || ((p == q) && nat_le j i)) ≡ false)
less_leads p i q j h = (
  grind (arith, nat_tests, cases_Bool (nat_lt q p), cases_Bool (q == p), cases_Bool (nat_lt i j)),
  grind (arith, nat_tests, cases_Bool (nat_lt q p), cases_Bool (q == p), cases_Bool (nat_lt i j)),
)

pub behind : (queue : ℕ) (e f : Element) → rank_cmp (e.priority, e.id) (f.priority, f.id) ≡ Less → IsBehind queue e f
behind queue e f h free = less_leads e.priority e.id f.priority f.id h

-- if none is Free, nothing changes
pub none_held : (unit queue : ℕ) (es : List Element) → AllByRecursion (λ f. is_free_at queue f ≡ false) es
    → sorted es ≡ best_held unit queue (sorted es)
none_held unit queue es h =
    sym (held_sorted unit queue es ∙ ap sorted (map_all (λ f. cond (is_best queue es f) (marked (Held unit) f) f) es
    (each_weaker (λ f. is_free_at queue f ≡ false) (λ f. cond (is_best queue es f) (marked (Held unit) f) f ≡ f)
    (λ f n. ap (λ b. cond (b && list_all (comes_first f) (filter (is_free_at queue) es)) (marked (Held unit) f) f)
    n) es h)))
