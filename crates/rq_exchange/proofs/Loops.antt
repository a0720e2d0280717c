-- A loop over what a Vec holds.
use Rattle.std.proofs.Common.{◌≡◌, ◌<◌, List, All, Option, Some, None, length, get_or, sym, ◌∙◌, subst, map-id}
use Rattle.rq_exchange.proofs.Words.{Yields, into_iter_items, into_iter_len, into_iter_steps, IntoIter}
use Rattle.rq_exchange.proofs.Words.{YieldsList-from_vec}
use Rattle.std.proofs.lemmas.Iterator.Consumers.{YieldsList-turn, YieldsList-end}

module _ {A Z : Type 0} (s t u : IntoIter A Z) {r : Option A} (all : List A) (from : into_iter_items s ≡ all)
    (long : into_iter_len s ≡ length all) (xs : List A) (y : Yields (into_iter_steps {X = A} {Z = Z}) s xs t) where
  -- what comes next is at the index that was reached
  pub comes_next : {x : A} → r ≡ Some x → into_iter_steps t r u
      → (length xs < length all) × (x ≡ get_or all (length xs) x)
  comes_next {x} is p = YieldsList-turn (YieldsList-from_vec all from long) xs t y r u x is p

  -- so it has what all have
  pub next_has : {x : A} (P : A → Type 0) → All P all → r ≡ Some x → into_iter_steps t r u → P x
  next_has {x} P has is p = let k = comes_next is p in subst P (sym k.1) (has (length xs) x k.0)

  -- at the end all have come
  pub all_came : r ≡ None → into_iter_steps t r u → xs ≡ all
  all_came is p = sym (map-id xs) ∙ (YieldsList-end (YieldsList-from_vec all from long) xs t y r u is p).0
