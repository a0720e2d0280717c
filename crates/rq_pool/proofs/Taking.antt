-- What a take changes of what a seat has.
use Rattle.std.proofs.Common.{◌≡◌, ◌≢◌, ℕ, suc, ◌<◌, ◌≤◌, List, [], ◌∷◌, ◌++◌, length, get_or, set, sum_by, cond, ◌==◌}
use Rattle.std.proofs.Common.{eq-eqb, sym, refl, ap, ◌∙◌, subst, arith, length-set, get_or-set_other}
use Rattle.rq_pool.proofs.Words.{sum_by-cons, sum_by-append, sum_by_push, sum_by-set, Share, times_in, size, Taken}
use Rattle.rq_pool.proofs.Words.{Holds}
use Rattle.rq_pool.proofs.Lists.{set_either}
use Rattle.rq_pool.proofs.Rules.{length_sum}

module _ (lists : List (List ℕ)) (number : ℕ) where
  -- the owner popped x
  pub popped : (v w : Share) (stolens : List (List ℕ)) (taken : List ℕ) (x : ℕ) → Holds lists number v stolens taken
      → Taken v (x ∷ []) w → Holds lists number w stolens (taken ++ x ∷ [])
  popped v w stolens taken x s t = subst (λ u. Holds lists number u stolens (taken ++ x ∷ [])) (sym t.0) (record {
    numbered = s.numbered;
    dealt = s.dealt;
    parts = s.parts;
    same = s.same;
    counts = λ h. (let c = s.counts h in omega (arith, sum_by_push h taken x, sum_by_push h v.taken x));
    within = t.1;
    least = s.least;
    untouched = s.untouched;
  })

  -- what was stolen from the deque j is now ys, which is as before with xs
  pub stole : (v : Share) (stolens : List (List ℕ)) (taken xs ys : List ℕ) (j : ℕ) → Holds lists number v stolens taken
      → j ≢ number → j < length stolens → ys ≡ get_or stolens j [] ++ xs
      → ((h : ℕ → ℕ) → sum_by h ys ≤ sum_by h (get_or lists j []))
      → Holds lists number v (set stolens j ys) (taken ++ xs)
  stole v stolens taken xs ys j s other inside is less = record {
    numbered = s.numbered;
    dealt = s.dealt;
    parts = s.parts;
    same = length-set stolens j ys ∙ s.same;
    counts = λ h. (let c = s.counts h in let e = ap (sum_by h) is in
        omega (
          arith,
          sum_by-append h taken xs,
          sum_by-append h (get_or stolens j []) xs,
          sum_by-set (sum_by h) stolens j ys [] inside,
        ));
    within = s.within;
    least = λ h k. set_either (λ l. sum_by h l ≤ sum_by h (get_or lists k [])) stolens j k ys [] inside
        (λ e. subst (λ m. sum_by h ys ≤ sum_by h (get_or lists m [])) (sym e) (less h)) (λ _. s.least h k);
    untouched = get_or-set_other stolens j number ys [] (λ e. other (sym e)) ∙ s.untouched;
  }

-- lists that weigh no more than their like weigh no more together
spread : (h : ℕ → ℕ) (ss ls : List (List ℕ)) → length ss ≡ length ls
    → ((j : ℕ) → sum_by h (get_or ss j []) ≤ sum_by h (get_or ls j [])) → sum_by (sum_by h) ss ≤ sum_by (sum_by h) ls
spread h [] ls e least = omega arith
spread h (s ∷ ss) [] e least = absurd (omega arith)
spread h (s ∷ ss) (l ∷ ls) e least = let here = least 0 in let more =
    spread h ss ls (omega arith) (λ j. least (suc j)) in
    omega (arith, sum_by-cons (sum_by h) s ss, sum_by-cons (sum_by h) l ls)

-- a seat has taken nothing more often than it was dealt
bounded : (lists : List (List ℕ)) (number : ℕ) (v : Share) (stolens : List (List ℕ)) (taken : List ℕ)
    → Holds lists number v stolens taken → (h : ℕ → ℕ) → sum_by h taken ≤ sum_by (sum_by h) lists
bounded lists number v stolens taken s h = let inside : number < length stolens = omega arith in let c = s.counts h in
    let u = ap (sum_by h) s.untouched in let most =
    spread h (set stolens number v.taken) lists (length-set stolens number v.taken ∙ s.same)
    (λ j. set_either (λ l. sum_by h l ≤ sum_by h (get_or lists j [])) stolens number j v.taken [] inside
    (λ e. subst (λ m. sum_by h v.taken ≤ sum_by h (get_or lists m [])) (sym e)
    (omega (arith, s.within h, ap (sum_by h) s.dealt))) (λ _. s.least h j)) in
    omega (arith, sum_by-set (sum_by h) stolens number v.taken [] inside)

lengths : (xss : List (List ℕ)) → sum_by (sum_by (λ _. 1)) xss ≡ size xss
lengths [] = refl
lengths (xs ∷ xss) =
    omega (arith, length_sum xs, lengths xss, sum_by-cons (sum_by (λ (_ : ℕ). 1)) xs xss, sum_by-cons length xs xss)

-- so it has taken no more numbers than there are
pub no_more : (lists : List (List ℕ)) (number : ℕ) (v : Share) (stolens : List (List ℕ)) (taken : List ℕ)
    → Holds lists number v stolens taken → length taken ≤ size lists
no_more lists number v stolens taken s =
    omega (arith, bounded lists number v stolens taken s (λ _. 1), length_sum taken, lengths lists)

-- and what it took last is one of them
pub of_the_deal : (lists : List (List ℕ)) (number : ℕ) (v : Share) (stolens : List (List ℕ)) (taken : List ℕ) (x : ℕ)
    → Holds lists number v stolens (taken ++ x ∷ []) → 0 < times_in x lists
of_the_deal lists number v stolens taken x s =
    omega (
      arith,
      bounded lists number v stolens (taken ++ x ∷ []) s (λ y. cond (y == x) 1 0),
      ap (λ b. cond {A = ℕ} b 1 0) (eq-eqb x x refl),
      sum_by_push (λ y. cond (y == x) 1 0) taken x,
    )
