-- Each step on a deque keeps its rule.
use Rattle.std.proofs.Common.{◌≡◌, ◌≢◌, ℕ, ◌+◌, ◌-◌, ◌<◌, ◌≤◌, List, [], ◌∷◌, ◌++◌, length, set, sum_by, sym, refl, ap}
use Rattle.std.proofs.Common.{◌∙◌, arith}
use Rattle.rq_pool.proofs.Words.{some, get_elem?, sum_by-cons, sum_by-append, sum_by_push, set_else, Share, share}
use Rattle.rq_pool.proofs.Words.{FitsDeal, Balanced, Pushed, Taken, Emptied}
use Rattle.crossbeam_deque.specs.Tasks.{Pushes, Takes, Finds, Forks, Merges, Learns}
use Rattle.rq_pool.proofs.Totals.{sum_set, sum_at, sum_none, each_set, each_snoc}

pub length_sum : (xs : List ℕ) → length xs ≡ sum_by (λ _. 1) xs
length_sum [] = refl
length_sum (x ∷ xs) = omega (arith, length_sum xs, sum_by-cons (λ (_ : ℕ). 1) x xs)

abbrev parts_of : Share → ℕ
parts_of v = v.parts

abbrev weight : (ℕ → ℕ) → Share → ℕ
weight h v = sum_by h v.taken

abbrev spent : Share
spent = share 0 [] []

-- if a pass has all parts, every other pass has none
others_none : (views : List Share) (port : ℕ) (v : Share) (j : ℕ) (u : Share) → get_elem? views port ≡ some v
    → sum_by parts_of views ≡ v.parts → j ≢ port → get_elem? views j ≡ some u → u.parts ≡ 0
others_none views port v j u at all other here = let t = sum_set parts_of views port v spent at in let l =
    sum_at parts_of (set views port spent) j u (set_else views port j spent other ∙ here) in omega arith

pub puts : (port : ℕ) (v : Share) (x : ℕ) → v.parts ≡ 256 → Pushes Balanced port v (x ∷ []) (Pushed v (x ∷ []))
puts port v x all items views r at = let w : Share = share v.parts (v.dealt ++ x ∷ []) v.taken in let mine =
    r.each_view port v at in (
      w,
      record {
        dealt = r.dealt ++ x ∷ [];
        parts = omega (arith, r.parts, sum_set parts_of views port v w at);
        each_once = λ h. (let t = sum_set (weight h) views port v w at in let e = r.each_once h in
            omega (arith, sum_by_push h items x, sum_by_push h r.dealt x));
        each_view = each_set (λ _. FitsDeal (r.dealt ++ x ∷ [])) views port w
            (mine.0, λ _. ap (λ l. l ++ x ∷ []) (mine.1 (omega arith))) (λ j u other e. let none =
            others_none views port v j u at (r.parts ∙ sym all) other e in
            ((r.each_view j u e).0, λ z. absurd (omega arith)));
      },
      refl,
    )

pub gets : (port : ℕ) (v : Share) → 0 < v.parts → Takes Balanced port v 1 (Taken v)
gets port v part xs items views _ _ r at = let w : Share = share v.parts v.dealt (v.taken ++ xs) in let mine =
    r.each_view port v at in let long = λ (h : ℕ → ℕ). sum_by-append h v.taken xs in (
      w,
      record {
        dealt = r.dealt;
        parts = omega (arith, r.parts, sum_set parts_of views port v w at);
        each_once = λ h. (let t = sum_set (weight h) views port v w at in let e = r.each_once h in
            omega (arith, sum_by-append h xs items, long h));
        each_view = each_set (λ _. FitsDeal r.dealt) views port w ((λ z. absurd (omega arith)), mine.1)
            (λ j u _. r.each_view j u);
      },
      (
        refl,
        (λ h. let t = sum_at (weight h) views port v at in let e = r.each_once h in let same =
            ap (sum_by h) (mine.1 part) in omega (arith, sum_by-append h xs items, long h)),
      ),
    )

-- a pass is made two
forked : (port : ℕ) (v l u : Share) → l.parts + u.parts ≡ v.parts
    → ((h : ℕ → ℕ) → weight h l + weight h u ≡ weight h v)
    → ((dealt : List ℕ) → FitsDeal dealt v → FitsDeal dealt l × FitsDeal dealt u) → Forks Balanced port v l u
forked port v l u sum sums fits items views r at = let both = fits r.dealt (r.each_view port v at) in record {
  dealt = r.dealt;
  parts = (let t = sum_set parts_of views port v l at in let p = r.parts in
      omega (arith, sum_by_push parts_of (set views port l) u));
  each_once = λ h. (let t = sum_set (weight h) views port v l at in let e = r.each_once h in let s = sums h in
      omega (arith, sum_by_push (weight h) (set views port l) u));
  each_view = each_snoc (FitsDeal r.dealt) (set views port l) u both.1
      (each_set (λ _. FitsDeal r.dealt) views port l both.0 (λ j w _. r.each_view j w));
}

pub cuts : (port : ℕ) (v : Share) → 1 < v.parts
    → Forks Balanced port v (share (v.parts - 1) v.dealt v.taken) (share 1 v.dealt [])
cuts port v part = forked port v _ _ (omega arith) (λ h. omega arith)
    (λ dealt f. (((λ z. absurd (omega arith)), λ _. f.1 (omega arith)), ((λ _. refl), λ _. f.1 (omega arith))))

pub wholes : (port : ℕ) (v : Share) → Forks Balanced port v spent v
wholes port v = forked port v spent v (omega arith) (λ h. omega arith)
    (λ dealt f. (((λ _. refl), λ z. absurd (omega arith)), f))

pub glues : (port : ℕ) (v : Share) (other : ℕ) (u : Share) → 0 < v.parts
    → Merges Balanced port v other u (share (v.parts + u.parts) v.dealt (v.taken ++ u.taken)) spent
glues port v other u part items views r at two at' = let both : Share =
    share (v.parts + u.parts) v.dealt (v.taken ++ u.taken) in let vs : List Share = set views port both in record {
      dealt = r.dealt;
      parts = (let a = sum_set parts_of views port v both at in let p = r.parts in
          omega (arith, sum_set parts_of vs other u spent at'));
      each_once = λ h. (let a = sum_set (weight h) views port v both at in let b =
          sum_set (weight h) vs other u spent at' in let e = r.each_once h in
          omega (arith, sum_by-append h v.taken u.taken));
      each_view = each_set (λ _. FitsDeal r.dealt) vs other spent ((λ _. refl), λ z. absurd (omega arith))
          (λ j w _. each_set (λ _. FitsDeal r.dealt) views port both
          ((λ z. absurd (omega arith)), λ _. (r.each_view port v at).1 part) (λ k z _. r.each_view k z) j w);
    }

pub finds : (port : ℕ) (v : Share) → Finds Balanced port v (Emptied v)
finds port v views r at all h = let others = set views port spent in let t = sum_set parts_of views port v spent at in
    let w = sum_set (weight h) views port v spent at in let p = r.parts in let e = r.each_once h in
    let fits = each_set (λ _. FitsDeal r.dealt) views port spent ((λ _. refl), λ z. absurd (omega arith))
    (λ j u _. r.each_view j u) in
    let none = sum_none (weight h) others
    (λ j u here. ap (sum_by h) ((fits j u here).0 (omega (arith, sum_at parts_of others j u here)))) in
    omega (arith, ap (sum_by h) ((r.each_view port v at).1 (omega arith)))

pub over : (port : ℕ) (v : Share) → Learns Balanced port v (λ items. v.parts ≤ 256)
over port v items views r at = omega (arith, r.parts, sum_at parts_of views port v at)
