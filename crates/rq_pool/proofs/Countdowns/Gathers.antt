-- The slots of the last, while it empties one after the other.
use Rattle.std.proofs.Common.{◌≡◌, ℕ, suc, ◌+◌, ◌<◌, List, [], ◌∷◌, ◌++◌, map, length, drop, take, replicate, sym, refl}
use Rattle.std.proofs.Common.{ap, ◌∙◌, subst, arith, Option, Some, None, append_assoc, add-one}
use Rattle.atomic_table.proofs.Lists.{drop_at}
use Rattle.rq_pool.proofs.Countdowns.Words.{rest, indexed, outboxes_in, length-replicate, replicate_more}
use Rattle.rq_pool.proofs.Totals.{there, read}
use lib.Seq.{take-suc}

numbered_snoc : {S : Type 0} (xs : List S) (k n : ℕ) (x : S) → k + length xs ≡ n
    → indexed k (xs ++ x ∷ []) ≡ indexed k xs ++ (n, x) ∷ []
numbered_snoc [] k n x e = let q : k ≡ n = omega arith in λ j. (q j, x) ∷ []
numbered_snoc (y ∷ xs) k n x e = ap (λ l. (k, y) ∷ l) (numbered_snoc xs (suc k) n x (omega arith))

module _ {T : Type 0} where
  abbrev pub left : List T → ℕ → List (ℕ × Option T)
  left ys i = indexed i (map Some (drop i ys)) ++ indexed 0 (replicate i None)

  abbrev Next : List T → ℕ → List (ℕ × Option T) → ℕ → Type 0
  Next ys i c j = (y : T) × (c ≡ (i, Some y) ∷ rest c) × (rest c ++ (i, None) ∷ [] ≡ left ys j)
      × (take j ys ≡ take i ys ++ y ∷ [])

  pub after_one : (ys : List T) (i j : ℕ) → suc i ≡ j → i < length ys → (c : List (ℕ × Option T)) → c ≡ left ys i
      → Next ys i c j
  after_one ys i j e near c is = subst (Next ys i c) e
      (let at = there ys i near in let y : T = at.0 in let nones : List (ℕ × Option T) =
      indexed 0 (replicate i None) in let more : List (ℕ × Option T) =
      indexed (suc i) (map Some (drop (suc i) ys)) in
      let whole : c ≡ (i, Some y) ∷ (more ++ nones) =
      is ∙ ap (λ (l : List T). indexed i (map Some l) ++ nones) (drop_at ys i y at.1) in
      let tail : rest c ≡ more ++ nones = ap rest whole in (
        y,
        whole ∙ (λ k. (i, Some y) ∷ sym tail k),
        ap (λ l. l ++ (i, None) ∷ []) tail ∙ append_assoc more nones ((i, None) ∷ [])
            ∙ ap (λ l. more ++ l)
            (sym (numbered_snoc (replicate i None) 0 i None
            (let q = length-replicate {A = Option T} i None in omega arith))
            ∙ ap (indexed 0) (replicate_more i None ∙ ap (λ n. replicate n None) (add-one i))),
        take-suc ys i y near ∙ ap (λ y. take i ys ++ y ∷ []) (read ys i y at.1).1,
      ))

  pub contents_numbered : (ys : List T) (k : ℕ) → outboxes_in (indexed k (map Some ys)) ≡ ys
  contents_numbered [] k = refl
  contents_numbered (y ∷ ys) k = ap (λ l. y ∷ l) (contents_numbered ys (suc k))
