-- Bytes that are compared with one text after the other.
use Rattle.std.proofs.Common.{◌≡◌, ℕ, suc, ◌+◌, ◌<◌, ◌≤◌, false, cond, ◌&&◌, List, [], ◌∷◌, ◌++◌, length, drop}
use Rattle.std.proofs.Common.{Option, Some, None, is_some, refl, sym, ap, ◌∙◌, arith, nat_eq, slice_index_or}
use Rattle.std.specs.Prelude.{◌==◌}
use Rattle.std.specs.Int.{w32, to_be_bytes}
use Rattle.std.specs.List.{starts_with, flat_map}
use Rattle.std.specs.Str.{bytes_eq}
use Rattle.std.proofs.lemmas.List.{drop_more, drop_all}
use Rattle.rq_model.specs.StateSpelling.{counted}
use Rattle.rq_model.proofs.Lists.{by_cases}
use Rattle.rq_state.specs.Comparing.{left_after, is_matched}

-- nothing comes next
pub behind_nothing : (m : Option (List ℕ)) → left_after [] m ≡ m
unfolding left_after
behind_nothing None = refl
behind_nothing (Some bytes) = refl

-- nothing agrees with bytes that differ
pub behind_none : (text : List ℕ) → left_after text None ≡ None
unfolding left_after
behind_none text = refl

-- one text behind another
pub behind_both : (a b : List ℕ) (m : Option (List ℕ)) → left_after (a ++ b) m ≡ left_after b (left_after a m)
unfolding left_after
behind_both a b None = refl
behind_both [] b (Some bytes) = refl
behind_both (x ∷ a) b (Some []) = refl
behind_both (x ∷ a) b (Some (y ∷ bytes)) = by_cases (nat_eq x y)
    (λ t. cond (t && starts_with nat_eq bytes (a ++ b)) (Some (drop (length (a ++ b)) bytes)) None
    ≡ left_after b (cond (t && starts_with nat_eq bytes a) (Some (drop (length a) bytes)) None))
    (λ _. behind_both a b (Some bytes)) (λ _. refl)

one_left : (n : ℕ) → (suc n == 0) ≡ false
one_left n = grind arith

-- the bytes are the text if they begin with it and none is left
pub whole_is : (text bytes : List ℕ) → is_matched (left_after text (Some bytes)) ≡ bytes_eq bytes text
unfolding left_after
whole_is [] [] = refl
whole_is [] (y ∷ bytes) = one_left (length bytes)
whole_is (x ∷ text) [] = refl
whole_is (x ∷ text) (y ∷ bytes) = by_cases (nat_eq x y)
    (λ t. nat_eq y x ≡ t → is_matched (cond (t && starts_with nat_eq bytes text) (Some (drop (length text) bytes)) None)
    ≡ (nat_eq y x && bytes_eq bytes text))
    (λ _ e. whole_is text bytes ∙ ap (λ t. t && bytes_eq bytes text) (sym e))
    (λ _ e. ap (λ t. t && bytes_eq bytes text) (sym e))
    (turned x y)
  where
    turned : (x y : ℕ) → nat_eq y x ≡ nat_eq x y
    turned x y = grind arith

-- One member after the other.

-- one member more is compared
pub one_more : {X : Type 0} (spelling : X → List ℕ) (x : X) (rest : List X) (m n : Option (List ℕ))
    → n ≡ left_after (spelling x) m → left_after (flat_map spelling rest) n ≡ left_after (flat_map spelling (x ∷ rest)) m
one_more spelling x rest m n h = ap (left_after (flat_map spelling rest)) h
    ∙ sym (behind_both (spelling x) (flat_map spelling rest) m)

-- the bytes differ already
pub all_differ : (text : List ℕ) (m total : Option (List ℕ)) → is_some m ≡ false → left_after text m ≡ total → m ≡ total
all_differ text None total differ left = sym (behind_none text) ∙ left
all_differ text (Some bytes) total differ left = absurd (let no : ⊥ = grind (arith, differ) in no)

module _ {X : Type 0} (spelling : X → List ℕ) (xs : List X) (total : Option (List ℕ)) where
  -- the members from an index on are left
  pub next_compared : (i : ℕ) (x : X) (m n : Option (List ℕ)) → i < length xs → x ≡ slice_index_or xs i x
      → n ≡ left_after (spelling x) m → left_after (flat_map spelling (drop i xs)) m ≡ total
      → left_after (flat_map spelling (drop (i + 1) xs)) n ≡ total
  next_compared i x m n within is compared left = one_more spelling x (drop (i + 1) xs) m n compared
      ∙ ap (λ (ys : List X). left_after (flat_map spelling ys) m)
      (ap (λ (y : X). y ∷ drop (i + 1) xs) is ∙ sym (drop_more xs i x within)) ∙ left

  pub all_compared : (i : ℕ) (m : Option (List ℕ)) → length xs ≤ i
      → left_after (flat_map spelling (drop i xs)) m ≡ total → m ≡ total
  all_compared i m end left = sym (behind_nothing m)
      ∙ (ap (λ (ys : List X). left_after (flat_map spelling ys) m) (sym (drop_all i xs end)) ∙ left)

-- One text after the other, as calls compare them.

pub follow : (a b : List ℕ) (m n o : Option (List ℕ)) → n ≡ left_after a m → o ≡ left_after b n → o ≡ left_after (a ++ b) m
follow a b m n o h k = k ∙ ap (left_after b) h ∙ sym (behind_both a b m)

-- members behind their number
pub counted_follow : {X : Type 0} (spelling : X → List ℕ) (xs : List X) (k : ℕ) (m n o : Option (List ℕ)) → k ≡ length xs
    → n ≡ left_after (to_be_bytes w32 k) m → o ≡ left_after (flat_map spelling xs) n → o ≡ left_after (counted spelling xs) m
counted_follow spelling xs k m n o same count all = follow (to_be_bytes w32 (length xs)) (flat_map spelling xs) m n o
    (count ∙ ap (λ j. left_after (to_be_bytes w32 j) m) same) all

-- where bytes differ already, nothing changes
pub still_differ : (text : List ℕ) (m : Option (List ℕ)) → is_some m ≡ false → m ≡ left_after text m
still_differ text m differ = all_differ text m (left_after text m) differ refl
