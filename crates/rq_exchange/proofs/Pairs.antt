-- Two lists, taken together.
use Rattle.std.proofs.Common.{◌≡◌, ℕ, zero, suc, ◌+◌, ◌<◌, List, [], ◌∷◌, ◌++◌, All, length, get_or, refl, sym, ap, ◌∙◌}
use Rattle.std.proofs.Common.{arith, append_assoc, append-nil, length-append, Vec, Global, slice_index_or, sum_by}
use Rattle.rq_exchange.proofs.Words.{get_or_at, nil_from_length, get_or-map, sum_by-cons, EachWith, Halfway, AreColumns}

pub some_of : {A : Type 0} (xs : List A) (k : ℕ) → k < length xs → A
some_of [] k lt = absurd (omega (arith, lt))
some_of (x ∷ xs) k lt = x

module _ {A B : Type 0} (R : A → B → Type 0) where
  pub pairs_long : (xs : List A) (ys : List B) → EachWith R xs ys → length xs ≡ length ys
  pairs_long [] [] h = refl
  pairs_long [] (y ∷ ys) h = absurd h
  pairs_long (x ∷ xs) [] h = absurd h
  pairs_long (x ∷ xs) (y ∷ ys) h = ap suc (pairs_long xs ys h.1)

  pub pairs_at : (xs : List A) (ys : List B) → EachWith R xs ys → (k : ℕ) (d : A) (e : B) → k < length xs
      → R (get_or xs k d) (get_or ys k e)
  pairs_at [] ys h k d e lt = absurd (omega (arith, lt))
  pairs_at (x ∷ xs) [] h k d e lt = absurd h
  pairs_at (x ∷ xs) (y ∷ ys) h zero d e lt = h.0
  pairs_at (x ∷ xs) (y ∷ ys) h (suc k) d e lt = pairs_at xs ys h.1 k d e (omega (arith, lt))

  -- what all of the second list have, if each pair gives it
  pub all_second : (Q : B → Type 0) → ((x : A) (y : B) → R x y → Q y) → (xs : List A) (ys : List B) → EachWith R xs ys
      → All Q ys
  all_second Q f xs ys h k e lt = let near : k < length xs = omega (arith, lt, pairs_long xs ys h) in
      f (get_or xs k (some_of xs k near)) (get_or ys k e) (pairs_at xs ys h k (some_of xs k near) e near)

  pub pairs_of : (xs : List A) (ys : List B) → length xs ≡ length ys
      → ((k : ℕ) (d : A) (e : B) → k < length xs → R (get_or xs k d) (get_or ys k e)) → EachWith R xs ys
  pairs_of [] [] e h = tt
  pairs_of [] (y ∷ ys) e h = absurd (omega (arith, e))
  pairs_of (x ∷ xs) [] e h = absurd (omega (arith, e))
  pairs_of (x ∷ xs) (y ∷ ys) e h =
      (h 0 x y (omega arith), pairs_of xs ys (omega (arith, e)) (λ k d f lt. h (suc k) d f (omega (arith, lt))))

  pub pairs_push : (xs : List A) (ys : List B) (x : A) (y : B) → EachWith R xs ys → R x y
      → EachWith R (xs ++ x ∷ []) (ys ++ y ∷ [])
  pairs_push [] [] x y h one = (one, tt)
  pairs_push [] (z ∷ ys) x y h one = absurd h
  pairs_push (z ∷ xs) [] x y h one = absurd h
  pairs_push (z ∷ xs) (w ∷ ys) x y h one = (h.0, pairs_push xs ys x y h.1 one)

  pub pairs_sum : (f : A → ℕ) (g h : B → ℕ) → ((x : A) (y : B) → R x y → h y ≡ f x + g y) → (xs : List A) (ys : List B)
      → EachWith R xs ys → sum_by h ys ≡ sum_by f xs + sum_by g ys
  pairs_sum f g h each [] [] e = refl
  pairs_sum f g h each [] (y ∷ ys) e = absurd e
  pairs_sum f g h each (x ∷ xs) [] e = absurd e
  pairs_sum f g h each (x ∷ xs) (y ∷ ys) e =
      let rest = pairs_sum f g h each xs ys e.1 in
      omega (arith, sum_by-cons h y ys, sum_by-cons f x xs, sum_by-cons g y ys, each x y e.0)

-- what a column has at the index of a row is what the row has at that of the column
pub column_at : {T : Type 0} (rows columns : List (Vec T Global)) (count : ℕ) → AreColumns rows count columns
    → (k j : ℕ) (d : Vec T Global) (x : T) → k < count → j < length rows
    → slice_index_or (slice_index_or columns k d).items j x ≡ slice_index_or (slice_index_or rows j d).items k x
column_at {T} rows columns count are k j d x near there = rw (are.each k d x near)
    (get_or-map (λ (r : Vec T Global). slice_index_or r.items k x) rows j d x there)

-- two lists that are taken apart from their ends
module _ {A B : Type 0} (End : A → B → Type 0) (wholes : List A) (others : List B) where
  unfoldable pub all_before : length others ≡ length wholes → Halfway End wholes others wholes others
  all_before e = record {
    rest = [];
    more = [];
    whole = sym (append-nil wholes);
    other = sym (append-nil others);
    same_long = e;
    ended = tt;
  }

  module _ (xs ys : List A) (x : A) (us vs : List B) (u : B) (e : xs ≡ ys ++ x ∷ []) (f : us ≡ vs ++ u ∷ [])
      (h : Halfway End wholes others xs us) where
    pub wholes_are : wholes ≡ ys ++ x ∷ h.rest
    wholes_are = h.whole ∙ ap (λ l. l ++ h.rest) e ∙ append_assoc ys (x ∷ []) h.rest

    pub others_are : others ≡ vs ++ u ∷ h.more
    others_are = h.other ∙ ap (λ l. l ++ h.more) f ∙ append_assoc vs (u ∷ []) h.more

    pub as_long : length vs ≡ length ys
    as_long =
        omega (arith, h.same_long, ap length e, ap length f, length-append ys (x ∷ []), length-append vs (u ∷ []))

    unfoldable pub one_back : End x u → Halfway End wholes others ys vs
    one_back now = record {
      rest = x ∷ h.rest;
      more = u ∷ h.more;
      whole = wholes_are;
      other = others_are;
      same_long = as_long;
      ended = (now, h.ended);
    }

    -- those taken go together, if those of the whole lists do
    pub taken : (R : A → B → Type 0) → EachWith R wholes others → R x u
    taken R all = rw (get_or_at ys x h.rest x (length ys) refl, get_or_at vs u h.more u (length ys) as_long) at
        (pairs_at R (ys ++ x ∷ h.rest) (vs ++ u ∷ h.more) (rw (wholes_are, others_are) at all) (length ys) x u
        (omega (arith, length-append ys (x ∷ h.rest))))

  pub all_gone : (xs : List A) (us : List B) (h : Halfway End wholes others xs us) → length xs ≡ 0
      → EachWith End wholes others × (others ≡ h.more)
  all_gone xs us h none =
      let gone : wholes ≡ h.rest = h.whole ∙ ap (λ l. l ++ h.rest) (nil_from_length xs none) in
      let same : others ≡ h.more = h.other ∙ ap (λ l. l ++ h.more) (nil_from_length us (h.same_long ∙ none)) in
      (rw (gone, same) h.ended, same)
