-- Words side by side.
use Rattle.std.proofs.Common.{◌≡◌, ◌≢◌, ◌∙◌, ap, slice_set, ℕ, ◌<◌, ◌-◌, ◌*◌, ◌/◌, ◌%◌, ◌^◌, List, [], length}
use Rattle.std.proofs.Common.{slice_index, bit_or, arith, refl}
use Rattle.std.specs.Prelude.{replicate}
use Rattle.std.specs.Simd.Lanes.{zip2}
use Rattle.std.specs.Int.{w32, rotate_right}
use Rattle.std.proofs.Math.ListN.{get_or-map}
use Rattle.std.proofs.lemmas.Simd.{get_or-zip2, get_or-replicate, length-zip2, length-replicate}
use Rattle.std.proofs.lemmas.List.{map-set, get_or-set_same, get_or-set_other, length-map}
use Rattle.rq_lanes.specs.Messages.{word_in, window}

-- an operator on each lane and one number
pub with_each : (f : ℕ → ℕ → ℕ) (n k : ℕ) (xs : List ℕ) (j : ℕ) → length xs ≡ n → j < n
    → slice_index (zip2 f xs (replicate n k)) j ≡ f (slice_index xs j) k
with_each f n k xs j long lt =
    get_or-zip2 f xs (replicate n k) j 0 0 0 (omega arith) (omega (arith, length-replicate n k))
    ∙ ap (f (slice_index xs j)) (get_or-replicate n j k 0 lt)

-- two shifts of each lane and an or are a rotation
pub rotates : (n k : ℕ) (xs : List ℕ) → length xs ≡ n → 0 < k → k < 32 → (j : ℕ) → j < n
    → slice_index (zip2 bit_or (zip2 (λ x m. x / 2 ^ m) xs (replicate n k))
    (zip2 (λ x m. x * 2 ^ m % 2 ^ 32) xs (replicate n (32 - k)))) j
    ≡ rotate_right w32 (slice_index xs j) k
rotates n k xs long low high j lt =
    let right : k % 32 ≡ k = omega arith in
    let left : (32 - k) % 32 ≡ 32 - k = omega arith in
    let down = λ (x m : ℕ). x / 2 ^ m in
    let up = λ (x m : ℕ). x * 2 ^ m % 2 ^ 32 in
    let size_down = length-zip2 down xs (replicate n k) (omega (arith, length-replicate n k)) in
    let size_up = length-zip2 up xs (replicate n (32 - k)) (omega (arith, length-replicate n (32 - k))) in
    get_or-zip2 bit_or (zip2 down xs (replicate n k)) (zip2 up xs (replicate n (32 - k))) j 0 0 0
    (omega (arith, size_down)) (omega (arith, size_up))
    ∙ rw (with_each down n k xs j long lt, with_each up n (32 - k) xs j long lt, right, left) refl

-- word k of lane j
pub window-lane : (j : ℕ) (w : List (List ℕ)) (k : ℕ) → slice_index (window j w) k ≡ word_in w k j
window-lane j w k = get_or-map (λ (v : List ℕ). slice_index v j) w k []

pub window-set_same : (j : ℕ) (w : List (List ℕ)) (i : ℕ) (x : List ℕ) → i < length w
    → slice_index (window j (slice_set w i x)) i ≡ slice_index x j
window-set_same j w i x lt =
    let f : List ℕ → ℕ = λ v. slice_index v j in
    ap (λ (l : List ℕ). slice_index l i) (map-set f w i x)
    ∙ get_or-set_same (window j w) i (f x) 0 (omega (arith, length-map w f))

pub window-set_other : (j : ℕ) (w : List (List ℕ)) (i k : ℕ) (x : List ℕ) → k ≢ i
    → slice_index (window j (slice_set w i x)) k ≡ slice_index (window j w) k
window-set_other j w i k x ne =
    let f : List ℕ → ℕ = λ v. slice_index v j in
    ap (λ (l : List ℕ). slice_index l k) (map-set f w i x) ∙ get_or-set_other (window j w) i k (f x) 0 ne
