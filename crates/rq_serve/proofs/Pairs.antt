-- Pairs of digits, of which all are judged at once.
use Rattle.std.proofs.Common.{◌≡◌, ◌≢◌, ℕ, ◌+◌, ◌*◌, ◌-◌, ◌<◌, ◌≤◌, ◌%◌, ◌||◌, Bool, true, false, nat_le, if◌then◌else◌, List, [], ◌∷◌, ◌++◌, length, take, drop, slice_index_or, slice_set, Option, Some, None, refl, sym, ap, ◌∙◌, arith}
use Rattle.std.proofs.lemmas.List.{append_assoc, drop_more, take_more_set}
use Rattle.rq_bytes.specs.Readers.{◌>>=◌}
use Rattle.rq_writer.specs.Reading.{digit_of, pair_of, pairs_of}

-- the bytes so far before those of the rest, if no value so far was greater than 15
abbrev pub joined : Bool → List ℕ → Option (List ℕ) → Option (List ℕ)
joined is_bad front rest = if is_bad then None else rest >>= λ bytes. Some (front ++ bytes)

-- what two digits begin
abbrev pair_before : ℕ → ℕ → Option (List ℕ) → Option (List ℕ)
pair_before a b rest = pair_of a b >>= λ v. rest >>= λ bytes. Some (v ∷ bytes)

-- a digit, or none
abbrev IsDigit : ℕ → Bool → ℕ → Type 0
IsDigit byte is_bad value = digit_of byte ≡ (if is_bad then None else Some value)

joined_rest : (front : List ℕ) (v : ℕ) (rest : Option (List ℕ))
    → joined false front (rest >>= λ bytes. Some (v ∷ bytes)) ≡ joined false (front ++ v ∷ []) rest
joined_rest front v (Some bytes) = ap Some (sym (append_assoc front (v ∷ []) bytes))
joined_rest front v None = refl

joined_pair : (m h l : Bool) (a b high low byte : ℕ) (front : List ℕ) (rest : Option (List ℕ))
    → IsDigit a h high → IsDigit b l low → (h ≡ false → l ≡ false → byte ≡ high * 16 + low)
    → joined m front (pair_before a b rest) ≡ joined (m || (h || l)) (front ++ byte ∷ []) rest
joined_pair true h l a b high low byte front rest first second is = refl
joined_pair false true l a b high low byte front rest first second is = rw first refl
joined_pair false false true a b high low byte front rest first second is = rw (first, second) refl
joined_pair false false false a b high low byte front rest first second is =
    rw (first, second, is refl refl) (joined_rest front (high * 16 + low) rest)

-- what is left of the text, at a whole pair
drop_pair : (text : List ℕ) (at : ℕ) → 2 * at + 1 < length text
    → drop (2 * at) text
    ≡ slice_index_or text (2 * at) 0 ∷ slice_index_or text (2 * at + 1) 0 ∷ drop (2 * (at + 1)) text
drop_pair text at fits =
    let a = drop_more text (2 * at) 0 (omega arith) in
    let b = drop_more text (2 * at + 1) 0 (omega arith) in
    let two : 2 * at + 1 + 1 ≡ 2 * (at + 1) = omega arith in
    rw (a, b, two) refl

-- a value that is a digit's
small : (value : ℕ) → nat_le 16 value ≡ false → value < 16
small value is = grind (arith, is)

-- one pair more
pub one_more : (text out : List ℕ) (at high low : ℕ) (m n both : Bool) → 2 * at + 1 < length text → at < length out
    → IsDigit (slice_index_or text (2 * at) 0) (nat_le 16 high) high
    → IsDigit (slice_index_or text (2 * at + 1) 0) (nat_le 16 low) low
    → both ≡ (nat_le 16 high || nat_le 16 low) → n ≡ (m || both)
    → pairs_of text ≡ joined m (take at out) (pairs_of (drop (2 * at) text))
    → pairs_of text
    ≡ joined n (take (at + 1) (slice_set out at (high % 16 * 16 + low % 16))) (pairs_of (drop (2 * (at + 1)) text))
one_more text out at high low m n both fits room first second is_both is_n so_far =
    let rest = pairs_of (drop (2 * (at + 1)) text) in
    let byte = high % 16 * 16 + low % 16 in
    let value : (nat_le 16 high ≡ false → nat_le 16 low ≡ false → byte ≡ high * 16 + low)
    = λ h l. omega (arith, small high h, small low l) in
    let pair = joined_pair m (nat_le 16 high) (nat_le 16 low) (slice_index_or text (2 * at) 0)
    (slice_index_or text (2 * at + 1) 0) high low byte (take at out) rest first second value in
    rw (take_more_set out at byte room, is_n, is_both)
    (so_far ∙ ap (λ (left : List ℕ). joined m (take at out) (pairs_of left)) (drop_pair text at fits) ∙ pair)

abbrev no_bytes : Option (List ℕ)
no_bytes = None

-- nothing before nothing
none_behind : (r : Option ℕ) → (r >>= λ v. no_bytes >>= λ bytes. Some (v ∷ bytes)) ≡ no_bytes
none_behind (Some v) = refl
none_behind None = refl

-- a digit that is left over
pub odd_pairs : (text : List ℕ) → length text % 2 ≢ 0 → pairs_of text ≡ None
odd_pairs [] is = absurd (is refl)
odd_pairs (a ∷ []) is = refl
odd_pairs (a ∷ b ∷ rest) is = let e = odd_pairs rest (omega (arith, is)) in rw e (none_behind (pair_of a b))
