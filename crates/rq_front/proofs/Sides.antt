-- The frames whose digests are checked side by side.
use Rattle.std.proofs.Common.{◌≡◌, ℕ, ◌+◌, ◌-◌, ◌≤◌, ◌<◌, Bool, true, false, cond, List, [], ◌∷◌, ◌++◌, map, get_or}
use Rattle.std.proofs.Common.{length, take, sym, ap, subst, ◌∙◌, arith}
use Rattle.std.specs.Prelude.{All, not, nat_le, slice_range}
use Rattle.std.specs.List.{AllByRecursion, filter}
use Rattle.std.proofs.lemmas.List.{append-nil, get_or-map, length-map, map-append, take_more}
use Rattle.std.proofs.lemmas.List.Elements.{All-append, All-filter, All-from_recursion, filter-append}
use Rattle.std.proofs.lemmas.List.Elements.{recursion_from_All}
use Rattle.rq_model.proofs.Lists.{by_cases}
use Rattle.sha2.specs.Sha256.{sha256}
use Rattle.rq_lanes.specs.Messages as lanes
use Rattle.rq_lanes.specs.declared.lanes.Message.{Message}
use Rattle.rq_front.specs.Walks.{IsRight, IsSpanOf, has_turn, message_of}
use Rattle.rq_front.specs.declared.digests.Turn.{Turn}
use Rattle.rq_front.specs.declared.digests.Turn.TheVariants.{First, Second}
use Rattle.rq_front.specs.declared.spans.Span.{Span}
use Rattle.rq_bytes.specs.Readers.{IsBytes}
use Rattle.rq_front.proofs.Framing.{right_exactly}

-- if the lanes find the digest right, it is right
one_right : (b : List ℕ) → IsBytes b → (s : Span) → IsSpanOf b s → lanes.HasDigestBehind b (message_of s) → IsRight b s
one_right b bytes s is r =
    let at = s.start - 4 in
    let low : 32 ≤ at = omega (arith, is.after) in
    let to : at - 32 + (36 + s.len) ≡ at + 4 + s.len = omega (arith, low) in
    let end : at + 4 + s.len + 32 ≡ at + 36 + s.len = omega arith in
    let here : slice_range b (at - 32 + (36 + s.len)) (at - 32 + (36 + s.len) + 32)
    ≡ slice_range b (at + 4 + s.len) (at + 36 + s.len) =
    ap (λ (n : ℕ). slice_range b n (n + 32)) to ∙ ap (slice_range b (at + 4 + s.len)) end in
    let of : sha256 (slice_range b (at - 32) (at - 32 + (36 + s.len)))
    ≡ sha256 (slice_range b (at - 32) (at + 4 + s.len)) =
    ap (λ (n : ℕ). sha256 (slice_range b (at - 32) n)) to in
    (right_exactly b at s.len bytes low is.frame is.size).0 (sym (sym here ∙ r.digest ∙ of))

pub all_right : (b : List ℕ) → IsBytes b → (spans : List Span) → All (IsSpanOf b) spans
    → All (lanes.HasDigestBehind b) (map message_of spans) → All (IsRight b) spans
all_right b bytes spans are right = λ k d lt.
    let here = right k (message_of d) (omega (arith, lt, length-map spans message_of)) in
    one_right b bytes (get_or spans k d) (are k d lt)
    (subst (lanes.HasDigestBehind b) (get_or-map message_of spans k d (message_of d) lt) here)

-- what holds for two lists side by side holds for both
each_of_both : (P : Span → Type 0) (xs ys : List Span) → AllByRecursion P (xs ++ ys)
    → AllByRecursion P xs × AllByRecursion P ys
each_of_both P [] ys h = (tt, h)
each_of_both P (x ∷ xs) ys h = let rest = each_of_both P xs ys h.1 in ((h.0, rest.0), rest.1)

-- each frame has a turn
each_turn : (P : Span → Type 0) (spans : List Span) → AllByRecursion P (filter (has_turn First) spans)
    → AllByRecursion P (filter (has_turn Second) spans) → AllByRecursion P spans
each_turn P [] first second = tt
each_turn P (s ∷ ss) first second =
    by_cases (nat_le 16384 s.len)
    (λ t. AllByRecursion P (cond t (s ∷ filter (has_turn First) ss) (filter (has_turn First) ss))
    → AllByRecursion P (cond (not t) (s ∷ filter (has_turn Second) ss) (filter (has_turn Second) ss))
    → AllByRecursion P (s ∷ ss))
    (λ _ f r. (f.0, each_turn P ss f.1 r)) (λ _ f r. (r.0, each_turn P ss f r.1)) first second

-- so if the lanes find the digests of both turns right, all are
pub both_turns_right : (b : List ℕ) → IsBytes b → (spans : List Span) → All (IsSpanOf b) spans
    → All (lanes.HasDigestBehind b)
    (map message_of (filter (has_turn First) spans) ++ map message_of (filter (has_turn Second) spans))
    → All (IsRight b) spans
both_turns_right b bytes spans are right =
    let first : List Span = filter (has_turn First) spans in
    let second : List Span = filter (has_turn Second) spans in
    let of : All (IsSpanOf b) (first ++ second) =
    All-append (IsSpanOf b) first second (All-filter (has_turn First) (IsSpanOf b) spans are)
    (All-filter (has_turn Second) (IsSpanOf b) spans are) in
    let both : All (IsRight b) (first ++ second) =
    all_right b bytes (first ++ second) of
    (subst (All (lanes.HasDigestBehind b)) (sym (map-append message_of first second)) right) in
    let each = each_of_both (IsRight b) first second (recursion_from_All (IsRight b) (first ++ second) both) in
    All-from_recursion (IsRight b) spans (each_turn (IsRight b) spans each.0 each.1)

-- the messages of the frames up to an index that have a turn
abbrev pub of_turn : Turn → List Span → List Message
of_turn t spans = map message_of (filter (has_turn t) spans)

turn_more : (t : Turn) (spans : List Span) (i : ℕ) (d : Span) → i < length spans
    → of_turn t (take (i + 1) spans) ≡ of_turn t (take i spans) ++ of_turn t (get_or spans i d ∷ [])
turn_more t spans i d lt =
    ap (of_turn t) (take_more spans i d lt)
    ∙ ap (map message_of) (filter-append (has_turn t) (take i spans) (get_or spans i d ∷ []))
    ∙ map-append message_of (filter (has_turn t) (take i spans)) (filter (has_turn t) (get_or spans i d ∷ []))

-- one more of them
pub turn_taken : (t : Turn) (spans : List Span) (i : ℕ) (d : Span) → i < length spans
    → has_turn t (get_or spans i d) ≡ true
    → of_turn t (take (i + 1) spans) ≡ of_turn t (take i spans) ++ message_of (get_or spans i d) ∷ []
turn_taken t spans i d lt its =
    turn_more t spans i d lt
    ∙ ap (λ (c : Bool). of_turn t (take i spans) ++ map message_of (cond c (get_or spans i d ∷ []) [])) its

-- and one that has the other turn
pub turn_passed : (t : Turn) (spans : List Span) (i : ℕ) (d : Span) → i < length spans
    → has_turn t (get_or spans i d) ≡ false
    → of_turn t (take (i + 1) spans) ≡ of_turn t (take i spans)
turn_passed t spans i d lt its =
    turn_more t spans i d lt
    ∙ ap (λ (c : Bool). of_turn t (take i spans) ++ map message_of (cond c (get_or spans i d ∷ []) [])) its
    ∙ append-nil (of_turn t (take i spans))
