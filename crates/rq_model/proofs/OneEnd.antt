-- Frames that end with the same 32 bytes are the same from the end on, up to two messages with one digest.
use Rattle.std.proofs.Common.{◌≡◌, ◌⊎◌, inl, inr, ℕ, zero, suc, ◌≤◌, true, false, List, [], ◌∷◌, ◌++◌, length, take, drop}
use Rattle.std.proofs.Common.{refl, sym, ap, subst, ◌∙◌, append_assoc, arith}
use Rattle.std.specs.List.{AllByRecursion}
use Rattle.std.specs.Int.{w32, to_be_bytes}
use Rattle.std.specs.Str.{bytes_eq}
use Rattle.std.proofs.lemmas.List.{take_at, drop_at, length-append, append-nil, nil_from_length}
use Rattle.std.proofs.lemmas.Slice.Eq.{bytes_eq-Decides}
use Rattle.sha2.specs.Sha256.{sha256}
use Rattle.rq_model.specs.Records.{Record, Version, One, Two}
use Rattle.rq_model.specs.Spelling.{body_of, IsRecord}
use Rattle.rq_model.specs.Frames.{last, magic, start, bodies_of, log_of}
use Rattle.rq_model.specs.Tampering.{message, IsHashed, IsHashedIn, Collision, IsLaterPart, FramesWithOneEnd}
use Rattle.rq_model.specs.Tampering.{RecordsWithOneEnd, TamperingShows, LinkWitnesses, FilesWithOneEnd}
use Rattle.rq_model.proofs.Lists.{by_cases}
use Rattle.rq_model.proofs.RecordReaders.{one_record}
use Rattle.rq_model.proofs.Runs.{last_at_end, last_join, length-sha256}
use Rattle.rq_model.proofs.Restarts.{at_both}
use Rattle.rq_model.proofs.FilesTogether.{all_together}

-- a list has no member, or a last one
from_end : {X : Type 0} (xs : List X) → (xs ≡ []) ⊎ ((front : List X) × (x : X) × (xs ≡ front ++ x ∷ []))
from_end [] = inl refl
from_end (x ∷ xs) = elim (from_end xs) [
  | inl none ↦ inr ([], x, ap (λ (z : List _). x ∷ z) none)
  | inr some ↦ inr (x ∷ some.0, some.1, ap (λ (z : List _). x ∷ z) some.2)
]

last_long : (p : List ℕ) (a : List (List ℕ)) → length p ≡ 32 → length (last p a) ≡ 32
last_long p a long = (last_at_end [] p a long).2

-- equal messages are of one body, after the same 32 bytes
one_message : (p q x y : List ℕ) → length p ≡ 32 → length q ≡ 32 → message p x ≡ message q y → (p ≡ q) × (x ≡ y)
one_message p q x y long too e =
    let m : List ℕ = to_be_bytes w32 (length x) in
    let n : List ℕ = to_be_bytes w32 (length y) in
    let behind : (p ++ m) ++ x ≡ (q ++ n) ++ y = append_assoc p m x ∙ e ∙ sym (append_assoc q n y) in (
      sym (take_at p (m ++ x) 32 long) ∙ ap (take 32) e ∙ take_at q (n ++ y) 32 too,
      sym (drop_at (p ++ m) x 36 (omega (arith, length-append p m, long))) ∙ ap (drop 36) behind
          ∙ drop_at (q ++ n) y 36 (omega (arith, length-append q n, too)),
    )

-- what comes of two runs of frames with one end
abbrev Outcome : List ℕ → List (List ℕ) → List ℕ → List (List ℕ) → Type 0
Outcome p a q b = Collision (IsHashed p a) (IsHashed q b) ⊎ (IsLaterPart p a q b ⊎ IsLaterPart q b p a)

hashed_longer : (p m x : List ℕ) (a : List (List ℕ)) → IsHashed p a m → IsHashed p (a ++ x ∷ []) m
hashed_longer p m x a (earlier, later, body, whole, is) = (
  earlier,
  later ++ x ∷ [],
  body,
  ap (λ (z : List (List ℕ)). z ++ x ∷ []) whole ∙ append_assoc earlier (body ∷ later) (x ∷ []),
  is,
)

later_longer : (p q x y : List ℕ) (a b : List (List ℕ)) → x ≡ y → IsLaterPart p a q b
    → IsLaterPart p (a ++ x ∷ []) q (b ++ y ∷ [])
later_longer p q x y a b same (earlier, whole, ends) = (
  earlier,
  ap (λ (z : List (List ℕ)). z ++ x ∷ []) whole ∙ append_assoc earlier b (x ∷ [])
      ∙ ap (λ (z : List ℕ). earlier ++ (b ++ z ∷ [])) same,
  ends,
)

outcome_longer : (p q x y : List ℕ) (a b : List (List ℕ)) → x ≡ y → Outcome p a q b
    → Outcome p (a ++ x ∷ []) q (b ++ y ∷ [])
outcome_longer p q x y a b same (inl c) = inl (record {
  one = c.one;
  other = c.other;
  is = hashed_longer p c.one x a c.is;
  is_other = hashed_longer q c.other y b c.is_other;
  differ = c.differ;
  same = c.same;
})
outcome_longer p q x y a b same (inr (inl later)) = inr (inl (later_longer p q x y a b same later))
outcome_longer p q x y a b same (inr (inr later)) = inr (inr (later_longer q p y x b a (sym same) later))

-- the last frames of both
last_frames : (p q x y : List ℕ) (a b : List (List ℕ)) → length p ≡ 32 → length q ≡ 32
    → last p (a ++ x ∷ []) ≡ last q (b ++ y ∷ []) → (last p a ≡ last q b → Outcome p a q b)
    → Outcome p (a ++ x ∷ []) q (b ++ y ∷ [])
last_frames p q x y a b long too e before =
    let m = message (last p a) x in
    let n = message (last q b) y in
    let same : sha256 m ≡ sha256 n = sym (last_join p a (x ∷ [])) ∙ e ∙ last_join q b (y ∷ []) in
    by_cases (bytes_eq m n) (λ t. bytes_eq m n ≡ t → Outcome p (a ++ x ∷ []) q (b ++ y ∷ []))
    (λ _ equal.
    let both = one_message (last p a) (last q b) x y (last_long p a long) (last_long q b too)
    ((bytes_eq-Decides m n).0 equal) in
    outcome_longer p q x y a b both.1 (before both.0))
    (λ _ unequal. inl (record {
      one = m;
      other = n;
      is = (a, [], x, refl, refl);
      is_other = (b, [], y, refl, refl);
      differ = λ is. no_true (sym ((bytes_eq-Decides m n).1 is) ∙ unequal);
      same = same;
    })) refl
  where
    no_true : true ≡ false → ⊥
    no_true e = cc

all_later : (p q : List ℕ) (b : List (List ℕ)) → p ≡ last q b → IsLaterPart q b p []
all_later p q b e = (b, sym (append-nil b), sym e)

one_end : (n : ℕ) (p q : List ℕ) (a b : List (List ℕ)) → length a ≤ n → length p ≡ 32 → length q ≡ 32
    → last p a ≡ last q b → Outcome p a q b
one_end zero p q a b few long too e =
    let none : a ≡ [] = nil_from_length a (omega (arith, few)) in
    let ends : p ≡ last q b = sym (ap (last p) none) ∙ e in
    subst (λ (z : List (List ℕ)). Outcome p z q b) (sym none) (inr (inr (all_later p q b ends)))
one_end (suc n) p q a b few long too e = elim (from_end a) [
  | inl none ↦
      subst (λ (z : List (List ℕ)). Outcome p z q b) (sym none)
      (inr (inr (all_later p q b (sym (ap (last p) none) ∙ e))))
  | inr some ↦ elim (from_end b) [
    | inl none ↦
        subst (λ (z : List (List ℕ)). Outcome p a q z) (sym none)
        (inr (inl (all_later q p a (sym (e ∙ ap (last q) none)))))
    | inr more ↦
        let size = length-append some.0 (some.1 ∷ []) in
        at_both (λ (u v : List (List ℕ)). Outcome p u q v) a (some.0 ++ some.1 ∷ []) b (more.0 ++ more.1 ∷ [])
        some.2 more.2
        (last_frames p q some.1 more.1 some.0 more.0 long too
        (sym (ap (last p) some.2) ∙ e ∙ ap (last q) more.2)
        (λ ends. one_end n p q some.0 more.0 (omega (arith, few, size, ap length some.2)) long too ends))
  ]
]

pub frames_with_one_end : FramesWithOneEnd
frames_with_one_end p q a b long too e = one_end (length a) p q a b (omega arith) long too e

-- Records.

abbrev Same : Version → Version → List Record → List Record → Type 0
Same v w a b = Collision (IsHashedIn v a) (IsHashedIn w b) ⊎ ((v ≡ w) × (a ≡ b))

turned : (v w : Version) (a b : List Record) → Same w v b a → Same v w a b
turned v w a b (inl c) = inl (record {
  one = c.other;
  other = c.one;
  is = c.is_other;
  is_other = c.is;
  differ = λ e. c.differ (sym e);
  same = sym c.same;
})
turned v w a b (inr same) = inr (sym same.0, sym same.1)

same_bodies : (version : Version) (a b : List Record) → AllByRecursion (IsRecord version) a
    → AllByRecursion (IsRecord version) b → bodies_of a ≡ bodies_of b → a ≡ b
same_bodies version [] [] h k e = refl
same_bodies version [] (o ∷ os) h k e = absurd cc
same_bodies version (r ∷ rs) [] h k e = absurd cc
same_bodies version (r ∷ rs) (o ∷ os) h k e =
    let here : body_of r ≡ body_of o = cc in
    let more : bodies_of rs ≡ bodies_of os = cc in
    let first = one_record version r o (body_of r) (h.0, refl) (k.0, here) in
    let others = same_bodies version rs os h.1 k.1 more in
    (λ i. first i ∷ others i)

-- no version has another's header, or the two are a collision
headers : (v w : Version) → (v ≡ w) ⊎ (magic v ≡ magic w → ⊥)
headers One One = inl refl
headers Two Two = inl refl
headers One Two = inr (λ e. cc)
headers Two One = inr (λ e. cc)

-- no frame's message is a header's
too_long : (p body : List ℕ) (w : Version) → length p ≡ 32 → message p body ≡ magic w → ⊥
too_long p body w long e =
    let n : List ℕ = to_be_bytes w32 (length body) in
    omega (arith, ap length e, length-append p (n ++ body), long, length-magic w)
  where
    length-magic : (v : Version) → length (magic v) ≡ 8
    length-magic v = refl

-- the frames of b are the later part of those of a: b begins with a header, so they are all
later_is_all : (v w : Version) (a b : List Record) → AllByRecursion (IsRecord v) a → AllByRecursion (IsRecord w) b
    → IsLaterPart (start v) (bodies_of a) (start w) (bodies_of b) → Same v w a b
later_is_all v w a b are others_are (earlier, whole, ends) = elim (from_end earlier) [
  | inl none ↦
      let starts : start v ≡ start w = sym (ap (last (start v)) none) ∙ ends in
      let bodies : bodies_of a ≡ bodies_of b = whole ∙ ap (λ (z : List (List ℕ)). z ++ bodies_of b) none in
      elim (headers v w) [
        | inl same ↦ inr (
          same,
          same_bodies v a b are
              (subst (λ (u : Version). AllByRecursion (IsRecord u) b) (sym same) others_are) bodies,
        )
        | inr differ ↦ inl (record {
          one = magic v;
          other = magic w;
          is = inl refl;
          is_other = inl refl;
          differ = differ;
          same = starts;
        })
      ]
  | inr some ↦
      let p = last (start v) some.0 in
      let there : bodies_of a ≡ some.0 ++ some.1 ∷ bodies_of b =
      whole ∙ ap (λ (z : List (List ℕ)). z ++ bodies_of b) some.2
      ∙ append_assoc some.0 (some.1 ∷ []) (bodies_of b) in
      let same : sha256 (message p some.1) ≡ sha256 (magic w) =
      sym (last_join (start v) some.0 (some.1 ∷ [])) ∙ sym (ap (last (start v)) some.2) ∙ ends in
      inl (record {
        one = message p some.1;
        other = magic w;
        is = inr (some.0, bodies_of b, some.1, there, refl);
        is_other = inl refl;
        differ = too_long p some.1 w (last_long (start v) some.0 (length-sha256 (magic v)));
        same = same;
      })
]

pub records_with_one_end : RecordsWithOneEnd
records_with_one_end v w a b are others_are e = elim (frames_with_one_end (start v) (start w) (bodies_of a) (bodies_of b)
    (length-sha256 (magic v)) (length-sha256 (magic w)) e) [
      | inl c ↦ inl (record {
        one = c.one;
        other = c.other;
        is = inr c.is;
        is_other = inr c.is_other;
        differ = c.differ;
        same = c.same;
      })
      | inr (inl later) ↦ later_is_all v w a b are others_are later
      | inr (inr later) ↦ turned v w a b (later_is_all w v b a others_are are later)
    ]

pub tampering_shows : TamperingShows
tampering_shows b c v w records others rest left front other ends differ =
    elim (records_with_one_end v w records others front.longest.begins.records other.longest.begins.records ends) [
      | inl found ↦ found
      | inr same ↦ absurd (differ (λ i. log_of (same.0 i) (same.1 i)))
    ]

pub link_witnesses : LinkWitnesses
link_witnesses b c new offset v w records others rest left front other link same_link =
    records_with_one_end v w records others front.longest.begins.records other.longest.begins.records
    (sym link ∙ same_link)

pub files_with_one_end : FilesWithOneEnd
files_with_one_end v w log old files others newest other a b h k ends =
    records_with_one_end v w a b (all_together v log files newest a h).records
    (all_together w old others other b k).records ends
