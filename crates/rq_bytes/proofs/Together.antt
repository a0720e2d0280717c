-- The laws of readers that are put together, and of lists with their counts in front.
use Rattle.std.proofs.Common.{◌≡◌, ℕ, ◌<◌, cond, eqb, Bool, List, [], ◌∷◌, ◌++◌, length, Some, None, refl, sym, ap}
use Rattle.std.proofs.Common.{subst, ◌∙◌, append_assoc, arith, inl, inr, zero, suc, ◌^◌, drop}
use Rattle.std.specs.Prelude.{IsTrue}
use Rattle.std.proofs.lemmas.Bool.{eqb-true}
use Rattle.std.proofs.lemmas.List.{append-nil, nil_from_length}
use Rattle.std.proofs.lemmas.Option.{same_Some}
use Rattle.std.specs.List.{flat_map, AllByRecursion}
use Rattle.std.specs.Int.{w32, to_be_bytes}
use Rattle.std.proofs.lemmas.List.Concat.{flat_map-cons}
use Rattle.rq_bytes.specs.Readers.{Reader, ◌>>=◌, byte, ◌then◌, sized, made, tested, alone, tagged, case, no_case}
use Rattle.rq_bytes.specs.Readers.{IsBytes, Takes, Reads, Any, End, Both, joined, members, counted_members}
use Rattle.rq_bytes.proofs.Single.{bind_some, guard_some, chosen, reads_byte, reads_piece, reads_ending, reads_nothing}
use Rattle.rq_bytes.proofs.Single.{reads_u32}

-- what make builds, behind what stands in front
made_takes : {X Y : Type 0} {P : X → Type 0} {s : X → List ℕ} {Q : Y → Type 0} {t : Y → List ℕ}
    {Ends : List ℕ → Type 0} {r : Reader X} (front : List ℕ) (make : X → Y)
    → Reads P s Ends r → ((x : X) → P x → Q (make x) × (front ++ s x ≡ t (make x))) → (bytes : List ℕ) (y : Y × List ℕ)
    → IsBytes bytes → made make r bytes ≡ Some y → Takes Q t Ends (front ++ bytes) y
made_takes {X} {Y} {P} {s} {Q} {t} {Ends} {r} front make reads there bytes y fits e =
    let a = bind_some (r bytes) (λ u. Some (make u.0, u.1)) y e in
    let h = reads.takes bytes a.0 fits a.1 in
    let k = there a.0.0 h.fits in
    subst (Takes Q t Ends (front ++ bytes)) (same_Some _ _ a.2) (record {
      parts = ap (λ (c : List ℕ). front ++ c) h.parts ∙ sym (append_assoc front (s a.0.0) a.0.1)
          ∙ ap (λ (c : List ℕ). c ++ a.0.1) k.1;
      fits = k.0;
      rest_fits = h.rest_fits;
      ends = h.ends;
    })

-- what make builds, and fields takes apart again
pub reads_made : {X Y : Type 0} {P : X → Type 0} {s : X → List ℕ} {Q : Y → Type 0} {t : Y → List ℕ}
    {Ends : List ℕ → Type 0} {r : Reader X} (make : X → Y) (fields : Y → X)
    → ((x : X) → P x → Q (make x) × (s x ≡ t (make x))) → ((y : Y) → Q y → P (fields y) × (make (fields y) ≡ y))
    → Reads P s Ends r → Reads Q t Ends (made make r)
reads_made {X} {Y} {P} {s} {Q} {t} {Ends} {r} make fields there back reads = record {
  takes = made_takes [] make reads there;
  again = λ y rest fits ends.
      let b = back y fits in
      let spelled : t y ≡ s (fields y) = ap t (sym b.1) ∙ sym ((there (fields y) b.0).1) in
      ap (λ (c : List ℕ). made make r (c ++ rest)) spelled ∙ rw (reads.again (fields y) rest b.0 ends, b.1) refl;
}

-- a value, and behind it another that it calls for
pub reads_bind : {X Y : Type 0} {P : X → Type 0} {s : X → List ℕ} {r : Reader X} {Q : X → Y → Type 0}
    {t : X → Y → List ℕ} {Ends : List ℕ → Type 0} {q : X → Reader Y} {R : Y → Type 0} {u : Y → List ℕ}
    → Reads P s Any r → ((x : X) → Reads (Q x) (t x) Ends (q x))
    → ((x : X) (y : Y) → P x → Q x y → R y × (s x ++ t x y ≡ u y)) → ((y : Y) → R y → (x : X) × P x × Q x y)
    → Reads R u Ends (λ bytes. r bytes >>= λ x. q x.0 x.1)
reads_bind {X} {Y} {P} {s} {r} {Q} {t} {Ends} {q} one two there back = record {
  takes = λ bytes y fits e.
      let a = bind_some (r bytes) (λ x. q x.0 x.1) y e in
      let h = one.takes bytes a.0 fits a.1 in
      let k = (two a.0.0).takes a.0.1 y h.rest_fits a.2 in
      let w = there a.0.0 y.0 h.fits k.fits in
      record {
        parts = h.parts ∙ ap (λ (c : List ℕ). s a.0.0 ++ c) k.parts ∙ sym (append_assoc (s a.0.0) (t a.0.0 y.0) y.1)
            ∙ ap (λ (c : List ℕ). c ++ y.1) w.1;
        fits = w.0;
        rest_fits = k.rest_fits;
        ends = k.ends;
      };
  again = λ y rest fits ends.
      let (x, p, h) = back y fits in
      rw (← (there x y p h).1, append_assoc (s x) (t x y) rest, one.again x (t x y ++ rest) p tt)
      ((two x).again y rest h ends);
}

pub reads_then : {X Y : Type 0} {P : X → Type 0} {s : X → List ℕ} {r : Reader X} {Q : Y → Type 0} {t : Y → List ℕ}
    {Ends : List ℕ → Type 0} {q : Reader Y} → Reads P s Any r → Reads Q t Ends q
    → Reads (Both P Q) (joined s t) Ends (r then q)
reads_then {X} {Y} {P} {s} {r} {Q} {t} {Ends} {q} one two =
    reads_bind {Q = λ x p. (x ≡ p.0) × Q p.1} {t = λ x p. t p.1} one
    (λ x. reads_made (λ y. (x, y)) (λ p. p.1) (λ y fits. ((refl, fits), refl)) (λ p h. (h.1, λ i. (h.0 i, p.1))) two)
    (λ x p fits h. ((subst P h.0 fits, h.1), ap (λ (z : X). s z ++ t p.1) h.0)) (λ p h. (p.0, h.0, (refl, h.1)))

pub reads_sized : {n : ℕ} {write : ℕ → List ℕ} {r : Reader ℕ} → Reads (λ x. x < n) write Any r
    → Reads (λ (p : List ℕ). length p < n) (λ p. write (length p) ++ p) Any (sized r)
reads_sized {n} {write} {r} reads =
    reads_bind reads reads_piece
    (λ size p lt len. (omega (arith, len, lt), ap (λ (k : ℕ). write k ++ p) (sym len))) (λ p lt. (length p, lt, refl))

pub reads_tested : {X : Type 0} {P : X → Type 0} {s : X → List ℕ} {Ends : List ℕ → Type 0} {test : X → Bool}
    {r : Reader X} → Reads P s Ends r → Reads (λ x. P x × IsTrue (test x)) s Ends (tested test r)
reads_tested {X} {P} {s} {Ends} {test} {r} reads = record {
  takes = λ bytes x fits e.
      let a = bind_some (r bytes) (λ u. cond (test u.0) (Some u) None) x e in
      let g = guard_some (test a.0.0) a.0 x a.2 in
      let h = reads.takes bytes a.0 fits a.1 in
      subst (Takes (λ x. P x × IsTrue (test x)) s Ends bytes) g.1
      (record { parts = h.parts; fits = (h.fits, g.0); rest_fits = h.rest_fits; ends = h.ends });
  again = λ x rest fits ends. rw (reads.again x rest fits.0 ends, fits.1) refl;
}

pub reads_alone : {X : Type 0} {P : X → Type 0} {s : X → List ℕ} {r : Reader X} → Reads P s Any r
    → Reads P s End (alone r)
reads_alone {X} {P} {s} {r} reads =
    reads_bind {Q = λ x y. x ≡ y} {t = λ x y. []} reads
    (λ x. reads_made (λ e. x) (λ y. tt) (λ e fits. (refl, refl)) (λ y same. (tt, same)) reads_ending)
    (λ x y fits same. (subst P same fits, append-nil (s x) ∙ ap s same)) (λ y fits. (y, fits, refl))

-- the same law in other words
pub alike : {X : Type 0} {P : X → Type 0} {s : X → List ℕ} {Ends : List ℕ → Type 0} {r : Reader X} (Q : X → Type 0)
    → ((x : X) → P x → Q x) → ((x : X) → Q x → P x) → Reads P s Ends r → Reads Q s Ends r
alike Q there back h = record {
  takes = λ bytes x fits e.
      let k = h.takes bytes x fits e in
      record { parts = k.parts; fits = there x.0 k.fits; rest_fits = k.rest_fits; ends = k.ends };
  again = λ x rest fits ends. h.again x rest (back x fits) ends;
}

-- Values by cases.

-- what is read after a byte was spelled that way, with the byte in front
abbrev pub TakesBehind : {X : Type 0} → (X → Type 0) → (X → List ℕ) → (List ℕ → Type 0) → (ℕ → Reader X) → Type 0
TakesBehind {X} P s Ends behind = (n : ℕ) (bytes : List ℕ) (x : X × List ℕ) → IsBytes bytes → behind n bytes ≡ Some x
    → Takes P s Ends (n ∷ bytes) x

pub in_no_case : {X : Type 0} {P : X → Type 0} {s : X → List ℕ} {Ends : List ℕ → Type 0} → TakesBehind P s Ends no_case
in_no_case n bytes x fits e = absurd cc

-- what make builds, after this byte
pub at_byte : {X Y : Type 0} {P : X → Type 0} {s : X → List ℕ} {Q : Y → Type 0} {t : Y → List ℕ}
    {Ends : List ℕ → Type 0} {r : Reader X} (n : ℕ) (make : X → Y)
    → Reads P s Ends r → ((x : X) → P x → Q (make x) × (n ∷ s x ≡ t (make x))) → (bytes : List ℕ) (y : Y × List ℕ)
    → IsBytes bytes → made make r bytes ≡ Some y → Takes Q t Ends (n ∷ bytes) y
at_byte n make reads there = made_takes (n ∷ []) make reads there

pub in_case : {X Y : Type 0} {P : X → Type 0} {s : X → List ℕ} {Q : Y → Type 0} {t : Y → List ℕ}
    {Ends : List ℕ → Type 0} {r : Reader X} {others : ℕ → Reader Y} (k : ℕ) (make : X → Y)
    → Reads P s Ends r → ((x : X) → P x → Q (make x) × (k ∷ s x ≡ t (make x))) → TakesBehind Q t Ends others
    → TakesBehind Q t Ends (case k (made make r) others)
in_case {X} {Y} {P} {s} {Q} {t} {Ends} {r} {others} k make reads there rest n bytes y fits e =
    elim (chosen (eqb n k) (made make r bytes) (others n bytes) (Some y) e) [
      | inl this ↦ subst (λ (m : ℕ). Takes Q t Ends (m ∷ bytes) y) (sym (eqb-true n k this.0))
          (at_byte k make reads there bytes y fits this.1)
      | inr other ↦ rest n bytes y fits other.1
    ]

pub again_made : {X Y : Type 0} {P : X → Type 0} {s : X → List ℕ} {Ends : List ℕ → Type 0} {r : Reader X} (make : X → Y)
    → Reads P s Ends r → (x : X) (rest : List ℕ) → P x → Ends rest → made make r (s x ++ rest) ≡ Some (make x, rest)
again_made make reads x rest fits ends = rw (reads.again x rest fits ends) refl

pub reads_tagged : {X : Type 0} {P : X → Type 0} {s : X → List ℕ} {Ends : List ℕ → Type 0} {behind : ℕ → Reader X}
    → TakesBehind P s Ends behind
    → ((x : X) (rest : List ℕ) → P x → Ends rest → tagged behind (s x ++ rest) ≡ Some (x, rest))
    → Reads P s Ends (tagged behind)
reads_tagged {X} {P} {s} {Ends} {behind} cases again = record {
  takes = λ bytes x fits e.
      let a = bind_some (byte bytes) (λ n. behind n.0 n.1) x e in
      let h = reads_byte.takes bytes a.0 fits a.1 in
      let k = cases a.0.0 a.0.1 x h.rest_fits a.2 in
      record { parts = h.parts ∙ k.parts; fits = k.fits; rest_fits = k.rest_fits; ends = k.ends };
  again = again;
}

-- What follows.

-- what a reader of all bytes reads is what they spell
pub spelled_by : {X : Type 0} {P : X → Type 0} {s : X → List ℕ} {r : Reader X} (bytes : List ℕ) (x : X × List ℕ)
    → Reads P s End r → IsBytes bytes → r bytes ≡ Some x → P x.0 × (bytes ≡ s x.0)
spelled_by {X} {P} {s} bytes x reads fits e = let h = reads.takes bytes x fits e in
    (h.fits, h.parts ∙ ap (λ (c : List ℕ). s x.0 ++ c) h.ends ∙ append-nil (s x.0))

pub read_again : {X : Type 0} {P : X → Type 0} {s : X → List ℕ} {r : Reader X} (bytes : List ℕ) (x : X)
    → Reads P s End r → P x → bytes ≡ s x → r bytes ≡ Some (x, [])
read_again {X} {P} {s} {r} bytes x reads fits e = ap r (e ∙ sym (append-nil (s x))) ∙ reads.again x [] fits refl

-- and they spell one value
pub spells_one : {X : Type 0} {P : X → Type 0} {s : X → List ℕ} {r : Reader X} → Reads P s End r → (x y : X) → P x → P y
    → s x ≡ s y → x ≡ y
spells_one {X} {P} {s} {r} reads x y p q e = let same : ◌≡◌ {A = X × List ℕ} (x, []) (y, []) =
    same_Some _ _ (sym (read_again (s x) x reads p refl) ∙ read_again (s x) y reads q e) in λ i. (same i).0

-- this many, each with P
abbrev AreMembers : {X : Type 0} → (X → Type 0) → ℕ → List X → Type 0
AreMembers P n xs = (length xs ≡ n) × AllByRecursion P xs

-- x, and this many behind it
abbrev Begins : {X : Type 0} → (X → Type 0) → ℕ → X → List X → Type 0
Begins P n x xs = (x ∷ drop 1 xs ≡ xs) × AreMembers P n (drop 1 xs)

begins : {X : Type 0} {P : X → Type 0} (n : ℕ) (xs : List X) → AreMembers P (suc n) xs
    → (x : X) × P x × Begins P n x xs
begins n [] h = absurd (omega (arith, h.0))
begins n (x ∷ xs) h = (x, h.1.0, (refl, (omega (arith, h.0), h.1.1)))

reads_members : {X : Type 0} {P : X → Type 0} {s : X → List ℕ} {r : Reader X} (n : ℕ) → Reads P s Any r
    → Reads (AreMembers P n) (flat_map s) Any (members r n)
unfolding members
reads_members zero reads =
    reads_made (λ e. []) (λ xs. tt) (λ e fits. ((refl, tt), refl)) (λ xs h. (tt, sym (nil_from_length xs h.0)))
    reads_nothing
reads_members {X} {P} {s} (suc n) reads =
    reads_bind {Q = Begins P n} {t = λ x xs. flat_map s (drop 1 xs)} reads
    (λ x. reads_made (λ others. x ∷ others) (drop 1) (λ others h. ((refl, h), refl)) (λ xs h. (h.1, h.0))
    (reads_members n reads))
    (λ x xs fits h.
    subst (λ (ys : List X). AreMembers P (suc n) ys × (s x ++ flat_map s (drop 1 xs) ≡ flat_map s ys)) h.0
    ((ap suc h.1.0, (fits, h.1.1)), sym (flat_map-cons s x (drop 1 xs)))) (begins n)

-- fewer than 2 ^ 32, each with P
abbrev pub AreCounted : {X : Type 0} → (X → Type 0) → List X → Type 0
AreCounted P xs = (length xs < 2 ^ 32) × AllByRecursion P xs

pub reads_counted : {X : Type 0} {P : X → Type 0} {s : X → List ℕ} {r : Reader X} → Reads P s Any r
    → Reads (AreCounted P) (λ (xs : List X). to_be_bytes w32 (length xs) ++ flat_map s xs) Any (counted_members r)
unfolding counted_members
reads_counted {X} {P} {s} reads =
    reads_bind reads_u32 (λ n. reads_members n reads)
    (λ n xs lt h. ((omega (arith, h.0, lt), h.1), ap (λ (k : ℕ). to_be_bytes w32 k ++ flat_map s xs) (sym h.0)))
    (λ xs h. (length xs, h.0, (refl, h.1)))
