-- The laws of single readers.
use Rattle.std.proofs.Common.{◌≡◌, ℕ, suc, ◌+◌, ◌^◌, ◌<◌, ◌≤◌, Bool, true, false, cond, ltb, eqb, List, [], ◌∷◌, ◌++◌}
use Rattle.std.proofs.Common.{length, take, drop, Option, Some, None, refl, sym, ap, ◌∙◌, subst, arith, inl, inr, ◌⊎◌}
use Rattle.std.specs.Prelude.{⊤}
use Rattle.std.specs.Int.{w16, w32, w64, to_be_bytes}
use Rattle.std.proofs.lemmas.Bool.{cases_lt, ltb-false, le-ltb, eqb-true}
use Rattle.std.proofs.lemmas.List.{nil_from_length, take_at, drop_at, take-append-drop, append-nil, length-append}
use Rattle.std.proofs.lemmas.List.{length-take, get_or-drop, get_or-take, get_or_past}
use Rattle.std.proofs.lemmas.Nat.{be_bytes_2, be_bytes_4, be_bytes_8}
use Rattle.byteorder.specs.Endian.{big_number, big_bytes}
use Rattle.byteorder.specs.Numbers.{big_number-reads_back, big_from-lt, big_from-take, length-bytes_high_first}
use Rattle.rq_bytes.specs.Readers.{◌>>=◌, byte, number, piece, all, nothing, ending, IsBytes, Takes, Reads, Any, End}

pub IsBytes-drop : (n : ℕ) (bytes : List ℕ) → IsBytes bytes → IsBytes (drop n bytes)
IsBytes-drop n bytes h i = rw get_or-drop (h (n + i))

pub IsBytes-take : (n : ℕ) (bytes : List ℕ) → IsBytes bytes → IsBytes (take n bytes)
IsBytes-take n bytes h i =
    elim (cases_lt i n) [
      | inl lt ↦ rw (get_or-take n bytes i 0 lt) (h i)
      | inr le ↦ rw (get_or_past (take n bytes) i 0 (omega (arith, length-take n bytes))) (omega arith)
    ]

-- the value of a step that did not fail
pub bind_some : {A B : Type 0} (o : Option A) (f : A → Option B) (y : B) → (o >>= f) ≡ Some y
    → (x : A) × (o ≡ Some x) × (f x ≡ Some y)
bind_some (Some x) f y e = (x, refl, e)
bind_some None f y e = absurd cc

-- tests that did not fail
guard_past : {A : Type 0} (b : Bool) (x y : A) → cond b None (Some x) ≡ Some y → (b ≡ false) × (x ≡ y)
guard_past true x y e = absurd cc
guard_past false x y e = (refl, cc)

pub guard_some : {A : Type 0} (b : Bool) (x y : A) → cond b (Some x) None ≡ Some y → (b ≡ true) × (x ≡ y)
guard_some true x y e = (refl, cc)
guard_some false x y e = absurd cc

pub chosen : {A : Type 0} (b : Bool) (x y z : A) → cond b x y ≡ z → ((b ≡ true) × (x ≡ z)) ⊎ ((b ≡ false) × (y ≡ z))
chosen true x y z e = inl (refl, e)
chosen false x y z e = inr (refl, e)

pub reads_byte : Reads (λ x. x < 2 ^ 8) (λ x. x ∷ []) Any byte
reads_byte = record { takes = takes; again = λ x rest fits ends. refl }
  where
    takes : (bytes : List ℕ) (x : ℕ × List ℕ) → IsBytes bytes → byte bytes ≡ Some x
        → Takes (λ x. x < 2 ^ 8) (λ x. x ∷ []) Any bytes x
    takes [] x fits e = absurd cc
    takes (b ∷ bytes) x fits e =
        let same : (b, bytes) ≡ x = cc in
        subst (Takes (λ x. x < 2 ^ 8) (λ x. x ∷ []) Any (b ∷ bytes)) same
        (record { parts = refl; fits = fits 0; rest_fits = λ i. fits (suc i); ends = tt })

-- a value of the first n bytes
reads_front : {X : Type 0} {P : X → Type 0} {s : X → List ℕ} (n : ℕ) (value : List ℕ → X)
    → ((bytes : List ℕ) → n ≤ length bytes → IsBytes bytes → P (value bytes) × (s (value bytes) ≡ take n bytes))
    → ((x : X) (rest : List ℕ) → P x → (length (s x) ≡ n) × (value (s x ++ rest) ≡ x))
    → Reads P s Any (λ bytes. cond (ltb (length bytes) n) None (Some (value bytes, drop n bytes)))
reads_front {X} {P} {s} n value there back = record {
  takes = λ bytes x fits e.
      let g = guard_past (ltb (length bytes) n) (value bytes, drop n bytes) x e in
      let k = there bytes (ltb-false _ _ g.0) fits in
      subst (Takes P s Any bytes) g.1 (record {
        parts = sym (take-append-drop n bytes) ∙ ap (λ (c : List ℕ). c ++ drop n bytes) (sym k.1);
        fits = k.0;
        rest_fits = IsBytes-drop n bytes fits;
        ends = tt;
      });
  again = λ x rest fits ends.
      let k = back x rest fits in
      let long : ltb (length (s x ++ rest)) n ≡ false = le-ltb _ _ (omega (arith, k.0, length-append (s x) rest)) in
      rw (long, drop_at (s x) rest n k.0, k.1) refl;
}

pub reads_piece : (n : ℕ) → Reads (λ (p : List ℕ). length p ≡ n) (λ p. p) Any (piece n)
reads_piece n = reads_front n (take n) (λ bytes long fits. (omega (arith, length-take n bytes), refl))
    (λ p rest len. (len, take_at p rest n len))

reads_number : (n : ℕ)
    → ((bytes : List ℕ) → length bytes ≡ n → IsBytes bytes → big_bytes n (big_number n bytes) ≡ bytes)
    → Reads (λ x. x < 256 ^ n) (big_bytes n) Any (number n)
reads_number n back =
    reads_front n (big_number n)
    (λ bytes long fits. (
      big_from-lt 0 n bytes fits,
      ap (big_bytes n) (sym (big_from-take 0 n n bytes (omega arith)))
          ∙ back (take n bytes) (omega (arith, length-take n bytes)) (IsBytes-take n bytes fits),
    ))
    (λ x rest lt. (length-bytes_high_first n x, big_number-reads_back n x rest lt))

pub reads_u16 : Reads (λ x. x < 2 ^ 16) (to_be_bytes w16) Any (number 2)
reads_u16 = reads_number 2 (λ bytes len fits. be_bytes_2 bytes (big_number 2 bytes) len fits (omega arith))

pub reads_u32 : Reads (λ x. x < 2 ^ 32) (to_be_bytes w32) Any (number 4)
reads_u32 = reads_number 4 (λ bytes len fits. be_bytes_4 bytes (big_number 4 bytes) len fits (omega arith))

pub reads_u64 : Reads (λ x. x < 2 ^ 64) (to_be_bytes w64) Any (number 8)
reads_u64 = reads_number 8 (λ bytes len fits. be_bytes_8 bytes (big_number 8 bytes) len fits (omega arith))

pub reads_all : Reads (λ (p : List ℕ). ⊤) (λ p. p) End all
reads_all = record {
  takes = λ bytes x fits e.
      let same : (bytes, []) ≡ x = cc in
      subst (Takes (λ (p : List ℕ). ⊤) (λ p. p) End bytes) same
      (record { parts = sym (append-nil bytes); fits = tt; rest_fits = λ i. omega arith; ends = refl });
  again = λ p rest fits ends. rw (ends, append-nil p) refl;
}

pub reads_nothing : Reads (λ (x : ⊤). ⊤) (λ x. []) Any nothing
reads_nothing = record {
  takes = λ bytes x fits e.
      let same : (tt, bytes) ≡ x = cc in
      subst (Takes (λ (x : ⊤). ⊤) (λ x. []) Any bytes) same
      (record { parts = refl; fits = tt; rest_fits = fits; ends = tt });
  again = λ x rest fits ends. refl;
}

pub reads_ending : Reads (λ (x : ⊤). ⊤) (λ x. []) End ending
reads_ending = record {
  takes = λ bytes x fits e.
      let g = guard_some (eqb (length bytes) 0) (tt, []) x e in
      subst (Takes (λ (x : ⊤). ⊤) (λ x. []) End bytes) g.1
      (record {
        parts = nil_from_length bytes (eqb-true _ _ g.0);
        fits = tt;
        rest_fits = λ i. omega arith;
        ends =
            refl;
      });
  again = λ x rest fits ends. rw ends refl;
}
