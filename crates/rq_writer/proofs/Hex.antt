-- Bytes in hexadecimal.
use Rattle.std.proofs.Common.{◌≡◌, ℕ, zero, suc, ◌+◌, ◌*◌, ◌/◌, ◌%◌, ◌<◌, false, List, [], ◌∷◌, ◌++◌, length, Option}
use Rattle.std.proofs.Common.{Some, refl, ap, ◌∙◌, arith, append_assoc}
use Rattle.std.specs.List.{flat_map}
use Rattle.std.specs.Fmt.{digit_glyph}
use Rattle.std.proofs.lemmas.Bool.Decides.{nat_tests}
use Rattle.std.proofs.lemmas.List.{length-append}
use Rattle.std.proofs.lemmas.Option.{same_Some}
use Rattle.rq_bytes.specs.Readers.{◌>>=◌}
use Rattle.rq_bytes.proofs.Single.{bind_some}
use Rattle.rq_model.specs.Frames.{AreBytes}
use Rattle.rq_model.specs.Reports as reports
use Rattle.rq_writer.specs.Reading.{digit_of, pair_of, pairs_of}

-- the pairs so far, and those of what is left
pub record Decoded (text front rest : List ℕ) : Type 0 where
  pub lengths : length text ≡ 2 * length front + length rest
  pub bytes : pairs_of text ≡ (pairs_of rest >>= λ more. Some (front ++ more))

bytes_more : (front : List ℕ) (b : ℕ) (o : Option (List ℕ))
    → ((o >>= λ bytes. Some (b ∷ bytes)) >>= λ more. Some (front ++ more))
    ≡ (o >>= λ more. Some ((front ++ b ∷ []) ++ more))
bytes_more front b o = grind (arith, append_assoc)

pub decoded_more : (text front rest after : List ℕ) (h l b : ℕ) → Decoded text front rest → rest ≡ h ∷ l ∷ after
    → pair_of h l ≡ Some b → Decoded text (front ++ b ∷ []) after
decoded_more text front rest after h l b d e p = record {
  lengths = omega (arith, d.lengths, ap length e, length-append front (b ∷ []));
  bytes = d.bytes ∙ ap (λ (r : List ℕ). pairs_of r >>= λ more. Some (front ++ more)) e
      ∙ ap (λ (o : Option ℕ). (o >>= λ x. pairs_of after >>= λ bytes. Some (x ∷ bytes)) >>=
      λ more. Some (front ++ more)) p
      ∙ bytes_more front b (pairs_of after);
}

-- ---- both ways

digit_takes : (b h : ℕ) → digit_of b ≡ Some h → (h < 16) × (digit_glyph false h ≡ b)
digit_takes b h e = grind (arith, nat_tests)

digit_again : (d : ℕ) → d < 16 → digit_of (digit_glyph false d) ≡ Some d
digit_again d lt = grind (arith, nat_tests)

pair_takes : (high low b : ℕ) → pair_of high low ≡ Some b → (b < 256) × (reports.hex_of b ≡ high ∷ low ∷ [])
pair_takes high low b e =
    let h = bind_some (digit_of high) _ b e in
    let l = bind_some (digit_of low) _ b h.2 in
    let whole : h.0 * 16 + l.0 ≡ b = same_Some _ _ l.2 in
    let p = digit_takes high h.0 h.1 in
    let q = digit_takes low l.0 l.1 in
    let upper : b / 16 ≡ h.0 = omega arith in
    let lower : b % 16 ≡ l.0 = omega arith in
    (omega arith, rw (upper, lower, p.1, q.1) refl)

pair_again : (b : ℕ) → b < 256 → pair_of (digit_glyph false (b / 16)) (digit_glyph false (b % 16)) ≡ Some b
pair_again b lt = grind (arith, digit_again)

pub no_bytes : AreBytes []
no_bytes i = omega arith

byte_more : (b : ℕ) (bytes : List ℕ) → b < 256 → AreBytes bytes → AreBytes (b ∷ bytes)
byte_more b bytes lt are zero = lt
byte_more b bytes lt are (suc i) = are i

pub pairs_takes : (text bytes : List ℕ) → pairs_of text ≡ Some bytes
    → (text ≡ flat_map reports.hex_of bytes) × AreBytes bytes
pairs_takes [] bytes e = rw (← same_Some _ _ e) (refl, no_bytes)
pairs_takes (h ∷ []) bytes e = absurd cc
pairs_takes (h ∷ l ∷ rest) bytes e =
    let b = bind_some (pair_of h l) _ bytes e in
    let m = bind_some (pairs_of rest) _ bytes b.2 in
    let p = pair_takes h l b.0 b.1 in
    let more = pairs_takes rest m.0 m.1 in
    rw (← same_Some _ _ m.2) (cc, byte_more b.0 m.0 p.0 more.1)

pub pairs_again : (bytes : List ℕ) → AreBytes bytes → pairs_of (flat_map reports.hex_of bytes) ≡ Some bytes
pairs_again [] fit = refl
pairs_again (b ∷ bytes) fit = rw (pair_again b (fit 0), pairs_again bytes (λ i. fit (suc i))) refl

pub length-hex : (bytes : List ℕ) → length (flat_map reports.hex_of bytes) ≡ 2 * length bytes
length-hex [] = refl
length-hex (b ∷ bytes) = omega (arith, length-hex bytes)
