-- A text that is cut at a byte, and the fields of a line, read and told.
use Rattle.std.proofs.Common.{◌≡◌, ℕ, ◌*◌, ◌^◌, ◌<◌, ◌≤◌, Bool, true, false, cond, leb, eqb, ◌&&◌, List, [], ◌∷◌}
use Rattle.std.proofs.Common.{◌++◌, length, Option, Some, None, refl, sym, ap, subst, ◌∙◌, arith, inl, inr, rules}
use Rattle.std.specs.Prelude.{IsTrue, codes, nat_le}
use Rattle.std.specs.List.{flat_map, list_all, AllByRecursion}
use Rattle.std.specs.Str.{bytes_eq}
use Rattle.std.specs.Fmt.{decimal}
use Rattle.std.proofs.lemmas.Bool.{and_parts, leb-true}
use Rattle.std.proofs.lemmas.Bool.Decides.{nat_tests}
use Rattle.std.proofs.lemmas.Fmt.{decimal_is_IsNumeral}
use Rattle.std.proofs.lemmas.Option.{same_Some}
use Rattle.std.proofs.lemmas.Slice.Eq.{bytes_eq-Decides}
use Rattle.rq_bytes.specs.Readers.{◌>>=◌}
use Rattle.rq_bytes.proofs.Single.{bind_some, chosen}
use Rattle.rq_model.specs.Records.{By}
use Rattle.rq_model.specs.Spelling.{is_name, is_name_byte, IsWho}
use Rattle.rq_model.specs.Frames.{AreBytes}
use Rattle.rq_model.specs.Reports as reports
use Rattle.rq_model.specs.Reports.{payload_text, error_text}
use Rattle.rq_writer.specs.Script.{who_name, who_tag, IsNamed}
use Rattle.rq_writer.specs.Reading.{field_at, name_of, is_digit, is_decimal, number_of, number_field, error_of, by_of}
use Rattle.rq_writer.specs.Reading.{pairs_of, bytes_of_hex, cut_at}
use Rattle.rq_writer.proofs.Numbers.{own, number_takes, number_again, decimal_is_decimal}
use Rattle.rq_writer.proofs.Hex.{no_bytes, pairs_takes, pairs_again, length-hex}
use Rattle.std.proofs.lemmas.List.{length-append}

-- more in front of what a reader found
abbrev pub past : List ℕ → Option (List ℕ × List ℕ) → Option (List ℕ × List ℕ)
past front o = o >>= λ x. Some (front ++ x.0, x.1)

-- what was cut is the text
pub cut_takes : (b : ℕ) (bytes : List ℕ) (x : List ℕ × List ℕ) → cut_at b bytes ≡ Some x → bytes ≡ x.0 ++ b ∷ x.1
cut_takes b [] x e = absurd cc
cut_takes b (c ∷ cs) x e = grind (arith, nat_tests, cut_takes b cs)

-- what comes after it is shorter
pub cut_shorter : (b : ℕ) (bytes : List ℕ) (x : List ℕ × List ℕ) → Some x ≡ cut_at b bytes → length x.1 < length bytes
cut_shorter b bytes x found = omega (arith, ap length (cut_takes b bytes x (sym found)), length-append x.0 (b ∷ x.1))

-- a text that has no such byte is cut after itself
abbrev pub Lacks : ℕ → List ℕ → Type 0
Lacks b front = AllByRecursion (λ c. eqb c b ≡ false) front

pub cut_again : (b : ℕ) (front rest : List ℕ) → Lacks b front → cut_at b (front ++ b ∷ rest) ≡ Some (front, rest)
cut_again b [] rest isnt = let is : eqb b b ≡ true = search rules in rw is refl
cut_again b (c ∷ cs) rest isnt = rw (isnt.0, cut_again b cs rest isnt.1) refl

pub lacks : (test : ℕ → Bool) (b : ℕ) (front : List ℕ) → test b ≡ false → list_all test front ≡ true → Lacks b front
lacks test b [] isnt all = tt
lacks test b (c ∷ cs) isnt all = grind (arith, nat_tests, lacks test b cs)

pub refuted : (b : Bool) → (b ≡ true → ⊥) → b ≡ false
refuted true h = absurd (h refl)
refuted false h = refl

-- ---- what has no such byte

pub decimal_lacks : (b n : ℕ) → is_digit b ≡ false → n < 2 ^ 64 → Lacks b (decimal n)
decimal_lacks b n isnt lt = lacks is_digit b (decimal n) isnt (own.from (decimal n) (decimal_is_IsNumeral n lt).0.1)

pub name_lacks : (b : ℕ) (name : List ℕ) → is_name_byte b ≡ false → IsTrue (is_name name) → Lacks b name
name_lacks b name isnt h = lacks is_name_byte b name isnt
    (and_parts (nat_le 1 (length name) && nat_le (length name) 64) (list_all is_name_byte name) h).1

pub who_lacks : (b : ℕ) (by : Option By) → is_name_byte b ≡ false → IsWho by → Lacks b (who_name by)
who_lacks b None isnt h = lacks is_name_byte b (codes "-") isnt refl
who_lacks b (Some by) isnt h = name_lacks b by.name isnt h.0

-- ---- numbers

-- the number in front of what f reads
pub at_number : {B : Type 0} (most : ℕ) (bytes : List ℕ) (f : ℕ × List ℕ → Option B) (y : B) → most < 2 ^ 64
    → (number_field most bytes >>= f) ≡ Some y
    → (x : ℕ × List ℕ) × (bytes ≡ decimal x.0 ++ 32 ∷ x.1) × (x.0 ≤ most) × (f x ≡ Some y)
unfolding number_field
at_number most bytes f y small e =
    let a = bind_some (number_field most bytes) f y e in
    let b = bind_some (field_at bytes) _ a.0 a.1 in
    let c = bind_some (number_of most b.0.0) _ a.0 b.2 in
    let t = number_takes most b.0.0 c.0 small c.1 in
    let whole : (c.0, b.0.1) ≡ a.0 = cc (c.2) in (
      (c.0, b.0.1),
      cut_takes 32 bytes b.0 b.1 ∙ ap (λ (l : List ℕ). l ++ 32 ∷ b.0.1) t.0,
      t.1,
      subst (λ (z : ℕ × List ℕ). f z ≡ Some y) (sym whole) a.2,
    )

pub number_at_again : (most n : ℕ) (rest : List ℕ) → most < 2 ^ 64 → n ≤ most
    → number_field most (decimal n ++ 32 ∷ rest) ≡ Some (n, rest)
unfolding number_field
number_at_again most n rest small le =
    rw (cut_again 32 (decimal n) rest (decimal_lacks 32 n refl (omega arith)), number_again most n small le) refl

-- ---- the number of an error queue

pub error_takes : (bytes : List ℕ) (n : ℕ) → error_of bytes ≡ Some n → (bytes ≡ error_text n) × (n < 2 ^ 32)
error_takes bytes n e = grind (arith, nat_tests, number_takes, bytes_eq-Decides)

dash_is_none : (n : ℕ) → n < 2 ^ 64 → bytes_eq (decimal n) (codes "-") ≡ false
dash_is_none n lt = refuted _ (λ e.
    let same : decimal n ≡ codes "-" = (bytes_eq-Decides (decimal n) (codes "-")).0 e in
    let plain : is_decimal (codes "-") ≡ true =
    subst (λ (l : List ℕ). is_decimal l ≡ true) same (decimal_is_decimal n lt) in absurd cc)

pub error_again : (n : ℕ) → n < 2 ^ 32 → error_of (error_text n) ≡ Some n
error_again n lt = grind (arith, nat_tests, dash_is_none, number_again)

-- ---- names

pub name_takes : (bytes name : List ℕ) → name_of bytes ≡ Some name → (bytes ≡ name) × IsTrue (is_name name)
name_takes bytes name e = grind arith

pub name_again : (name : List ℕ) → IsTrue (is_name name) → name_of name ≡ Some name
name_again name h = rw h refl

-- ---- who

pub told_takes : (name : List ℕ) (tag : ℕ) (by : Option By) → by_of name tag ≡ Some by → tag < 2 ^ 64
    → (name ≡ who_name by) × (tag ≡ who_tag by) × IsWho by × IsNamed by
told_takes name tag by e lt = grind (arith, nat_tests, bytes_eq-Decides)

pub told_again : (by : Option By) → IsWho by → IsNamed by → by_of (who_name by) (who_tag by) ≡ Some by
told_again by h t = grind (arith, nat_tests, bytes_eq-Decides)

-- ---- bytes in hexadecimal

hex_is : (bytes : List ℕ) → 0 < length bytes → payload_text bytes ≡ flat_map reports.hex_of bytes
hex_is [] lt = absurd (omega arith)
hex_is (b ∷ bytes) lt = refl

abbrev IsHex : ℕ → List ℕ → List ℕ → Type 0
IsHex limit text bytes = (text ≡ payload_text bytes) × AreBytes bytes × (length bytes ≤ limit)

parted : (a b : Bool) (o : Option (List ℕ)) (x : List ℕ) → cond a None (cond b o None) ≡ Some x
    → (a ≡ false) × (b ≡ true) × (o ≡ Some x)
parted a b o x e = grind arith

pub hex_takes : (limit : ℕ) (text bytes : List ℕ) → bytes_of_hex limit text ≡ Some bytes → IsHex limit text bytes
hex_takes limit text bytes e =
    elim (chosen (bytes_eq text (codes "-")) _ _ _ e) [
      | inl a ↦ subst (IsHex limit text) (same_Some _ _ a.1)
          ((bytes_eq-Decides text (codes "-")).0 a.0, no_bytes, omega arith)
      | inr b ↦
          let c = parted (eqb (length text) 0) (leb (length text) (2 * limit)) (pairs_of text) bytes b.1 in
          let t = pairs_takes text bytes c.2 in
          let len : length text ≡ 2 * length bytes = ap length t.0 ∙ length-hex bytes in
          let short : length text ≤ 2 * limit = leb-true _ _ c.1 in
          let some : 0 < length bytes = grind (arith, nat_tests) in
          (t.0 ∙ sym (hex_is bytes some), t.1, omega arith)
    ]

pub hex_again : (limit : ℕ) (bytes : List ℕ) → AreBytes bytes → length bytes ≤ limit
    → bytes_of_hex limit (payload_text bytes) ≡ Some bytes
hex_again limit [] fit le = refl
hex_again limit (b ∷ bytes) fit le =
    let long = length-hex (b ∷ bytes) in
    let back = pairs_again (b ∷ bytes) fit in
    let dash = bytes_eq-Decides (flat_map reports.hex_of (b ∷ bytes)) (codes "-") in
    grind (arith, nat_tests, long, back, dash)
