-- Numbers in decimal.
use Rattle.std.proofs.Common.{◌≡◌, inl, inr, ℕ, zero, suc, ◌^◌, ◌<◌, ◌≤◌, true, false, leb, ◌&&◌, List, []}
use Rattle.std.proofs.Common.{◌∷◌, length, get_or, Option, Some, None, Result, Err, refl, sym, ap, ◌∙◌, arith, rules}
use Rattle.std.specs.List.{list_all}
use Rattle.std.specs.Fmt.{decimal}
use Rattle.std.specs.Str.Parse.{ParsesUnsigned, digits_value}
use Rattle.std.proofs.lemmas.Bool.{lt-ltb, leb-true, le-leb, lt-leb, and_parts, cases_lt}
use Rattle.std.proofs.lemmas.Bool.Decides.{nat_tests}
use Rattle.std.proofs.lemmas.Str.Parse.{IsNumeralModel, numerals_by_value, parse_digits}
use Rattle.std.proofs.lemmas.Fmt.{decimal-digits_value, decimal_is_IsNumeral, decimal_digit, first_decimal}
use Rattle.rq_bytes.proofs.Single.{guard_some}
use Rattle.rq_writer.specs.Decimals.{IsNumber}
use Rattle.rq_writer.specs.Reading.{is_digit, is_decimal, number_of}

pub own : IsNumeralModel (λ ds. list_all is_digit ds ≡ true) (digits_value 10)
own = numerals_by_value _ (search rules)

pub record IsPlain (bytes : List ℕ) : Type 0 where
  pub digits : list_all is_digit bytes ≡ true
  pub some : 0 < length bytes
  pub lead : get_or bytes 0 0 ≡ 48 → length bytes ≡ 1

pub plain : (bytes : List ℕ) → is_decimal bytes ≡ true → IsPlain bytes
plain [] h = absurd cc
plain (b ∷ bs) h = grind (arith, nat_tests)

pub number_takes : (most : ℕ) (bytes : List ℕ) (n : ℕ) → most < 2 ^ 64 → number_of most bytes ≡ Some n
    → (bytes ≡ decimal n) × (n ≤ most)
number_takes most bytes n small e =
    let v = digits_value 10 bytes in
    let g = guard_some (is_decimal bytes && leb v most) v n e in
    let p = and_parts (is_decimal bytes) (leb v most) g.0 in
    let le : v ≤ most = leb-true v most p.1 in
    let facts = plain bytes p.0 in
    let back : decimal v ≡ bytes = decimal-digits_value own bytes facts.digits facts.some facts.lead
    (omega (arith, le)) in
    (sym back ∙ ap decimal g.1, omega (arith, le, g.1))

long_enough : (bs : List ℕ) → list_all is_digit bs ≡ true → 0 < length bs → 48 < get_or bs 0 0 → is_decimal bs ≡ true
long_enough [] all some lead = absurd (omega arith)
long_enough (b ∷ bs) all some lead = rw (all, lt-ltb 48 b lead) (search rules)

pub decimal_is_decimal : (n : ℕ) → n < 2 ^ 64 → is_decimal (decimal n) ≡ true
decimal_is_decimal zero small = rw (decimal_digit zero (omega arith)) refl
decimal_is_decimal (suc n) small =
    let is = decimal_is_IsNumeral (suc n) small in
    long_enough (decimal (suc n)) (own.from (decimal (suc n)) is.0.1) is.0.0 (first_decimal (suc n) (omega arith) small)

pub number_again : (most n : ℕ) → most < 2 ^ 64 → n ≤ most → number_of most (decimal n) ≡ Some n
number_again most n small le =
    let fits : n < 2 ^ 64 = omega arith in
    let value : digits_value 10 (decimal n) ≡ n = (decimal_is_IsNumeral n fits).1 in
    rw (decimal_is_decimal n fits, value, le-leb n most le) refl

-- what std's parse answers for digits
pub parsed_err : {E : Type 0} (bytes text : List ℕ) (e : E) (r : Result ℕ E) → r ≡ Err e → text ≡ bytes
    → is_decimal bytes ≡ true → ParsesUnsigned 64 10 text r → None ≡ number_of 18446744073709551615 bytes
parsed_err {E} bytes text e r is-err same h parses =
    let p : ParsesUnsigned {E = E} 64 10 bytes (Err e) = rw (is-err, same) at parses in
    let f = plain bytes h in
    let refused = parse_digits own {E = E} 64 bytes (Err e) p f.digits in
    elim (cases_lt (digits_value 10 bytes) (2 ^ 64)) [
      | inl small ↦ absurd (refused (f.some, small))
      | inr large ↦ let isnt : leb (digits_value 10 bytes) 18446744073709551615 ≡ false =
          lt-leb _ _ (omega (arith, large)) in sym (rw (h, isnt) refl)
    ]

pub ascii_digits : (bytes : List ℕ) → list_all is_digit bytes ≡ true → (i : ℕ) → get_or bytes i 0 < 128
ascii_digits [] all i = omega arith
ascii_digits (b ∷ bs) all zero = grind (arith, nat_tests)
ascii_digits (b ∷ bs) all (suc i) = grind (arith, nat_tests, ascii_digits bs)

-- the number of a text, as it is read
pub number_is : (most : ℕ) (text : List ℕ) (r : Option ℕ) → most < 2 ^ 64 → number_of most text ≡ r
    → IsNumber most text r
number_is most text (Some n) small is = let t = number_takes most text n small is in (t.1, t.0)
number_is most text None small is = λ n le same.
    let found : number_of most text ≡ Some n = rw same (number_again most n small le) in absurd cc
