-- A name is a text.
use Rattle.std.proofs.Common.{◌≡◌, ℕ, zero, suc, ◌<◌, ◌≤◌, true, ◌&&◌, ◌||◌, List, [], ◌∷◌, length, arith, inl, inr}
use Rattle.std.specs.Prelude.{IsTrue, ◌==◌, nat_le, slice_index}
use Rattle.std.specs.List.{list_all}
use Rattle.std.specs.Str.{IsAscii}
use Rattle.std.proofs.lemmas.Bool.{and_parts, or_cases, leb-true, eqb-true}
use Rattle.rq_model.specs.Spelling.{is_name, is_name_byte}

ascii_byte : (b : ℕ) → is_name_byte b ≡ true → b < 128
ascii_byte b h =
    elim (or_cases (((nat_le 97 b && nat_le b 122) || (nat_le 48 b && nat_le b 57)) || (b == 45 || b == 46))
    (b == 95) h) [
      | inl i ↦ elim (or_cases ((nat_le 97 b && nat_le b 122) || (nat_le 48 b && nat_le b 57)) (b == 45 || b == 46) i) [
        | inl j ↦ elim (or_cases (nat_le 97 b && nat_le b 122) (nat_le 48 b && nat_le b 57) j) [
          | inl k ↦ let top : b ≤ 122 = leb-true _ _ (and_parts (nat_le 97 b) (nat_le b 122) k).1 in omega arith
          | inr k ↦ let top : b ≤ 57 = leb-true _ _ (and_parts (nat_le 48 b) (nat_le b 57) k).1 in omega arith
        ]
        | inr j ↦ elim (or_cases (b == 45) (b == 46) j) [
          | inl k ↦ let e : b ≡ 45 = eqb-true b 45 k in omega arith
          | inr k ↦ let e : b ≡ 46 = eqb-true b 46 k in
              omega arith
        ]
      ]
      | inr i ↦ let e : b ≡ 95 = eqb-true b 95 i in omega arith
    ]

ascii_bytes : (bs : List ℕ) → list_all is_name_byte bs ≡ true → (i : ℕ) → slice_index bs i < 128
ascii_bytes [] h i = omega arith
ascii_bytes (b ∷ bs) h zero = ascii_byte b (and_parts (is_name_byte b) (list_all is_name_byte bs) h).0
ascii_bytes (b ∷ bs) h (suc i) = ascii_bytes bs (and_parts (is_name_byte b) (list_all is_name_byte bs) h).1 i

pub ascii_name : (name : List ℕ) → IsTrue (is_name name) → IsAscii name
ascii_name name h = ascii_bytes name
    (and_parts (nat_le 1 (length name) && nat_le (length name) 64) (list_all is_name_byte name) h).1
