-- Words and numbers as text, and characters that nobody sees.
use Rattle.std.specs.Prelude.{ℕ, Bool, ◌||◌, List, [], ◌∷◌}
use Rattle.std.specs.List.{list_any}
use Rattle.std.specs.Char.{is_control}
use Rattle.std.specs.Fmt.{decimal}
use Rattle.std.specs.Int.{is_in_range}
use Rattle.rq_found.specs.declared.pieces.TextPiece.{TextPiece}
use Rattle.rq_found.specs.declared.pieces.TextPiece.TheVariants.{Word, Number}

-- a word as it is, a number in decimal digits
abbrev pub piece_text : TextPiece → List ℕ
piece_text (Word word) = word.now
piece_text (Number number) = decimal number

-- the format characters of Unicode, and those that separate lines or paragraphs, by the first and the
-- last of each run
abbrev pub hidden_runs : List (ℕ × ℕ)
hidden_runs = (0xAD, 0xAD) ∷ (0x600, 0x605) ∷ (0x61C, 0x61C) ∷ (0x6DD, 0x6DD) ∷ (0x70F, 0x70F)
    ∷ (0x890, 0x891) ∷ (0x8E2, 0x8E2) ∷ (0x180E, 0x180E) ∷ (0x200B, 0x200F) ∷ (0x2028, 0x202E)
    ∷ (0x2060, 0x2064) ∷ (0x2066, 0x206F) ∷ (0xFEFF, 0xFEFF) ∷ (0xFFF9, 0xFFFB)
    ∷ (0x110BD, 0x110BD) ∷ (0x110CD, 0x110CD) ∷ (0x13430, 0x1343F) ∷ (0x1BCA0, 0x1BCA3)
    ∷ (0x1D173, 0x1D17A) ∷ (0xE0001, 0xE0001) ∷ (0xE0020, 0xE007F) ∷ []

-- one of these, or a control character
abbrev pub is_hidden : ℕ → Bool
is_hidden c = is_control c || list_any (λ run. is_in_range run.0 run.1 c) hidden_runs
