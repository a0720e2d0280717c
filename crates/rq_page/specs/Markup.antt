-- Text in HTML.
use Rattle.std.specs.Prelude.{◌≡◌, ℕ, Bool, true, ◌&&◌, not, nat_eq, List, [], ◌∷◌, ◌++◌, encode_utf8_all}
use Rattle.std.specs.Prelude.{codes, if◌then◌else◌}
use Rattle.std.specs.List.{flat_map}

-- a character that HTML does not take for its own: not & < > " '
abbrev pub is_text : ℕ → Bool
is_text c = not (nat_eq c 38) && (not (nat_eq c 60) && (not (nat_eq c 62)
    && (not (nat_eq c 34) && not (nat_eq c 39))))

-- what stands for one of these five: it has an & before, a ; behind, and none of the other four
abbrev pub entity : ℕ → List ℕ
entity c = if nat_eq c 38 then codes "&amp;" else if nat_eq c 60 then codes "&lt;"
    else if nat_eq c 62 then codes "&gt;" else if nat_eq c 34 then codes "&quot;" else codes "&#39;"

-- how a character is spelled in HTML
abbrev pub escape : ℕ → List ℕ
escape c = if is_text c then c ∷ [] else entity c

-- what was appended is the spelling of some text, character by character: so each < > " ' of it is
-- spelled out, and each & begins what stands for one of the five
abbrev pub AppendsText : List ℕ → List ℕ → Type 0
AppendsText old new = (shown : List ℕ) × (new ≡ old ++ encode_utf8_all (flat_map escape shown))

-- what each page begins with
abbrev pub page_head : List ℕ
page_head = codes "<!DOCTYPE html>\n<html lang=\"en\">\n<head>\n<meta charset=\"utf-8\">\n<meta http-equiv=\"Content-Security-Policy\" content=\"default-src 'none'; style-src 'sha256-"

-- what stands behind the last part of a page
abbrev pub page_foot : List ℕ
page_foot = codes "</body>\n</html>\n"
