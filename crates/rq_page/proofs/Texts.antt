-- Appending text to HTML.
use Rattle.std.proofs.Common.{◌≡◌, ◌∙◌, ◌++◌, ◌∷◌, ℕ, true, List, [], Result, Ok, Err, refl, sym, ap, if◌then◌else◌, is_ok}
use Rattle.std.proofs.Common.{OnOk, codes}
use Rattle.std.specs.Prelude.{encode_utf8_all}
use Rattle.std.specs.List.{flat_map}
use Rattle.std.proofs.lemmas.List.{append-nil, append_assoc}
use Rattle.std.proofs.lemmas.Grind.{flat_map-append}
use Rattle.std.proofs.lemmas.Str.{encodes-append}
use Rattle.rq_page.specs.Markup.{is_text, escape, AppendsText}

-- what was appended spells these characters
pub appended : {A E : Type 0} (r : Result A E) (old new put shown : List ℕ)
    → new ≡ (if is_ok r then old ++ put else old) → encode_utf8_all (flat_map escape shown) ≡ put
    → OnOk r (AppendsText old new)
appended (Ok x) old new put shown e s = (shown, e ∙ ap (λ p. old ++ p) (sym s))
appended (Err x) old new put shown e s = tt

-- one behind the other
pub both : (old new last : List ℕ) → AppendsText old new → AppendsText new last → AppendsText old last
both old new last (cs, e) (ds, f) = (
  cs ++ ds,
  f ∙ ap (λ b. b ++ encode_utf8_all (flat_map escape ds)) e
      ∙ append_assoc old (encode_utf8_all (flat_map escape cs)) (encode_utf8_all (flat_map escape ds))
      ∙ ap (λ b. old ++ b) (sym (ap encode_utf8_all (flat_map-append escape cs ds)
      ∙ encodes-append (flat_map escape cs) (flat_map escape ds))),
)

-- nothing behind it
pub nothing : (old : List ℕ) → AppendsText old old
nothing old = ([], sym (append-nil old))

-- a character that HTML does not take for its own stands for itself
pub plain : (c : ℕ) → is_text c ≡ true → flat_map escape (c ∷ []) ≡ c ∷ []
plain c t = rw t refl

-- what stands for the five characters takes a byte each
pub ampersand : encode_utf8_all (flat_map escape (38 ∷ [])) ≡ codes "&amp;"
unfolding lib.Utf8.encode
ampersand = refl

pub less : encode_utf8_all (flat_map escape (60 ∷ [])) ≡ codes "&lt;"
unfolding lib.Utf8.encode
less = refl

pub greater : encode_utf8_all (flat_map escape (62 ∷ [])) ≡ codes "&gt;"
unfolding lib.Utf8.encode
greater = refl

pub quote : encode_utf8_all (flat_map escape (34 ∷ [])) ≡ codes "&quot;"
unfolding lib.Utf8.encode
quote = refl

pub apostrophe : encode_utf8_all (flat_map escape (39 ∷ [])) ≡ codes "&#39;"
unfolding lib.Utf8.encode
apostrophe = refl
