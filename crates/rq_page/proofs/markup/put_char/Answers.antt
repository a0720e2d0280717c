use Rattle.std.proofs.Common.{◌≡◌, ◌∙◌, true, codes, ap, rules, [], ◌∷◌}
use Rattle.std.specs.Prelude.{encode_utf8_all}
use Rattle.std.proofs.lemmas.List.{append-nil}
use Rattle.rq_page.specs.Markup.{is_text}
use Rattle.rq_page.proofs.Texts.{appended, plain, ampersand, less, greater, quote, apostrophe}
use Rattle.rq_page.proofs.markup.put_char.Goals as goal

pub returns-in-38 : goal.returns-in-38
returns-in-38 c = appended c.push_str.result _ _ (codes "&amp;") (38 ∷ []) (search rules) ampersand

pub returns-in-60 : goal.returns-in-60
returns-in-60 c = appended c.push_str-in-60.result _ _ (codes "&lt;") (60 ∷ []) (search rules) less

pub returns-in-62 : goal.returns-in-62
returns-in-62 c = appended c.push_str-in-62.result _ _ (codes "&gt;") (62 ∷ []) (search rules) greater

pub returns-in-34 : goal.returns-in-34
returns-in-34 c = appended c.push_str-in-34.result _ _ (codes "&quot;") (34 ∷ []) (search rules) quote

pub returns-in-39 : goal.returns-in-39
returns-in-39 c = appended c.push_str-in-39.result _ _ (codes "&#39;") (39 ∷ []) (search rules) apostrophe

pub returns-in_default : goal.returns-in_default
returns-in_default c =
    let text : is_text c.visible.result ≡ true = c.visible.ensures (search rules) in
    appended c.push.result _ _ _ (c.visible.result ∷ []) (search rules)
    (ap encode_utf8_all (plain c.visible.result text) ∙ append-nil _)
