use Rattle.std.proofs.Common.{◌≡◌, ◌∙◌, ◌++◌, ◌∷◌, [], ℕ, List, append_assoc, length, string_bytes, take, ap, sym, map-id, arith}
use Rattle.std.specs.List.{flat_map}
use Rattle.rq_look.specs.Lines.{character_text, quoted_text}
use Rattle.std.specs.Prelude.{encode_utf8_all}
use Rattle.std.specs.Str.{chars}
use Rattle.std.proofs.lemmas.Iterator.{YieldsList-from_chars, YieldsList-from_take}
use Rattle.std.proofs.lemmas.Iterator.Consumers.{YieldsList-end}
use Rattle.std.proofs.lemmas.Str.{length-encode, encodes-chars}
use Rattle.rq_look.proofs.Words.{closed, one_more, one_longer, begins_shorter}
use Rattle.rq_look.proofs.bytes.put_quoted.Goals as goal

pub loop-c-preserved : goal.loop-c-preserved
loop-c-preserved c =
    let inv = c.loop-c.invariant in (
      one_more c.loop-c.yielded c.in-Some.c _ _ _ inv.0 c.in_ok-put_shown.ensures,
      omega (arith, inv.1, one_longer c.loop-c.yielded c.in-Some.c, c.len_utf8.ensures, length-encode c.in-Some.c),
    )

pub returns : goal.returns
returns c =
    let word = c.args.word.now in
    let most = c.args.most in
    let whole = YieldsList-from_take most (YieldsList-from_chars word c.utf8.word cc) cc in
    let done = YieldsList-end whole c.loop-c.yielded _ c.loop-c.yielded_by _ _ c.in-None.is c.next.ensures.steps in
    let all : c.loop-c.yielded ≡ take most (chars word) = sym (map-id c.loop-c.yielded) ∙ done.0 in
    let inv = c.loop-c.invariant in (
      omega (
        arith,
        inv.1,
        ap (λ (cs : List ℕ). length (encode_utf8_all cs)) all,
        begins_shorter most (chars word),
        ap length (encodes-chars word c.utf8.word),
      ),
      closed _ _ _ _ c.in_ok-push-2.ensures.bytes inv.0
          ∙ ap (λ (cs : List ℕ). string_bytes c.args.text.now ++ quoted_text cs) all,
    )
