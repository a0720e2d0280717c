use Rattle.std.proofs.Common.{◌≡◌, ◌∷◌, ◌++◌, length, string_bytes}
use Rattle.std.specs.Prelude.{min, encode_utf8_all}
use Rattle.std.specs.List.{flat_map}
use Rattle.rq_look.specs.Lines.{character_text}
use Rattle.rq_look.proofs.bytes.put_quoted.Given as goal

-- the characters so far are put behind a quotation mark, and their bytes counted
abbrev pub invariant-loop-c : goal.invariant-loop-c
invariant-loop-c l =
    (string_bytes l.text ≡ string_bytes l.fn.text ++ 34 ∷ encode_utf8_all (flat_map character_text l.yielded))
    × (l.shown ≡ min (length (encode_utf8_all l.yielded)) 18446744073709551615)
