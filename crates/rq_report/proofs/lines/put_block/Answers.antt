use Rattle.std.proofs.Common.{◌++◌, ◌∙◌, string_bytes, ap}
use Rattle.std.proofs.lemmas.Str.{IsUtf8-from_ascii}
use Rattle.rq_report.proofs.Digits.{digits_are, ascii_digits}
use Rattle.rq_report.proofs.lines.put_block.Goals as goal

pub unreachable-requires-in_default-from_utf8 : goal.unreachable-requires-in_default-from_utf8
unreachable-requires-in_default-from_utf8 c =
    absurd (c.in_default-from_utf8.ensures.cases.0
    (rw (c.in-Ok.ensures.written) (IsUtf8-from_ascii _ (ascii_digits c.args.block.now))))

pub returns : goal.returns
returns c =
    c.in_ok-push_str.ensures.bytes ∙ ap (λ x. string_bytes c.args.text.now ++ x)
    (c.in-Ok-from_utf8.ensures.cases.0 ∙ c.in-Ok.ensures.written ∙ digits_are c.args.block.now c.type_inv.block)
