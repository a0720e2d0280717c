use Rattle.std.proofs.lemmas.Str.{IsUtf8-from_ascii}
use Rattle.rq_writer.proofs.Numbers.{parsed_err, plain, ascii_digits}
use Rattle.rq_writer.proofs.fields.parsed.Goals as goal

pub returns-in-Err-parse : goal.returns-in-Err-parse
returns-in-Err-parse c = parsed_err c.args.bytes.now c.in-Ok.text.now c.in-Err-parse.field-0 c.parse.result
    c.in-Err-parse.is c.in-Ok.ensures.cases.0 c.requires c.parse.ensures.value.0

pub returns-in-Err : goal.returns-in-Err
returns-in-Err c =
    absurd (c.in-Err.ensures.cases.0 (IsUtf8-from_ascii c.args.bytes.now
    (ascii_digits c.args.bytes.now (plain c.args.bytes.now c.requires).digits)))
