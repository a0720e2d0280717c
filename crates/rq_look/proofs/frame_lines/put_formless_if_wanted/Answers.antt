use Rattle.std.proofs.Common.{[], refl, sym, append-nil, string_bytes}
use Rattle.rq_look.proofs.frame_lines.put_formless_if_wanted.Goals as goal

pub returns-then-not-is_wanted-clause-line : goal.returns-then-not-is_wanted-clause-line
returns-then-not-is_wanted-clause-line c = ([], refl, sym (append-nil (string_bytes c.args.text.now)))

pub returns-clause-line : goal.returns-clause-line
returns-clause-line c = let put = c.in_ok-put_formless.ensures in (put.0, put.1, put.2)
