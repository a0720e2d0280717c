use Rattle.std.proofs.Common.{codes, refl, rules}
use Rattle.rq_look.proofs.Words.{stands_for, itself, line_end, carriage_return, tab, quotation_mark, backslash}
use Rattle.rq_look.proofs.bytes.put_shown.Goals as goal

pub returns-in-10 : goal.returns-in-10
returns-in-10 c = stands_for c.push_str.result _ _ (codes "\\n") c.args.c 10 (search rules) (search rules) line_end

pub returns-in-13 : goal.returns-in-13
returns-in-13 c = stands_for c.push_str-in-13.result _ _ (codes "\\r") c.args.c 13 (search rules) (search rules) carriage_return

pub returns-in-9 : goal.returns-in-9
returns-in-9 c = stands_for c.push_str-in-9.result _ _ (codes "\\t") c.args.c 9 (search rules) (search rules) tab

pub returns-in-34 : goal.returns-in-34
returns-in-34 c = stands_for c.push_str-in-34.result _ _ (codes "\\\"") c.args.c 34 (search rules) (search rules) quotation_mark

pub returns-in-92 : goal.returns-in-92
returns-in-92 c = stands_for c.push_str-in-92.result _ _ (codes "\\\\") c.args.c 92 (search rules) (search rules) backslash

pub returns-in_default : goal.returns-in_default
returns-in_default c =
    stands_for c.push.result _ _ _ c.args.c c.args.c refl (search rules)
    (itself c.args.c (search rules) (search rules) (search rules) (search rules) (search rules))
