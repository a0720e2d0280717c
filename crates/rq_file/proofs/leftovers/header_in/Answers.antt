use Rattle.std.proofs.Common.{sym}
use Rattle.std.proofs.lemmas.List.{take_all}
use Rattle.rq_file.proofs.leftovers.header_in.Goals as goal

pub returns-then-begins-le-HEADER : goal.returns-then-begins-le-HEADER
returns-then-begins-le-HEADER c = sym (take_all 40 c.args.begins.now c.if-begins-le-HEADER.true)
