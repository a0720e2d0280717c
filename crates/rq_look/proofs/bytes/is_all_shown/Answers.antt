use Rattle.std.proofs.Common.{rules, tests}
use Rattle.std.proofs.lemmas.Iterator.{YieldsList-from_chars}
use Rattle.std.proofs.lemmas.Iterator.Search.{all_from_yields_List}
use Rattle.rq_look.specs.Lines.{is_seen}
use Rattle.rq_look.proofs.bytes.is_all_shown.Goals as goal

pub returns : goal.returns
returns c =
    all_from_yields_List is_seen _ _ c.all.result c.all.ensures.ran
    (YieldsList-from_chars c.args.text.now c.utf8.text cc) (λ x b q k. search (rules, tests))
