use Rattle.std.proofs.Common.{◌∙◌, ap, arith, length}
use Rattle.rq_journal.proofs.Numbers.{long_enough, spelled_first}
use Rattle.rq_journal.proofs.opened_logs.numbered_before.Goals as goal

pub split_at-requires : goal.split_at-requires
split_at-requires c =
    let (version, s, kept, after, rest, h) = c.requires in
    long_enough c.args.bytes.now version s kept after rest h

pub number_in-requires : goal.number_in-requires
number_in-requires c =
    let (version, s, kept, after, rest, h) = c.requires in
    let first = spelled_first c.args.bytes.now version s kept after rest h in
    (s.next, first.more, h.spells.counted.next, c.split_at.ensures.back ∙ first.bytes_are)

pub returns : goal.returns
returns c version s kept after rest h =
    let first = spelled_first c.args.bytes.now version s kept after rest h in
    c.number_in.ensures s.next first.more h.spells.counted.next (c.split_at.ensures.back ∙ first.bytes_are)
