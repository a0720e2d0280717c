use Rattle.rq_journal.proofs.Openings.{numbered, numbered_at}
use Rattle.rq_journal.proofs.growths.Growth.numbered.Goals as goal

pub returns-clause-whole : goal.returns-clause-whole
returns-clause-whole c b h next =
    numbered b c.args.front c.after-framer.result c.new.result c.args.next c.after-framer.ensures.last
    c.after-framer.ensures.len c.new.ensures.items h next

pub returns-clause-from : goal.returns-clause-from
returns-clause-from c b offset h next =
    numbered_at b offset c.args.front c.after-framer.result c.new.result c.args.next c.after-framer.ensures.last
    c.after-framer.ensures.len c.new.ensures.items h next
