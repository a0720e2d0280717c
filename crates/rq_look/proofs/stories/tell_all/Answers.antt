use Rattle.rq_look.proofs.Puts.{both_put}
use Rattle.rq_look.proofs.stories.tell_all.Goals as goal

pub returns-clause-only : goal.returns-clause-only
returns-clause-only g c =
    let held = g.W.Output.contents in
    let front = c.in_ok-told.ensures.only in
    both_put (held c.args.output.now) (held c.tell_front.new.output) (held c.write_out.new.output) (front.0, front.1)
    (_, c.in_ok-write_out.ensures.written.0)
