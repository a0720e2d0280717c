use Rattle.rq_look.proofs.FrontEnds.{ends_within}
use Rattle.rq_page.proofs.pages.found_in.Goals as goal

pub standing_behind-requires : goal.standing_behind-requires
standing_behind-requires g c =
    ends_within c.args.log.now.at c.args.log.now.bytes.now c.in_ok-restarted.restarted c.in_ok-end.end
    c.in_ok-restarted.ensures.restart c.in_ok-end.ensures.end
