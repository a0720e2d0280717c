use Rattle.rq_record.specs.Views.{version_of}
use Rattle.rq_writer.proofs.Splitting.{state_fits}
use Rattle.rq_writer.proofs.front.MadeFront.spelled.Goals as goal

pub spell-requires : goal.spell-requires
spell-requires g c = state_fits (version_of c.args.version) c.requires.0 _
    (c.in_ok-catch_up.ensures.state c.requires.0 c.requires.1 c.requires.2).1
