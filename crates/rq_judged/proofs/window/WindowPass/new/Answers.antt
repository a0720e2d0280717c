use Rattle.std.proofs.Common.{refl}
use Rattle.rq_record.specs.Views.{version_of}
use Rattle.rq_judged.proofs.Pieces.{window_starts}
use Rattle.rq_judged.proofs.window.WindowPass.new.Goals as goal

pub returns : goal.returns
returns c = window_starts (version_of c.args.version) c.frames_join.ensures.end _ c.requires refl refl refl refl
    c.new.ensures
