use Rattle.std.proofs.Common.{◌++◌, ◌-◌, List, ℕ, length, drop, ap, ◌∙◌, arith}
use Rattle.rq_record.specs.Views.{version_of}
use Rattle.rq_model.specs.Frames.{header}
use Rattle.rq_model.proofs.Restarts.{header_long}
use Rattle.rq_writer.proofs.Steps.{starts}
use Rattle.rq_writer.proofs.log.Log.start.Goals as goal

pub last_32-last-requires : goal.last_32-last-requires
last_32-last-requires c = grind (arith, header_long)

pub returns : goal.returns
returns c =
    starts (version_of c.args.version) c.frames_join.ensures.end _
    (c.in_ok-header_of.ensures ∙ ap (λ (l : List ℕ). l ++ header (version_of c.args.version)) c.new-out.ensures.items)
    (c.last_32-last.ensures ∙ ap (λ (l : List ℕ). drop (length l - 32) l) c.deref.ensures.value)
    (c.start-front.ensures (version_of c.args.version))
