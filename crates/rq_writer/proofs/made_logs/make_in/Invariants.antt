use Rattle.std.proofs.Common.{length, List}
use Rattle.rq_record.specs.Views.{version_of}
use Rattle.rq_model.specs.Records.{Record}
use Rattle.rq_writer.specs.Script.{Line}
use Rattle.rq_writer.specs.Making.{Making}
use Rattle.rq_writer.proofs.made_logs.make_in.Given as goal

abbrev pub invariant-loop-rest : goal.invariant-loop-rest
invariant-loop-rest g l = (ls : List Line) × (rs : List Record)
    × Making (version_of l.version) l.script l.n l.log l.rest ls rs

abbrev pub decreases-loop-rest : goal.decreases-loop-rest
decreases-loop-rest g l = length l.rest
