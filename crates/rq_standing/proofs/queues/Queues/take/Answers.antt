use Rattle.std.proofs.Common.{◌∙◌, ◌+◌, ap, true, refl, [], ◌∷◌}
use Rattle.std.proofs.lemmas.Bool.{and_from}
use Rattle.rq_model.specs.Machine.{is_lawful}
use Rattle.rq_record.specs.Views.{record_of}
use Rattle.rq_standing.proofs.queues.Queues.take.Goals as goal

pub returns-clause-holds : goal.returns-clause-holds
returns-clause-holds c = λ version s may.
    let r = record_of c.args.what.now in
    let moved = c.in_ok-id.ensures.moved version s may in
    record {
      well = c.runs_are_well_formed.ensures.runs version s (r ∷ []) may.holds.well
          (and_from (is_lawful version s r) true may.lawful refl);
      next = ap (λ n. n + 1) (moved.next ∙ may.holds.next);
      greatest = moved.greatest;
      committed = moved.committed;
      aborted = moved.aborted;
      definitions = moved.definitions;
      size = moved.size;
      parts = moved.parts;
      units = moved.units;
    }
