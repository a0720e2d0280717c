use Rattle.std.proofs.Common.{◌+◌, ◌∙◌, true, ap, [], ◌∷◌, refl}
use Rattle.std.proofs.lemmas.Bool.{and_from}
use Rattle.std.specs.List.{list_any}
use Rattle.std.specs.Prelude.{◌==◌}
use Rattle.rq_model.specs.Records.{Commit}
use Rattle.rq_model.specs.Machine.{is_lawful}
use Rattle.rq_standing.proofs.UnitEnds.{committed_parts}
use Rattle.rq_standing.proofs.Units.{units_ended}
use Rattle.rq_standing.proofs.queues.Queues.commit.Goals as goal

pub returns-clause-moved : goal.returns-clause-moved
returns-clause-moved c = λ version s may.
    let u = c.args.unit.0 in
    let law = c.step_by_parts.ensures.step in
    let holds = may.holds in
    let ended = c.end-queues.ensures in
    record {
      next = refl;
      greatest = holds.greatest;
      committed = ap (λ n. n + 1) holds.committed;
      aborted = holds.aborted;
      definitions = holds.definitions;
      size = c.in_ok-commit_all.ensures.size ∙ holds.size;
      parts = committed_parts law s u _ _ _ holds.well holds.size holds.parts
          (λ q h. ap (list_any (λ v. v == q)) (c.deref.ensures.value ∙ ended.queues) ∙ holds.units.engaged u q h)
          c.in_ok-commit_all.ensures.committed;
      units = units_ended law s (Commit u) u c.args.self.now.units c.end-queues.new.self
          (c.runs_are_well_formed.ensures.runs version s (Commit u ∷ []) holds.well
          (and_from (is_lawful version s (Commit u)) true may.lawful refl))
          refl refl ended.opened ended.others holds.units;
    }
