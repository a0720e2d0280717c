use Rattle.std.proofs.Common.{◌+◌, ◌<◌, ◌^◌, ◌∙◌, true, sym, subst, ap, [], ◌∷◌, refl}
use Rattle.std.proofs.lemmas.Bool.{and_from}
use Rattle.std.specs.List.{list_any}
use Rattle.std.specs.Prelude.{◌==◌}
use Rattle.rq_model.specs.Records.{Abort, Version}
use Rattle.rq_model.specs.States.{State}
use Rattle.rq_model.specs.WellFormed.{IsWellFormed}
use Rattle.rq_model.specs.Machine.{is_lawful, step}
use Rattle.rq_model.specs.Queues.{transfers_at}
use Rattle.rq_standing.specs.Parts.{Ended, Send}
use Rattle.rq_standing.specs.Stands.{May}
use Rattle.rq_standing.proofs.UnitEnds.{Aborting, all_send, can_arrive, aborted_parts, room_of}
use Rattle.rq_standing.proofs.Units.{units_ended}
use Rattle.rq_standing.proofs.queues.Queues.abort.Goals as goal
use Rattle.rq_standing.proofs.queues.Queues.abort.Goals.{In_ok-sent}

-- the state after the record is well formed
after : (c : In_ok-sent) (version : Version) (s : State) → May c.args.self.now version s (Abort c.args.unit.0)
    → IsWellFormed (step s (Abort c.args.unit.0))
after c version s may = c.runs_are_well_formed.ensures.runs version s (Abort c.args.unit.0 ∷ []) may.holds.well
    (and_from (is_lawful version s (Abort c.args.unit.0)) true may.lawful refl)

aborting : (c : In_ok-sent) (version : Version) (s : State) → May c.args.self.now version s (Abort c.args.unit.0)
    → Aborting s c.args.unit.0 c.deref.result.now c.in_ok-sent.sent.items c.args.self.now.parts.items
    c.abort_all.new.parts.items
aborting c version s may =
    let u = c.args.unit.0 in
    let holds = may.holds in
    record {
      well = holds.well;
      after = after c version s may;
      size = holds.size;
      same = c.in_ok-sent.ensures.size;
      parts = holds.parts;
      named = λ q h. ap (list_any (λ v. v == q)) (c.deref.ensures.value ∙ c.end-queues.ensures.queues)
          ∙ holds.units.engaged u q h;
      ended = subst (λ n. Ended n (Abort u) c.deref.result.now c.args.self.now.parts.items c.abort_all.new.parts.items)
          holds.next c.in_ok-sent.ensures.aborted;
      sends = c.in_ok-sent.ensures.sent (transfers_at s (Abort u))
          (subst (λ n. Send n u c.args.self.now.parts.items (transfers_at s (Abort u))) (sym holds.next)
          (all_send c.step_by_parts.ensures.step s u c.args.self.now.parts.items holds.well holds.size holds.parts));
    }

pub abort_all-requires : goal.abort_all-requires
abort_all-requires c =
    let holds = c.requires.may.2.holds in
    record {
      room = room_of c.requires.may.1 c.args.self.now.parts.items holds.well holds.size holds.parts
          (subst (λ n. n + 2 < 2 ^ 64) holds.next c.requires.room);
    }

pub receive_all-requires : goal.receive_all-requires
receive_all-requires c =
    let may = c.requires.may in
    record {
      new = can_arrive c.step_by_parts.ensures.ends may.1 c.args.unit.0 c.deref.result.now c.in_ok-sent.sent.items
          c.args.self.now.parts.items c.abort_all.new.parts.items
          (aborting (goal.at.receive_all-requires c).In_ok-sent may.0 may.1 may.2);
    }

pub returns-clause-moved : goal.returns-clause-moved
returns-clause-moved c = λ version s may.
    let u = c.args.unit.0 in
    let at = (goal.at.returns-clause-moved c).In_ok-sent in
    let holds = may.holds in
    let ended = c.end-queues.ensures in
    record {
      next = refl;
      greatest = holds.greatest;
      committed = holds.committed;
      aborted = ap (λ n. n + 1) holds.aborted;
      definitions = holds.definitions;
      size = c.in_ok-receive_all.ensures.size ∙ (c.in_ok-sent.ensures.size ∙ holds.size);
      parts = aborted_parts c.step_by_parts.ensures.ends s u c.deref.result.now c.in_ok-sent.sent.items
          c.args.self.now.parts.items c.abort_all.new.parts.items c.receive_all.new.parts.items
          (aborting at version s may) c.in_ok-receive_all.ensures.received;
      units = units_ended c.step_by_parts.ensures.step s (Abort u) u c.args.self.now.units c.end-queues.new.self
          (after at version s may) refl refl ended.opened ended.others holds.units;
    }
