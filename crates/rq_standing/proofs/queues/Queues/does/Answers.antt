use Rattle.std.proofs.Common.{◌≡◌, ◌<◌, length, true, sym, subst, IfOk, OnOk}
use Rattle.std.proofs.lemmas.Bool.{and_parts, ltb-true}
use Rattle.rq_model.specs.Machine.{is_lawful, step}
use Rattle.rq_model.specs.Records as records
use Rattle.rq_model.specs.States.{State}
use Rattle.rq_record.specs.Views.{Record, record_of}
use Rattle.rq_state.specs.Views.{id_of}
use Rattle.rq_standing.specs.Stands.{May, Moved, taken}
use Rattle.rq_standing.proofs.queues.Queues.does.Goals as goal

pub define-requires : goal.define-requires
define-requires c =
    let s = c.requires.may.1 in
    let may = c.requires.may.2 in
    let lawful = subst (λ (r : Record). is_lawful c.requires.may.0 s (record_of r) ≡ true) c.in-Define.is may.lawful in
    record {
      few = subst (λ n. n < 4096) (sym may.holds.size)
          (ltb-true (length s.definitions) 4096 (and_parts _ _ (and_parts _ _ lawful).1).0);
    }

pub returns-in_ok-begin-in-Begin-clause-moved : goal.returns-in_ok-begin-in-Begin-clause-moved
returns-in_ok-begin-in-Begin-clause-moved c = subst (λ (r : Record). (version : records.Version) (s : State)
    → May c.args.self.now version s (record_of r) → Moved c.args.self.now c.begin.new.self (step s (record_of r)))
    (sym c.in-Begin.is) c.in_ok-begin-in-Begin.ensures.moved

pub returns-in_ok-commit-in-Commit-clause-moved : goal.returns-in_ok-commit-in-Commit-clause-moved
returns-in_ok-commit-in-Commit-clause-moved c = subst (λ (r : Record). (version : records.Version) (s : State)
    → May c.args.self.now version s (record_of r) → Moved c.args.self.now c.commit.new.self (step s (record_of r)))
    (sym c.in-Commit.is) c.in_ok-commit-in-Commit.ensures.moved

pub returns-in_ok-abort-in-Abort-clause-moved : goal.returns-in_ok-abort-in-Abort-clause-moved
returns-in_ok-abort-in-Abort-clause-moved c = subst (λ (r : Record). (version : records.Version) (s : State)
    → May c.args.self.now version s (record_of r) → Moved c.args.self.now c.abort.new.self (step s (record_of r)))
    (sym c.in-Abort.is) c.in_ok-abort-in-Abort.ensures.moved

pub returns-in-Dequeue-clause-moved : goal.returns-in-Dequeue-clause-moved
returns-in-Dequeue-clause-moved c = subst (λ (r : Record). OnOk c.dequeue.result ((version : records.Version) (s : State)
    → May c.args.self.now version s (record_of r) → Moved c.args.self.now c.dequeue.new.self (step s (record_of r))))
    (sym c.in-Dequeue.is) c.dequeue.ensures.moved

pub returns-in-Dequeue-clause-took : goal.returns-in-Dequeue-clause-took
returns-in-Dequeue-clause-took c = subst (λ (r : Record). IfOk c.dequeue.result (λ id. (version : records.Version)
    (s : State) → May c.args.self.now version s (record_of r) → id_of id ≡ taken s (record_of r)))
    (sym c.in-Dequeue.is) c.dequeue.ensures.took
