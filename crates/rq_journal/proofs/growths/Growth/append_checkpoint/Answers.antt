use Rattle.std.proofs.Common.{[], ◌∷◌, subst, arith}
use Rattle.std.proofs.lemmas.Bool.Decides.{nat_tests}
use Rattle.rq_model.specs.Records.{Record}
use Rattle.rq_journal.specs.Growths.{GrowsBy}
use Rattle.rq_journal.proofs.CarriedFronts.{marks_truly_there}
use Rattle.rq_journal.proofs.Marking.{marks, marks_truly, stays_unmarked}
use Rattle.rq_journal.proofs.growths.Growth.append_checkpoint.Goals as goal

pub returns-in-Ok-append-clause-marked : goal.returns-in-Ok-append-clause-marked
returns-in-Ok-append-clause-marked c =
    let (low, small, is) = c.in-Ok.ensures in
    marks c.args.self.now c.append.new.self c.args.state.now c.len-offset.result
    (subst (λ (r : Record). GrowsBy c.args.self.now c.append.new.self (r ∷ [])) is c.in-Ok-append.ensures.taken)
    small c.len-offset.ensures

pub returns-in-Ok-append-clause-number : goal.returns-in-Ok-append-clause-number
returns-in-Ok-append-clause-number c =
    let low = c.if-next-ge-CARRIED_RECORDS.false in
    grind (arith, nat_tests, c.next.ensures.next, low)

pub returns-in-Ok-append-clause-truth : goal.returns-in-Ok-append-clause-truth
returns-in-Ok-append-clause-truth c =
    marks_truly c.args.self.now c.append.new.self c.args.state.now c.len-offset.result c.appended_logs.ensures.front
    c.appended_checkpoints.ensures.truth c.appended_checkpoints.ensures.queues
    c.true_checkpoints_report_the_same.ensures (returns-in-Ok-append-clause-marked c)

pub returns-in-Ok-append-clause-there : goal.returns-in-Ok-append-clause-there
returns-in-Ok-append-clause-there c =
    marks_truly_there c.args.self.now c.append.new.self c.args.state.now c.len-offset.result c.continued_logs.ensures.later
    c.one_report.ensures.restart_at (returns-in-Ok-append-clause-number c) (returns-in-Ok-append-clause-marked c)

pub returns-clause-refused : goal.returns-clause-refused
returns-clause-refused c =
    let (low, small, is) = c.in-Ok.ensures in
    stays_unmarked c.args.self.now c.args.state.now _ c.in-Err-append.why _ c.in-Err-append.ensures.refused is
    c.unmarked.ensures
