use Rattle.rq_reopen.proofs.Files.{goes_on_anywhere, is_exactly_in}
use Rattle.rq_reopen.proofs.found_log.FoundLog.of_machine.Goals as goal

pub returns-clause-survives : goal.returns-clause-survives
returns-clause-survives c = λ b is.
    goes_on_anywhere c.crash_leaves.ensures.synced c.crash_leaves.ensures.commit c.carried_headers.ensures.apart
    c.carried_headers.ensures.read c.one_spelling.ensures.state c.runs_are_well_formed.ensures.start
    c.numbers_after.ensures b c.found_of.result is

pub returns-clause-exact : goal.returns-clause-exact
returns-clause-exact c = λ b is.
    is_exactly_in c.crash_leaves.ensures.beginning c.one_front.ensures.front c.carried_headers.ensures.apart
    c.carried_headers.ensures.read c.one_spelling.ensures.state c.appended_logs.ensures.frames b c.found_of.result is
