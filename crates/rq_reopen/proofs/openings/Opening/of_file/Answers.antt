use Rattle.std.proofs.Common.{◌∙◌, List, ℕ, inl, inr, subst}
use Rattle.rq_record.specs.Views.{version_of}
use Rattle.rq_reopen.specs.Openings.{OpensLog}
use Rattle.rq_reopen.specs.Files.{OpensFile, OpensFrom, GoesOnAnywhere, IsExactlyIn}
use Rattle.rq_reopen.proofs.Files.{file_so, goes_on_anywhere, is_exactly_in, written_back}
use Rattle.rq_reopen.proofs.Headed.{not_shut_in}
use Rattle.rq_reopen.proofs.openings.Opening.of_file.Goals as goal

pub returns-in-Some-clause-same : goal.returns-in-Some-clause-same
returns-in-Some-clause-same g c =
    let some = c.in-Some.ensures.some in
    written_back version_of c.carried_headers.ensures.read (version_of c.in-Some.field-0) c.args.left.now
    c.read_as_log.new.bytes c.write_as_carried.new.bytes some.0 some.1 c.write_as_carried.result
    c.write_as_carried.ensures.some c.write_as_carried.ensures.none

pub returns-in-Some-clause-opens : goal.returns-in-Some-clause-opens
returns-in-Some-clause-opens g c =
    let some = c.in-Some.ensures.some in
    inr (
      version_of c.in-Some.field-0,
      some.0,
      subst (λ (b : List ℕ). OpensFrom b c.args.drops c.of_carried-opened.result) some.1
          c.of_carried-opened.ensures.opens,
    )

pub returns-in-Some-clause-survives : goal.returns-in-Some-clause-survives
returns-in-Some-clause-survives g c =
    file_so (GoesOnAnywhere c.args.left.now) c.args.left.now c.args.drops c.of_carried-opened.result (returns-in-Some-clause-opens g c)
    (λ l is. goes_on_anywhere c.crash_leaves.ensures.synced c.crash_leaves.ensures.commit
    c.carried_headers.ensures.apart c.carried_headers.ensures.read c.one_spelling.ensures.state
    c.runs_are_well_formed.ensures.start c.numbers_after.ensures c.args.left.now l is)

pub returns-in-Some-clause-exact : goal.returns-in-Some-clause-exact
returns-in-Some-clause-exact g c =
    file_so (IsExactlyIn c.args.left.now) c.args.left.now c.args.drops c.of_carried-opened.result (returns-in-Some-clause-opens g c)
    (λ l is. is_exactly_in c.crash_leaves.ensures.beginning c.one_front.ensures.front
    c.carried_headers.ensures.apart c.carried_headers.ensures.read c.one_spelling.ensures.state
    c.appended_logs.ensures.frames c.args.left.now l is)

pub returns-in-Some-clause-headed : goal.returns-in-Some-clause-headed
returns-in-Some-clause-headed g c =
    not_shut_in c.frames_are_right.ensures.right c.carried_headers.ensures.apart c.carried_headers.ensures.read
    c.args.left.now c.args.drops c.of_carried-opened.result (returns-in-Some-clause-opens g c)

pub returns-in-None-clause-survives : goal.returns-in-None-clause-survives
returns-in-None-clause-survives g c =
    let opens : OpensFile c.args.left.now c.args.drops c.of.result = inl (
      c.in-None.ensures.none.0,
      subst (λ (b : List ℕ). OpensLog b c.args.drops c.of.result) (c.borrowed.ensures ∙ c.in-None.ensures.none.1)
          c.of.ensures.opens,
    ) in
    file_so (GoesOnAnywhere c.args.left.now) c.args.left.now c.args.drops c.of.result opens
    (λ l is. goes_on_anywhere c.crash_leaves.ensures.synced c.crash_leaves.ensures.commit
    c.carried_headers.ensures.apart c.carried_headers.ensures.read c.one_spelling.ensures.state
    c.runs_are_well_formed.ensures.start c.numbers_after.ensures c.args.left.now l is)

pub returns-in-None-clause-exact : goal.returns-in-None-clause-exact
returns-in-None-clause-exact g c =
    let opens : OpensFile c.args.left.now c.args.drops c.of.result = inl (
      c.in-None.ensures.none.0,
      subst (λ (b : List ℕ). OpensLog b c.args.drops c.of.result) (c.borrowed.ensures ∙ c.in-None.ensures.none.1)
          c.of.ensures.opens,
    ) in
    file_so (IsExactlyIn c.args.left.now) c.args.left.now c.args.drops c.of.result opens
    (λ l is. is_exactly_in c.crash_leaves.ensures.beginning c.one_front.ensures.front
    c.carried_headers.ensures.apart c.carried_headers.ensures.read c.one_spelling.ensures.state
    c.appended_logs.ensures.frames c.args.left.now l is)

pub returns-in-None-clause-headed : goal.returns-in-None-clause-headed
returns-in-None-clause-headed g c =
    let opens : OpensFile c.args.left.now c.args.drops c.of.result = inl (
      c.in-None.ensures.none.0,
      subst (λ (b : List ℕ). OpensLog b c.args.drops c.of.result) (c.borrowed.ensures ∙ c.in-None.ensures.none.1)
          c.of.ensures.opens,
    ) in
    not_shut_in c.frames_are_right.ensures.right c.carried_headers.ensures.apart c.carried_headers.ensures.read
    c.args.left.now c.args.drops c.of.result opens
