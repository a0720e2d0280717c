use Rattle.std.proofs.Common.{subst}
use Rattle.rq_behind.specs.Mending.{IsTried}
use Rattle.rq_behind.proofs.Advances.{tried_then, tried_twice}
use Rattle.rq_behind.proofs.mending.Mending.try_ends.Goals as goal

pub returns-then-branch-2 : goal.returns-then-branch-2
returns-then-branch-2 c =
    let two = tried_twice c.args.self.now c.try_digest.new.self c.try_found_length.new.self c.in_ok-try_digest.field-0
    c.in_ok-try_found_length.field-0 c.if-branch.false c.in_ok-try_digest.ensures c.in_ok-try_found_length.ensures in
    subst (IsTried c.args.self.now c.try_found_length.new.self) c.if-branch-2.true two

pub returns-then-branch-3 : goal.returns-then-branch-3
returns-then-branch-3 c =
    let two = tried_twice c.args.self.now c.try_digest.new.self c.try_found_length.new.self c.in_ok-try_digest.field-0
    c.in_ok-try_found_length.field-0 c.if-branch.false c.in_ok-try_digest.ensures c.in_ok-try_found_length.ensures in
    let three = tried_twice c.args.self.now c.try_found_length.new.self c.try_record_lengths.new.self
    c.in_ok-try_found_length.field-0 c.in_ok-try_record_lengths.field-0 c.if-branch-2.false two
    c.in_ok-try_record_lengths.ensures in
    subst (IsTried c.args.self.now c.try_record_lengths.new.self) c.if-branch-3.true three

pub returns : goal.returns
returns c =
    let two = tried_twice c.args.self.now c.try_digest.new.self c.try_found_length.new.self c.in_ok-try_digest.field-0
    c.in_ok-try_found_length.field-0 c.if-branch.false c.in_ok-try_digest.ensures c.in_ok-try_found_length.ensures in
    let three = tried_twice c.args.self.now c.try_found_length.new.self c.try_record_lengths.new.self
    c.in_ok-try_found_length.field-0 c.in_ok-try_record_lengths.field-0 c.if-branch-2.false two
    c.in_ok-try_record_lengths.ensures in
    tried_then c.try_lengths.result c.args.self.now c.try_record_lengths.new.self c.try_lengths.new.self
    c.in_ok-try_record_lengths.field-0 c.if-branch-3.false three c.try_lengths.ensures
