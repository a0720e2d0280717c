use Rattle.std.proofs.Common.{◌≡◌, rules}
use Rattle.rq_journal.specs.Closings.{with_frames}
use Rattle.rq_journal.proofs.CarriedFronts.{closed_from}
use Rattle.rq_journal.proofs.Closing.{file_of}
use Rattle.rq_journal.proofs.growths.Growth.closed_carried.Goals as goal

pub returns-in_err-extend_from_slice-clause-from : goal.returns-in_err-extend_from_slice-clause-from
returns-in_err-extend_from_slice-clause-from c offset xs h = closed_from c.args.bytes.items offset xs c.args.self.now h

pub returns-clause-file : goal.returns-clause-file
returns-clause-file c =
    let made = c.extend_from_slice.new.self in
    let all : made.items ≡ with_frames c.args.bytes.items c.args.self.now = search rules in
    file_of _ made c.deref_mut.result.now c.write_as_carried.new.bytes c.write_as_carried.result
    c.versions.ensures.header all c.deref_mut.ensures.value c.write_as_carried.ensures.some c.write_as_carried.ensures.none

pub returns-clause-from : goal.returns-clause-from
returns-clause-from c offset xs h = closed_from c.args.bytes.items offset xs c.args.self.now h
