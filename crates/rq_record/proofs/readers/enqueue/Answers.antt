use Rattle.std.proofs.Common.{◌≡◌, ℕ, List, Some, rules, subst, sym}
use Rattle.rq_bytes.specs.Readers.{byte, number}
use Rattle.rq_bytes.proofs.Single.{reads_byte, reads_u32, reads_u64}
use Rattle.rq_model.specs.Reading.{who_read}
use Rattle.rq_model.proofs.RecordReaders.{reads_who}
use Rattle.rq_record.specs.LogParts.{EndsAt}
use Rattle.rq_record.proofs.Parts.{left_at}
use Rattle.rq_record.proofs.readers.enqueue.Goals as goal

pub before-requires : goal.before-requires
before-requires c =
    let log = c.args.at.now.log.now in
    let end = c.args.at.now.end in
    let unit : number 8 c.args.bytes ≡ Some (c.in_ok-unit.unit, c.u64.new.self) = search rules in
    let queue : number 4 c.u64.new.self ≡ Some (c.in_ok-queue.queue, c.u32.new.self) = search rules in
    let priority : byte c.u32.new.self ≡ Some (c.in_ok-priority.priority, c.u8.new.self) = search rules in
    let by : who_read c.u8.new.self ≡ Some (c.in_ok-by.by, c.who.new.bytes) = search rules in
    let at_queue = left_at reads_u64 log _ _ end _ c.requires unit in
    let at_priority = left_at reads_u32 log _ _ end _ at_queue queue in
    let at_by = left_at reads_byte log _ _ end _ at_priority priority in
    subst (λ (left : List ℕ). EndsAt log end left) (sym c.rest.ensures) (left_at reads_who log _ _ end _ at_by by).ends
