use Rattle.std.proofs.Common.{◌≡◌, Some, arith, rules}
use Rattle.rq_bytes.specs.Readers.{byte}
use Rattle.rq_bytes.proofs.Single.{reads_byte}
use Rattle.rq_record.proofs.Parts.{left_at}
use Rattle.rq_record.proofs.readers.read.Goals as goal

pub of_kind-requires : goal.of_kind-requires
of_kind-requires c =
    let kind : byte c.args.body.now ≡ Some (c.in_ok-kind.kind, c.u8.new.self) = search rules in
    left_at reads_byte c.args.at.now.log.now _ _ c.args.at.now.end _
    (record { ends = c.requires; bytes = λ i. omega (arith, c.type_inv.body i) }) kind
