use Rattle.std.proofs.Common.{arith}
use Rattle.rq_record.proofs.Records.{is_decoded}
use Rattle.rq_record.proofs.readers.decode_before.Goals as goal

pub returns : goal.returns
returns c = record { decodes = is_decoded _ _ _ (λ i. omega (arith, c.type_inv.body i)) c.read.ensures }
