use Rattle.std.proofs.Common.{arith}
use Rattle.rq_record.specs.Views.{version_of}
use Rattle.rq_front.proofs.Framing.{file_long}
use Rattle.rq_front.proofs.carried_headers.has_carried_header.Goals as goal

pub returns-then-bytes-lt-HEADER_LEN : goal.returns-then-bytes-lt-HEADER_LEN
returns-then-bytes-lt-HEADER_LEN c =
    (λ t. cc, λ e. absurd (omega (arith, file_long (version_of c.args.version) c.args.bytes.now e)))
