use Rattle.rq_record.specs.Views.{version_of}
use Rattle.rq_front.proofs.Framing.{log_long}
use Rattle.rq_front.proofs.carried_headers.write_as_carried.Goals as goal

pub put_in_place-requires : goal.put_in_place-requires
put_in_place-requires c = log_long (version_of c.in_ok-version.version) c.args.bytes.now c.in_ok-version.ensures.some
