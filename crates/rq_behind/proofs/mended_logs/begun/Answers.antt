use Rattle.std.proofs.Common.{ap, arith, length}
use Rattle.rq_record.specs.Views.{version_of}
use Rattle.rq_front.proofs.Framing.{log_long}
use Rattle.rq_behind.proofs.mended_logs.begun.Goals as goal

pub up_to_damage-requires-clause-within : goal.up_to_damage-requires-clause-within
up_to_damage-requires-clause-within g c κs within =
    let long = log_long (version_of c.in-Some.field-0) c.deref.result.now c.in-Some.ensures.some in
    c.requires.within (omega (arith, long, ap length c.deref.ensures.value))
