use Rattle.std.proofs.Common.{◌+◌, arith}
use Rattle.rq_behind.proofs.Sound.{leads_on}
use Rattle.rq_behind.proofs.places.led_to.Goals as goal

pub returns-in-Some : goal.returns-in-Some
returns-in-Some c =
    leads_on c.args.bytes.now c.args.at (c.args.at + 36 + c.in-Some.len) c.led_from.result.place c.in-Some.ensures.0
    (omega (arith, c.in-Some.ensures.1)) c.led_from.ensures
