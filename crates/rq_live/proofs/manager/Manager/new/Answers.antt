use Rattle.std.proofs.Common.{refl, []}
use Rattle.rq_record.specs.Views.{version_of}
use Rattle.rq_live.proofs.Taking.{bare_room}
use Rattle.rq_live.proofs.manager.Manager.new.Goals as goal

pub returns-clause-stands : goal.returns-clause-stands
returns-clause-stands g c = record {
  unspent = refl;
  serves = (c.requires.works, c.requires.sure, c.requires.synced);
  bytes = [];
  known = c.requires.empty;
  at = c.in_ok-kernel.ensures.stands;
  room = bare_room (version_of c.args.version);
}
