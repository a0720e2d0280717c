use Rattle.std.proofs.Common.{subst}
use Rattle.rq_model.specs.Frames.{AreBytes}
use Rattle.rq_tool.proofs.works.closed_log.Goals as goal

pub returns-clause-made : goal.returns-clause-made
returns-clause-made g c =
    let h = c.in_ok-log.ensures in record {
      log = h.0;
      is = h.1;
      short = h.2;
      stands = c.closed_logs.ensures.stands c.args.bytes.items c.in_ok-log.log.items
          (subst AreBytes c.deref.ensures.value c.are_bytes.ensures) h.1 h.2;
    }
