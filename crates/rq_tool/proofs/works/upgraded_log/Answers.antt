use Rattle.rq_tool.proofs.works.upgraded_log.Goals as goal

pub returns-clause-made : goal.returns-clause-made
returns-clause-made g c =
    let h = c.in_ok-log.ensures in record {
      log = h.0;
      is = h.1;
      same = c.upgrade_is_the_same.ensures.same c.args.bytes.now c.in_ok-log.log.items c.are_bytes.ensures h.1;
      short = h.2;
    }
