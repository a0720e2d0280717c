use Rattle.rq_found.proofs.ends.End.after_restart.Goals as goal

pub returns-clause-end : goal.returns-clause-end
returns-clause-end g c = c.in_ok-told.ensures.end c.args.r.now (record {
  next = c.records.ensures;
  used = c.used.ensures;
  total = c.total.ensures;
  why = c.why.ensures;
})
