use Rattle.std.proofs.Common.{◌++◌, ap, string_bytes, ◌∙◌, arith}
use Rattle.rq_model.specs.Reports.{registrant_line}
use Rattle.rq_report.proofs.Indexed.{indexed_more, indexed_all}
use Rattle.rq_serve.proofs.listings.put_registrants.Goals as goal

pub loop-r-preserved : goal.loop-r-preserved
loop-r-preserved c = indexed_more registrant_line c.args.registrants.now c.loop-r.r-index c.r-item.result
    _ _ _ (omega (arith, c.loop-r-test.true))
    (c.in_ok-put_registrant_line.ensures ∙ ap (λ r. string_bytes c.loop-r.text ++ registrant_line r) c.r-item.is)
    c.loop-r.invariant

pub returns : goal.returns
returns c = indexed_all registrant_line c.args.registrants.now c.loop-r.r-index _ _
    (omega (arith, c.loop-r-test.false)) c.loop-r.invariant
