use Rattle.std.proofs.Common.{List, ℕ, subst, sym}
use Rattle.rq_report.specs.Streams.{Delivers}
use Rattle.rq_tool.specs.Works.{IsTextOf, IsWhyNot}
use Rattle.rq_tool.specs.declared.works.Work.TheVariants as works
use Rattle.rq_tool.proofs.Made.{delivers_puts}
use Rattle.rq_tool.proofs.door.put.Goals as goal

pub returns-in-Report : goal.returns-in-Report
returns-in-Report g c = rw c.in-Report.is c.put_report.ensures

pub returns-in-ReportAt : goal.returns-in-ReportAt
returns-in-ReportAt g c = rw c.in-ReportAt.is c.put_report_at.ensures

pub returns-in-CarriedReport : goal.returns-in-CarriedReport
returns-in-CarriedReport g c = rw c.in-CarriedReport.is c.put_carried_report.ensures

pub returns-in_ok-text-in-Audit : goal.returns-in_ok-text-in-Audit
returns-in_ok-text-in-Audit g c =
    let b = c.args.bytes.items in
    let faults = g.O.Output.faults in
    let contents = g.O.Output.contents in
    rw c.in-Audit.is (delivers_puts (IsTextOf works.Audit b) (IsWhyNot works.Audit b) (faults c.args.output.now)
    (faults c.write_all.new.output) (contents c.args.output.now) (contents c.write_all.new.output)
    c.as_bytes.result.now c.write_all.result
    (subst (IsTextOf works.Audit b) (sym c.as_bytes.ensures.value) c.in_ok-text-in-Audit.ensures.made) c.write_all.ensures)

pub returns-in_ok-closed-in-Close : goal.returns-in_ok-closed-in-Close
returns-in_ok-closed-in-Close g c =
    let b = c.args.bytes.items in
    let faults = g.O.Output.faults in
    let contents = g.O.Output.contents in
    let wrote = subst (λ (xs : List ℕ). Delivers (faults c.args.output.now) (faults c.write_all-in-Close.new.output)
    (contents c.args.output.now) (contents c.write_all-in-Close.new.output) xs c.write_all-in-Close.result)
    c.deref.ensures.value c.write_all-in-Close.ensures in
    rw c.in-Close.is (delivers_puts (IsTextOf works.Close b) (IsWhyNot works.Close b) (faults c.args.output.now)
    (faults c.write_all-in-Close.new.output) (contents c.args.output.now) (contents c.write_all-in-Close.new.output)
    c.in_ok-closed-in-Close.closed.items c.write_all-in-Close.result c.in_ok-closed-in-Close.ensures.made wrote)

pub returns-in_ok-upgraded-in-Upgrade : goal.returns-in_ok-upgraded-in-Upgrade
returns-in_ok-upgraded-in-Upgrade g c =
    let b = c.args.bytes.items in
    let faults = g.O.Output.faults in
    let contents = g.O.Output.contents in
    let wrote = subst (λ (xs : List ℕ). Delivers (faults c.args.output.now) (faults c.write_all-in-Upgrade.new.output)
    (contents c.args.output.now) (contents c.write_all-in-Upgrade.new.output) xs c.write_all-in-Upgrade.result)
    c.deref-in-Upgrade-2.ensures.value c.write_all-in-Upgrade.ensures in
    let is = subst (λ (z : List ℕ). IsTextOf works.Upgrade z c.in_ok-upgraded-in-Upgrade.upgraded.items)
    c.deref-in-Upgrade.ensures.value c.in_ok-upgraded-in-Upgrade.ensures.made in
    rw c.in-Upgrade.is (delivers_puts (IsTextOf works.Upgrade b) (IsWhyNot works.Upgrade b) (faults c.args.output.now)
    (faults c.write_all-in-Upgrade.new.output) (contents c.args.output.now) (contents c.write_all-in-Upgrade.new.output)
    c.in_ok-upgraded-in-Upgrade.upgraded.items c.write_all-in-Upgrade.result is wrote)
