use Rattle.std.proofs.Common.{arith}
use Rattle.rq_record.specs.Views.{version_of}
use Rattle.rq_behind.proofs.Scanned.{none_more, seen}
use Rattle.rq_behind.proofs.scan.Scan.of.Goals as goal

pub returns-in-Some : goal.returns-in-Some
returns-in-Some c =
    seen (version_of c.args.version) c.args.bytes.now c.args.from c.loop-at.at c.in-Some.seen (omega arith)
    (omega arith) c.loop-at.invariant c.in-Some.ensures

pub loop-at-preserved : goal.loop-at-preserved
loop-at-preserved c =
    none_more (version_of c.args.version) c.args.bytes.now c.args.from c.loop-at.at c.loop-at.invariant c.in-None.ensures

pub returns : goal.returns
returns c = λ q low lt. c.loop-at.invariant q low (omega arith)
