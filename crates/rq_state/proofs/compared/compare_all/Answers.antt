use Rattle.std.proofs.Common.{arith, sym, ◌∙◌, drop}
use Rattle.std.specs.List.{flat_map}
use Rattle.rq_state.proofs.Behind.{next_compared, all_differ, all_compared}
use Rattle.rq_state.proofs.compared.compare_all.Goals as goal

pub loop-member-preserved : goal.loop-member-preserved
loop-member-preserved g c = next_compared g.M.Compare.spelling c.args.members.now _ c.loop-member.member-index
    c.member-item.result c.loop-member.bytes c.compare.new.bytes (omega (arith, c.loop-member-test.true))
    c.member-item.is c.compare.ensures c.loop-member.invariant

pub returns-then-not-agree : goal.returns-then-not-agree
returns-then-not-agree g c =
    all_differ (flat_map g.M.Compare.spelling (drop c.loop-member.member-index c.args.members.now))
    c.loop-member.bytes _ (sym c.agree.ensures ∙ c.if-not-agree.true) c.loop-member.invariant

pub returns : goal.returns
returns g c = all_compared g.M.Compare.spelling c.args.members.now _ c.loop-member.member-index c.loop-member.bytes
    (omega (arith, c.loop-member-test.false)) c.loop-member.invariant
