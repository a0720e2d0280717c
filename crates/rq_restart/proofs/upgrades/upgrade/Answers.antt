use Rattle.std.proofs.Common.{List, ℕ, ap, subst}
use Rattle.rq_record.specs.Views.{version_of}
use Rattle.rq_restart.specs.RedoneFronts.{IsFoundFront}
use Rattle.rq_restart.proofs.Upgradings.{extent_in, chained_upgrades, copied_upgrades}
use Rattle.rq_restart.proofs.upgrades.upgrade.Goals as goal
use Rattle.rq_restart.proofs.upgrades.upgrade.Goals.{In_ok-from}

found : (g : _) (c : In_ok-from g) → IsFoundFront c.args.bytes.now c.in_ok-from.from
found g c = subst (λ (b : List ℕ). IsFoundFront b c.in_ok-from.from) c.borrowed.ensures c.in_ok-from.ensures

pub chained_anew-requires : goal.chained_anew-requires
chained_anew-requires g c =
    let is = c.extent_of-extent.ensures c.args.bytes.now
    (found g ((goal.at.chained_anew-requires g c).In_ok-from)) in
    (extent_in c.args.bytes.now c.extent_of-extent.result is).0

pub returns-in-One : goal.returns-in-One
returns-in-One g c =
    let is = c.extent_of-extent.ensures c.args.bytes.now (found g ((goal.at.returns-in-One g c).In_ok-from)) in
    chained_upgrades c.upgrade_is_the_same.ensures.front c.args.bytes.now c.extent_of-extent.result is
    c.chained_anew.result c.chained_anew.ensures.chained c.chained_anew.ensures.refused

pub returns-in-Two : goal.returns-in-Two
returns-in-Two g c =
    let is = c.extent_of-extent.ensures c.args.bytes.now (found g ((goal.at.returns-in-Two g c).In_ok-from)) in
    copied_upgrades c.upgrade_is_the_same.ensures.front c.args.bytes.now c.extent_of-extent.result
    (ap version_of c.in-Two.is) is c.copied.result c.copied.ensures.copied c.copied.ensures.refused
