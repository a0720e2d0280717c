use Rattle.std.proofs.Common.{sym, subst}
use Rattle.std.specs.List.{AllByRecursion}
use Rattle.std.specs.BTreeMap.{is_at}
use Rattle.std.specs.Ordering.{nat_cmp}
use Rattle.rq_queue.specs.Kept.{Among, IsOfUnit, items_of}
use Rattle.rq_queue.proofs.Units.{Lists, taken_out, each_left, found_of}
use Rattle.rq_queue.proofs.shelves.taken.Goals as goal

pub returns-in-Some-clause-among : goal.returns-in-Some-clause-among
returns-in-Some-clause-among c =
    subst (λ (es : Lists). Among c.in-Some.list.items (items_of c.args.marked.now.entries) (items_of es))
    (sym c.remove.ensures.entries)
    (taken_out (is_at (nat_cmp c.args.unit.0)) c.args.marked.now.entries c.in-Some.list (cc))

pub returns-in-Some-clause-of_units : goal.returns-in-Some-clause-of_units
returns-in-Some-clause-of_units c =
    subst (AllByRecursion IsOfUnit) (sym c.remove.ensures.entries)
    (each_left IsOfUnit (is_at (nat_cmp c.args.unit.0)) c.args.marked.now.entries c.requires.of_units)

pub returns-in-Some-clause-of_unit : goal.returns-in-Some-clause-of_unit
returns-in-Some-clause-of_unit c = found_of c.args.unit.0 c.args.marked.now.entries c.in-Some.list (cc) c.requires.of_units
