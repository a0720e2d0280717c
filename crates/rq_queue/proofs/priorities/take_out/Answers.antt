use Rattle.std.proofs.Common.{ap, ◌∙◌, sym, subst}
use Rattle.std.specs.BTreeMap.{is_at}
use Rattle.std.specs.List.{AllByRecursion}
use Rattle.std.specs.Option.{option_copied}
use Rattle.std.specs.Map.{values_of}
use Rattle.rq_queue.specs.Kept.{IsKeyed}
use Rattle.rq_queue.proofs.Doing.{free_cmp}
use Rattle.rq_queue.proofs.Known.{none_to_kill, one_killed}
use Rattle.rq_queue.proofs.Units.{each_left}
use Rattle.rq_queue.proofs.priorities.take_out.Goals as goal

pub returns-clause-keyed : goal.returns-clause-keyed
returns-clause-keyed c = subst (AllByRecursion IsKeyed) (sym c.remove.ensures.entries)
    (each_left IsKeyed (is_at (free_cmp (record { 0 = c.in-Some.priority.now }, c.args.id.0))) c.args.free.now.entries
    c.requires.keyed)

pub returns-clause-others : goal.returns-clause-others
returns-clause-others c = ap values_of c.remove.ensures.entries
    ∙ one_killed c.args.id.0 c.in-Some.priority.now c.args.by_id.now.entries c.args.free.now.entries
    (sym c.get.ensures.value ∙ ap option_copied c.in-Some.is) c.requires.keyed c.requires.apart c.requires.known

pub returns-in_default-clause-others : goal.returns-in_default-clause-others
returns-in_default-clause-others c =
    none_to_kill c.args.id.0 c.args.by_id.now.entries (values_of c.args.free.now.entries)
    (sym c.get.ensures.value ∙ ap option_copied c.in_default.is) c.requires.known
