use Rattle.std.proofs.Common.{◌++◌}
use Rattle.std.specs.Map.{values_of}
use Rattle.rq_queue.specs.Kept.{items_of}
use Rattle.rq_queue.proofs.Building.{mapped_too, parted_apart, parted_sorted}
use Rattle.rq_queue.proofs.Sorting.{apart_front}
use Rattle.rq_queue.proofs.elements.Elements.of.Goals as goal

pub mapped-requires-clause-apart : goal.mapped-requires-clause-apart
mapped-requires-clause-apart c =
    let free = c.in_ok-list.list.items in
    let held = items_of c.in_ok-list.marked.entries in
    apart_front free held
    (parted_apart c.args.items.items c.requires (free ++ held) c.in_ok-list.ensures.all)

pub invariant_of-result : goal.invariant_of-result
invariant_of-result c =
    let free = values_of c.in_ok-free.free.entries in
    let held = items_of c.in_ok-list.marked.entries in
    record {
      keyed = c.in_ok-free.ensures.made.0;
      of_units = c.in_ok-list.ensures.of_units;
      apart = parted_apart c.args.items.items c.requires (free ++ held)
          (mapped_too c.args.items.items held c.in_ok-list.list.items free c.in_ok-list.ensures.all
          c.in_ok-free.ensures.made.1);
      known = tt;
    }

pub returns-clause-done : goal.returns-clause-done
returns-clause-done c =
    let free = values_of c.in_ok-free.free.entries in
    let held = items_of c.in_ok-list.marked.entries in
    parted_sorted c.args.items.items c.requires (free ++ held)
    (mapped_too c.args.items.items held c.in_ok-list.list.items free c.in_ok-list.ensures.all
    c.in_ok-free.ensures.made.1)
