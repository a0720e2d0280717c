use Rattle.std.specs.Map.{values_of}
use Rattle.rq_queue.specs.Kept.{items_of}
use Rattle.rq_queue.proofs.Doing.{put_among}
use Rattle.rq_queue.proofs.ByNumber.{each_front}
use Rattle.rq_queue.proofs.Units.{stowed_sorted, stowed_apart}
use Rattle.rq_queue.proofs.shelves.shelve.Goals as goal

pub returns-in_ok-freed-in-None-clause-keyed : goal.returns-in_ok-freed-in-None-clause-keyed
returns-in_ok-freed-in-None-clause-keyed c =
    c.in_ok-freed-in-None.ensures.keyed c.requires.keyed (each_front _ _ _ c.requires.apart.0)

pub returns-in_ok-freed-in-None-clause-apart : goal.returns-in_ok-freed-in-None-clause-apart
returns-in_ok-freed-in-None-clause-apart c =
    (put_among c.args.e (values_of c.freed.new.free.entries)
    (values_of c.args.free.now.entries) (items_of c.args.marked.now.entries)
    (c.in_ok-freed-in-None.ensures.among c.requires.keyed (each_front _ _ _ c.requires.apart.0)) c.requires.apart).1

pub returns-in_ok-freed-in-None-clause-put : goal.returns-in_ok-freed-in-None-clause-put
returns-in_ok-freed-in-None-clause-put c =
    (put_among c.args.e (values_of c.freed.new.free.entries)
    (values_of c.args.free.now.entries) (items_of c.args.marked.now.entries)
    (c.in_ok-freed-in-None.ensures.among c.requires.keyed (each_front _ _ _ c.requires.apart.0)) c.requires.apart).0

pub returns-in_ok-stow-in-Some-clause-apart : goal.returns-in_ok-stow-in-Some-clause-apart
returns-in_ok-stow-in-Some-clause-apart c =
    stowed_apart c.args.e (values_of c.args.free.now.entries) c.args.marked.now.entries
    c.stow.new.marked.entries c.in_ok-stow-in-Some.ensures.stowed c.requires.apart

pub returns-in_ok-stow-in-Some-clause-put : goal.returns-in_ok-stow-in-Some-clause-put
returns-in_ok-stow-in-Some-clause-put c =
    stowed_sorted c.args.e (values_of c.args.free.now.entries) c.args.marked.now.entries
    c.stow.new.marked.entries c.in_ok-stow-in-Some.ensures.stowed c.requires.apart
