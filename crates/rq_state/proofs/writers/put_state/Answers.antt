use Rattle.std.proofs.Common.{◌≡◌, ◌++◌, map}
use Rattle.std.specs.Int.{w64, to_be_bytes}
use Rattle.rq_model.specs.StateSpelling.{counted, definition_bytes}
use Rattle.rq_state.specs.Views.{unit_of}
use Rattle.rq_state.proofs.Joined.{joined_all}
use Rattle.rq_state.proofs.writers.put_state.Goals as goal

pub returns : goal.returns
returns g c =
    let s = c.args.state.now in
    joined_all c.args.out.now.items c.put_numbers.new.out.items c.put_all.new.out.items
    c.put_units.new.out.items c.put_members.new.out.items
    (to_be_bytes w64 s.next) (to_be_bytes w64 s.greatest) (to_be_bytes w64 s.committed) (to_be_bytes w64 s.aborted)
    (counted definition_bytes s.definitions.now) (counted (to_be_bytes w64) (map unit_of s.units.now))
    (counted g.R.Spell.spelling s.registrants.now ++ (counted g.E.Spell.spelling s.elements.now
    ++ counted g.N.Spell.spelling s.notes.now))
    c.put_members.result c.in_ok-put_numbers.ensures c.in_ok-put_all.ensures c.in_ok-put_units.ensures c.put_members.ensures
