use Rattle.std.proofs.Common.{◌≡◌, drop}
use Rattle.std.specs.List.{list_all}
use Rattle.rq_state.specs.Inside.{state_of}
use Rattle.rq_state.specs.Tests.{note_test}
use Rattle.rq_state.proofs.checks.lists.are_notes.Given as goal

abbrev pub invariant-loop-note : goal.invariant-loop-note
invariant-loop-note l = list_all (note_test (state_of l.fields)) (drop l.note-index l.fields.notes.items)
    ≡ list_all (note_test (state_of l.fields)) l.fields.notes.items
