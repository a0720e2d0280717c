-- What becomes of an element when the unit that put it in or took it ends.
use Rattle.std.specs.Prelude.{ℕ, ◌+◌, Option, Some, None, if◌then◌else◌}
use Rattle.rq_model.specs.Machine.{leaves}
use Rattle.rq_model.specs.Records.{Record, Commit, Abort}
use Rattle.rq_model.specs.States.{Element, Definition, is_fresh, is_held}
use Rattle.rq_queue.specs.declared.fates.Fate.{Fate}
use Rattle.rq_queue.specs.declared.fates.Fate.TheVariants.{Freed, Gone, Undone, Back, Moved}

abbrev pub at_commit : ℕ → Element → Option Fate
at_commit unit e = if is_fresh unit e.mark then Some (Freed (record { 0 = e.home }))
    else (if is_held unit e.mark then Some Gone else None)

abbrev pub at_abort : Definition → ℕ → Element → Option Fate
at_abort home unit e = if is_fresh unit e.mark then Some Undone
    else (if leaves home unit e then Some (Moved (record { 0 = home.error }))
    else (if is_held unit e.mark then Some (Back (record { 0 = e.home }) (e.attempts + 1)) else None))

-- what the record makes of an element of the queue, if it ends the element's unit
abbrev pub fate_under : Record → Definition → Element → Option Fate
fate_under (Commit unit) home e = at_commit unit e
fate_under (Abort unit) home e = at_abort home unit e
fate_under r home e = None
