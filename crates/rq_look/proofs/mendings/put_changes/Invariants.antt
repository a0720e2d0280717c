use Rattle.std.proofs.Common.{◌≡◌, ◌++◌, take, string_bytes}
use Rattle.std.specs.List.{flat_map}
use Rattle.rq_look.specs.Mendings.{change_text}
use Rattle.rq_look.proofs.mendings.put_changes.Given as goal

abbrev pub invariant-loop-change : goal.invariant-loop-change
invariant-loop-change l =
    string_bytes l.text ≡ string_bytes l.initial.text ++ flat_map change_text (take l.change-index l.changes)
