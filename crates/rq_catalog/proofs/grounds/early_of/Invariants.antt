use Rattle.std.proofs.Common.{◌≡◌, ℕ, List, true, take}
use Rattle.std.specs.List.{list_any}
use Rattle.rq_catalog.specs.Grounds.{is_registered_in, has_key}
use Rattle.rq_catalog.proofs.grounds.early_of.Given as goal

abbrev pub invariant-loop-at : goal.invariant-loop-at
invariant-loop-at l = (k : ℕ × List ℕ)
    → is_registered_in l.roll k ≡ true → list_any (has_key k) (take l.at l.registrants) ≡ true
