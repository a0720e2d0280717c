-- The open units as they stand, and the queues that each of them named.
use Rattle.std.specs.Prelude.{ℕ, ◌≡◌, ◌==◌, Bool, true, List, is_some}
use Rattle.std.specs.List.{list_any}
use Rattle.std.specs.Ordering.{nat_cmp}
use Rattle.std.specs.BTreeMap.{get}
use Rattle.rq_model.specs.States.{State}
use Rattle.rq_model.specs.Machine.{is_open}
use Rattle.rq_model.specs.Queues.{is_engaged}
use Rattle.rq_queue.specs.Noted.{filed}
use Rattle.rq_standing.specs.declared.open_units.OpenUnits.{OpenUnits}

abbrev pub has_open : OpenUnits → ℕ → Bool
has_open x unit = is_some (get nat_cmp x.named unit)

-- the queues that the unit named, one for each of its operations
abbrev pub queues_of : OpenUnits → ℕ → List ℕ
queues_of x unit = filed nat_cmp unit x.named.entries

-- the unit named the queue
abbrev pub engages_in : OpenUnits → ℕ → ℕ → Bool
engages_in x unit queue = list_any (λ v. v == queue) (queues_of x unit)

-- they are the open units of the state, and each named all queues in which it has an element or note
pub record AreUnits (x : OpenUnits) (s : State) : Type 0 where
  pub opened : (unit : ℕ) → has_open x unit ≡ is_open s unit
  pub engaged : (unit queue : ℕ) → is_engaged s queue unit ≡ true
      → engages_in x unit queue ≡ true
