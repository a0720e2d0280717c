-- The best elements of a queue.
use Rattle.std.specs.Prelude.{◌≡◌, ℕ, List, take}
use Rattle.rq_model.specs.Reports.{IsListing}
use Rattle.rq_model.specs.States.{Element}

-- the first of the listing of the queue, so many or all
abbrev pub AreFirst : ℕ → ℕ → List Element → List Element → Type 0
AreFirst count queue elements firsts =
    (listing : List Element) × IsListing queue elements listing × (firsts ≡ take count listing)
