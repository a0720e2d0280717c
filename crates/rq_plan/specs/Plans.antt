-- What a plan holds.
use Rattle.std.specs.Prelude.{ℕ}
use Rattle.rq_plan.specs.declared.plan.Plan.{Plan}

-- how many workers there are
abbrev pub workers_of : Plan → ℕ
workers_of plan = plan.workers

-- how many frames one grain has
abbrev pub grain_of : Plan → ℕ
grain_of plan = plan.grain
