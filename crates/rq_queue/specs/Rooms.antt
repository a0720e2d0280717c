-- The bytes of what belongs to a queue.
use Rattle.std.specs.Prelude.{ℕ, ◌+◌, ◌*◌, length}
use Rattle.rq_model.specs.Queues.{Part}

-- those of its members, each in its shortest form
abbrev pub member_bytes : Part → ℕ
member_bytes p = 6 * length p.registrants + 28 * length p.elements + 38 * length p.notes
