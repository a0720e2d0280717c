use Rattle.std.proofs.Common.{◌≡◌, ◌≤◌, ◌<◌, ◌+◌, ◌++◌, ℕ, List, length}
use Rattle.std.specs.Prelude.{All}
use Rattle.std.proofs.Math.Seq.{paste}
use Rattle.rq_behind.specs.Mending.{IsChanged}
use Rattle.rq_behind.specs.declared.changes.Change.{Change}
use Rattle.rq_behind.proofs.changes.put_back.Given as goal

abbrev pub invariant-places : goal.invariant-places
invariant-places g l = record {
  size : length l.bytes.items ≡ length l.initial.bytes.items;
  written : l.bytes.items ≡ paste l.initial.bytes.items l.offset l.now l.k;
  changed : (log : List ℕ) (from : ℕ) → IsChanged log from l.initial.bytes.items l.initial.changes.items l.offset
      → IsChanged log from l.bytes.items l.changes.items (l.offset + l.k);
  told : (more : List Change) × (l.changes.items ≡ l.initial.changes.items ++ more)
      × All (λ c. (c.frame ≡ l.frame) × (l.offset ≤ c.offset) × (c.offset < l.offset + g.row.N)) more;
}
