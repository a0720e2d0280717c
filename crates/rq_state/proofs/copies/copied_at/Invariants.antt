use Rattle.std.proofs.Common.{◌≡◌, ◌++◌, map, drop}
use Rattle.std.specs.Prelude.{slice_index_or}
use Rattle.rq_state.proofs.copies.copied_at.Given as goal

abbrev pub invariant-loop-index : goal.invariant-loop-index
invariant-loop-index g l = (x : g.row.M.Denot)
    → l.copies.items ++ map (λ index. slice_index_or l.members index x) (drop l.index-index l.indices)
    ≡ map (λ index. slice_index_or l.members index x) l.indices
