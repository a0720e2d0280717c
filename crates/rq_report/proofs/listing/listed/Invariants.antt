use Rattle.std.proofs.Common.{◌≡◌, ◌++◌, [], ◌∷◌, map, filter, drop}
use Rattle.std.specs.List.{flat_map}
use Rattle.std.specs.Prelude.{slice_index_or}
use Rattle.rq_model.specs.States as model
use Rattle.rq_report.proofs.listing.listed.Given as goal

-- those found, and the free ones at the indices that are left, are the free ones of all indices
abbrev pub invariant-loop-at : goal.invariant-loop-at
invariant-loop-at l =
    (x : model.Element) → map (λ e. e.now) l.found.items
    ++ flat_map (λ index. filter (λ e. model.is_free e.mark) (slice_index_or l.state.elements index x ∷ []))
    (drop l.at-index l.indices)
    ≡ flat_map (λ index. filter (λ e. model.is_free e.mark) (slice_index_or l.state.elements index x ∷ [])) l.indices
