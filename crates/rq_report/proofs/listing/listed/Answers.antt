use Rattle.std.proofs.Common.{◌++◌, ◌==◌, ℕ, [], ◌∷◌, List, map, filter, ap, ◌∙◌, arith}
use Rattle.std.specs.List.{flat_map}
use Rattle.std.specs.Prelude.{slice_index_or}
use Rattle.rq_model.specs.States as model
use Rattle.rq_report.proofs.Ahead.{filter_both}
use Rattle.rq_report.proofs.Indexed.{indexed_more, indexed_all, flat_of_map, flat_of_filter}
use Rattle.rq_report.proofs.listing.listed.Goals as goal

abbrev no_element : model.Element
no_element = record { id = 0; home = 0; origin = 0; priority = 0; attempts = 0; payload = []; mark = model.Free }

abbrev free : model.Element → List model.Element
free e = filter (λ e. model.is_free e.mark) (e ∷ [])

pub loop-at-preserved : goal.loop-at-preserved
loop-at-preserved c = λ x. indexed_more (λ index. free (slice_index_or c.args.state.now.elements index x))
    c.elements_of-indices.result.now c.loop-at.at-index 0 _ _ _ (omega (arith, c.loop-at-test.true))
    (c.in_ok-list.ensures ∙ ap (λ e. map (λ e. e.now) c.loop-at.found.items ++ free e) (c.element.ensures x))
    (c.loop-at.invariant x)

pub returns : goal.returns
returns c =
    let indices = c.elements_of-indices.result.now in
    let elements = c.args.state.now.elements in
    let at = λ (index : ℕ). slice_index_or elements index no_element in
    indexed_all (λ index. free (at index)) indices c.loop-at.at-index _ _ (omega (arith, c.loop-at-test.false))
    (c.loop-at.invariant no_element)
    ∙ flat_of_map free at indices ∙ ap (flat_map free) (c.elements_of-indices.ensures.elements no_element)
    ∙ flat_of_filter (λ e. model.is_free e.mark) (filter (λ e. e.home == c.args.queue.0) elements)
    ∙ filter_both (λ e. model.is_free e.mark) (λ e. e.home == c.args.queue.0) elements
