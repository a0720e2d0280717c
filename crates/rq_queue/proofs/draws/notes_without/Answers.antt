use Rattle.std.proofs.Common.{◌+◌, ◌<◌, ℕ, List, length, drop, get_or, sym, ap, ◌∙◌, arith}
use Rattle.std.proofs.lemmas.List.{drop_more, drop_all}
use Rattle.rq_queue.specs.Noted.{left}
use Rattle.rq_queue.proofs.Noting.{left_by_place, left_more, left_none}
use Rattle.rq_queue.proofs.draws.notes_without.Goals as goal

pub loop-place-preserved : goal.loop-place-preserved
loop-place-preserved c =
    let i = c.loop-place.place-index in
    let places = c.args.places.now in
    let whose = c.args.whose.now in
    let es = c.loop-place.all.entries in
    let here : i < length places = omega (arith, c.loop-place-test.true) in
    record {
      by_place = left_by_place whose (get_or places i 0) es c.draw.new.all.entries c.draw.ensures.left
          c.loop-place.invariant.by_place;
      rest = ap (left whose (drop (i + 1) places)) c.draw.ensures.left
          ∙ (left_more whose (get_or places i 0) (drop (i + 1) places) es
          ∙ (ap (λ (ps : List ℕ). left whose ps es) (sym (drop_more places i 0 here)) ∙ c.loop-place.invariant.rest));
    }

pub returns : goal.returns
returns c =
    let i = c.loop-place.place-index in
    let places = c.args.places.now in
    let whose = c.args.whose.now in
    sym (left_none whose c.loop-place.all.entries)
    ∙ (ap (λ (ps : List ℕ). left whose ps c.loop-place.all.entries)
    (sym (drop_all i places (omega (arith, c.loop-place-test.false)))) ∙ c.loop-place.invariant.rest)
