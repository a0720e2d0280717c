use Rattle.std.proofs.Common.{◌++◌, ◌+◌, ◌<◌, [], ◌∷◌, length, map, drop, sym, ap, ◌∙◌, append_assoc, arith}
use Rattle.std.proofs.lemmas.List.{append-nil, drop_more, drop_all, map-append}
use Rattle.rq_found.specs.Records.{registrant_entry, registrant_told}
use Rattle.rq_found.proofs.registrants.RegistrantShown.all_of.Goals as goal

pub loop-r-preserved : goal.loop-r-preserved
loop-r-preserved c =
    let own = c.registrants_of-r-items.result.now in
    let i = c.loop-r.r-index in
    let found = map registrant_told c.loop-r.found.items in
    let rest = map registrant_entry (drop (i + 1) own) in
    let here : i < length own = omega (arith, c.loop-r-test.true) in
    ap (λ told. told ++ rest) (ap (map registrant_told) c.in_ok-push.ensures.items
    ∙ map-append registrant_told c.loop-r.found.items (c.registrant_shown.result ∷ []))
    ∙ append_assoc found (registrant_told c.registrant_shown.result ∷ []) rest
    ∙ ap (λ r. found ++ r ∷ rest) (c.registrant_shown.ensures ∙ ap registrant_entry c.r-item.is)
    ∙ ap (λ rs. found ++ map registrant_entry rs) (sym (drop_more own i c.r-item.result here)) ∙ c.loop-r.invariant

pub returns : goal.returns
returns c =
    let own = c.registrants_of-r-items.result.now in
    let found = map registrant_told c.loop-r.found.items in
    sym (append-nil found)
    ∙ ap (λ rs. found ++ map registrant_entry rs)
    (sym (drop_all c.loop-r.r-index own (omega (arith, c.loop-r-test.false))))
    ∙ c.loop-r.invariant ∙ ap (map registrant_entry) c.registrants_of-r-items.ensures
