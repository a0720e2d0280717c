-- A seat's sources are those of the room's deques.
use Rattle.std.proofs.Common.{◌≡◌, ℕ, ◌+◌, ◌<◌, ◌≤◌, List, [], ◌∷◌, ◌++◌, length, get_or, map, take, sum_by, sym, ap}
use Rattle.std.proofs.Common.{◌∙◌, arith}
use Rattle.std.proofs.lemmas.List.{length_push, map_push, same_from_push}
use Rattle.rq_pool.proofs.Words.{view, DeckId, list_in, source_id, get_or-map, map-map, take_more}
use Rattle.rq_pool.specs.declared.deque_seat.Source.{Source}

abbrev pub dealt_of : Source → List ℕ
dealt_of s = (view s.pass).dealt

pub dealt_lists : (sources : List Source) (ids : List DeckId) → map source_id sources ≡ ids
    → map dealt_of sources ≡ map list_in ids
dealt_lists sources ids e = sym (map-map list_in source_id sources) ∙ ap (map list_in) e

pub less_than_dealt : (sources : List Source) (ids : List DeckId) (j : ℕ) (old : Source) (ys : List ℕ)
    → map source_id sources ≡ ids → j < length sources → old ≡ get_or sources j old
    → ((h : ℕ → ℕ) → sum_by h ys ≤ sum_by h (dealt_of old)) → (h : ℕ → ℕ)
    → sum_by h ys ≤ sum_by h (get_or (map list_in ids) j [])
less_than_dealt sources ids j old ys e inside is less h =
    let same = ap (λ ls. sum_by h (get_or ls j [])) (sym (dealt_lists sources ids e))
    ∙ ap (sum_by h) (get_or-map dealt_of sources j old [] inside) ∙ ap (λ s. sum_by h (dealt_of s)) (sym is) in
    omega (arith, less h)

-- if a seat's passes are for the first deques, the last one is for the deque of its number
pub last_source : (sources rest : List Source) (source : Source) (ids : List DeckId) (j : ℕ)
    → sources ≡ rest ++ source ∷ [] → length rest ≡ j → j < length ids
    → map source_id sources ≡ take (length sources) ids
    → (map source_id rest ≡ take j ids) × (source_id source ≡ get_or ids j (source_id source))
last_source sources rest source ids j popped long inside e = same_from_push _ _ _ _
    (sym (map_push source_id rest source) ∙ sym (ap (map source_id) popped) ∙ e
    ∙ ap (λ k. take k ids) (ap length popped ∙ length_push rest source ∙ ap (λ k. k + 1) long)
    ∙ take_more ids j (source_id source) inside)
