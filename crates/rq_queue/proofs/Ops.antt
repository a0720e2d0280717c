-- Operations, as places in the log and indices in a list of records.
use Rattle.std.proofs.Common.{◌≡◌, ◌<◌, ◌+◌, ℕ, List, [], ◌∷◌, ◌++◌, All, length, map, take, drop, get_or, arith, ap, sym, ◌∙◌}
use Rattle.std.proofs.Math.Seq.{get_or-append_seam}
use Rattle.std.proofs.lemmas.List.{append_assoc, map-append, length-append, length-map, get_or-drop, take_more}
use Rattle.std.proofs.lemmas.List.Elements.{All-push}
use Rattle.rq_model.specs.Records.{Record, Begin}
use Rattle.rq_model.specs.Queues.{Op}
use Rattle.rq_queue.specs.Ops.{op_at, ops_at}

-- the first of those that are left stands where they begin
pub first_of_rest : {X : Type 0} (xs : List X) (k : ℕ) (x : X) (rest : List X) → drop k xs ≡ x ∷ rest → get_or xs k x ≡ x
first_of_rest xs k x rest e =
    let here : k ≡ k + 0 = omega arith in
    ap (λ n. get_or xs n x) here ∙ sym (get_or-drop k xs 0 x) ∙ ap (λ l. get_or l 0 x) e

-- the record behind the others is within them
pub one_more_within : {X : Type 0} (rs : List X) (r : X) (ps : List (ℕ × ℕ)) (place : ℕ)
    → All (λ p. p.1 < length rs) ps → All (λ p. p.1 < length (rs ++ r ∷ [])) (ps ++ (place, length rs) ∷ [])
one_more_within rs r ps place all =
    All-push (λ p. p.1 < length (rs ++ r ∷ [])) ps (place, length rs)
    (λ k d lt. omega (arith, all k d lt, length-append rs (r ∷ []))) (omega (arith, length-append rs (r ∷ [])))

-- one operation more stands behind the others, with a record of its own
one_more : (rs : List Record) (r : Record) (more : List Record) (ps : List (ℕ × ℕ)) (place : ℕ) (ops : List Op)
    → ops_at (rs ++ r ∷ more) ps ≡ ops
    → ops_at (rs ++ r ∷ more) (ps ++ (place, length rs) ∷ []) ≡ ops ++ record { place = place; does = r } ∷ []
one_more rs r more ps place ops so_far =
    map-append (op_at (rs ++ r ∷ more)) ps ((place, length rs) ∷ [])
    ∙ (λ i. so_far i ++ record { place = place; does = get_or-append_seam rs r more (Begin 0) i } ∷ [])

-- those so far, whatever records come behind theirs, and then the next one
pub next_too : {X : Type 0} (view : X → Record) (rs : List X) (r : X) (ps : List (ℕ × ℕ)) (place : ℕ) (ops : List Op) (k : ℕ)
    → k < length ops → (d : Op) → record { place = place; does = view r } ≡ get_or ops k d
    → ((more : List Record) → ops_at (map view rs ++ more) ps ≡ take k ops)
    → (more : List Record) → ops_at (map view (rs ++ r ∷ []) ++ more) (ps ++ (place, length rs) ∷ []) ≡ take (k + 1) ops
next_too view rs r ps place ops k lt d is so_far more =
    ap (λ l. ops_at l (ps ++ (place, length rs) ∷ []))
    (ap (λ l. l ++ more) (map-append view rs (r ∷ [])) ∙ append_assoc (map view rs) (view r ∷ []) more)
    ∙ ap (λ n. ops_at (map view rs ++ view r ∷ more) (ps ++ (place, n) ∷ [])) (sym (length-map rs view))
    ∙ one_more (map view rs) (view r) more ps place (take k ops) (so_far (view r ∷ more))
    ∙ ap (λ o. take k ops ++ o ∷ []) is ∙ sym (take_more ops k d lt)
