-- Queues of a report, one after the other.
use Rattle.std.proofs.Common.{◌≡◌, ◌∙◌, ℕ, suc, ◌+◌, ◌-◌, ◌≤◌, ◌<◌, List, [], ◌∷◌, length, take, drop, get_or, ap, refl}
use Rattle.std.proofs.Common.{subst, sym, arith}
use Rattle.std.specs.Prelude.{slice_range}
use Rattle.std.proofs.lemmas.List.{drop_more}
use Rattle.serde_json.specs.Data.{Data}
use Rattle.rq_model.specs.States.{Definition, State}
use Rattle.rq_look.specs.ReportObjects.{AreObjectsOf, AreQueueObjects, IsQueueObject}

-- the next of some, and those behind it
slice_next : {X : Type 0} (xs : List X) (i to : ℕ) (x : X) → i < to → to ≤ length xs
    → slice_range xs i to ≡ get_or xs i x ∷ slice_range xs (i + 1) to
slice_next xs i to x low within =
    let one : to - i ≡ suc (to - (i + 1)) = omega (arith, low) in
    ap (λ n. take n (drop i xs)) one ∙ ap (take (suc (to - (i + 1)))) (drop_more xs i x (omega (arith, low, within)))

-- a queue and those behind it
pub next_queue : (s : State) (i to : ℕ) (d : Definition) (first : Data) (others : List Data) → i < to
    → to ≤ length s.definitions → IsQueueObject i (get_or s.definitions i d) s first → AreObjectsOf s (i + 1) to others
    → AreObjectsOf s i to (first ∷ others)
next_queue s i to d first others low within is more =
    subst (λ ds. AreQueueObjects i ds s (first ∷ others)) (sym (slice_next s.definitions i to d low within))
    (first, others, is, more, refl)

-- there is none from the last one on
pub no_more_queues : (s : State) (i to : ℕ) → to ≤ i → AreObjectsOf s i to []
no_more_queues s i to done =
    let none : to - i ≡ 0 = omega (arith, done) in
    subst (λ (n : ℕ). AreQueueObjects i (take n (drop i s.definitions)) s []) (sym none) refl
