-- The redo of a queue, one operation or one arrival at a time.
use Rattle.std.proofs.Common.{◌≡◌, ◌≢◌, ℕ, ◌+◌, ◌<◌, ◌≤◌, List, [], ◌∷◌, ◌++◌, length, drop, get_or, refl, sym, ap, ◌∙◌}
use Rattle.std.proofs.Common.{subst, append_assoc}
use Rattle.std.specs.List.{AllByRecursion}
use Rattle.std.proofs.lemmas.List.{drop_more}
use Rattle.rq_model.specs.Queues.{Part, Op, Move}
use Rattle.rq_model.specs.Redo.{act, sent, receive, redone, all_sent, IsReady, GoesWell, GoesOn}
use Rattle.rq_model.specs.Laws.{RedoSteps}

-- the next operation finds the part ready
pub op_well : GoesOn → (p : Part) (ops : List Op) (i : ℕ) (op : Op) (ms : List Move) → i < length ops
    → op ≡ get_or ops i op → AllByRecursion (λ m. op.place ≤ m.place) ms → GoesWell p (drop i ops) ms
    → IsReady op.place op.does p × GoesWell (act op.place op.does p) (drop (i + 1) ops) ms
op_well goes p ops i op ms l o h well =
    goes.acts p op (drop (i + 1) ops) ms h
    (subst (λ (os : List Op). GoesWell p os ms) (drop_more ops i op l ∙ ap (λ (x : Op). x ∷ drop (i + 1) ops) (sym o))
    well)

-- the next arrival is new, if no operation before it is left
pub arrived_well : GoesOn → (p : Part) (ops : List Op) (m : Move) (ms : List Move)
    → ((op : Op) (rest : List Op) → ops ≡ op ∷ rest → m.place < op.place) → GoesWell p ops (m ∷ ms)
    → AllByRecursion (λ e. e.id ≢ m.element.id) p.elements × GoesWell (receive (m ∷ []) p) ops ms
arrived_well goes p [] m ms h well = goes.ends p m ms well
arrived_well goes p (op ∷ ops) m ms h well = goes.arrives p op ops m ms (h op ops refl) well

-- the next operation is done
pub op_done : RedoSteps → (p q : Part) (ops : List Op) (i : ℕ) (op : Op) (ms : List Move) → i < length ops
    → op ≡ get_or ops i op → q ≡ act op.place op.does p → AllByRecursion (λ m. op.place ≤ m.place) ms
    → redone p (drop i ops) ms ≡ redone q (drop (i + 1) ops) ms
op_done steps p q ops i op ms l o e h =
    ap (λ (os : List Op). redone p os ms) (drop_more ops i op l ∙ ap (λ (x : Op). x ∷ drop (i + 1) ops) (sym o))
    ∙ ((steps.acts p op (drop (i + 1) ops) ms h).0 ∙ ap (λ (x : Part). redone x (drop (i + 1) ops) ms) (sym e))

pub op_sent : RedoSteps → (p q : Part) (ops : List Op) (i : ℕ) (op : Op) (ms old new : List Move) → i < length ops
    → op ≡ get_or ops i op → q ≡ act op.place op.does p → new ≡ old ++ sent op.place op.does p
    → AllByRecursion (λ m. op.place ≤ m.place) ms
    → old ++ all_sent p (drop i ops) ms ≡ new ++ all_sent q (drop (i + 1) ops) ms
op_sent steps p q ops i op ms old new l o e s h =
    ap (λ (os : List Op). old ++ all_sent p os ms)
    (drop_more ops i op l ∙ ap (λ (x : Op). x ∷ drop (i + 1) ops) (sym o))
    ∙ (ap (λ (x : List Move). old ++ x) ((steps.acts p op (drop (i + 1) ops) ms h).1)
    ∙ (sym (append_assoc old (sent op.place op.does p) (all_sent (act op.place op.does p) (drop (i + 1) ops) ms))
    ∙ (ap (λ (x : List Move). x ++ all_sent (act op.place op.does p) (drop (i + 1) ops) ms) (sym s)
    ∙ ap (λ (x : Part). new ++ all_sent x (drop (i + 1) ops) ms) (sym e))))

-- the next arrival is put in, if no operation before it is left
pub arrived : RedoSteps → (p : Part) (ops : List Op) (m : Move) (ms : List Move)
    → ((op : Op) (rest : List Op) → ops ≡ op ∷ rest → m.place < op.place)
    → (redone p ops (m ∷ ms) ≡ redone (receive (m ∷ []) p) ops ms)
    × (all_sent p ops (m ∷ ms) ≡ all_sent (receive (m ∷ []) p) ops ms)
arrived steps p [] m ms h = steps.ends p m ms
arrived steps p (op ∷ ops) m ms h = steps.arrives p op ops m ms (h op ops refl)
