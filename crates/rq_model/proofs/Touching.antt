-- The records that touch a queue, by what comes before each.
use Rattle.std.proofs.Common.{rules, ◌≡◌, inl, inr, ℕ, ◌+◌, ◌<◌, true, cond, List, [], ◌∷◌, ◌++◌, length, sym, ap}
use Rattle.std.proofs.Common.{◌∙◌, append_assoc, arith}
use Rattle.std.proofs.lemmas.List.{append-nil}
use Rattle.rq_model.specs.Records.{Record}
use Rattle.rq_model.specs.States.{State}
use Rattle.rq_model.specs.WellFormed.{Ordered, IsIn}
use Rattle.rq_model.specs.Queues.{Op, touches, touching_from}
use Rattle.rq_model.specs.Laws.{TouchingIsExact}
use Rattle.rq_model.proofs.Lists.{by_cases, each_weaker}
use Rattle.rq_model.proofs.ByQueue.{ops_since}

-- the record after some of rs touches the queue, if `done` comes before rs
abbrev Touch : ℕ → State → List Record → List Record → ℕ → Op → Type 0
Touch place s done rs queue op = (before after : List Record) × (rs ≡ before ++ op.does ∷ after)
    × (op.place ≡ place + length before) × (touches s (done ++ before) queue op.does ≡ true)

here : (place : ℕ) (s : State) (done rs : List Record) (r : Record) (queue : ℕ) (op : Op)
    → touches s done queue r ≡ true → op ≡ record { place = place; does = r } → Touch place s done (r ∷ rs) queue op
here place s done rs r queue op touched e = (
  [],
  rs,
  ap (λ (o : Op). o.does ∷ rs) (sym e),
  ap (λ (o : Op). o.place) e ∙ omega arith,
  (λ i. touches s (append-nil done i) queue (e i).does) ∙ touched,
)

there : (place : ℕ) (s : State) (done rs : List Record) (r : Record) (queue : ℕ) (op : Op)
    → Touch (place + 1) s (done ++ r ∷ []) rs queue op → Touch place s done (r ∷ rs) queue op
there place s done rs r queue op (before, after, whole, at, touch) = (
  r ∷ before,
  after,
  ap (λ xs. r ∷ xs) whole,
  omega (arith, at),
  ap (λ (xs : List Record). touches s xs queue op.does) (sym (append_assoc done (r ∷ []) before)) ∙ touch,
)

forth : (place : ℕ) (s : State) (done rs : List Record) (queue : ℕ) (op : Op)
    → IsIn op (touching_from place s done rs queue) → Touch place s done rs queue op
forth place s done [] queue op = λ i. absurd i
forth place s done (r ∷ rs) queue op =
    by_cases (touches s done queue r)
    (λ b. IsIn op
    (cond b (record { place = place; does = r } ∷ touching_from (place + 1) s (done ++ r ∷ []) rs queue)
    (touching_from (place + 1) s (done ++ r ∷ []) rs queue)) → Touch place s done (r ∷ rs) queue op)
    (λ touched i. elim i [
      | inl e ↦ here place s done rs r queue op touched e
      | inr later ↦ there place s done rs r queue op
          (forth (place + 1) s (done ++ r ∷ []) rs queue op later)
    ])
    (λ _ i. there place s done rs r queue op (forth (place + 1) s (done ++ r ∷ []) rs queue op i))

later_in : (place : ℕ) (s : State) (done rs : List Record) (r : Record) (queue : ℕ) (op : Op)
    → IsIn op (touching_from (place + 1) s (done ++ r ∷ []) rs queue)
    → IsIn op (touching_from place s done (r ∷ rs) queue)
later_in place s done rs r queue op i = grind arith

back : (place : ℕ) (s : State) (done rs : List Record) (queue : ℕ) (op : Op) → Touch place s done rs queue op
    → IsIn op (touching_from place s done rs queue)
back place s done [] queue op ([], after, whole, at, touch) = absurd cc
back place s done [] queue op (x ∷ before, after, whole, at, touch) = absurd cc
back place s done (r ∷ rs) queue op ([], after, whole, at, touch) = search rules
back place s done (r ∷ rs) queue op (x ∷ before, after, whole, at, touch) =
    let same : r ≡ x = cc in
    let rest : rs ≡ before ++ op.does ∷ after = cc in
    let joined = append_assoc done (r ∷ []) before ∙ ap (λ y. done ++ y ∷ before) same in
    later_in place s done rs r queue op
    (back (place + 1) s (done ++ r ∷ []) rs queue op
    (grind arith))

rising : (place : ℕ) (s : State) (done rs : List Record) (queue : ℕ)
    → Ordered (λ a b. a.place < b.place) (touching_from place s done rs queue)
rising place s done [] queue = tt
rising place s done (r ∷ rs) queue =
    let rest = touching_from (place + 1) s (done ++ r ∷ []) rs queue in
    by_cases (touches s done queue r)
    (λ b. Ordered (λ (a c : Op). a.place < c.place) (cond b (record { place = place; does = r } ∷ rest) rest))
    (λ _. (
      each_weaker _ _ (λ op l. omega (arith, l)) rest (ops_since (place + 1) s (done ++ r ∷ []) rs queue),
      rising (place + 1) s (done ++ r ∷ []) rs queue,
    ))
    (λ _. rising (place + 1) s (done ++ r ∷ []) rs queue)

pub touching_is_exact : TouchingIsExact
touching_is_exact s rs queue =
    record {
      rise = rising s.next s [] rs queue;
      exact =
          λ op. (forth s.next s [] rs queue op, back s.next s [] rs queue op);
    }
