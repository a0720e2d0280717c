-- What a record that names a queue makes of the parts.
use Rattle.std.proofs.Common.{◌≡◌, ℕ, ◌<◌, true, cond, List, [], length, Some, refl, sym, ap, ◌∙◌, subst, arith}
use Rattle.std.specs.Prelude.{◌==◌}
use Rattle.std.proofs.lemmas.Bool.{and_parts, ltb-true, eqb-true}
use Rattle.rq_model.specs.Records.{Record, Register, Deregister, Enqueue, Dequeue, Kill, Version, One, Two}
use Rattle.rq_model.specs.States.{State}
use Rattle.rq_model.specs.WellFormed.{IsWellFormed}
use Rattle.rq_model.specs.Machine.{is_lawful, step}
use Rattle.rq_model.specs.Queues.{Part, part_of, touches, transfers_at, Transfer, arrivals_of}
use Rattle.rq_model.specs.Redo.{act, receive, IsOf}
use Rattle.rq_model.specs.StepLaws.{StepByParts}
use Rattle.rq_model.proofs.Lists.{by_cases}
use Rattle.rq_model.proofs.Decided.{registered_queue}
use Rattle.rq_standing.specs.Parts.{ArePartsOf, Acted}
use Rattle.rq_standing.specs.Stands.{HoldsState, Moved, queue_named}
use Rattle.rq_standing.specs.Units.{AreUnits}
use Rattle.rq_standing.specs.declared.open_units.OpenUnits.{OpenUnits}
use Rattle.rq_standing.specs.declared.queues.Queues.{Queues}

-- what a record that names the queue does
pub record IsOne (s : State) (r : Record) (k : ℕ) : Type 0 where
  pub of : IsOf k r
  pub touches : (q : ℕ) → touches s [] q r ≡ (k == q)
  pub still : transfers_at s r ≡ []
  pub definitions : (step s r).definitions ≡ s.definitions
  pub greatest : (step s r).greatest ≡ s.greatest
  pub committed : (step s r).committed ≡ s.committed
  pub aborted : (step s r).aborted ≡ s.aborted
  pub units : (step s r).units ≡ s.units

same_queue : (k q : ℕ) → Some k ≡ Some q → k ≡ q
same_queue k q e = grind (arith, e)

pub one_of : (s : State) (r : Record) (k : ℕ) → queue_named r ≡ Some k → IsOne s r k
one_of s (Register q name) k e = let same = same_queue q k e in
    record {
      of = same;
      touches = λ v. ap (λ n. n == v) same;
      still = refl;
      definitions = refl;
      greatest = refl;
      committed = refl;
      aborted = refl;
      units = refl;
    }
one_of s (Deregister q name) k e = let same = same_queue q k e in
    record {
      of = same;
      touches = λ v. ap (λ n. n == v) same;
      still = refl;
      definitions = refl;
      greatest = refl;
      committed = refl;
      aborted = refl;
      units = refl;
    }
one_of s (Enqueue u q priority by payload) k e = let same = same_queue q k e in
    record {
      of = same;
      touches = λ v. ap (λ n. n == v) same;
      still = refl;
      definitions = refl;
      greatest = refl;
      committed = refl;
      aborted = refl;
      units = refl;
    }
one_of s (Dequeue u q by) k e = let same = same_queue q k e in
    record {
      of = same;
      touches = λ v. ap (λ n. n == v) same;
      still = refl;
      definitions = refl;
      greatest = refl;
      committed = refl;
      aborted = refl;
      units = refl;
    }
one_of s (Kill q element) k e = let same = same_queue q k e in
    record {
      of = same;
      touches = λ v. ap (λ n. n == v) same;
      still = refl;
      definitions = refl;
      greatest = refl;
      committed = refl;
      aborted = refl;
      units = refl;
    }
one_of s _ k e = absurd (let no : ⊥ = grind (arith, e) in no)

-- a record that names a queue is lawful only where the queue is defined
pub defined : (version : Version) (s : State) (r : Record) (k : ℕ) → IsWellFormed s → is_lawful version s r ≡ true
    → queue_named r ≡ Some k → k < length s.definitions
defined version s (Register q name) k well h e = subst (λ n. n < length s.definitions) (same_queue q k e) (ltb-true q (length s.definitions) h)
defined version s (Deregister q name) k well h e = subst (λ n. n < length s.definitions) (same_queue q k e)
    (registered_queue s q name s.registrants well.registrants h)
defined version s (Enqueue u q priority by payload) k well h e = subst (λ n. n < length s.definitions) (same_queue q k e)
    (ltb-true q (length s.definitions) (and_parts _ _ h).0)
defined version s (Dequeue u q by) k well h e = subst (λ n. n < length s.definitions) (same_queue q k e)
    (ltb-true q (length s.definitions) (and_parts _ _ h).0)
defined One s (Kill q element) k well h e = absurd (let no : ⊥ = grind (arith, h) in no)
defined Two s (Kill q element) k well h e = subst (λ n. n < length s.definitions) (same_queue q k e) (ltb-true q (length s.definitions) h)
defined version s _ k well h e = absurd (let no : ⊥ = grind (arith, e) in no)

-- the parts go along with the state
pub acted_parts : StepByParts → (s : State) (r : Record) (k : ℕ) (old new : List Part) → IsWellFormed s
    → queue_named r ≡ Some k → ArePartsOf s old → Acted s.next r k old new → ArePartsOf (step s r) new
acted_parts law s r k old new well e parts acted q within =
    let it = one_of s r k e in
    let here : q < length s.definitions = subst (λ ds. q < length ds) it.definitions within in
    acted q ∙ ap (λ (p : Part). cond (k == q) (act s.next r p) p) (parts q here)
    ∙ by_cases (k == q) (λ b. touches s [] q r ≡ b → (b ≡ true → IsOf q r) → cond b (act s.next r (part_of s q)) (part_of s q) ≡ part_of (step s r) q)
    (λ t _ of. sym (law.acts s r q well here (of refl) ∙ ap (λ (ts : List Transfer). receive (arrivals_of q ts) (act s.next r (part_of s q))) it.still))
    (λ f no _. sym (law.rests s r q well here no ∙ ap (λ (ts : List Transfer). receive (arrivals_of q ts) (part_of s q)) it.still))
    (it.touches q) (λ t. subst (λ n. IsOf n r) (eqb-true k q t) it.of)

-- all but the units is as it was, but for the part
pub one_moved : StepByParts → (s : State) (r : Record) (k : ℕ) (x y : Queues) (units : OpenUnits) → HoldsState x s
    → queue_named r ≡ Some k → y ≡ record x { parts = y.parts } → length y.parts.items ≡ length x.parts.items
    → Acted x.next r k x.parts.items y.parts.items → AreUnits units (step s r)
    → Moved x (record y { units = units }) (step s r)
one_moved law s r k x y units holds e frame size acted are =
    let it = one_of s r k e in
    record {
      next = ap (λ (q : Queues). q.next) frame;
      greatest = ap (λ (q : Queues). q.greatest) frame ∙ (holds.greatest ∙ sym it.greatest);
      committed = ap (λ (q : Queues). q.committed) frame ∙ (holds.committed ∙ sym it.committed);
      aborted = ap (λ (q : Queues). q.aborted) frame ∙ (holds.aborted ∙ sym it.aborted);
      definitions = ap (λ (q : Queues). q.definitions.items) frame ∙ (holds.definitions ∙ sym it.definitions);
      size = size ∙ (holds.size ∙ ap length (sym it.definitions));
      parts = acted_parts law s r k x.parts.items y.parts.items holds.well e holds.parts
          (subst (λ n. Acted n r k x.parts.items y.parts.items) holds.next acted);
      units = are;
    }
