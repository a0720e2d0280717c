-- What a case of the redo keeps.
use Rattle.std.proofs.Common.{◌≡◌, ℕ, ◌+◌, ◌≤◌, ◌==◌, List, [], ◌∷◌, refl, ◌∙◌, arith}
use Rattle.std.specs.Prelude.{⊤}
use Rattle.std.specs.List.{filter, AllByRecursion}
use Rattle.rq_model.specs.Records.{Record, Abort, Version}
use Rattle.rq_model.specs.States.{State, definition_at}
use Rattle.rq_model.specs.WellFormed.{Ordered}
use Rattle.rq_model.specs.Machine.{leaves, step, run}
use Rattle.rq_model.specs.Queues.{Part, Op, Move, Transfer, transfers_at, transfers, arrivals, part_of, moves}
use Rattle.rq_model.proofs.Lists.{each_weaker, each_of, each_append, each_map}
use Rattle.rq_model.proofs.Merged.{ordered_append, ordered_filter, ordered_map}
use Rattle.rq_model.specs.Redo.{redone, all_sent, GoesWell, RedoGoesWell}
use Rattle.rq_model.specs.Laws.{Projection}
use Rattle.rq_model.proofs.WellFormedRuns.{sound}
use Rattle.rq_queue.specs.Case.{IsCase, AreRising}

places : (s : State) (r : Record) → AllByRecursion (λ (t : Transfer). t.move.place ≡ s.next) (transfers_at s r)
places s (Abort u) = each_map _ _ _ (λ e h. refl)
    (filter (λ e. leaves (definition_at s.definitions e.home) u e) s.elements) (each_of (λ _. ⊤) (λ _. tt) _)
places s r = tt

since : (s : State) (rs : List Record) → AllByRecursion (λ (t : Transfer). s.next ≤ t.move.place) (transfers s rs)
since s [] = tt
since s (r ∷ rs) = each_append (λ (t : Transfer). s.next ≤ t.move.place) (transfers_at s r) (transfers (step s r) rs)
    (each_weaker (λ (t : Transfer). t.move.place ≡ s.next) (λ (t : Transfer). s.next ≤ t.move.place)
    (λ t h. omega arith) (transfers_at s r) (places s r))
    (each_weaker (λ (t : Transfer). s.next + 1 ≤ t.move.place) (λ (t : Transfer). s.next ≤ t.move.place)
    (λ t h. omega arith) (transfers (step s r) rs) (since (step s r) rs))

abbrev NoLater : Transfer → Transfer → Type 0
NoLater t u = t.move.place ≤ u.move.place

at_once : (n : ℕ) (ts : List Transfer) → AllByRecursion (λ (t : Transfer). t.move.place ≡ n) ts → Ordered NoLater ts
at_once n [] h = tt
at_once n (t ∷ ts) h = (
  each_weaker (λ (u : Transfer). u.move.place ≡ n) (λ (u : Transfer). t.move.place ≤ u.move.place)
      (λ u e. omega (arith, h.0)) ts h.1,
  at_once n ts h.1,
)

rise : (s : State) (rs : List Record) → Ordered NoLater (transfers s rs)
rise s [] = tt
rise s (r ∷ rs) = ordered_append NoLater (transfers_at s r) (transfers (step s r) rs)
    (at_once s.next (transfers_at s r) (places s r)) (rise (step s r) rs)
    (each_weaker _ _ (λ t e. each_weaker (λ (u : Transfer). s.next + 1 ≤ u.move.place)
    (λ (u : Transfer). t.move.place ≤ u.move.place) (λ u l. omega arith) (transfers (step s r) rs)
    (since (step s r) rs)) (transfers_at s r) (places s r))

pub arrivals_rise : (s : State) (rs : List Record) (q : ℕ) → AreRising (arrivals s rs q)
arrivals_rise s rs q = ordered_map NoLater (λ (m n : Move). m.place ≤ n.place) (λ (t : Transfer). t.move) (λ t u h. h)
    (filter (λ t. t.move.element.home == q) (transfers s rs))
    (ordered_filter NoLater (λ (t : Transfer). t.move.element.home == q) (transfers s rs) (rise s rs))

pub redone_part : Projection → (version : Version) (s : State) (rs : List Record) (p : Part) (ops : List Op)
    (ms : List Move) → IsCase version s rs p ops ms → redone p ops ms ≡ part_of (run s rs) p.queue
redone_part law version s rs p ops ms c = (λ i. redone (c.is_part i) (c.are_ops i) (c.are_arrivals i))
    ∙ (law version s rs p.queue (sound s c.well) c.lawful).0

pub sent_moves : Projection → (version : Version) (s : State) (rs : List Record) (p : Part) (ops : List Op)
    (ms : List Move) → IsCase version s rs p ops ms → all_sent p ops ms ≡ moves s rs p.queue
sent_moves law version s rs p ops ms c = (λ i. all_sent (c.is_part i) (c.are_ops i) (c.are_arrivals i))
    ∙ (law version s rs p.queue (sound s c.well) c.lawful).1

pub goes_well : RedoGoesWell → (version : Version) (s : State) (rs : List Record) (p : Part) (ops : List Op)
    (ms : List Move) → IsCase version s rs p ops ms → GoesWell p ops ms
goes_well law version s rs p ops ms c = grind arith
