use Rattle.std.proofs.Common.{◌≡◌, ℕ, List, [], ◌∷◌, ap, refl, sym, subst, arith, inl, ◌∙◌}
use Rattle.rq_model.specs.Records.{Two, Kill}
use Rattle.rq_model.specs.States.{State}
use Rattle.rq_model.specs.Queues.{Move, Part, part_of}
use Rattle.rq_model.specs.WellFormed.{IsWellFormed}
use Rattle.rq_queue.specs.Case.{IsCase}
use Rattle.rq_rows.specs.ByHand.{by_hand}
use Rattle.rq_rows.proofs.by_hand.killed.Goals as goal

-- The state that the test makes is well formed, and its queue may be redone.
well : (queue ann payload : List ℕ) → IsWellFormed (by_hand queue ann payload)
well queue ann payload = record {
  few = omega arith;
  names = (tt, tt);
  definitions = (inl (refl, refl), tt);
  units = tt;
  units_rise = tt;
  counts = omega arith;
  registrants = (record { queue = omega arith; last = record { place = omega arith; element = refl } }, tt);
  registrants_rise = (tt, tt);
  registrants_few = omega arith;
  elements = (
    record {
      id = omega arith;
      home = omega arith;
      origin = omega arith;
      attempts = omega arith;
      limit = inl refl;
      unit = tt;
    },
    tt,
  );
  elements_rise = (tt, tt);
  notes = tt;
  notes_rise = tt;
}

kill_case : (queue ann payload : List ℕ) (part : Part) → part ≡ part_of (by_hand queue ann payload) 0
    → IsCase Two (by_hand queue ann payload) (Kill 0 0 ∷ []) part (record { place = 2; does = Kill 0 0 } ∷ []) []
kill_case queue ann payload part same =
    subst (λ (p : Part). IsCase Two (by_hand queue ann payload) (Kill 0 0 ∷ []) p
    (record { place = 2; does = Kill 0 0 } ∷ []) []) (sym same)
    (record {
      well = well queue ann payload;
      lawful = refl;
      fits = omega arith;
      is_part = refl;
      are_ops = refl;
      are_arrivals = refl;
    })

pub redo-requires : goal.redo-requires
redo-requires c =
    let b = c.requires in (
      Two,
      by_hand b.0 b.1 b.2,
      Kill 0 0 ∷ [],
      subst (λ (ms : List Move). IsCase Two (by_hand b.0 b.1 b.2)
          (Kill 0 0 ∷ []) c.in_ok-part.part (record { place = 2; does = Kill 0 0 } ∷ []) ms) (sym c.new.ensures.items)
          (kill_case b.0 b.1 b.2 c.in_ok-part.part (c.in_ok-part.ensures.part ∙ ap (λ (s : State). part_of s 0) b.3)),
    )
