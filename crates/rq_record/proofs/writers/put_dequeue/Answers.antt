use Rattle.std.proofs.Common.{◌≡◌, ℕ, List, [], ◌∷◌, ◌++◌, append_assoc}
use Rattle.std.specs.Int.{w32, w64, to_be_bytes}
use Rattle.rq_model.specs.Spelling.{who}
use Rattle.rq_record.proofs.writers.put_dequeue.Goals as goal

regroup : (old a b c d : List ℕ) → (((old ++ a) ++ b) ++ c) ++ d ≡ old ++ (a ++ (b ++ (c ++ d)))
regroup old a b c d = simp append_assoc

pub returns-clause-bytes : goal.returns-clause-bytes
returns-clause-bytes c =
    rw (
      c.in_ok-put_who.ensures.bytes,
      c.in_ok-put_u32.ensures,
      c.in_ok-put_u64.ensures,
      c.in_ok-put_u8.ensures,
    )
    (regroup c.args.out.now.items (6 ∷ []) (to_be_bytes w64 c.args.unit.0) (to_be_bytes w32 c.args.queue.0)
    (who c.args.by.now))
