use Rattle.std.proofs.Common.{◌≡◌, ℕ, List, [], ◌∷◌, ◌++◌, append_assoc}
use Rattle.std.specs.Int.{w32, w64, to_be_bytes}
use Rattle.rq_model.specs.Spelling.{who}
use Rattle.rq_record.proofs.writers.put_enqueue.Goals as goal

regroup : (old a b c d e f : List ℕ) → (((((old ++ a) ++ b) ++ c) ++ d) ++ e) ++ f
    ≡ old ++ (a ++ (b ++ (c ++ (d ++ (e ++ f)))))
regroup old a b c d e f = simp append_assoc

pub returns-clause-bytes : goal.returns-clause-bytes
returns-clause-bytes c =
    rw (
      c.in_ok-put.ensures,
      c.bytes.ensures.bytes,
      c.in_ok-put_who.ensures.bytes,
      c.in_ok-put_u8-2.ensures,
      c.in_ok-put_u32.ensures,
      c.in_ok-put_u64.ensures,
      c.in_ok-put_u8.ensures,
    )
    (regroup c.args.out.now.items (5 ∷ []) (to_be_bytes w64 c.args.unit.0) (to_be_bytes w32 c.args.queue.0)
    (c.args.priority ∷ []) (who c.args.by.now) c.args.payload.now)
