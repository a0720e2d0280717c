use Rattle.std.proofs.Common.{ℕ, List, length, sym, subst}
use Rattle.rq_record.specs.LogParts.{EndsAt}
use Rattle.rq_record.proofs.Parts.{all_at}
use Rattle.rq_record.proofs.readers.decode_kept.Goals as goal

pub decode_before-requires : goal.decode_before-requires
decode_before-requires c =
    let body = c.args.body.now in
    subst (λ (log : List ℕ). EndsAt log (length body) body) (sym c.borrowed-log.ensures) (all_at body)
