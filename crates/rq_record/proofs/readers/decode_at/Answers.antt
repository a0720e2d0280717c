use Rattle.std.proofs.Common.{◌+◌, ℕ, List, sym, subst}
use Rattle.std.specs.Prelude.{slice_range}
use Rattle.rq_record.specs.LogParts.{EndsAt}
use Rattle.rq_record.proofs.Parts.{piece_at}
use Rattle.rq_record.proofs.readers.decode_at.Goals as goal

pub decode_before-requires : goal.decode_before-requires
decode_before-requires c =
    let b = c.args.bytes.now in
    let start = c.args.start in
    let end = start + c.args.len in
    subst (λ (whole : List ℕ). EndsAt b end (slice_range whole start end)) (sym c.as_slice-whole.ensures)
    (piece_at b start c.args.len c.requires.inside)
