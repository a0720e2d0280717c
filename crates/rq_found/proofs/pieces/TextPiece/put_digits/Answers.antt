use Rattle.std.proofs.Common.{◌++◌, ◌∙◌, ℕ, Fits, w8, ap, arith, slice_index_or, string_bytes, take, inl, inr}
use Rattle.std.proofs.lemmas.Bool.{cases_lt}
use Rattle.std.proofs.lemmas.List.{get_or-take, get_or_past, length-take}
use Rattle.rq_report.proofs.Digits.{digits_are}
use Rattle.rq_found.proofs.pieces.TextPiece.put_digits.Goals as goal

pub returns : goal.returns
returns c =
    let shown = c.min-shown.result in
    let bytes = c.args.bytes.now in
    let fit : (i : ℕ) → Fits w8 (slice_index_or (take shown bytes) i 0) = λ i.
    elim (cases_lt i shown) [
      | inl lt ↦ rw (get_or-take shown bytes i 0 lt) (c.type_inv.bytes i)
      | inr le ↦ rw (get_or_past (take shown bytes) i 0 (omega (arith, length-take shown bytes))) (record { fits = omega arith })
    ] in (
      c.min-shown.ensures,
      c.in_ok-push_str.ensures.bytes ∙ ap (λ x. string_bytes c.args.text.now ++ x)
          (c.as_str.ensures.value ∙ c.in_ok-digits.ensures ∙ digits_are (take shown bytes) fit),
    )
