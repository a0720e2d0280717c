use Rattle.std.proofs.Common.{◌≡◌, ◌++◌, ◌∙◌, ap, List, ℕ}
use Rattle.std.specs.Prelude.{Result, Ok, Err, OnOk, string_bytes, is_ok, if◌then◌else◌}
use Rattle.rq_report.proofs.Digits.{digits_are}
use Rattle.rq_serve.proofs.answers.put_digits.Goals as goal

-- what was put is a text by another name
put_so : {U E : Type 0} (r : Result U E) (old new text same : List ℕ) → text ≡ same
    → new ≡ (if is_ok r then old ++ text else old) → OnOk r (new ≡ old ++ same)
put_so (Ok x) old new text same e put = put ∙ ap (λ (t : List ℕ). old ++ t) e
put_so (Err e) old new text same is put = tt

pub returns : goal.returns
returns c =
    put_so c.push_str.result (string_bytes c.args.text.now) (string_bytes c.push_str.new.self) c.deref.result.now _
    (c.deref.ensures ∙ c.in_ok-digits.ensures ∙ digits_are c.args.bytes.now c.type_inv.bytes) c.push_str.ensures.bytes
