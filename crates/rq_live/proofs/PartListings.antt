-- What the part of a queue lists is what the state lists.
use Rattle.std.proofs.Common.{◌≡◌, ℕ, true, ◌==◌, List, [], ◌∷◌, sym, ap, refl, ◌∙◌, cond, inl, inr}
use Rattle.std.proofs.Common.{⊎_elim}
use Rattle.std.proofs.lemmas.Bool.{and_parts, false≢true}
use Rattle.rq_model.specs.Queues.{elements_at}
use Rattle.rq_model.specs.Reports.{IsListing}
use Rattle.rq_model.specs.States.{Element}
use Rattle.rq_model.specs.WellFormed.{IsIn}
use Rattle.rq_model.proofs.Lists.{by_cases}

-- an element of the queue is one of its part
in_part : (queue : ℕ) (e : Element) (es : List Element) → IsIn e es → (e.home == queue) ≡ true
    → IsIn e (elements_at queue es)
in_part queue e [] here at = absurd here
in_part queue e (f ∷ fs) here at =
    by_cases (f.home == queue) (λ b. (f.home == queue) ≡ b
    → IsIn e (cond b (f ∷ elements_at queue fs) (elements_at queue fs)))
    (λ _ _. ⊎_elim (λ is. inl is) (λ later. inr (in_part queue e fs later at)) here)
    (λ _ no. ⊎_elim (λ is. absurd (false≢true (sym no ∙ sym (ap (λ (x : Element). x.home == queue) is) ∙ at)))
    (λ later. in_part queue e fs later at) here)
    refl

-- and one of its part is there
of_part : (queue : ℕ) (e : Element) (es : List Element) → IsIn e (elements_at queue es) → IsIn e es
of_part queue e [] here = absurd here
of_part queue e (f ∷ fs) here =
    by_cases (f.home == queue) (λ b. IsIn e (cond b (f ∷ elements_at queue fs) (elements_at queue fs))
    → IsIn e (f ∷ fs))
    (λ _ k. ⊎_elim (λ is. inl is) (λ later. inr (of_part queue e fs later)) k)
    (λ _ k. inr (of_part queue e fs k)) here

pub lists_all : (queue : ℕ) (es listing : List Element) → IsListing queue (elements_at queue es) listing
    → IsListing queue es listing
lists_all queue es listing is = record {
  in_order = is.in_order;
  members = λ e. (
    λ h. let k = (is.members e).0 h in (of_part queue e es k.0, k.1),
    λ h. (is.members e).1 (in_part queue e es h.0 (and_parts _ _ h.1).1, h.1),
  );
}
