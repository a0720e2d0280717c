-- Writing piece after piece.
use Rattle.std.proofs.Common.{◌≡◌, ℕ, suc, ◌+◌, ◌<◌, List, ◌∷◌, ◌++◌, length, take, drop, get_or, Option, Some, None}
use Rattle.std.proofs.Common.{sym, ap, subst, ◌∙◌, append_assoc, arith}
use Rattle.std.proofs.lemmas.List.{take-append-drop}
use Rattle.std.proofs.Math.Seq.{drop-cons}
use Rattle.std.specs.Prelude.{Result, Ok, Err}
use Rattle.std.specs.List.{flat_map}
use Rattle.std.specs.Io.KnownBytes.{Appends}
use Rattle.rq_model.specs.Fronts.{Restarted}
use Rattle.rq_model.specs.Reports.{IsText}
use Rattle.rq_record.specs.declared.fault.Fault.{Fault}
use Rattle.rq_record.specs.declared.fault.Fault.TheVariants as faults
use Rattle.rq_report.specs.Streams.{Delivers, Reports}

pub appends_more : (old mid new : Option (List ℕ)) (a b : List ℕ) → Appends old mid a → Appends mid new b
    → Appends old new (a ++ b)
appends_more None mid new a b p q = tt
appends_more (Some xs) None new a b p q = absurd p
appends_more (Some xs) (Some ys) None a b p q = absurd q
appends_more (Some xs) (Some ys) (Some zs) a b p q = q ∙ ap (λ (x : List ℕ). x ++ b) p ∙ append_assoc xs a b

-- the first n bytes of what was left are written too
pub front_grows : (text front rest : List ℕ) (n : ℕ) → text ≡ front ++ rest
    → text ≡ (front ++ take n rest) ++ drop n rest
front_grows text front rest n e = e ∙ ap (λ (x : List ℕ). front ++ x) (sym (take-append-drop n rest))
    ∙ sym (append_assoc front (take n rest) (drop n rest))

-- what is written of the text is written of the report
pub reports_of : {A : Type 0} (r : Restarted) (before after : ℕ) (old new : Option (List ℕ)) (text : List ℕ)
    (result : Result A Fault) → IsText r text → Delivers before after old new text result
    → Reports r before after old new result
reports_of r before after old new text (Ok x) is d = (text, is, d.0, d.1)
reports_of r before after old new text (Err faults.WriteFailed) is d = (text, is, d.0, d.1)
reports_of r before after old new text (Err _) is d = absurd d

-- what is left of the pieces begins with the next one
pub piece_next : {X : Type 0} (f : X → List ℕ) (pieces : List X) (i : ℕ) (x : X) (text front : List ℕ)
    → i < length pieces → x ≡ get_or pieces i x → text ≡ front ++ flat_map f (drop i pieces)
    → text ≡ (front ++ f x) ++ flat_map f (drop (i + 1) pieces)
piece_next f pieces i x text front lt is e =
    let number : suc i ≡ i + 1 = omega arith in
    let next : drop i pieces ≡ x ∷ drop (i + 1) pieces =
    drop-cons pieces i x lt ∙ ap (λ y. y ∷ drop (suc i) pieces) (sym is)
    ∙ ap (λ (n : ℕ). x ∷ drop n pieces) number in
    e ∙ ap (λ xs. front ++ flat_map f xs) next ∙ sym (append_assoc front (f x) (flat_map f (drop (i + 1) pieces)))

piece_fails_by : (A : Type 0) (before mid after : ℕ) (old held new : Option (List ℕ)) (text front piece rest : List ℕ)
    (x : Fault) → text ≡ (front ++ piece) ++ rest → mid ≡ before → Appends old held front
    → Delivers {A = A} mid after held new piece (Err x) → Delivers {A = A} before after old new text (Err x)
piece_fails_by A before mid after old held new text front piece rest faults.WriteFailed e same h d =
    let written : List ℕ = d.1.0 in
    let left : List ℕ = d.1.1 in
    let whole : text ≡ (front ++ written) ++ (left ++ rest) =
    e ∙ ap (λ (x : List ℕ). (front ++ x) ++ rest) d.1.2 ∙ append_assoc front (written ++ left) rest
    ∙ ap (λ (x : List ℕ). front ++ x) (append_assoc written left rest)
    ∙ sym (append_assoc front written (left ++ rest)) in (
      d.0 ∙ ap (λ (n : ℕ). n + 1) same,
      (front ++ written, left ++ rest, whole, appends_more old held new front written h d.1.3),
    )
piece_fails_by A before mid after old held new text front piece rest _ e same h d = absurd d

-- if a piece is not all written, neither is the text
pub piece_fails : {A : Type 0} (before mid after : ℕ) (old held new : Option (List ℕ)) (text front piece rest : List ℕ)
    (result : Result A Fault) (x : Fault) → result ≡ Err x → text ≡ (front ++ piece) ++ rest → mid ≡ before
    → Appends old held front → Delivers mid after held new piece result → Delivers before after old new text result
piece_fails {A = A} before mid after old held new text front piece rest result x is e same h d =
    subst (Delivers before after old new text) (sym is)
    (piece_fails_by A before mid after old held new text front piece rest x e same h
    (subst (Delivers mid after held new piece) is d))
