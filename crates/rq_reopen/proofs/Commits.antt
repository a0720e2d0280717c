-- A unit that committed in a file is committed there, whatever follows.
use Rattle.std.proofs.Common.{◌≡◌, ℕ, suc, ◌+◌, true, false, List, [], ◌∷◌, ◌++◌, length, refl, ap, subst, ◌∙◌}
use Rattle.std.proofs.Common.{arith, Bool, ◌||◌}
use Rattle.std.specs.Prelude.{if◌then◌else◌, ◌==◌}
use Rattle.std.specs.List.{list_any, filter}
use Rattle.std.proofs.lemmas.Bool.{and_parts, eqb-true, false≢true}
use Rattle.rq_model.specs.Records.{Record, Define, Register, Deregister, Begin, Enqueue, Dequeue, Commit, Abort}
use Rattle.rq_model.specs.Records.{Checkpoint, Kill, Version}
use Rattle.rq_model.specs.States.{State}
use Rattle.rq_model.specs.WellFormed.{IsWellFormed}
use Rattle.rq_model.specs.Machine.{all_lawful, outcome_from, Committed, Aborted}
use Rattle.rq_model.specs.Laws.{NumbersAfter, is_still_open, begun}
use Rattle.rq_model.proofs.Lists.{by_cases}
use Rattle.rq_model.proofs.Restarts.{lawful_cut}

-- the outcome of a unit that is still open behind some records is what the others say
passed : (n u : ℕ) (xs ys : List Record) → is_still_open (outcome_from n u xs) ≡ true
    → outcome_from n u (xs ++ ys) ≡ outcome_from (n + length xs) u ys
passed n u [] ys h = ap (λ (z : ℕ). outcome_from z u ys) (omega arith)
passed n u (Define limit error name ∷ xs) ys h = passed (n + 1) u xs ys h ∙ ap (λ (z : ℕ). outcome_from z u ys)
    (omega arith)
passed n u (Register q name ∷ xs) ys h = passed (n + 1) u xs ys h ∙ ap (λ (z : ℕ). outcome_from z u ys) (omega arith)
passed n u (Deregister q name ∷ xs) ys h = passed (n + 1) u xs ys h ∙ ap (λ (z : ℕ). outcome_from z u ys)
    (omega arith)
passed n u (Begin v ∷ xs) ys h = passed (n + 1) u xs ys h ∙ ap (λ (z : ℕ). outcome_from z u ys) (omega arith)
passed n u (Enqueue v q priority by payload ∷ xs) ys h = passed (n + 1) u xs ys h
    ∙ ap (λ (z : ℕ). outcome_from z u ys) (omega arith)
passed n u (Dequeue v q by ∷ xs) ys h = passed (n + 1) u xs ys h ∙ ap (λ (z : ℕ). outcome_from z u ys) (omega arith)
passed n u (Checkpoint bytes ∷ xs) ys h = passed (n + 1) u xs ys h ∙ ap (λ (z : ℕ). outcome_from z u ys) (omega arith)
passed n u (Kill q i ∷ xs) ys h = passed (n + 1) u xs ys h ∙ ap (λ (z : ℕ). outcome_from z u ys) (omega arith)
passed n u (Commit v ∷ xs) ys h = by_cases (v == u) (λ b.
    is_still_open (if b then Committed n else outcome_from (n + 1) u xs) ≡ true
    → (if b then Committed n else outcome_from (n + 1) u (xs ++ ys)) ≡ outcome_from (n + suc (length xs)) u ys)
    (λ _ k. absurd (false≢true k)) (λ _ k. passed (n + 1) u xs ys k ∙ ap (λ (z : ℕ). outcome_from z u ys)
    (omega arith)) h
passed n u (Abort v ∷ xs) ys h = by_cases (v == u) (λ b.
    is_still_open (if b then Aborted n else outcome_from (n + 1) u xs) ≡ true
    → (if b then Aborted n else outcome_from (n + 1) u (xs ++ ys)) ≡ outcome_from (n + suc (length xs)) u ys)
    (λ _ k. absurd (false≢true k)) (λ _ k. passed (n + 1) u xs ys k ∙ ap (λ (z : ℕ). outcome_from z u ys)
    (omega arith)) h

-- a number that stands among those that pass a test passes it
passes : (test : ℕ → Bool) (u : ℕ) (us : List ℕ) → list_any (λ v. v == u) (filter test us) ≡ true → test u ≡ true
passes test u [] h = absurd (false≢true h)
passes test u (v ∷ us) h =
    by_cases (test v) (λ b. test v ≡ b → list_any (λ w. w == u) (if b then v ∷ filter test us else filter test us) ≡ true
    → test u ≡ true)
    (λ _ yes k. by_cases (v == u) (λ b. (v == u) ≡ b → test u ≡ true)
    (λ _ same. subst (λ (z : ℕ). test z ≡ true) (eqb-true v u same) yes)
    (λ _ other. passes test u us (later v u (filter test us) other k)) refl)
    (λ _ other k. passes test u us k) refl h
  where
    later : (v u : ℕ) (ws : List ℕ) → (v == u) ≡ false → list_any (λ w. w == u) (v ∷ ws) ≡ true
        → list_any (λ w. w == u) ws ≡ true
    later v u ws other h = subst (λ (b : Bool). b || list_any (λ w. w == u) ws ≡ true) other h

-- the first COMMIT of the unit
commits_first : (n u : ℕ) (xs : List Record) → outcome_from n u (Commit u ∷ xs) ≡ Committed n
commits_first n u xs = grind arith

pub commits_from : NumbersAfter → (version : Version) (s : State) (before others : List Record) (unit : ℕ)
    → IsWellFormed s → all_lawful version s (before ++ Commit unit ∷ others) ≡ true
    → outcome_from s.next unit (before ++ Commit unit ∷ others) ≡ Committed (s.next + length before)
commits_from numbers version s before others unit well lawful =
    let (first, later) = lawful_cut version s before (Commit unit ∷ others) lawful in
    let opened = (and_parts _ _ later).0 in
    let after = numbers version s before well first in
    let there : list_any (λ v. v == unit)
    (filter (λ u. is_still_open (outcome_from s.next u before)) (s.units ++ begun before)) ≡ true =
    subst (λ (us : List ℕ). list_any (λ v. v == unit) us ≡ true) after.units opened in
    let still = passes (λ u. is_still_open (outcome_from s.next u before)) unit (s.units ++ begun before) there in
    passed s.next unit before (Commit unit ∷ others) still ∙ commits_first (s.next + length before) unit others
