-- What counts and looks ahead mean.
use Rattle.std.proofs.Common.{◌≡◌, inl, inr, ⊎_elim, ℕ, suc, ◌+◌, true, false, not, ◌&&◌, ◌||◌, List, [], ◌∷◌, ◌++◌}
use Rattle.std.proofs.Common.{length, None, refl, sym, ap, ◌∙◌, subst, arith, append_assoc, Option, ◌≤◌, eq-eqb}
use Rattle.std.specs.Prelude.{◌==◌, if◌then◌else◌}
use Rattle.std.specs.List.{filter, list_any, AllByRecursion}
use Rattle.std.specs.Str.{bytes_eq}
use Rattle.std.proofs.lemmas.Bool.{and_parts, eqb-true, cases_Bool}
use Rattle.std.proofs.lemmas.Slice.Eq.{bytes_eq-Decides}
use Rattle.rq_model.specs.Records.{Record, Define, Register, Deregister, Begin, Enqueue, Dequeue, Commit, Abort}
use Rattle.rq_model.specs.Records.{Checkpoint, Kill, By}
use Rattle.rq_model.specs.States.{Registrant, State, empty, is_registrant, registrant_before, put}
use Rattle.rq_model.specs.Machine.{Committed, Aborted, outcome_from, is_registered, step, run, told}
use Rattle.rq_model.specs.Laws.{is_still_open, begun}
use Rattle.rq_model.proofs.Lists.{by_cases, each_passes}
use Rattle.rq_model.proofs.Texts.{all_in}
use Rattle.rq_model.proofs.Parts.{any_filter}
use Rattle.rq_model.proofs.Decided.{any_map}
use Rattle.rq_model.proofs.WellFormedRuns.{any_put}
use Rattle.rq_model.proofs.Numbers.{numbers_after}
use Rattle.rq_model.proofs.Restarts.{lawful_cut, next_run}
use Rattle.rq_model.proofs.Kept.{empty_is_well_formed}
use Rattle.rq_model.proofs.Balance.{one_fate, one_request}
use Rattle.rq_model.specs.Machine.{aborts, all_lawful, is_lawful, is_open}
use Rattle.rq_model.proofs.Tried.{any_in}
use Rattle.rq_model.proofs.Clients.{same_clients, apart_clients, filter_gone, any_none}
use Rattle.rq_model.specs.Fates.{is_committed, is_request, counted, IsPassing, deregisters, registers, remains}
use Rattle.rq_model.specs.FateLaws.{CommittedHasOneFate, CountIsOne, CountIsNone, OutcomeIsAhead}
use Rattle.rq_model.specs.FateLaws.{WhoIsRegistered, OneRecord}

pub count_is_none : CountIsNone
count_is_none test s [] place none h = absurd h
count_is_none test s (r ∷ rs) place none (inl h) =
    let here = ap (λ b. (if b then 1 else 0) + counted test (step s r) rs) (h.1) in absurd (omega (arith, here, none))
count_is_none test s (r ∷ rs) place none (inr h) = count_is_none test (step s r) rs place (omega (arith, none)) h

pub count_is_one : CountIsOne
count_is_one test s [] h = absurd (omega (arith, h))
count_is_one test s (r ∷ rs) h = by_cases (test s (r ∷ rs)) (λ b. test s (r ∷ rs) ≡ b
    → (if b then 1 else 0) + counted test (step s r) rs ≡ 1 → (p : ℕ) × IsPassing test s (r ∷ rs) p × ((q : ℕ)
    → IsPassing test s (r ∷ rs) q → q ≡ p))
    (λ _ e k. (
      s.next,
      inl (refl, e),
      λ y x. ⊎_elim (λ z. z.0)
          (λ z. absurd (count_is_none test (step s r) rs y (omega (arith, k)) z)) x,
    ))
    (λ _ e k. let more = count_is_one test (step s r) rs (omega (arith, k)) in
    (more.0, inr more.1, λ y x. ⊎_elim (λ z. let t = z.1 in absurd (grind (arith, t, e))) (λ z. more.2 y z) x)) refl h

-- Outcomes.

passed : (n u : ℕ) (xs ys : List Record) → is_still_open (outcome_from n u xs) ≡ true
    → outcome_from n u (xs ++ ys) ≡ outcome_from (n + length xs) u ys
passed n u [] ys h = ap (λ (z : ℕ). outcome_from z u ys) (omega arith)
passed n u (Define limit error name ∷ xs) ys h = passed (n + 1) u xs ys h ∙ ap (λ (z : ℕ). outcome_from z u ys)
    (omega arith)
passed n u (Register q name ∷ xs) ys h = passed (n + 1) u xs ys h ∙ ap (λ (z : ℕ). outcome_from z u ys) (omega arith)
passed n u (Deregister q name ∷ xs) ys h = passed (n + 1) u xs ys h ∙ ap (λ (z : ℕ). outcome_from z u ys)
    (omega arith)
passed n u (Begin v ∷ xs) ys h = passed (n + 1) u xs ys h ∙ ap (λ (z : ℕ). outcome_from z u ys) (omega arith)
passed n u (Enqueue v q priority by payload ∷ xs) ys h = passed (n + 1) u xs ys h ∙ ap (λ
    (z : ℕ). outcome_from z u ys) (omega arith)
passed n u (Dequeue v q by ∷ xs) ys h = passed (n + 1) u xs ys h ∙ ap (λ (z : ℕ). outcome_from z u ys) (omega arith)
passed n u (Checkpoint bytes ∷ xs) ys h = passed (n + 1) u xs ys h ∙ ap (λ (z : ℕ). outcome_from z u ys) (omega arith)
passed n u (Kill q i ∷ xs) ys h = passed (n + 1) u xs ys h ∙ ap (λ (z : ℕ). outcome_from z u ys) (omega arith)
passed n u (Commit v ∷ xs) ys h = by_cases (v == u) (λ b. is_still_open (if b then Committed n else outcome_from (n
    + 1) u xs) ≡ true
    → (if b then Committed n else outcome_from (n + 1) u (xs ++ ys)) ≡ outcome_from (n + suc (length xs)) u ys)
    (λ _ k. absurd (grind (arith, k))) (λ _ k. passed (n + 1) u xs ys k ∙ ap (λ (z : ℕ). outcome_from z u ys)
    (omega arith)) h
passed n u (Abort v ∷ xs) ys h = by_cases (v == u) (λ b. is_still_open (if b then Aborted n else outcome_from (n
    + 1) u xs) ≡ true
    → (if b then Aborted n else outcome_from (n + 1) u (xs ++ ys)) ≡ outcome_from (n + suc (length xs)) u ys)
    (λ _ k. absurd (grind (arith, k))) (λ _ k. passed (n + 1) u xs ys k ∙ ap (λ (z : ℕ). outcome_from z u ys)
    (omega arith)) h

pub outcome_is_ahead : OutcomeIsAhead
outcome_is_ahead version before ahead unit lawful opened =
    let after = numbers_after version empty before empty_is_well_formed
    (lawful_cut version empty before ahead lawful).0 in
    let units = (run empty before).units in
    let (v, there, is) = any_in (λ v. v == unit) units opened in
    let all : AllByRecursion (λ (u : ℕ). is_still_open (outcome_from 0 u before) ≡ true) units =
    subst (λ (z : List ℕ). AllByRecursion (λ (u : ℕ). is_still_open (outcome_from 0 u before) ≡ true) z)
    (sym after.units)
    (each_passes (λ (u : ℕ). is_still_open (outcome_from 0 u before) ≡ true) (λ u. is_still_open
    (outcome_from 0 u before))
    (λ u k. k) ([] ++ begun before)) in
    let still = subst (λ (z : ℕ). is_still_open (outcome_from 0 z before) ≡ true) (eqb-true v unit is)
    (all_in (λ (u : ℕ). is_still_open (outcome_from 0 u before) ≡ true) v units all there) in
    passed 0 unit before ahead still ∙ ap (λ (z : ℕ). outcome_from z unit ahead) (sym (next_run empty before))

-- Who is registered.

registered_step : (q : ℕ) (n : List ℕ) (s : State) (r : Record)
    → is_registered (step s r) q n ≡ ((is_registered s q n && not (deregisters q n r)) || registers q n r)
registered_step q n s (Define limit error name) = grind (arith, cases_Bool (is_registered s q n))
registered_step q n s (Begin u) = grind (arith, cases_Bool (is_registered s q n))
registered_step q n s (Enqueue u k priority by payload) = grind (arith, cases_Bool (is_registered s q n))
registered_step q n s (Dequeue u k by) = grind (arith, cases_Bool (is_registered s q n))
registered_step q n s (Abort u) = grind (arith, cases_Bool (is_registered s q n))
registered_step q n s (Checkpoint bytes) = grind (arith, cases_Bool (is_registered s q n))
registered_step q n s (Kill k i) = grind (arith, cases_Bool (is_registered s q n))
registered_step q n s (Commit u) =
    let same : is_registered (step s (Commit u)) q n ≡ is_registered s q n =
    any_map (told u s.notes) (is_registrant q n) s.registrants in
    same ∙ grind (arith, cases_Bool (is_registered s q n))
registered_step q n s (Register k m) =
    let new : Registrant = record { queue = k; name = m; last = None } in
    by_cases (list_any (is_registrant k m) s.registrants) (λ b. list_any (is_registrant k m) s.registrants ≡ b
    → list_any (is_registrant q n) (if b then s.registrants else put registrant_before new s.registrants)
    ≡ ((is_registered s q n && true) || ((k == q) && bytes_eq m n)))
    (λ _ there. by_cases ((k == q) && bytes_eq m n) (λ b. ((k == q) && bytes_eq m n) ≡ b
    → is_registered s q n ≡ ((is_registered s q n && true) || b))
    (λ _ e. let p = and_parts _ _ e in
    let mn : m ≡ n = (bytes_eq-Decides m n).0 p.1 in
    let here : is_registered s q n ≡ true = subst (λ (z : ℕ). list_any (is_registrant z n) s.registrants ≡ true)
    (eqb-true k q p.0)
    (subst (λ (z : List ℕ). list_any (is_registrant k z) s.registrants ≡ true) mn there) in grind (arith, here))
    (λ _ _. grind (arith, cases_Bool (is_registered s q n))) refl)
    (λ _ _. any_put (is_registrant q n) registrant_before new s.registrants
    ∙ grind (arith, cases_Bool (is_registered s q n), cases_Bool ((k == q) && bytes_eq m n))) refl
registered_step q n s (Deregister k m) =
    by_cases ((k == q) && bytes_eq m n) (λ b. ((k == q) && bytes_eq m n) ≡ b
    → list_any (is_registrant q n) (filter (λ r. not (is_registrant k m r)) s.registrants)
    ≡ ((is_registered s q n && not b) || false))
    (λ _ e. any_none (is_registrant q n) (filter (λ r. not (is_registrant k m r)) s.registrants)
    (filter_gone (is_registrant q n) (is_registrant k m)
    (λ r h. same_clients k q r.queue m n r.name e h) s.registrants)
    ∙ grind (arith, cases_Bool (is_registered s q n)))
    (λ _ e. any_filter (is_registrant q n) (λ r. not (is_registrant k m r))
    (λ r h. apart_clients k q r.queue m n r.name e h) s.registrants ∙ grind (
      arith,
      cases_Bool
          (is_registered s q n),
    )) refl

registered_run : (q : ℕ) (n : List ℕ) (s : State) (rs : List Record)
    → is_registered (run s rs) q n ≡ ((is_registered s q n && not (list_any (deregisters q n) rs)) || remains q n rs)
registered_run q n s [] = grind (arith, cases_Bool (is_registered s q n))
registered_run q n s (r ∷ rs) =
    let more = registered_run q n (step s r) rs in
    let here = registered_step q n s r in
    grind (
      arith,
      more,
      here,
      cases_Bool (is_registered s q n),
      cases_Bool (deregisters q n r),
      cases_Bool (registers q n r),
      cases_Bool (list_any (deregisters q n) rs),
      cases_Bool (remains q n rs),
    )

pub who_is_registered : WhoIsRegistered
who_is_registered rs queue name = registered_run queue name empty rs

-- In words of the log.

ended : (n u place : ℕ) (xs ys : List Record) → outcome_from n u xs ≡ Committed place → outcome_from n u (xs ++ ys)
    ≡ Committed place
ended n u place [] ys h = absurd (grind (arith, h))
ended n u place (Define limit error name ∷ xs) ys h = ended (n + 1) u place xs ys h
ended n u place (Register q name ∷ xs) ys h = ended (n + 1) u place xs ys h
ended n u place (Deregister q name ∷ xs) ys h = ended (n + 1) u place xs ys h
ended n u place (Begin v ∷ xs) ys h = ended (n + 1) u place xs ys h
ended n u place (Enqueue v q priority by payload ∷ xs) ys h = ended (n + 1) u place xs ys h
ended n u place (Dequeue v q by ∷ xs) ys h = ended (n + 1) u place xs ys h
ended n u place (Checkpoint bytes ∷ xs) ys h = ended (n + 1) u place xs ys h
ended n u place (Kill q i ∷ xs) ys h = ended (n + 1) u place xs ys h
ended n u place (Commit v ∷ xs) ys h = by_cases (v == u) (λ b. (if b then Committed n else outcome_from (n
    + 1) u xs) ≡ Committed place
    → (if b then Committed n else outcome_from (n + 1) u (xs ++ ys)) ≡ Committed place) (λ _ k. k) (λ _ k. ended (n
    + 1) u place xs ys k) h
ended n u place (Abort v ∷ xs) ys h = by_cases (v == u) (λ b. (if b then Aborted n else outcome_from (n + 1) u xs)
    ≡ Committed place
    → (if b then Aborted n else outcome_from (n + 1) u (xs ++ ys)) ≡ Committed place) (λ _ k. k) (λ _ k. ended (n
    + 1) u place xs ys k) h

asked : (p : ℕ) (s : State) (before : List Record) (u q priority : ℕ) (by : Option By) (payload : List ℕ)
    (after : List Record)
    → p ≡ s.next + length before → is_committed (outcome_from (p + 1) u after) ≡ true
    → 1 ≤ counted (is_request p) s (before ++ Enqueue u q priority by payload ∷ after)
asked p s [] u q priority by payload after at c =
    let here : s.next ≡ p = omega (arith, at) in
    let is : is_request p s (Enqueue u q priority by payload ∷ after) ≡ true =
    (let e = eq-eqb s.next p here in let d = subst (λ (z : ℕ). is_committed (outcome_from (z + 1) u after) ≡ true)
    (sym here) c in
    grind (arith, e, d)) in
    let one = ap (λ b. (if b then 1 else 0) + counted (is_request p) (step s
    (Enqueue u q priority by payload)) after) is in
    omega (arith, one)
asked p s (r ∷ before) u q priority by payload after at c =
    let more = asked p (step s r) before u q priority by payload after (omega (arith, at)) c in omega (arith, more)

pub committed_has_one_fate : CommittedHasOneFate
committed_has_one_fate version rs p unit queue priority payload lawful h committed =
    let r = Enqueue unit queue priority h.by payload in
    let xs = aborts (run empty rs) in
    let split : all_lawful version empty (h.before ++ r ∷ h.there.after) ≡ true =
    subst (λ (z : List Record). all_lawful version empty z ≡ true) h.there.whole lawful in
    let here = (lawful_cut version empty h.before (r ∷ h.there.after) split).1 in
    let opened : is_open (run empty h.before) unit ≡ true =
    (and_parts _ _ (and_parts _ _ (and_parts (is_lawful version (run empty h.before) r) _ here).0).1).0 in
    let ahead = outcome_is_ahead version h.before (r ∷ h.there.after) unit split opened in
    let next : (run empty h.before).next ≡ p = next_run empty h.before ∙ (let e = h.there.place in
    omega (arith, e)) in
    let out : outcome_from (p + 1) unit h.there.after ≡ Committed committed.0 =
    subst (λ (z : ℕ). outcome_from (z + 1) unit h.there.after ≡ Committed committed.0) next
    (sym ahead ∙ subst (λ (z : List Record). outcome_from 0 unit z
    ≡ Committed committed.0) h.there.whole committed.1) in
    let c : is_committed (outcome_from (p + 1) unit (h.there.after ++ xs)) ≡ true =
    ap is_committed (ended (p + 1) unit committed.0 h.there.after xs out) in
    let place : p ≡ empty.next + length h.before = (let e = h.there.place in omega (arith, e)) in
    let some = asked p empty h.before unit queue priority h.by payload (h.there.after ++ xs) place c in
    let whole : h.before ++ r ∷ (h.there.after ++ xs) ≡ rs ++ xs =
    sym (ap (λ (z : List Record). z ++ xs) h.there.whole ∙ append_assoc h.before (r ∷ h.there.after) xs) in
    let least = subst (λ (z : List Record). 1 ≤ counted (is_request p) empty z) whole some in
    let most = one_request (rs ++ xs) p in
    let sum = one_fate version rs p lawful in
    omega (arith, least, most, sum)

-- Records by their number.

same_at : (a b x y : List Record) (r t : Record) → a ++ r ∷ x ≡ b ++ t ∷ y → length a ≡ length b → (a ≡ b) × (r ≡ t)
same_at [] [] x y r t e l = (refl, cc)
same_at [] (k ∷ b) x y r t e l = absurd (omega (arith, l))
same_at (h ∷ a) [] x y r t e l = absurd (omega (arith, l))
same_at (h ∷ a) (k ∷ b) x y r t e l =
    let tails : a ++ r ∷ x ≡ b ++ t ∷ y = cc in
    let more = same_at a b x y r t tails (omega (arith, l)) in
    let here : h ≡ k = cc in
    ((λ i. here i ∷ more.0 i), more.1)

pub one_record : OneRecord
one_record rs p a b r t h k = same_at a b h.after k.after r t (sym h.whole ∙ k.whole) (sym h.place ∙ k.place)
