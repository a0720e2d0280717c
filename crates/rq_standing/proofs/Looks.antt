-- What is seen of a state by the part of a queue.
use Rattle.std.proofs.Common.{◌≡◌, ◌≤◌, ◌<◌, ℕ, Bool, true, false, ◌||◌, ◌&&◌, ◌==◌, List, [], ◌∷◌, Option, None, sym, ap}
use Rattle.std.proofs.Common.{◌∙◌, refl, arith, cond, inl, inr, ⊎_elim, Some, length}
use Rattle.std.specs.List.{filter, find, list_any, AllByRecursion}
use Rattle.std.specs.Str.{bytes_eq}
use Rattle.std.proofs.lemmas.Bool.{and_parts, false≢true, eqb-true}
use Rattle.std.proofs.lemmas.Bool.Decides.{nat_tests}
use Rattle.rq_model.specs.Machine.{best, is_free_at}
use Rattle.rq_model.specs.Queues.{elements_at, registrants_at}
use Rattle.rq_model.specs.Reports.{IsListing}
use Rattle.rq_model.specs.StepLaws.{StepByParts}
use Rattle.rq_model.specs.States.{State, Element, Registrant, is_free, is_registrant}
use Rattle.rq_model.specs.WellFormed.{IsWellFormed, IsRegistrant, IsElement, IsIn}
use Rattle.rq_model.proofs.Lists.{by_cases, filter_none, each_weaker}

-- nobody is registered with a queue that there is not
pub nobody_at : (count queue : ℕ) (name : List ℕ) (rs : List Registrant) → count ≤ queue
    → AllByRecursion (λ r. r.queue < count) rs → list_any (is_registrant queue name) rs ≡ false
nobody_at count queue name [] l h = refl
nobody_at count queue name (r ∷ rs) l h = by_cases (r.queue == queue)
    (λ b. ((b && bytes_eq r.name name) || list_any (is_registrant queue name) rs) ≡ false)
    (λ t. let same : r.queue ≡ queue = eqb-true r.queue queue t in let none : ⊥ = omega (arith, same, l, h.0) in absurd none)
    (λ _. nobody_at count queue name rs l h.1)

-- A queue's listing.

in_kept : {X : Type 0} (p : X → Bool) (x : X) (xs : List X) → IsIn x xs → p x ≡ true → IsIn x (filter p xs)
in_kept p x [] h t = absurd h
in_kept p x (y ∷ ys) h t = by_cases (p y) (λ b. p y ≡ b → IsIn x (cond b (y ∷ filter p ys) (filter p ys)))
    (λ _ _. ⊎_elim (λ e. inl e) (λ m. inr (in_kept p x ys m t)) h)
    (λ _ n. ⊎_elim (λ e. absurd (false≢true (sym n ∙ sym (ap p e) ∙ t))) (λ m. in_kept p x ys m t) h) refl

of_kept : {X : Type 0} (p : X → Bool) (x : X) (xs : List X) → IsIn x (filter p xs) → IsIn x xs
of_kept p x [] h = absurd h
of_kept p x (y ∷ ys) h = by_cases (p y) (λ b. IsIn x (cond b (y ∷ filter p ys) (filter p ys)) → IsIn x (y ∷ ys))
    (λ _ k. ⊎_elim (λ e. inl e) (λ m. inr (of_kept p x ys m)) k) (λ _ k. inr (of_kept p x ys k)) h

-- that of the part is that of the state
pub listing_of : (queue : ℕ) (es listing : List Element) → IsListing queue (elements_at queue es) listing
    → IsListing queue es listing
listing_of queue es listing is = record {
  in_order = is.in_order;
  members = λ e. (
    λ h. let k = (is.members e).0 h in (of_kept (λ (f : Element). f.home == queue) e es k.0, k.1),
    λ h. (is.members e).1 (in_kept (λ (f : Element). f.home == queue) e es h.0 (and_parts _ _ h.1).1, h.1),
  );
}

-- Who is registered with a queue is found in its part.
pub found_at : (queue : ℕ) (name : List ℕ) (rs : List Registrant)
    → find (is_registrant queue name) (registrants_at queue rs) ≡ find (is_registrant queue name) rs
found_at queue name [] = refl
found_at queue name (r ∷ rs) = by_cases (r.queue == queue)
    (λ b. (r.queue == queue) ≡ b → find (is_registrant queue name) (cond b (r ∷ registrants_at queue rs) (registrants_at queue rs))
    ≡ cond (b && bytes_eq r.name name) (Some r) (find (is_registrant queue name) rs))
    (λ _ t. ap (λ b. cond (b && bytes_eq r.name name) (Some r) (find (is_registrant queue name) (registrants_at queue rs))) t
    ∙ ap (cond (bytes_eq r.name name) (Some r)) (found_at queue name rs))
    (λ _ _. found_at queue name rs) refl

-- Nothing belongs to a queue that there is not.

other : (n count queue : ℕ) → n < count → count ≤ queue → (n == queue) ≡ false
other n count queue l past = grind (arith, nat_tests)

pub nobody_found : (s : State) (queue : ℕ) (name : List ℕ) → IsWellFormed s → length s.definitions ≤ queue
    → find (is_registrant queue name) s.registrants ≡ None
nobody_found s queue name well past =
    sym (found_at queue name s.registrants)
    ∙ ap (find (is_registrant queue name)) (filter_none (λ (r : Registrant). r.queue == queue) s.registrants
    (each_weaker (IsRegistrant s) (λ (r : Registrant). (r.queue == queue) ≡ false)
    (λ r is. other r.queue (length s.definitions) queue is.queue past) s.registrants well.registrants))

pub nothing_free : StepByParts → (s : State) (queue : ℕ) → IsWellFormed s → length s.definitions ≤ queue
    → best queue s.elements ≡ None
nothing_free law s queue well past =
    sym (law.takes s queue)
    ∙ ap (best queue) (filter_none (λ (e : Element). e.home == queue) s.elements
    (each_weaker (IsElement s) (λ (e : Element). (e.home == queue) ≡ false)
    (λ e is. other e.home (length s.definitions) queue is.home past) s.elements well.elements))

-- A queue's free elements are found in its part.
and_false : (b : Bool) → (b && false) ≡ false
and_false true = refl
and_false false = refl

pub free_found : (queue id : ℕ) (es : List Element)
    → list_any (λ e. is_free_at queue e && (e.id == id)) (elements_at queue es)
    ≡ list_any (λ e. is_free_at queue e && (e.id == id)) es
free_found queue id [] = refl
free_found queue id (e ∷ es) = by_cases (e.home == queue)
    (λ b. (e.home == queue) ≡ b
    → list_any (λ e. is_free_at queue e && (e.id == id)) (cond b (e ∷ elements_at queue es) (elements_at queue es))
    ≡ ((is_free_at queue e && (e.id == id)) || list_any (λ e. is_free_at queue e && (e.id == id)) es))
    (λ _ t. ap (λ b. (is_free_at queue e && (e.id == id)) || b) (free_found queue id es))
    (λ _ f. free_found queue id es
    ∙ ap (λ b. (b && (e.id == id)) || list_any (λ e. is_free_at queue e && (e.id == id)) es)
    (sym (ap (λ b. is_free e.mark && b) f ∙ and_false (is_free e.mark)))) refl

pub none_free_at : (s : State) (queue id : ℕ) → IsWellFormed s → length s.definitions ≤ queue
    → list_any (λ e. is_free_at queue e && (e.id == id)) s.elements ≡ false
none_free_at s queue id well past =
    sym (free_found queue id s.elements)
    ∙ ap (list_any (λ e. is_free_at queue e && (e.id == id)))
    (filter_none (λ (e : Element). e.home == queue) s.elements
    (each_weaker (IsElement s) (λ (e : Element). (e.home == queue) ≡ false)
    (λ e is. other e.home (length s.definitions) queue is.home past) s.elements well.elements))

pub free_here : (queue : ℕ) (es : List Element)
    → filter (λ (e : Element). is_free e.mark) (elements_at queue es) ≡ filter (is_free_at queue) es
free_here queue [] = refl
free_here queue (e ∷ es) = by_cases (e.home == queue)
    (λ b. filter (λ (e : Element). is_free e.mark) (cond b (e ∷ elements_at queue es) (elements_at queue es))
    ≡ cond (is_free e.mark && b) (e ∷ filter (is_free_at queue) es) (filter (is_free_at queue) es))
    (λ _. by_cases (is_free e.mark)
    (λ b. cond b (e ∷ filter (λ (e : Element). is_free e.mark) (elements_at queue es))
    (filter (λ (e : Element). is_free e.mark) (elements_at queue es))
    ≡ cond (b && true) (e ∷ filter (is_free_at queue) es) (filter (is_free_at queue) es))
    (λ _. ap (λ fs. e ∷ fs) (free_here queue es)) (λ _. free_here queue es))
    (λ _. by_cases (is_free e.mark)
    (λ b. filter (λ (e : Element). is_free e.mark) (elements_at queue es)
    ≡ cond (b && false) (e ∷ filter (is_free_at queue) es) (filter (is_free_at queue) es))
    (λ _. free_here queue es) (λ _. free_here queue es))
