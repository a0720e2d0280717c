-- What the parts of all queues have, one after the other, is the state's; and one part more.
use Rattle.std.proofs.Common.{◌≡◌, ℕ, zero, suc, ◌+◌, ◌<◌, ◌≤◌, true, ◌||◌, List, [], ◌∷◌, ◌++◌, length, take, refl}
use Rattle.std.proofs.Common.{sym, ap, ◌∙◌, subst, arith, append_assoc, IsPermutation, sum_by, take_all, length-append}
use Rattle.std.specs.Prelude.{◌==◌, ◌&&◌, nat_lt}
use Rattle.std.specs.List.{AllByRecursion, flat_map}
use Rattle.std.proofs.lemmas.Bool.{eqb-true, lt-ltb, ltb-true, ltb-false}
use Rattle.std.proofs.lemmas.List.{flat_map_more, take_more, get_or_append_left}
use Rattle.std.proofs.lemmas.List.Sorted.{IsPermutation-refl}
use Rattle.std.proofs.lemmas.List.Sums.{sum_by-cons}
use Rattle.rq_state.specs.Laws.{gathered, PartsMakeTheState, AnyOrderMakesTheState}
use Rattle.rq_model.specs.Queues.{Part, part_of, registrants_at}
use Rattle.rq_model.specs.StateSpelling.{registrant_bytes}
use Rattle.rq_model.specs.States.{State, Element, Registrant, registrant_before, name_before, id_before}
use Rattle.rq_model.specs.WellFormed.{IsWellFormed, Ordered}
use Rattle.rq_model.proofs.Lists.{each_weaker, each_append, each_passes, by_cases}
use Rattle.rq_model.proofs.Merged.{ordered_append, ordered_filter}
use Rattle.rq_state.specs.Orders.{put_in_order, place_before}
use Rattle.rq_state.proofs.InOrder.{registrant_is_order}
use Rattle.rq_state.proofs.Whole.{whole_itself}
use Rattle.rq_queue.proofs.Gathered.{members}
use Rattle.rq_standing.specs.Parts.{ArePartsOf, part_at, no_part}
use Rattle.std.proofs.Math.Seq.{get_or-append_seam}

-- Parts.

gathered_first : {X : Type 0} (f : Part → List X) (s : State) (parts : List Part) → ArePartsOf s parts
    → length parts ≡ length s.definitions → (n : ℕ) → n ≤ length parts
    → flat_map f (take n parts) ≡ gathered f (part_of s) n
gathered_first f s parts are size zero l = refl
gathered_first f s parts are size (suc n) l =
    let up : suc n ≡ n + 1 = omega arith in
    let within : n < length parts = omega (arith, l) in
    ap (λ m. flat_map f (take m parts)) up ∙ ap (flat_map f) (take_more parts n no_part within)
    ∙ sym (flat_map_more f [] (take n parts) (part_at parts n))
    ∙ (λ i. gathered_first f s parts are size n (omega (arith, l)) i
    ++ f (are n (subst (λ m. n < m) size within) i))

-- the parts of all queues have what is gathered of them
pub gathered_all : {X : Type 0} (f : Part → List X) (s : State) (parts : List Part) → ArePartsOf s parts
    → length parts ≡ length s.definitions → flat_map f parts ≡ gathered f (part_of s) (length s.definitions)
gathered_all f s parts are size =
    ap (flat_map f) (sym (take_all (length parts) parts (omega arith)))
    ∙ gathered_first f s parts are size (length parts) (omega arith) ∙ ap (gathered f (part_of s)) size

pub flat_both : {X Y : Type 0} (g : X → List Y) (xs ys : List X)
    → flat_map g (xs ++ ys) ≡ flat_map g xs ++ flat_map g ys
flat_both g [] ys = refl
flat_both g (x ∷ xs) ys = ap (λ zs. g x ++ zs) (flat_both g xs ys)
    ∙ sym (append_assoc (g x) (flat_map g xs) (flat_map g ys))

-- the spellings of lists are those of all their members
pub flat_flat : {X Y Z : Type 0} (g : Y → List Z) (f : X → List Y) (xs : List X)
    → flat_map (λ x. flat_map g (f x)) xs ≡ flat_map g (flat_map f xs)
flat_flat g f [] = refl
flat_flat g f (x ∷ xs) = ap (λ zs. flat_map g (f x) ++ zs) (flat_flat g f xs)
    ∙ sym (flat_both g (f x) (flat_map f xs))

pub counted_together : {X : Type 0} (f : Part → List X) (parts : List Part)
    → sum_by (λ (p : Part). length (f p)) parts ≡ length (flat_map f parts)
counted_together f [] = refl
counted_together f (p ∷ parts) = sum_by-cons (λ (q : Part). length (f q)) p parts
    ∙ ap (λ n. length (f p) + n) (counted_together f parts) ∙ sym (length-append (f p) (flat_map f parts))

-- Registrants come by queue.

abbrev registrants_of : State → ℕ → List Registrant
registrants_of s n = gathered (λ (p : Part). p.registrants) (part_of s) n

all_below : (s : State) (n : ℕ) → AllByRecursion (λ (r : Registrant). r.queue < n) (registrants_of s n)
all_below s zero = tt
all_below s (suc n) = each_append (λ (r : Registrant). r.queue < suc n) (registrants_of s n)
    (registrants_at n s.registrants)
    (each_weaker (λ (r : Registrant). r.queue < n) (λ (r : Registrant). r.queue < suc n)
    (λ r l. omega (arith, l)) (registrants_of s n) (all_below s n))
    (each_passes (λ (r : Registrant). r.queue < suc n) (λ (r : Registrant). r.queue == n)
    (λ r e. let here : r.queue ≡ n = eqb-true r.queue n e in omega (arith, here)) s.registrants)

abbrev Before : Registrant → Registrant → Type 0
Before r t = registrant_before r t ≡ true

lower_queue : (r t : Registrant) → r.queue < t.queue → Before r t
lower_queue r t l =
    ap (λ b. b || ((r.queue == t.queue) && name_before r.name t.name)) (lt-ltb r.queue t.queue l)

rising : (s : State) → IsWellFormed s → (n : ℕ) → Ordered Before (registrants_of s n)
rising s well zero = tt
rising s well (suc n) = ordered_append Before (registrants_of s n) (registrants_at n s.registrants)
    (rising s well n)
    (ordered_filter Before (λ (r : Registrant). r.queue == n) s.registrants well.registrants_rise)
    (each_weaker (λ (r : Registrant). r.queue < n)
    (λ (r : Registrant). AllByRecursion (Before r) (registrants_at n s.registrants))
    (λ r l. each_passes (Before r) (λ (t : Registrant). t.queue == n)
    (λ t e. lower_queue r t (subst (λ m. r.queue < m) (sym (eqb-true t.queue n e)) l)) s.registrants)
    (registrants_of s n) (all_below s n))

-- those of one queue after the other are those of the state
pub registrants_together : PartsMakeTheState → (s : State) (parts : List Part) → IsWellFormed s → ArePartsOf s parts
    → length parts ≡ length s.definitions → flat_map (λ (p : Part). p.registrants) parts ≡ s.registrants
registrants_together law s parts well are size = gathered_all (λ (p : Part). p.registrants) s parts are size
    ∙ sym (whole_itself registrant_before registrant_is_order (registrants_of s (length s.definitions))
    (rising s well (length s.definitions)))
    ∙ ap (λ (t : State). t.registrants) (law s well)

-- Elements and notes, put in order.

-- put in order, those of all queues in any order are those of the state
pub elements_in_order : PartsMakeTheState → AnyOrderMakesTheState → (s : State) (parts : List Part)
    (es : List Element) → IsWellFormed s → ArePartsOf s parts → length parts ≡ length s.definitions
    → IsPermutation (flat_map (λ (p : Part). p.elements) parts) es → put_in_order id_before es ≡ s.elements
elements_in_order law any s parts es well are size moved =
    let got = gathered (λ (p : Part). p.elements) (part_of s) (length s.definitions) in
    ap (λ (t : State). t.elements) (any s (record s { elements = es }) well (record {
      next = refl;
      greatest = refl;
      committed = refl;
      aborted = refl;
      definitions = refl;
      units = IsPermutation-refl s.units;
      registrants = IsPermutation-refl s.registrants;
      elements = members id_before s.elements got [] es (ap (λ (t : State). t.elements) (law s well)) refl
          (subst (λ (xs : List Element). IsPermutation xs es)
          (gathered_all (λ (p : Part). p.elements) s parts are size) moved);
      notes =
          IsPermutation-refl s.notes;
    }))

pub notes_in_order : PartsMakeTheState → (s : State) (parts : List Part) → IsWellFormed s → ArePartsOf s parts
    → length parts ≡ length s.definitions
    → put_in_order place_before (flat_map (λ (p : Part). p.notes) parts) ≡ s.notes
notes_in_order law s parts well are size =
    ap (put_in_order place_before) (gathered_all (λ (p : Part). p.notes) s parts are size)
    ∙ ap (λ (t : State). t.notes) (law s well)

-- Registrants, counted and spelled.

pub registrants_counted : PartsMakeTheState → (s : State) (parts : List Part) → IsWellFormed s → ArePartsOf s parts
    → length parts ≡ length s.definitions
    → sum_by (λ (p : Part). length p.registrants) parts ≡ length s.registrants
registrants_counted law s parts well are size = counted_together (λ (p : Part). p.registrants) parts
    ∙ ap length (registrants_together law s parts well are size)

pub registrants_spelled : PartsMakeTheState → (s : State) (parts : List Part) → IsWellFormed s → ArePartsOf s parts
    → length parts ≡ length s.definitions
    → flat_map (λ (p : Part). flat_map registrant_bytes p.registrants) parts ≡ flat_map registrant_bytes s.registrants
registrants_spelled law s parts well are size = flat_flat registrant_bytes (λ (p : Part). p.registrants) parts
    ∙ ap (flat_map registrant_bytes) (registrants_together law s parts well are size)

last_one : (k n : ℕ) → k < n + 1 → n ≤ k → n ≡ k
last_one k n l h = omega (arith, l, h)

-- the parts of the first queues, and that of the next one
pub one_part_more : (s : State) (ps : List Part) (p : Part)
    → ((k : ℕ) → k < length ps → part_at ps k ≡ part_of s k) → p ≡ part_of s (length ps)
    → (k : ℕ) → k < length ps + 1 → part_at (ps ++ p ∷ []) k ≡ part_of s k
one_part_more s ps p are is k l = by_cases (nat_lt k (length ps))
    (λ b. nat_lt k (length ps) ≡ b → part_at (ps ++ p ∷ []) k ≡ part_of s k)
    (λ _ t. let h : k < length ps = ltb-true k (length ps) t in
    get_or_append_left ps (p ∷ []) no_part k h ∙ are k h)
    (λ _ f. subst (λ n. part_at (ps ++ p ∷ []) n ≡ part_of s n) (last_one k (length ps) l (ltb-false k (length ps) f))
    (get_or-append_seam ps p [] no_part ∙ is))
    refl
