-- What bytes that spell a state begin with, what comes behind, and how long they are.
use Rattle.std.proofs.Common.{◌≡◌, ℕ, ◌+◌, ◌*◌, ◌≤◌, Bool, List, [], ◌∷◌, ◌++◌, length, Option, Some, None, refl, ap}
use Rattle.std.proofs.Common.{arith, length-append, sum_by, true, false, ◌&&◌, is_some, sym, ◌∙◌, nat_le}
use Rattle.std.specs.List.{flat_map}
use Rattle.std.specs.Int.{w16, w64, to_be_bytes, w32}
use Rattle.std.proofs.Math.Nat.{mul-suc}
use Rattle.std.proofs.lemmas.List.Sums.{sum_by-cons}
use Rattle.rq_model.specs.States.{Mark, Free, Fresh, Held, Element, Last, Definition, Note, Registrant, State}
use Rattle.rq_model.specs.States.{id_before}
use Rattle.rq_model.specs.Queues.{Part, part_of}
use Rattle.rq_state.specs.Laws.{gathered, PartsMakeTheState}
use Rattle.rq_model.specs.StateSpelling.{counted, element_number, kind_byte, definition_bytes, last_bytes}
use Rattle.rq_model.specs.StateSpelling.{registrant_bytes, mark_bytes, element_bytes, note_bytes, state_bytes, carried_next}
use Rattle.rq_model.specs.WellFormed.{IsWellFormed}
use Rattle.rq_model.proofs.WellFormedRuns.{length-put}
use Rattle.rq_state.specs.Orders.{put_in_order, place_before}
use Rattle.rq_queue.specs.Rooms.{member_bytes}
use Rattle.rq_standing.specs.Parts.{ArePartsOf}
use Rattle.rq_standing.specs.Spelled.{least_bytes, head_of, members_of}
use Rattle.rq_standing.proofs.Together.{gathered_all, registrants_together}
use Rattle.std.specs.Str.{bytes_eq}
use Rattle.std.proofs.lemmas.Bool.{le-leb, false≢true}
use Rattle.std.proofs.lemmas.Slice.Eq.{bytes_eq-Decides}
use Rattle.rq_model.proofs.Lists.{by_cases}
use Rattle.rq_state.specs.Comparing.{left_after, is_matched}
use Rattle.rq_state.proofs.Behind.{behind_both, behind_none, whole_is, follow}
use Rattle.rq_standing.specs.Stands.{HoldsState}
use Rattle.rq_standing.specs.declared.queues.Queues.{Queues}

-- Members.

as_long : {X : Type 0} (spelling : X → List ℕ) (n : ℕ) → ((x : X) → n ≤ length (spelling x)) → (xs : List X)
    → n * length xs ≤ length (flat_map spelling xs)
as_long spelling n h [] = omega arith
as_long spelling n h (x ∷ xs) =
    omega (
      arith,
      as_long spelling n h xs,
      h x,
      length-append (spelling x) (flat_map spelling xs),
      mul-suc n (length xs),
    )

definition_long : (d : Definition) → 7 ≤ length (definition_bytes d)
definition_long d = omega arith

registrant_long : (r : Registrant) → 6 ≤ length (registrant_bytes r)
registrant_long r = let last = last_long r.last in omega (arith, last, length-append r.name (last_bytes r.last))
  where
    last_long : (last : Option Last) → 1 ≤ length (last_bytes last)
    last_long None = omega arith
    last_long (Some l) = omega arith

note_long : (m : Note) → 38 ≤ length (note_bytes m)
note_long m =
    let rest = kind_byte m.last.kind
    ∷ (to_be_bytes w64 m.last.tag ++ to_be_bytes w64 (element_number m.last.element)) in
    omega (arith, length-append m.name rest)

element_long : (e : Element) → 28 ≤ length (element_bytes e)
element_long e = let whole = length-append (mark_bytes e.mark) (to_be_bytes w16 (length e.payload) ++ e.payload) in
    let mark = mark_long e.mark in omega (arith, whole, mark)
  where
    mark_long : (m : Mark) → 1 ≤ length (mark_bytes m)
    mark_long Free = omega arith
    mark_long (Fresh unit) = omega arith
    mark_long (Held unit) = omega arith

pub state_long : (s : State) → least_bytes s ≤ length (state_bytes s)
state_long s =
    let notes = counted note_bytes s.notes in
    let elements = counted element_bytes s.elements in
    let registrants = counted registrant_bytes s.registrants in
    let units = counted (to_be_bytes w64) s.units in
    let ds = flat_map definition_bytes s.definitions in
    let us = flat_map (to_be_bytes w64) s.units in
    let rs = flat_map registrant_bytes s.registrants in
    let es = flat_map element_bytes s.elements in
    omega (
      arith,
      length-append ds (units ++ (registrants ++ (elements ++ notes))),
      length-append us (registrants ++ (elements ++ notes)),
      length-append rs (elements ++ notes),
      length-append es notes,
      as_long definition_bytes 7 definition_long s.definitions,
      as_long (to_be_bytes w64) 8 (λ u. omega arith) s.units,
      as_long registrant_bytes 6 registrant_long s.registrants,
      as_long element_bytes 28 element_long s.elements,
      as_long note_bytes 38 note_long s.notes,
    )

-- Parts.

length_in_order : {X : Type 0} (before : X → X → Bool) (xs : List X) → length (put_in_order before xs) ≡ length xs
length_in_order before [] = refl
length_in_order before (x ∷ xs) =
    omega (arith, length-put before x (put_in_order before xs), length_in_order before xs)

bytes_of : (parts : List Part) → sum_by member_bytes parts
    ≡ 6 * length (flat_map (λ (p : Part). p.registrants) parts)
    + 28 * length (flat_map (λ (p : Part). p.elements) parts) + 38 * length (flat_map (λ (p : Part). p.notes) parts)
bytes_of [] = refl
bytes_of (p ∷ parts) =
    omega (
      arith,
      sum_by-cons member_bytes p parts,
      bytes_of parts,
      length-append p.registrants (flat_map (λ (q : Part). q.registrants) parts),
      length-append p.elements (flat_map (λ (q : Part). q.elements) parts),
      length-append p.notes (flat_map (λ (q : Part). q.notes) parts),
    )

pub of_all : PartsMakeTheState → (s : State) (parts : List Part) → IsWellFormed s → ArePartsOf s parts
    → length parts ≡ length s.definitions
    → sum_by member_bytes parts ≡ 6 * length s.registrants + 28 * length s.elements + 38 * length s.notes
of_all law s parts well are size =
    let whole = law s well in
    let n = length s.definitions in
    omega (
      arith,
      bytes_of parts,
      ap (λ (rs : List Registrant). length rs) (registrants_together law s parts well are size),
      ap (λ (es : List Element). length es) (gathered_all (λ (p : Part). p.elements) s parts are size),
      ap (λ (ns : List Note). length ns) (gathered_all (λ (p : Part). p.notes) s parts are size),
      ap (λ (t : State). length t.elements) whole,
      ap (λ (t : State). length t.notes) whole,
      length_in_order id_before (gathered (λ (p : Part). p.elements) (part_of s) n),
      length_in_order place_before (gathered (λ (p : Part). p.notes) (part_of s) n),
    )

-- the head and the lists of a state behind it are its spelling
pub spelled_so : (s : State) (kept : List ℕ) (head whole : Option (List ℕ)) → head ≡ left_after (head_of s) (Some kept)
    → whole ≡ left_after (members_of s) head → is_matched whole ≡ bytes_eq kept (state_bytes s)
spelled_so s kept head whole begins follows =
    ap is_matched (follows ∙ ap (left_after (members_of s)) begins
    ∙ sym (behind_both (head_of s) (members_of s) (Some kept)))
    ∙ whole_is (state_bytes s) kept

-- bytes that begin otherwise are not the spelling
otherwise_begun : (s : State) (kept : List ℕ) (head : Option (List ℕ)) → head ≡ left_after (head_of s) (Some kept)
    → is_some head ≡ false → bytes_eq kept (state_bytes s) ≡ false
otherwise_begun s kept None begins differs =
    sym (spelled_so s kept None None begins (sym (behind_none (members_of s))))
otherwise_begun s kept (Some rest) begins differs = absurd (let no : ⊥ = grind (arith, differs) in no)

-- nor are bytes that are too short
too_short : (s : State) (kept : List ℕ) → nat_le (least_bytes s) (length kept) ≡ false
    → bytes_eq kept (state_bytes s) ≡ false
too_short s kept short = by_cases (bytes_eq kept (state_bytes s)) (λ b. b ≡ false)
    (λ same. let is : kept ≡ state_bytes s = (bytes_eq-Decides kept (state_bytes s)).0 same in
    absurd (false≢true (sym short
    ∙ le-leb (least_bytes s) (length kept) (omega (arith, state_long s, ap length is)))))
    (λ _. refl)

-- nor is anything, if no record can have the next number
pub not_spelled : (s : State) (kept : List ℕ) (next : ℕ) (head : Option (List ℕ)) (may : Bool) → next ≡ s.next
    → head ≡ left_after (head_of s) (Some kept)
    → may ≡ (nat_le next carried_next && (is_some head && nat_le (least_bytes s) (length kept)))
    → may ≡ false → false ≡ (nat_le s.next carried_next && bytes_eq kept (state_bytes s))
not_spelled s kept next head may same begins is not_so =
    by_cases (nat_le s.next carried_next)
    (λ b. (b && (is_some head && nat_le (least_bytes s) (length kept))) ≡ false
    → false ≡ (b && bytes_eq kept (state_bytes s)))
    (λ _ other. by_cases (is_some head)
    (λ b. is_some head ≡ b → (b && nat_le (least_bytes s) (length kept)) ≡ false
    → false ≡ bytes_eq kept (state_bytes s))
    (λ _ _ short. sym (too_short s kept short))
    (λ _ differs _. sym (otherwise_begun s kept head begins differs)) refl other)
    (λ _ _. refl)
    (ap (λ n. nat_le n carried_next && (is_some head && nat_le (least_bytes s) (length kept))) (sym same)
    ∙ sym is ∙ not_so)

-- what may be the spelling is it if its lists follow
pub is_spelled : (s : State) (kept : List ℕ) (next : ℕ) (head whole : Option (List ℕ)) (may : Bool) → next ≡ s.next
    → head ≡ left_after (head_of s) (Some kept)
    → may ≡ (nat_le next carried_next && (is_some head && nat_le (least_bytes s) (length kept)))
    → may ≡ true → whole ≡ left_after (members_of s) head
    → is_matched whole ≡ (nat_le s.next carried_next && bytes_eq kept (state_bytes s))
is_spelled s kept next head whole may same begins is so follows = spelled_so s kept head whole begins follows
    ∙ by_cases (nat_le s.next carried_next) (λ b. nat_le s.next carried_next ≡ b
    → bytes_eq kept (state_bytes s) ≡ (b && bytes_eq kept (state_bytes s)))
    (λ _ _. refl)
    (λ _ no. absurd (false≢true (sym (sym so ∙ is
    ∙ ap (λ n. nat_le n carried_next && (is_some head && nat_le (least_bytes s) (length kept))) same
    ∙ ap (λ b. b && (is_some head && nat_le (least_bytes s) (length kept))) no))))
    refl

-- Piece by piece, as calls compare them.

pub head_compared : (x : Queues) (s : State) (k : ℕ) (m m1 m2 m3 m4 m5 : Option (List ℕ)) → HoldsState x s
    → k ≡ length x.definitions.items → m1 ≡ left_after (to_be_bytes w64 x.next) m
    → m2 ≡ left_after (to_be_bytes w64 x.greatest) m1 → m3 ≡ left_after (to_be_bytes w64 x.committed) m2
    → m4 ≡ left_after (to_be_bytes w64 x.aborted) m3 → m5 ≡ left_after (to_be_bytes w32 k) m4 → m5 ≡ left_after (head_of s) m
head_compared x s k m m1 m2 m3 m4 m5 h count one two three four five =
    let n = to_be_bytes w64 x.next in
    let g = to_be_bytes w64 x.greatest in
    let c = to_be_bytes w64 x.committed in
    let a = to_be_bytes w64 x.aborted in
    let d = to_be_bytes w32 k in
    follow n (g ++ (c ++ (a ++ d))) m m1 m5 one (follow g (c ++ (a ++ d)) m1 m2 m5 two
    (follow c (a ++ d) m2 m3 m5 three (follow a d m3 m4 m5 four five)))
    ∙ (λ i. left_after (to_be_bytes w64 (h.next i) ++ (to_be_bytes w64 (h.greatest i)
    ++ (to_be_bytes w64 (h.committed i) ++ (to_be_bytes w64 (h.aborted i)
    ++ to_be_bytes w32 ((count ∙ ap length h.definitions) i))))) m)

pub lists_compared : (s : State) (m m1 m2 m3 m4 m5 : Option (List ℕ))
    → m1 ≡ left_after (flat_map definition_bytes s.definitions) m → m2 ≡ left_after (counted (to_be_bytes w64) s.units) m1
    → m3 ≡ left_after (counted registrant_bytes s.registrants) m2 → m4 ≡ left_after (counted element_bytes s.elements) m3
    → m5 ≡ left_after (counted note_bytes s.notes) m4 → m5 ≡ left_after (members_of s) m
lists_compared s m m1 m2 m3 m4 m5 one two three four five =
    let us = counted (to_be_bytes w64) s.units in
    let rs = counted registrant_bytes s.registrants in
    let es = counted element_bytes s.elements in
    let ns = counted note_bytes s.notes in
    follow (flat_map definition_bytes s.definitions) (us ++ (rs ++ (es ++ ns))) m m1 m5 one
    (follow us (rs ++ (es ++ ns)) m1 m2 m5 two (follow rs (es ++ ns) m2 m3 m5 three (follow es ns m3 m4 m5 four five)))
