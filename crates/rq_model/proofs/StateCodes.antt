-- A well-formed state's spelling is read again, and spells no other state.
use Rattle.std.proofs.Common.{◌≡◌, inl, inr, ℕ, ◌+◌, ◌^◌, ◌<◌, ◌≤◌, true, List, [], ◌∷◌, ◌++◌, length, Option, Some, None}
use Rattle.std.proofs.Common.{sym, subst, ◌∙◌, arith}
use Rattle.std.specs.Prelude.{IfSome, ◌==◌}
use Rattle.std.specs.List.{list_any, flat_map, AllByRecursion}
use Rattle.std.specs.Int.{w64, to_be_bytes}
use Rattle.std.proofs.lemmas.List.{length-append}
use Rattle.std.proofs.lemmas.Bool.{eqb-true, and_parts}
use Rattle.rq_model.specs.Records.{Version}
use Rattle.rq_model.specs.States.{Mark, Free, Fresh, Held, Element, Last, Note, Definition}
use Rattle.rq_model.specs.States.{Registrant, State, is_registrant}
use Rattle.std.specs.Str.{bytes_eq}
use Rattle.rq_model.specs.WellFormed.{Ordered, unit_is_open, IsElement, IsLast, IsRegistrant, IsNote}
use Rattle.rq_model.specs.WellFormed.{AreDefinitions, IsWellFormed}
use Rattle.rq_model.specs.StateSpelling.{FitsDefinition, FitsRegistrant, FitsElement, FitsNote, Fits}
use Rattle.rq_model.specs.StateSpelling.{SpellsUpTo, counted, definition_bytes}
use Rattle.rq_model.specs.StateSpelling.{registrant_bytes, element_bytes, note_bytes}
use Rattle.rq_model.specs.LogLaws.{LogStateIsCounted, ShortIsCounted}
use Rattle.rq_model.proofs.Lists.{each_weaker, each_both}
use Rattle.rq_bytes.proofs.Together.{reads_alone, spells_one}
use Rattle.rq_model.proofs.StateReaders.{IsDefinitionSpelled, IsWideLast}
use Rattle.rq_model.proofs.StateReaders.{IsWideMark, IsNoteSpelled, IsSpelled, reads_state}
use Rattle.rq_model.proofs.Texts.{either}

-- A well-formed state's members have these widths.

any_of : (P : ℕ → Type 0) (unit : ℕ) (units : List ℕ) → AllByRecursion P units → list_any (λ v. v == unit) units ≡ true
    → P unit
any_of P unit [] h e = absurd cc
any_of P unit (v ∷ units) h e =
    elim (either _ _ e) [
      | inl here ↦ subst P (eqb-true v unit here) h.0
      | inr there ↦ any_of P unit units h.1 there
    ]

wide_mark : (s : State) (mark : Mark) → IsWellFormed s → Fits s → unit_is_open s mark → IsWideMark mark
wide_mark s Free h f o = tt
wide_mark s (Fresh u) h f o =
    omega (arith, (any_of (λ v. (1 ≤ v) × (v ≤ s.greatest)) u s.units h.units o).1, f.greatest)
wide_mark s (Held u) h f o = omega (arith, (any_of (λ v. (1 ≤ v) × (v ≤ s.greatest)) u s.units h.units o).1, f.greatest)

wide_last : (s : State) (l : Last) → s.next < 2 ^ 64 → IsLast s l → l.tag < 2 ^ 64 → IsWideLast l
wide_last s l le h t = grind arith

wide_optional : (s : State) (last : Option Last) → s.next < 2 ^ 64 → IfSome last (IsLast s)
    → IfSome last (λ l. l.tag < 2 ^ 64) → IfSome last IsWideLast
wide_optional s None le h t = tt
wide_optional s (Some l) le h t = wide_last s l le h t

spelled_definitions : (number : ℕ) (ds : List Definition) → number + length ds ≤ 4096 → AreDefinitions number ds
    → AllByRecursion FitsDefinition ds → AllByRecursion IsDefinitionSpelled ds
spelled_definitions number [] le h f = tt
spelled_definitions number (d ∷ ds) le h f = (
  grind arith,
  spelled_definitions (number + 1) ds (omega (arith, le)) h.1 f.1,
)

-- as many as fit below a number
few : {X : Type 0} (key : X → ℕ) (low high : ℕ) (xs : List X) → low ≤ high → Ordered (λ x y. key x < key y) xs
    → AllByRecursion (λ x. low ≤ key x) xs → AllByRecursion (λ x. key x < high) xs → low + length xs ≤ high
few key low high [] le up above below = omega (arith, le)
few key low high (x ∷ xs) le up above below =
    let others = few key (key x + 1) high xs (omega (arith, below.0)) up.1
    (each_weaker _ _ (λ y lt. omega (arith, lt)) xs up.0) below.1 in
    omega (arith, others, above.0)

-- a note's queue is a registrant's, which is defined
note_queue : (s : State) (n : Note) → IsWellFormed s → IsNote s n → n.queue < 2 ^ 32
note_queue s n w h = omega (arith, w.few, queue_of s.registrants w.registrants h.registrant)
  where
    queue_of : (rs : List Registrant) → AllByRecursion (IsRegistrant s) rs
        → list_any (is_registrant n.queue n.name) rs ≡ true → n.queue < length s.definitions
    queue_of [] r e = absurd cc
    queue_of (r ∷ rs) h e =
        elim (either _ _ e) [
          | inl here ↦ subst (λ (q : ℕ). q < length s.definitions)
              (eqb-true r.queue n.queue (and_parts (r.queue == n.queue) (bytes_eq r.name n.name) here).0) h.0.queue
          | inr there ↦ queue_of rs h.1 there
        ]

pub log_state_is_counted : LogStateIsCounted
log_state_is_counted s w le =
    let places = each_weaker (IsNote s) (λ n. n.last.place < s.next) (λ n x. x.last.place) s.notes w.notes in
    let ids = each_weaker (IsElement s) (λ e. e.id < s.next) (λ e x. x.id) s.elements w.elements in
    record {
      next = omega (arith, le);
      definitions = omega (arith, w.few);
      units = omega (arith, le, w.counts);
      registrants = omega (arith, le, w.registrants_few);
      elements = omega (
        arith,
        le,
        few (λ (e : Element). e.id) 0 s.next s.elements (omega arith) w.elements_rise
            (each_weaker (λ e. e.id < s.next) (λ e. 0 ≤ e.id) (λ e x. omega arith) s.elements ids) ids,
      );
      notes = omega (
        arith,
        le,
        few (λ (n : Note). n.last.place) 0 s.next s.notes (omega arith) w.notes_rise
            (each_weaker _ _ (λ n x. omega arith) s.notes places)
            places,
      );
    }

-- each member has a byte at least
as_many : {X : Type 0} (spelling : X → List ℕ) → ((x : X) → 1 ≤ length (spelling x)) → (xs : List X)
    → length xs ≤ length (flat_map spelling xs)
as_many spelling h [] = omega arith
as_many spelling h (x ∷ xs) =
    omega (arith, as_many spelling h xs, h x, length-append (spelling x) (flat_map spelling xs))

pub short_is_counted : ShortIsCounted
short_is_counted s le short =
    let notes = counted note_bytes s.notes in
    let elements = counted element_bytes s.elements in
    let registrants = counted registrant_bytes s.registrants in
    let units = counted (to_be_bytes w64) s.units in
    let ds = flat_map definition_bytes s.definitions in
    let us = flat_map (to_be_bytes w64) s.units in
    let rs = flat_map registrant_bytes s.registrants in
    let es = flat_map element_bytes s.elements in
    let ns = flat_map note_bytes s.notes in
    let room : length ds + (length us + (length rs + (length es + length ns))) ≤ 4294967295 =
    omega (
      arith,
      short,
      length-append ds (units ++ (registrants ++ (elements ++ notes))),
      length-append us (registrants ++ (elements ++ notes)),
      length-append rs (elements ++ notes),
      length-append es notes,
    ) in
    record {
      next = le;
      definitions = omega (arith, room, as_many definition_bytes (λ d. omega arith) s.definitions);
      units = omega (arith, room, as_many (to_be_bytes w64) (λ u. omega arith) s.units);
      registrants = omega (arith, room, as_many registrant_bytes (λ r. omega arith) s.registrants);
      elements = omega (arith, room, as_many element_bytes (λ e. omega arith) s.elements);
      notes = omega (arith, room, as_many note_bytes (λ n. omega arith) s.notes);
    }

pub is_spelled : (most : ℕ) (version : Version) (s : State) (bytes : List ℕ) → SpellsUpTo most version s bytes
    → IsSpelled s
is_spelled most version s bytes h =
    let w = h.keeps in
    let counts = h.counted in
    let le = counts.next in
    let defined = w.few in
    record {
      next = omega (arith, le);
      greatest = h.fits.greatest;
      committed = omega (arith, le, w.counts);
      aborted = omega (arith, le, w.counts);
      definitions = (
        counts.definitions,
        spelled_definitions 0 s.definitions
            (omega (arith, defined)) w.definitions h.fits.definitions,
      );
      units = (
        counts.units,
        each_weaker _ _ (λ u x. omega (arith, x.1, h.fits.greatest)) s.units w.units,
      );
      registrants = (
        counts.registrants,
        each_weaker _ _ (λ r x. (omega (arith, x.0.queue, defined), x.1.0, wide_optional s r.last le x.0.last x.1.1))
            s.registrants (each_both (IsRegistrant s) FitsRegistrant s.registrants w.registrants h.fits.registrants),
      );
      elements = (
        counts.elements,
        each_weaker _ _
            (λ e x. record {
              id = omega (arith, le, x.0.id);
              home = omega (arith, x.0.home, defined);
              origin =
                  omega (arith, x.0.origin, defined);
              priority = x.1.0;
              attempts = omega (arith, le, x.0.attempts);
              mark =
                  wide_mark s e.mark w h.fits x.0.unit;
              payload = omega (arith, x.1.1);
            }) s.elements
            (each_both (IsElement s) FitsElement s.elements w.elements h.fits.elements),
      );
      notes = (
        counts.notes,
        each_weaker (λ n. IsNote s n × FitsNote n) IsNoteSpelled
            (λ n x. (
              omega (
                arith,
                (any_of _ _ _ w.units x.0.unit).1,
                h.fits.greatest,
              ),
              note_queue s n w x.0,
              x.1.0,
              wide_last s n.last le x.0.last x.1.1,
            ))
            s.notes (each_both (IsNote s) FitsNote s.notes w.notes h.fits.notes),
      );
    }

pub one_state : (most other : ℕ) (one two : Version) (s t : State) (bytes : List ℕ) → SpellsUpTo most one s bytes
    → SpellsUpTo other two t bytes → s ≡ t
one_state most other one two s t bytes h k =
    spells_one (reads_alone reads_state) s t (is_spelled most one s bytes h) (is_spelled other two t bytes k)
    (sym h.spelling ∙ k.spelling)
