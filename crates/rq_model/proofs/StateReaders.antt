-- The law of states: what is read of a spelling was spelled that way, and what is spelled is read
-- again.
use Rattle.std.proofs.Common.{◌≡◌, ℕ, ◌^◌, ◌<◌, List, [], ◌∷◌, ◌++◌, length, Option, Some, None, refl, arith}
use Rattle.std.specs.Prelude.{IsTrue, IfSome}
use Rattle.std.specs.Int.{w64, to_be_bytes}
use Rattle.std.proofs.lemmas.Bool.{ne_eqb}
use Rattle.rq_bytes.specs.Readers.{nothing, made, tagged, case, no_case, Reads, Any}
use Rattle.rq_bytes.proofs.Single.{reads_byte, reads_u16, reads_u32, reads_u64, reads_nothing}
use Rattle.rq_bytes.proofs.Together.{reads_then, reads_sized, reads_made, reads_tested, alike, in_case, in_no_case}
use Rattle.rq_bytes.proofs.Together.{again_made, reads_tagged, AreCounted, reads_counted}
use Rattle.rq_model.specs.Spelling.{is_name}
use Rattle.rq_model.specs.States.{Mark, Free, Fresh, Held, Kind, Enqueued, Dequeued, Element, Last, Note, Definition}
use Rattle.rq_model.specs.States.{Registrant, State}
use Rattle.rq_model.specs.StateSpelling.{name_bytes, element_number, kind_byte, definition_bytes, last_bytes}
use Rattle.rq_model.specs.StateSpelling.{registrant_bytes, mark_bytes, element_bytes, note_bytes, state_bytes}
use Rattle.rq_model.specs.Reading.{name_read, id_from, id_read, always, kind_read, mark_read, operation_read}
use Rattle.rq_model.specs.Reading.{last_from, last_read, definition_from, definition_read, registrant_from}
use Rattle.rq_model.specs.Reading.{registrant_read, element_from, element_read, note_from, note_read, state_from}
use Rattle.rq_model.specs.Reading.{state_read}
use Rattle.rq_model.proofs.RecordReaders.{name_long}

-- What has a spelling: each number in its width, each name a name.

abbrev pub IsDefinitionSpelled : Definition → Type 0
IsDefinitionSpelled d = (d.limit < 2 ^ 16) × (d.error < 2 ^ 32) × IsTrue (is_name d.name)

abbrev pub IsWideElement : Option ℕ → Type 0
IsWideElement element = IfSome element (λ id. id < 18446744073709551615)

abbrev pub IsWideLast : Last → Type 0
IsWideLast l = (l.place < 2 ^ 64) × (l.tag < 2 ^ 64) × IsWideElement l.element

abbrev pub IsRegistrantSpelled : Registrant → Type 0
IsRegistrantSpelled r = (r.queue < 2 ^ 32) × IsTrue (is_name r.name) × IfSome r.last IsWideLast

abbrev pub IsWideMark : Mark → Type 0
IsWideMark Free = Unit {0}
IsWideMark (Fresh unit) = unit < 2 ^ 64
IsWideMark (Held unit) = unit < 2 ^ 64

pub record IsElementSpelled (e : Element) : Type 0 where
  pub id : e.id < 2 ^ 64
  pub home : e.home < 2 ^ 32
  pub origin : e.origin < 2 ^ 32
  pub priority : e.priority < 2 ^ 8
  pub attempts : e.attempts < 2 ^ 64
  pub mark : IsWideMark e.mark
  pub payload : length e.payload < 2 ^ 16

abbrev pub IsNoteSpelled : Note → Type 0
IsNoteSpelled n = (n.unit < 2 ^ 64) × (n.queue < 2 ^ 32) × IsTrue (is_name n.name) × IsWideLast n.last

pub record IsSpelled (s : State) : Type 0 where
  pub next : s.next < 2 ^ 64
  pub greatest : s.greatest < 2 ^ 64
  pub committed : s.committed < 2 ^ 64
  pub aborted : s.aborted < 2 ^ 64
  pub definitions : AreCounted IsDefinitionSpelled s.definitions
  pub units : AreCounted (λ u. u < 2 ^ 64) s.units
  pub registrants : AreCounted IsRegistrantSpelled s.registrants
  pub elements : AreCounted IsElementSpelled s.elements
  pub notes : AreCounted IsNoteSpelled s.notes

-- What members are made of.

reads_name : Reads (λ name. IsTrue (is_name name)) name_bytes Any name_read
unfolding name_read
reads_name = alike _ (λ name h. h.1) (λ name h. let long = name_long name h in (omega (arith, long.1), h))
    (reads_tested (reads_sized reads_byte))

element_is : (n : ℕ) → n < 2 ^ 64 → IsWideElement (id_from n)
    × (to_be_bytes w64 n ≡ to_be_bytes w64 (element_number (id_from n)))
element_is n lt = grind arith

element_again : (e : Option ℕ) → IsWideElement e → (element_number e < 2 ^ 64) × (id_from (element_number e) ≡ e)
element_again None h = (omega arith, refl)
element_again (Some n) h = (omega (arith, h), rw (ne_eqb n 18446744073709551615 (λ e. omega (arith, e, h))) refl)

reads_id : Reads IsWideElement (λ e. to_be_bytes w64 (element_number e)) Any id_read
unfolding id_read
reads_id = reads_made id_from element_number element_is element_again reads_u64

kind_again : (k : Kind) (rest : List ℕ) → Unit {0} → Any rest
    → tagged (case 1 (made (always Enqueued) nothing) (case 2 (made (always Dequeued) nothing) no_case))
    ((kind_byte k ∷ []) ++ rest) ≡ Some (k, rest)
kind_again Enqueued rest h ends = refl
kind_again Dequeued rest h ends = refl

reads_kind : Reads (λ (k : Kind). Unit {0}) (λ k. kind_byte k ∷ []) Any kind_read
unfolding kind_read
reads_kind = reads_tagged (in_case 1 (always Enqueued) reads_nothing (λ x h. (tt, refl))
    (in_case 2 (always Dequeued) reads_nothing (λ x h. (tt, refl)) in_no_case)) kind_again

reads_mark : Reads IsWideMark mark_bytes Any mark_read
unfolding mark_read
reads_mark = reads_tagged (in_case 0 (always Free) reads_nothing (λ x h. (tt, refl))
    (in_case 1 Fresh reads_u64 (λ u h. (h, refl)) (in_case 2 Held reads_u64 (λ u h. (h, refl)) in_no_case))) again
  where
    again : (m : Mark) (rest : List ℕ) → IsWideMark m → Any rest → mark_read (mark_bytes m ++ rest) ≡ Some (m, rest)
    again Free rest h ends = refl
    again (Fresh u) rest h ends = again_made Fresh reads_u64 u rest h ends
    again (Held u) rest h ends = again_made Held reads_u64 u rest h ends

operation_bytes : ℕ × (ℕ × Option ℕ) → List ℕ
operation_bytes x = to_be_bytes w64 x.0 ++ (to_be_bytes w64 x.1.0 ++ to_be_bytes w64 (element_number x.1.1))

reads_operation : Reads (λ (x : ℕ × (ℕ × Option ℕ)). (x.0 < 2 ^ 64) × (x.1.0 < 2 ^ 64) × IsWideElement x.1.1)
    operation_bytes Any operation_read
unfolding operation_read operation_bytes
reads_operation = alike _ (λ x h. (h.0, h.1.0, h.1.1)) (λ x h. (h.0, (h.1, h.2)))
    (reads_then reads_u64 (reads_then reads_u64 reads_id))

reads_last : Reads (λ l. IfSome l IsWideLast) last_bytes Any last_read
unfolding last_read operation_bytes
reads_last = reads_tagged (in_case 0 (always None) reads_nothing (λ x h. (tt, refl))
    (in_case 1 (last_from Enqueued) reads_operation (λ x h. (h, refl))
    (in_case 2 (last_from Dequeued) reads_operation (λ x h. (h, refl)) in_no_case))) again
  where
    again : (l : Option Last) (rest : List ℕ) → IfSome l IsWideLast → Any rest
        → last_read (last_bytes l ++ rest) ≡ Some (l, rest)
    again None rest h ends = refl
    again (Some l) rest h ends = of_kind l.kind refl
      where
        of_kind : (k : Kind) → l.kind ≡ k → last_read (last_bytes (Some l) ++ rest) ≡ Some (Some l, rest)
        of_kind Enqueued is =
            rw is (again_made (last_from Enqueued) reads_operation (l.place, (l.tag, l.element)) rest h ends)
        of_kind Dequeued is =
            rw is (again_made (last_from Dequeued) reads_operation (l.place, (l.tag, l.element)) rest h ends)

-- Members.

pub reads_definition : Reads IsDefinitionSpelled definition_bytes Any definition_read
unfolding definition_read
reads_definition = reads_made definition_from (λ d. (d.limit, (d.error, d.name))) (λ x h. ((h.0, h.1.0, h.1.1), refl))
    (λ d h. ((h.0, (h.1, h.2)), refl)) (reads_then reads_u16 (reads_then reads_u32 reads_name))

pub reads_registrant : Reads IsRegistrantSpelled registrant_bytes Any registrant_read
unfolding registrant_read
reads_registrant = reads_made registrant_from (λ r. (r.queue, (r.name, r.last))) (λ x h. ((h.0, h.1.0, h.1.1), refl))
    (λ r h. ((h.0, (h.1, h.2)), refl)) (reads_then reads_u32 (reads_then reads_name reads_last))

pub reads_element : Reads IsElementSpelled element_bytes Any element_read
unfolding element_read
reads_element = reads_made element_from
    (λ e. (e.id, (e.home, (e.origin, (e.priority, (e.attempts, (e.mark, e.payload)))))))
    (λ x h. (
      record {
        id = h.0;
        home = h.1.0;
        origin = h.1.1.0;
        priority = h.1.1.1.0;
        attempts = h.1.1.1.1.0;
        mark =
            h.1.1.1.1.1.0;
        payload = h.1.1.1.1.1.1;
      },
      refl,
    ))
    (λ e h. ((h.id, (h.home, (h.origin, (h.priority, (h.attempts, (h.mark, h.payload)))))), refl))
    (reads_then reads_u64
    (reads_then reads_u32
    (reads_then reads_u32
    (reads_then reads_byte (reads_then reads_u64 (reads_then reads_mark (reads_sized reads_u16)))))))

pub reads_note : Reads IsNoteSpelled note_bytes Any note_read
unfolding note_read
reads_note = reads_made note_from
    (λ n. (n.last.place, (n.unit, (n.queue, (n.name, (n.last.kind, (n.last.tag, n.last.element)))))))
    (λ x h. ((h.1.0, h.1.1.0, h.1.1.1.0, (h.0, h.1.1.1.1.1.0, h.1.1.1.1.1.1)), refl))
    (λ n h. ((h.3.0, (h.0, (h.1, (h.2, (tt, (h.3.1, h.3.2)))))), refl))
    (reads_then reads_u64
    (reads_then reads_u64
    (reads_then reads_u32 (reads_then reads_name (reads_then reads_kind (reads_then reads_u64 reads_id))))))

pub reads_state : Reads IsSpelled state_bytes Any state_read
unfolding state_read
reads_state = reads_made state_from
    (λ s. (
      s.next,
      (s.greatest, (s.committed, (s.aborted, (s.definitions, (s.units, (s.registrants, (s.elements, s.notes))))))),
    ))
    (λ x h. (
      record {
        next = h.0;
        greatest = h.1.0;
        committed = h.1.1.0;
        aborted = h.1.1.1.0;
        definitions = h.1.1.1.1.0;
        units = h.1.1.1.1.1.0;
        registrants = h.1.1.1.1.1.1.0;
        elements = h.1.1.1.1.1.1.1.0;
        notes = h.1.1.1.1.1.1.1.1;
      },
      refl,
    ))
    (λ s h. (
      (
        h.next,
        (h.greatest, (h.committed, (h.aborted, (h.definitions, (h.units, (h.registrants, (h.elements, h.notes))))))),
      ),
      refl,
    ))
    (reads_then reads_u64
    (reads_then reads_u64
    (reads_then reads_u64
    (reads_then reads_u64
    (reads_then (reads_counted reads_definition)
    (reads_then (reads_counted reads_u64)
    (reads_then (reads_counted reads_registrant)
    (reads_then (reads_counted reads_element) (reads_counted reads_note)))))))))
