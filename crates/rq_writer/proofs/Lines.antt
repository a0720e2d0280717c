-- The two laws: what is read is told so, and what is told so is read.
use Rattle.std.proofs.Common.{◌≡◌, ℕ, ◌≤◌, ◌<◌, ◌^◌, false, cond, List, ◌∷◌, ◌++◌, Option, Some, None, Result, Ok}
use Rattle.std.proofs.Common.{Err, refl, ap, subst, ◌∙◌, inl, inr, arith}
use Rattle.std.specs.Prelude.{codes, IsTrue}
use Rattle.std.specs.Str.{bytes_eq}
use Rattle.std.specs.Fmt.{decimal}
use Rattle.std.proofs.lemmas.Option.{same_Some}
use Rattle.std.proofs.lemmas.Slice.Eq.{bytes_eq-Decides}
use Rattle.rq_record.specs.declared.fault.Fault.{Fault}
use Rattle.rq_record.specs.declared.fault.Fault.TheVariants as faults
use Rattle.rq_model.specs.Records.{By, Record, Define, Register, Deregister, Begin, Enqueue, Dequeue, Commit, Abort}
use Rattle.rq_model.specs.Records.{Checkpoint, Kill, Version, One, Two}
use Rattle.rq_model.specs.Spelling.{IsRecord, IsWho, is_name}
use Rattle.rq_bytes.proofs.Single.{bind_some, chosen}
use Rattle.rq_writer.specs.Script.{Line, Told, Spelled}
use Rattle.rq_writer.specs.Reading.{line_of, Gives, field_at, name_of, number_of, error_of, by_of, bytes_of_hex}
use Rattle.rq_writer.specs.Reading.{unit_number, define_line, registration_at, registration_line, unit_line}
use Rattle.rq_writer.specs.Reading.{enqueue_line, dequeue_line, checkpoint_line, kill_line, kill_line_in, told_by}
use Rattle.rq_writer.specs.Reading.{record_at, told_line, line_at, ReadsLine}
use Rattle.rq_writer.specs.declared.readers.ScriptLine as code
use Rattle.rq_writer.specs.Script.{who_name, who_tag, record_text, line_text, IsTellable, IsLine, Tells}
use Rattle.rq_writer.specs.Making.{TellsNone}
use Rattle.rq_writer.proofs.Parts.{cut_takes, cut_again}
use Rattle.rq_writer.proofs.Numbers.{number_takes, number_again}
use Rattle.rq_writer.proofs.Parts.{at_number, number_at_again, name_takes, name_again, error_takes, error_again}
use Rattle.rq_writer.proofs.Parts.{told_takes, told_again, hex_takes, hex_again, who_lacks, name_lacks}

-- the record is one that a script can tell, and this is its text
abbrev IsTale : (version : Version) → List ℕ → Record → Type 0
IsTale version text r = (IsRecord version r × IsTellable r) × (text ≡ record_text r)

-- a field in front
next : (front : List ℕ) {x rest y : List ℕ} → x ≡ front ++ 32 ∷ rest → rest ≡ y → x ≡ front ++ 32 ∷ y
next front e h = e ∙ ap (λ (l : List ℕ). front ++ 32 ∷ l) h

define_takes : (version : Version) (bytes : List ℕ) (r : Record) → define_line bytes ≡ Some r
    → IsTale version (codes "define " ++ bytes) r
unfolding define_line
define_takes version bytes r e =
    let a = bind_some (field_at bytes) _ r e in
    let b = bind_some (name_of a.0.0) _ r a.2 in
    let c = at_number 65535 a.0.1 _ r (omega arith) b.2 in
    let d = bind_some (error_of c.0.1) _ r c.3 in
    let t = cut_takes 32 bytes a.0 a.1 in
    let name = name_takes a.0.0 b.0 b.1 in
    let error = error_takes c.0.1 d.0 d.1 in
    rw (← same_Some _ _ d.2) (((omega arith, error.1, name.1), tt), cc)

-- a record of a queue and a name, and one of a unit, that is a tale behind this front
registration_takes : (version : Version) (kind : ℕ → List ℕ → Record) (front bytes : List ℕ) (r : Record)
    → ((queue : ℕ) (name : List ℕ) → queue < 2 ^ 32 → IsTrue (is_name name)
    → IsTale version (front ++ (decimal queue ++ 32 ∷ name)) (kind queue name))
    → registration_line kind bytes ≡ Some r → IsTale version (front ++ bytes) r
unfolding registration_at
registration_takes version kind front bytes r tale e =
    let a = bind_some (registration_at bytes) (λ x. Some (kind x.0 x.1)) r e in
    let b = at_number 4294967295 bytes _ a.0 (omega arith) a.1 in
    let c = bind_some (name_of b.0.1) _ a.0 b.3 in
    let name = name_takes b.0.1 c.0 c.1 in
    let told : kind b.0.0 c.0 ≡ r = ap (λ (x : ℕ × List ℕ). kind x.0 x.1) (same_Some _ _ c.2) ∙ same_Some _ _ a.2 in
    let h = tale b.0.0 c.0 (omega arith) name.1 in
    subst (IsTale version (front ++ bytes)) told (h.0, cc)

unit_takes : (version : Version) (kind : ℕ → Record) (front bytes : List ℕ) (r : Record)
    → ((unit : ℕ) → unit < 2 ^ 64 → IsTale version (front ++ decimal unit) (kind unit))
    → unit_line kind bytes ≡ Some r → IsTale version (front ++ bytes) r
unit_takes version kind front bytes r tale e =
    let a = bind_some (unit_number bytes) (λ unit. Some (kind unit)) r e in
    let t = number_takes 18446744073709551615 bytes a.0 (omega arith) a.1 in
    let h = tale a.0 (omega arith) in
    subst (IsTale version (front ++ bytes)) (same_Some _ _ a.2) (h.0, cc)

enqueue_takes : (version : Version) (bytes : List ℕ) (r : Record) → enqueue_line bytes ≡ Some r
    → IsTale version (codes "enqueue " ++ bytes) r
unfolding enqueue_line
enqueue_takes version bytes r e =
    let a = at_number 18446744073709551615 bytes _ r (omega arith) e in
    let b = at_number 4294967295 a.0.1 _ r (omega arith) a.3 in
    let c = at_number 255 b.0.1 _ r (omega arith) b.3 in
    let d = bind_some (field_at c.0.1) _ r c.3 in
    let f = at_number 18446744073709551615 d.0.1 _ r (omega arith) d.2 in
    let g = bind_some (by_of d.0.0 f.0.0) _ r f.3 in
    let h = bind_some (bytes_of_hex 65535 f.0.1) _ r g.2 in
    let t = cut_takes 32 c.0.1 d.0 d.1 in
    let by = told_takes d.0.0 f.0.0 g.0 g.1 (omega arith) in
    let payload = hex_takes 65535 f.0.1 h.0 h.1 in
    let text = next (decimal a.0.0) a.1 (next (decimal b.0.0) b.1 (next (decimal c.0.0) c.1
    (next (who_name g.0) (t ∙ ap (λ (l : List ℕ). l ++ 32 ∷ d.0.1) by.0)
    (next (decimal (who_tag g.0)) (f.1 ∙ ap (λ (n : ℕ). decimal n ++ 32 ∷ f.0.1) by.1) payload.0)))) in
    rw (← same_Some _ _ h.2) (
      ((omega arith, omega arith, omega arith, by.2, payload.2), (by.3, payload.1)),
      ap (λ (l : List ℕ). codes "enqueue " ++ l) text,
    )

dequeue_takes : (version : Version) (bytes : List ℕ) (r : Record) → dequeue_line bytes ≡ Some r
    → IsTale version (codes "dequeue " ++ bytes) r
unfolding dequeue_line
dequeue_takes version bytes r e =
    let a = at_number 18446744073709551615 bytes _ r (omega arith) e in
    let b = at_number 4294967295 a.0.1 _ r (omega arith) a.3 in
    let c = bind_some (field_at b.0.1) _ r b.3 in
    let d = bind_some (number_of 18446744073709551615 c.0.1) _ r c.2 in
    let f = bind_some (by_of c.0.0 d.0) _ r d.2 in
    let t = cut_takes 32 b.0.1 c.0 c.1 in
    let tag = number_takes 18446744073709551615 c.0.1 d.0 (omega arith) d.1 in
    let by = told_takes c.0.0 d.0 f.0 f.1 (omega arith) in
    rw (← same_Some _ _ f.2) (((omega arith, omega arith, by.2), by.3), cc)

checkpoint_takes : (version : Version) (bytes : List ℕ) (r : Record) → checkpoint_line bytes ≡ Some r
    → IsTale version (codes "checkpoint-hex " ++ bytes) r
checkpoint_takes version bytes r e =
    let a = bind_some (bytes_of_hex 268435455 bytes) _ r e in
    let t = hex_takes 268435455 bytes a.0 a.1 in
    rw (← same_Some _ _ a.2) ((t.2, t.1), cc)

-- ---- the word in front

kill_takes : (bytes : List ℕ) (r : Record) → kill_line bytes ≡ Some r → IsTale Two (codes "kill " ++ bytes) r
unfolding kill_line
kill_takes bytes r e =
    let a = at_number 4294967295 bytes _ r (omega arith) e in
    let b = bind_some (number_of 18446744073709551615 a.0.1) _ r a.3 in
    let element = number_takes 18446744073709551615 a.0.1 b.0 (omega arith) b.1 in
    rw (← same_Some _ _ b.2) (((omega arith, omega arith), tt), cc)

kill_in_takes : (version : Version) (bytes : List ℕ) (r : Record) → kill_line_in version bytes ≡ Some r
    → IsTale version (codes "kill " ++ bytes) r
kill_in_takes One bytes r e = absurd cc
kill_in_takes Two bytes r e = kill_takes bytes r e

module _ (version : Version) (word bytes : List ℕ) (r : Record) where
  choose : (w : List ℕ) (here later : Option Record) → cond (bytes_eq word w) here later ≡ Some r
      → (here ≡ Some r → IsTale version (w ++ 32 ∷ bytes) r) → (later ≡ Some r → IsTale version (word ++ 32 ∷ bytes) r)
      → IsTale version (word ++ 32 ∷ bytes) r
  choose w here later e takes others =
      elim (chosen (bytes_eq word w) here later (Some r) e) [
        | inl a ↦
            let tale = takes a.1 in
            (tale.0, ap (λ (l : List ℕ). l ++ 32 ∷ bytes) ((bytes_eq-Decides word w).0 a.0) ∙ tale.1)
        | inr b ↦ others b.1
      ]

  told_by_takes : told_by version word bytes ≡ Some r → IsTale version (word ++ 32 ∷ bytes) r
  unfolding told_by
  told_by_takes e =
      choose (codes "define") _ _ e (define_takes version bytes r)
      (λ e. choose (codes "register") _ _ e
      (registration_takes version Register (codes "register ") bytes r (λ queue name few is. (((few, is), tt), refl)))
      (λ e. choose (codes "deregister") _ _ e
      (registration_takes version Deregister (codes "deregister ") bytes r
      (λ queue name few is. (((few, is), tt), refl)))
      (λ e. choose (codes "begin") _ _ e
      (unit_takes version Begin (codes "begin ") bytes r (λ unit few. ((few, tt), refl)))
      (λ e. choose (codes "enqueue") _ _ e (enqueue_takes version bytes r)
      (λ e. choose (codes "dequeue") _ _ e (dequeue_takes version bytes r)
      (λ e. choose (codes "commit") _ _ e
      (unit_takes version Commit (codes "commit ") bytes r (λ unit few. ((few, tt), refl)))
      (λ e. choose (codes "abort") _ _ e
      (unit_takes version Abort (codes "abort ") bytes r (λ unit few. ((few, tt), refl)))
      (λ e. choose (codes "checkpoint-hex") _ _ e (checkpoint_takes version bytes r)
      (λ e. choose (codes "kill") _ _ e (kill_in_takes version bytes r) (λ none. absurd cc))))))))))

record_takes : (version : Version) (text : List ℕ) (r : Record) → record_at version text ≡ Some r
    → IsTale version text r
unfolding record_at
record_takes version text r e =
    let a = bind_some (field_at text) _ r e in
    let t = told_by_takes version a.0.0 a.0.1 r a.2 in
    (t.0, cut_takes 32 text a.0 a.1 ∙ t.1)

tag_fits : (by : Option By) → IsWho by → who_tag by ≤ 18446744073709551615
tag_fits None h = omega arith
tag_fits (Some by) h = omega (arith, h.1)

-- what is told is read
ruleset again = (
  cut_again,
  name_lacks,
  who_lacks,
  name_again,
  number_at_again,
  number_again,
  error_again,
  tag_fits,
  told_again,
  hex_again,
)

record_again : (version : Version) (r : Record) → IsRecord version r → IsTellable r
    → record_at version (record_text r) ≡ Some r
unfolding record_at told_by define_line registration_at enqueue_line dequeue_line kill_line
record_again version (Define limit error name) h t = search (arith, again)
record_again version (Register queue name) h t = search (arith, again)
record_again version (Deregister queue name) h t = search (arith, again)
record_again version (Begin unit) h t = search (arith, again)
record_again version (Enqueue unit queue priority by payload) h t =
    let longest : 18446744073709551615 < 2 ^ 64 = omega arith in
    let long : 4294967295 < 2 ^ 64 = omega arith in
    let short : 255 < 2 ^ 64 = omega arith in
    let is_unit : unit ≤ 18446744073709551615 = omega arith in
    let is_queue : queue ≤ 4294967295 = omega arith in
    let is_priority : priority ≤ 255 = omega arith in
    search (again, t.1)
record_again version (Dequeue unit queue by) h t = search (arith, again)
record_again version (Commit unit) h t = search (arith, again)
record_again version (Abort unit) h t = search (arith, again)
record_again version (Checkpoint bytes) h t = search (arith, again)
record_again One (Kill queue element) h t = absurd h
record_again Two (Kill queue element) h t = search (arith, again)

is_told : (r : Record) → bytes_eq (record_text r) (codes "checkpoint") ≡ false
is_told (Define limit error name) = refl
is_told _ = refl

pub line_takes : (version : Version) (text : List ℕ) (l : Line) → line_at version text ≡ Some l → Tells version l text
unfolding told_line
line_takes version text l e =
    elim (chosen (bytes_eq text (codes "checkpoint")) _ _ _ e) [
      | inl a ↦ subst (λ (m : Line). Tells version m text) (same_Some _ _ a.1)
          (tt, (bytes_eq-Decides text (codes "checkpoint")).0 a.0)
      | inr b ↦
          let c = bind_some (record_at version text) _ l b.1 in
          subst (λ (m : Line). Tells version m text) (same_Some _ _ c.2) (record_takes version text c.0 c.1)
    ]

pub line_again : (version : Version) (l : Line) → IsLine version l → line_at version (line_text l) ≡ Some l
unfolding told_line
line_again version Spelled h = refl
line_again version (Told r) h = rw (is_told r, record_again version r h.0 h.1) refl

-- a text that is read as no line tells none
pub tells_none : (version : Version) (text : List ℕ) → line_at version text ≡ None → TellsNone version text
tells_none version text none l tells = let found : line_at version text ≡ Some l =
    ap (line_at version) tells.1 ∙ line_again version l tells.0 in absurd cc

-- what the reader gives is what the relation asks for
pub reads : (version : Version) (text : List ℕ) (r : Result code.ScriptLine Fault)
    → Gives line_of r (line_at version text)
    → ReadsLine version text r
reads version text (Ok l) g = line_takes version text (line_of l) g
reads version text (Err faults.Form) g = tells_none version text g
reads version text (Err faults.Resources) g = tt
reads version text (Err _) g = absurd g
