-- Records and where they stand.
use Rattle.std.specs.Prelude.{ℕ, ◌+◌, nat_eq, nat_le, Bool, true, false, ◌&&◌, List, [], ◌∷◌, length}
use Rattle.std.specs.Prelude.{Option, Some, None, is_some, not, option_map}
use Rattle.std.specs.Cmp.Lexicographic.{pointwise}
use Rattle.rq_model.specs.Records as model
use Rattle.rq_model.specs.Records.{Register, Deregister, Enqueue, Dequeue, Version}
use Rattle.rq_model.specs.Spelling.{body_of, Spells}
use Rattle.rq_model.specs.States.{State}
use Rattle.rq_model.specs.Machine.{step}
use Rattle.rq_record.specs.Views.{Record, record_of}
use Rattle.rq_found.specs.Records.{kind_word, queue_about, queue_shown, unit_shown}
use Rattle.rq_look.specs.declared.shown_records.ShownRecord.{ShownRecord}
use Rattle.rq_look.specs.declared.wanted.Wanted.{Wanted}

-- a record, the offset of its frame, its number, and the queue that it defines or names. Behind a
-- front its number is not known, nor that of a queue that it defines
pub record LogEntry : Type 0 where
  pub offset : ℕ
  pub number : Option ℕ
  pub queue : Option ℕ
  pub kept : model.Record

-- the queue of a record, if its number and how many queues are defined before it are known
abbrev pub queue_at : Option (ℕ × ℕ) → model.Record → Option ℕ
queue_at None r = queue_shown r
queue_at (Some place) r = queue_about place.1 r

-- the record of a frame at an offset
abbrev pub entry_at : ℕ → Option (ℕ × ℕ) → model.Record → LogEntry
entry_at offset place r = record {
  offset = offset;
  number = option_map (λ x. x.0) place;
  queue = queue_at place r;
  kept = r;
}

-- records behind a state, of which the first frame stands at an offset
abbrev pub entries : ℕ → State → List model.Record → List LogEntry
entries offset s [] = []
entries offset s (r ∷ rs) = entry_at offset (Some (s.next, length s.definitions)) r
    ∷ entries (offset + (36 + length (body_of r))) (step s r) rs

-- what is shown
abbrev pub shown_entry : ShownRecord → LogEntry
shown_entry it = record {
  offset = it.offset;
  number = it.number;
  queue = option_map (λ queue. queue.0) it.queue;
  kept = record_of it.record.now;
}

-- the record that a body spells, or none if it spells none
abbrev pub FindsRecord : Version → List ℕ → Option Record → Type 0
FindsRecord version body None = (r : model.Record) → Spells version r body → ⊥
FindsRecord version body (Some r) = Spells version (record_of r) body

-- Which are wanted.

-- the registrant that a record names
abbrev pub registrant_named : model.Record → Option (List ℕ)
registrant_named (Register queue name) = Some name
registrant_named (Deregister queue name) = Some name
registrant_named (Enqueue unit queue priority by payload) = option_map (λ b. b.name) by
registrant_named (Dequeue unit queue by) = option_map (λ b. b.name) by
registrant_named r = None

-- nothing is asked for, or what was found
abbrev pub is_asked : {X : Type 0} → (X → X → Bool) → Option X → Option X → Bool
is_asked same None found = true
is_asked same (Some asked) None = false
is_asked same (Some asked) (Some found) = same asked found

-- a record fits all that is asked for
abbrev pub fits : Wanted → LogEntry → Bool
fits w e = is_asked nat_eq w.unit (unit_shown e.kept) && (is_asked nat_eq w.queue e.queue
    && (is_asked (pointwise nat_eq) (option_map (λ t. t.now) w.registrant) (registrant_named e.kept)
    && is_asked (pointwise nat_eq) (option_map (λ t. t.now) w.kind) (Some (kind_word e.kept))))

-- nothing is asked of a record
abbrev pub fits_none : Wanted → Bool
fits_none w = not (is_some w.unit) && (not (is_some w.queue) && (not (is_some w.registrant)
    && not (is_some w.kind)))

-- and its frame does not begin too early
abbrev pub is_wanted : Wanted → LogEntry → Bool
is_wanted w e = nat_le w.from e.offset && fits w e
