-- Names, records, frames, states and lines of a report, byte by byte, and each limit on both sides
-- of its edge.
use Rattle.std.specs.Prelude.{◌≡◌, ◌≤◌, ℕ, true, false, List, [], ◌∷◌, ◌++◌, length, map, filter}
use Rattle.std.specs.Prelude.{Some, None, replicate, codes}
use Rattle.std.specs.List.{range_with_len}
use Rattle.sha2.specs.Sha256.{sha256}
use Rattle.rq_model.specs.Records.{Define, Register, Deregister, Begin, Enqueue, Dequeue, Commit}
use Rattle.rq_model.specs.Records.{Abort, Checkpoint, Kill, Version, One, Two, no_queue}
use Rattle.rq_model.specs.Spelling.{is_name_byte, is_name, body_of, IsRecord, Spells}
use Rattle.rq_model.specs.Frames.{IsBodyLength, log_limit, digest, frame, frames, last, magic, start, header}
use Rattle.rq_model.specs.Frames.{HasHeader, AreBytes, last_of, log_of, stated, body_in, digest_in, HasFrame, Whole}
use Rattle.rq_model.specs.Frames.{Cut, Length, Digest, IsRest, IsFrameRun, AreBodies, before}
use Rattle.rq_model.specs.States.{Free, Fresh, Held, Enqueued, Dequeued, State, empty}
use Rattle.rq_model.specs.WellFormed.{IsElement, IsLast, IsRegistrant, IsNote, IsWellFormed, IsDefinition}
use Rattle.rq_model.specs.WellFormed.{AreDefinitions, IsBelowLimit, IsElementOf, IsOneDeep}
use Rattle.rq_model.specs.StateSpelling.{element_number, definition_bytes, registrant_bytes, element_bytes}
use Rattle.rq_model.specs.StateSpelling.{note_bytes, FitsElement, IsDeepFor, SpellsState, SpellsCarried}
use Rattle.rq_model.specs.Fronts.{Ends, Form, Law, Restarted}
use Rattle.rq_model.specs.Reports.{hex_of, payload_text, error_text, element_text, why_text, front_line, units_line}
use Rattle.rq_model.specs.Reports.{queue_line, element_line, registrant_line}
use Rattle.rq_model.specs.WorkedLogs.{jobs, ann, nobody, by_ann}
use Rattle.rq_model.specs.WorkedMachine.{element, last as last_one, note, registrant, definition}
use Rattle.rq_model.specs.WorkedMachine.{bob, busy, dead_queue, jobs_queue}

-- seven zero bytes, then one
abbrev pub eight : ℕ → List ℕ
eight b = 0 ∷ 0 ∷ 0 ∷ 0 ∷ 0 ∷ 0 ∷ 0 ∷ b ∷ []

pub record WorkedNames : Type 0 where
  pub none : no_queue ≡ 4294967295
  pub bytes : filter is_name_byte (range_with_len 0 256)
      ≡ codes "-.0123456789_abcdefghijklmnopqrstuvwxyz"
  pub lengths : map is_name
      ([] ∷ replicate 1 0x61 ∷ replicate 64 0x61 ∷ replicate 65 0x61 ∷ codes "a b" ∷ codes "A" ∷ [])
      ≡ false ∷ true ∷ true ∷ false ∷ false ∷ false ∷ []

-- Each kind of record.
pub record WorkedBodies : Type 0 where
  pub define : body_of (Define 0x0102 0x03040506 jobs)
      ≡ 1 ∷ 1 ∷ 2 ∷ 3 ∷ 4 ∷ 5 ∷ 6 ∷ 0x6a ∷ 0x6f ∷ 0x62 ∷ 0x73 ∷ []
  pub register : body_of (Register 0x01020304 ann) ≡ 2 ∷ 1 ∷ 2 ∷ 3 ∷ 4 ∷ 0x61 ∷ 0x6e ∷ 0x6e ∷ []
  pub deregister : body_of (Deregister 0x01020304 ann) ≡ 3 ∷ 1 ∷ 2 ∷ 3 ∷ 4 ∷ 0x61 ∷ 0x6e ∷ 0x6e ∷ []
  pub begin : body_of (Begin 0x0102030405060708) ≡ 4 ∷ 1 ∷ 2 ∷ 3 ∷ 4 ∷ 5 ∷ 6 ∷ 7 ∷ 8 ∷ []
  pub enqueue : body_of (Enqueue 1 2 3 (by_ann 4) (9 ∷ 8 ∷ []))
      ≡ 5 ∷ (eight 1 ++ (0 ∷ 0 ∷ 0 ∷ 2 ∷ 3 ∷ 3 ∷ 0x61 ∷ 0x6e ∷ 0x6e ∷ (eight 4 ++ 9 ∷ 8 ∷ [])))
  pub enqueue_nobody : body_of (Enqueue 1 2 3 nobody (9 ∷ 8 ∷ []))
      ≡ 5 ∷ (eight 1 ++ (0 ∷ 0 ∷ 0 ∷ 2 ∷ 3 ∷ 0 ∷ (eight 0 ++ 9 ∷ 8 ∷ [])))
  pub dequeue : body_of (Dequeue 1 2 (by_ann 4))
      ≡ 6 ∷ (eight 1 ++ (0 ∷ 0 ∷ 0 ∷ 2 ∷ 3 ∷ 0x61 ∷ 0x6e ∷ 0x6e ∷ eight 4))
  pub dequeue_nobody : body_of (Dequeue 1 2 nobody) ≡ 6 ∷ (eight 1 ++ (0 ∷ 0 ∷ 0 ∷ 2 ∷ 0 ∷ eight 0))
  pub commit : body_of (Commit 0x0102030405060708) ≡ 7 ∷ 1 ∷ 2 ∷ 3 ∷ 4 ∷ 5 ∷ 6 ∷ 7 ∷ 8 ∷ []
  pub abort : body_of (Abort 0x0102030405060708) ≡ 8 ∷ 1 ∷ 2 ∷ 3 ∷ 4 ∷ 5 ∷ 6 ∷ 7 ∷ 8 ∷ []
  pub checkpoint : body_of (Checkpoint (1 ∷ 2 ∷ [])) ≡ 9 ∷ 1 ∷ 2 ∷ []
  pub kill : body_of (Kill 0x01020304 5) ≡ 10 ∷ 1 ∷ 2 ∷ 3 ∷ 4 ∷ eight 5

-- The greatest value of each field is in a record; one more is in none.
pub record WorkedWidths : Type 0 where
  pub define : IsRecord One (Define 65535 4294967295 jobs)
  pub define_limit : IsRecord One (Define 65536 0 jobs) → ⊥
  pub define_error : IsRecord One (Define 0 4294967296 jobs) → ⊥
  pub define_name : IsRecord One (Define 0 0 []) → ⊥
  pub register : IsRecord One (Register 4294967295 ann)
  pub register_queue : IsRecord One (Register 4294967296 ann) → ⊥
  pub register_name : IsRecord One (Register 0 []) → ⊥
  pub deregister : IsRecord One (Deregister 4294967295 ann)
  pub deregister_queue : IsRecord One (Deregister 4294967296 ann) → ⊥
  pub deregister_name : IsRecord One (Deregister 0 []) → ⊥
  pub begin : IsRecord One (Begin 18446744073709551615)
  pub begin_unit : IsRecord One (Begin 18446744073709551616) → ⊥
  pub enqueue : IsRecord One
      (Enqueue 18446744073709551615 4294967295 255 (by_ann 18446744073709551615) [])
  pub enqueue_unit : IsRecord One (Enqueue 18446744073709551616 0 0 nobody []) → ⊥
  pub enqueue_queue : IsRecord One (Enqueue 0 4294967296 0 nobody []) → ⊥
  pub enqueue_priority : IsRecord One (Enqueue 0 0 256 nobody []) → ⊥
  pub enqueue_tag : IsRecord One (Enqueue 0 0 0 (by_ann 18446744073709551616) []) → ⊥
  pub enqueue_name : IsRecord One (Enqueue 0 0 0 (Some (record { name = []; tag = 0 })) []) → ⊥
  pub payload : (payload : List ℕ) → length payload ≡ 65535
      → IsRecord One (Enqueue 0 0 0 nobody payload)
  pub payload_long : (payload : List ℕ) → length payload ≡ 65536
      → IsRecord One (Enqueue 0 0 0 nobody payload) → ⊥
  pub dequeue : IsRecord One (Dequeue 18446744073709551615 4294967295 (by_ann 18446744073709551615))
  pub dequeue_unit : IsRecord One (Dequeue 18446744073709551616 0 nobody) → ⊥
  pub dequeue_queue : IsRecord One (Dequeue 0 4294967296 nobody) → ⊥
  pub dequeue_tag : IsRecord One (Dequeue 0 0 (by_ann 18446744073709551616)) → ⊥
  pub commit : IsRecord One (Commit 18446744073709551615)
  pub commit_unit : IsRecord One (Commit 18446744073709551616) → ⊥
  pub abort : IsRecord One (Abort 18446744073709551615)
  pub abort_unit : IsRecord One (Abort 18446744073709551616) → ⊥
  pub checkpoint : (bytes : List ℕ) → length bytes ≡ 268435455 → IsRecord One (Checkpoint bytes)
  pub checkpoint_long : (bytes : List ℕ) → length bytes ≡ 268435456
      → IsRecord One (Checkpoint bytes) → ⊥
  pub kill_one : IsRecord One (Kill 0 0) → ⊥
  pub kill : IsRecord Two (Kill 4294967295 18446744073709551615)
  pub kill_queue : IsRecord Two (Kill 4294967296 0) → ⊥
  pub kill_element : IsRecord Two (Kill 0 18446744073709551616) → ⊥
  pub spelled : Spells One (Begin 1) (4 ∷ eight 1)
  pub other_body : Spells One (Begin 1) (4 ∷ eight 2) → ⊥
  pub no_record : Spells One (Begin 18446744073709551616) (4 ∷ eight 0) → ⊥

abbrev pub first_eight : ℕ → List ℕ
first_eight version = 0x52 ∷ 0x51 ∷ 0x4c ∷ 0x4f ∷ 0x47 ∷ 0 ∷ 0 ∷ version ∷ []

-- p is 1 2, the body 7 8 9
abbrev pub sum : List ℕ
sum = sha256 (1 ∷ 2 ∷ 0 ∷ 0 ∷ 0 ∷ 3 ∷ 7 ∷ 8 ∷ 9 ∷ [])

abbrev pub one_body : List ℕ
one_body = 7 ∷ 8 ∷ 9 ∷ []

-- a length of 2, two bytes, and 33 more
abbrev pub two_framed : List ℕ
two_framed = 0 ∷ 0 ∷ 0 ∷ 2 ∷ 7 ∷ 8 ∷ range_with_len 101 33

pub record WorkedFrames : Type 0 where
  pub lengths : IsBodyLength 1 × IsBodyLength 268435456
  pub no_body : IsBodyLength 0 → ⊥
  pub long_body : IsBodyLength 268435457 → ⊥
  pub limit : log_limit ≡ 4294967295
  pub summed : digest (1 ∷ 2 ∷ []) one_body ≡ sum
  pub framed : frame (1 ∷ 2 ∷ []) one_body ≡ 0 ∷ 0 ∷ 0 ∷ 3 ∷ 7 ∷ 8 ∷ 9 ∷ sum
  pub two_frames : frames (1 ∷ 2 ∷ []) (one_body ∷ (5 ∷ []) ∷ [])
      ≡ frame (1 ∷ 2 ∷ []) one_body ++ (frame sum (5 ∷ []) ++ [])
  pub last_of_none : last (1 ∷ 2 ∷ []) [] ≡ 1 ∷ 2 ∷ []
  pub last_of_two : last (1 ∷ 2 ∷ []) (one_body ∷ (5 ∷ []) ∷ []) ≡ digest sum (5 ∷ [])
  pub magic_one : magic One ≡ first_eight 1
  pub magic_two : magic Two ≡ first_eight 2
  pub started : start One ≡ sha256 (first_eight 1)
  pub header_one : header One ≡ first_eight 1 ++ sha256 (first_eight 1)
  pub header_two : header Two ≡ first_eight 2 ++ sha256 (first_eight 2)
  pub has_header : HasHeader One (header One ++ 7 ∷ [])
  pub bytes : AreBytes (255 ∷ [])
  pub no_byte : AreBytes (256 ∷ []) → ⊥
  pub log : log_of Two (Begin 1 ∷ []) ≡ header Two ++ (frame (start Two) (4 ∷ eight 1) ++ [])
  pub last_frame : last_of (1 ∷ 2 ∷ []) (Begin 1 ∷ []) ≡ digest (1 ∷ 2 ∷ []) (4 ∷ eight 1)
  pub states_length : stated (1 ∷ 2 ∷ 3 ∷ 4 ∷ 9 ∷ []) ≡ 0x01020304
  pub holds_body : body_in two_framed ≡ 7 ∷ 8 ∷ []
  pub holds_digest : digest_in two_framed ≡ range_with_len 101 32
  pub a_frame : HasFrame (0 ∷ 0 ∷ 0 ∷ 2 ∷ replicate 34 0)
  pub short_frame : HasFrame (0 ∷ 0 ∷ 0 ∷ 2 ∷ replicate 33 0) → ⊥
  pub empty_frame : HasFrame (0 ∷ 0 ∷ 0 ∷ 0 ∷ replicate 36 0) → ⊥
  pub bodies : AreBodies (one_body ∷ []) × (AreBodies ([] ∷ []) → ⊥)
  pub before_34 : before 34 (range_with_len 0 40) ≡ range_with_len 2 32
  pub no_frame : IsFrameRun (range_with_len 0 40) 40 [] 40 Whole

-- What follows a run of frames, after any 32 bytes.
pub record WorkedRests (p : List ℕ) : Type 0 where
  pub whole : IsRest p [] Whole
  pub not_whole : IsRest p (0 ∷ []) Whole → ⊥
  pub nothing_cut : IsRest p [] Cut → ⊥
  pub one_byte : IsRest p (0 ∷ []) Cut
  pub three_bytes : IsRest p (0 ∷ 0 ∷ 0 ∷ []) Cut
  pub frame_cut : IsRest p (0 ∷ 0 ∷ 0 ∷ 2 ∷ replicate 33 0) Cut
  pub frame_not_cut : IsRest p (0 ∷ 0 ∷ 0 ∷ 2 ∷ replicate 34 0) Cut → ⊥
  pub out_not_cut : IsRest p (0 ∷ 0 ∷ 0 ∷ 0 ∷ []) Cut → ⊥
  pub out_of_range : IsRest p (0 ∷ 0 ∷ 0 ∷ 0 ∷ []) Length
  pub over : IsRest p (0x10 ∷ 0 ∷ 0 ∷ 1 ∷ []) Length
  pub not_over : IsRest p (0x10 ∷ 0 ∷ 0 ∷ 0 ∷ []) Length → ⊥
  pub no_length : IsRest p (0 ∷ 0 ∷ 0 ∷ []) Length → ⊥
  pub wrong : (digest_in two_framed ≡ digest p (7 ∷ 8 ∷ []) → ⊥) → IsRest p two_framed Digest
  pub right : IsRest p (frame p one_body) Digest → ⊥

abbrev pub AllRests : Type 0
AllRests = (p : List ℕ) → WorkedRests p

-- The points that a state keeps, at their edges.
pub record WorkedStates : Type 0 where
  pub unlimited : IsDefinition 1 (definition 0 4294967295 jobs)
  pub limits : IsDefinition 1 (definition 1 0 jobs) × IsDefinition 1 (definition 1000 0 jobs)
  pub limit_1001 : IsDefinition 1 (definition 1001 0 jobs) → ⊥
  pub error_alone : IsDefinition 1 (definition 0 0 jobs) → ⊥
  pub limit_alone : IsDefinition 1 (definition 1 4294967295 jobs) → ⊥
  pub own_error : IsDefinition 1 (definition 1 1 jobs) → ⊥
  pub by_number : AreDefinitions 0 (dead_queue ∷ jobs_queue ∷ [])
  pub not_smaller : AreDefinitions 0 (jobs_queue ∷ []) → ⊥
  pub any_attempts : IsBelowLimit 0 7
  pub below : IsBelowLimit 2 1
  pub not_below : IsBelowLimit 2 2 → ⊥
  pub enqueued : IsElementOf Enqueued 5 (Some 5)
  pub not_enqueued : IsElementOf Enqueued 5 (Some 4) → ⊥
  pub enqueued_none : IsElementOf Enqueued 5 None → ⊥
  pub dequeued : IsElementOf Dequeued 5 None × IsElementOf Dequeued 5 (Some 4)
  pub not_older : IsElementOf Dequeued 5 (Some 5) → ⊥
  pub one_deep : IsOneDeep (dead_queue ∷ jobs_queue ∷ [])
  pub two_deep : IsOneDeep (dead_queue ∷ jobs_queue ∷ definition 2 1 ann ∷ []) → ⊥
  pub deep_one : IsDeepFor One
      (record busy { definitions = dead_queue ∷ jobs_queue ∷ definition 2 1 ann ∷ [] }) → ⊥
  pub deep_two : IsDeepFor Two
      (record busy { definitions = dead_queue ∷ jobs_queue ∷ definition 2 1 ann ∷ [] })
  pub priority : FitsElement (element 0 0 0 255 0 [] Free)
      × (FitsElement (element 0 0 0 256 0 [] Free) → ⊥)
  pub payload_long : (payload : List ℕ) → length payload ≡ 65536
      → FitsElement (element 0 0 0 0 0 payload Free) → ⊥
  pub no_element : element_number None ≡ 18446744073709551615
  pub a_definition : definition_bytes (definition 0x0102 0x03040506 ann)
      ≡ 1 ∷ 2 ∷ 3 ∷ 4 ∷ 5 ∷ 6 ∷ 3 ∷ 0x61 ∷ 0x6e ∷ 0x6e ∷ []
  pub registrants : registrant_bytes (registrant 0x01020304 ann None)
      ≡ 1 ∷ 2 ∷ 3 ∷ 4 ∷ 3 ∷ 0x61 ∷ 0x6e ∷ 0x6e ∷ 0 ∷ []
  pub last_enqueue : registrant_bytes
      (registrant 0x01020304 ann (Some (last_one 5 Enqueued 6 (Some 5))))
      ≡ 1 ∷ 2 ∷ 3 ∷ 4 ∷ 3 ∷ 0x61 ∷ 0x6e ∷ 0x6e ∷ 1 ∷ (eight 5 ++ (eight 6 ++ eight 5))
  pub last_dequeue : registrant_bytes
      (registrant 0x01020304 ann (Some (last_one 5 Dequeued 6 None)))
      ≡ 1 ∷ 2 ∷ 3 ∷ 4 ∷ 3 ∷ 0x61 ∷ 0x6e ∷ 0x6e ∷ 2 ∷ (eight 5 ++ (eight 6 ++ replicate 8 255))
  pub free : element_bytes (element 1 2 3 4 5 (9 ∷ 8 ∷ []) Free)
      ≡ eight 1 ++ (0 ∷ 0 ∷ 0 ∷ 2 ∷ 0 ∷ 0 ∷ 0 ∷ 3 ∷ 4 ∷ (eight 5 ++ (0 ∷ 0 ∷ 2 ∷ 9 ∷ 8 ∷ [])))
  pub fresh : element_bytes (element 1 2 3 4 5 [] (Fresh 6)) ≡ eight 1
      ++ (0 ∷ 0 ∷ 0 ∷ 2 ∷ 0 ∷ 0 ∷ 0 ∷ 3 ∷ 4 ∷ (eight 5 ++ (1 ∷ (eight 6 ++ (0 ∷ 0 ∷ [])))))
  pub held : element_bytes (element 1 2 3 4 5 [] (Held 6)) ≡ eight 1
      ++ (0 ∷ 0 ∷ 0 ∷ 2 ∷ 0 ∷ 0 ∷ 0 ∷ 3 ∷ 4 ∷ (eight 5 ++ (2 ∷ (eight 6 ++ (0 ∷ 0 ∷ [])))))
  pub notes : note_bytes (note 1 2 ann (last_one 3 Enqueued 4 (Some 3)))
      ≡ eight 3 ++ (eight 1 ++ (0 ∷ 0 ∷ 0 ∷ 2 ∷ 3 ∷ 0x61 ∷ 0x6e ∷ 0x6e ∷ 1 ∷ (eight 4 ++ eight 3)))

-- What a member of the state in the middle of things may be, and what it may not.
pub record WorkedMembers : Type 0 where
  pub an_element : IsElement busy (element 19 0 1 0 20 [] (Held 9))
  pub limited : IsElement busy (element 19 1 1 0 1 [] (Fresh 7))
  pub element_id : IsElement busy (element 20 0 0 0 0 [] Free) → ⊥
  pub element_home : IsElement busy (element 19 2 0 0 0 [] Free) → ⊥
  pub element_origin : IsElement busy (element 19 0 2 0 0 [] Free) → ⊥
  pub element_attempts : IsElement busy (element 19 0 0 0 21 [] Free) → ⊥
  pub element_limit : IsElement busy (element 19 1 0 0 2 [] Free) → ⊥
  pub element_fresh : IsElement busy (element 19 0 0 0 0 [] (Fresh 8)) → ⊥
  pub element_held : IsElement busy (element 19 0 0 0 0 [] (Held 8)) → ⊥
  pub a_last : IsLast busy (last_one 19 Enqueued 0 (Some 19))
  pub last_place : IsLast busy (last_one 20 Enqueued 0 (Some 20)) → ⊥
  pub last_element : IsLast busy (last_one 19 Enqueued 0 None) → ⊥
  pub a_registrant : IsRegistrant busy (registrant 1 jobs None)
  pub registrant_queue : IsRegistrant busy (registrant 2 ann None) → ⊥
  pub registrant_last : IsRegistrant busy
      (registrant 1 ann (Some (last_one 20 Enqueued 0 (Some 20)))) → ⊥
  pub a_note : IsNote busy (note 9 1 bob (last_one 19 Dequeued 0 None))
  pub note_unit : IsNote busy (note 8 1 bob (last_one 19 Dequeued 0 None)) → ⊥
  pub note_registrant : IsNote busy (note 9 0 bob (last_one 19 Dequeued 0 None)) → ⊥
  pub note_last : IsNote busy (note 9 1 bob (last_one 20 Dequeued 0 None)) → ⊥
  pub queues : (s : State) → IsWellFormed s → length s.definitions ≤ 4096
  pub greatest_next : SpellsState One (record empty { next = 4294967295 })
      ((0 ∷ 0 ∷ 0 ∷ 0 ∷ replicate 4 255) ++ replicate 44 0)
  pub next_too_great : (version : Version) (s : State) (bytes : List ℕ) →
      SpellsState version s bytes → s.next ≤ 4294967295
  pub greatest_carried : SpellsCarried Two (record empty { next = 9223372036854775807 })
      ((127 ∷ replicate 7 255) ++ replicate 44 0)
  pub first_carried : SpellsCarried One (record empty { next = 4294967296 })
      ((0 ∷ 0 ∷ 0 ∷ 1 ∷ []) ++ replicate 48 0)
  pub carried_too_great : (version : Version) (s : State) (bytes : List ℕ) →
      SpellsCarried version s bytes → s.next ≤ 9223372036854775807

abbrev pub answer : Restarted
answer = record {
  state = busy;
  records = 1;
  used = 2;
  total = 3;
  why = Law;
  committed = 4;
  aborted = 5;
  cut_off = 6;
}

-- The words of a report.
pub record WorkedLines : Type 0 where
  pub hex : map hex_of (0 ∷ 9 ∷ 0xa7 ∷ 255 ∷ [])
      ≡ codes "00" ∷ codes "09" ∷ codes "a7" ∷ codes "ff" ∷ []
  pub payloads : map payload_text ([] ∷ (0x61 ∷ 0 ∷ []) ∷ []) ≡ codes "-" ∷ codes "6100" ∷ []
  pub errors : map error_text (4294967295 ∷ 0 ∷ 12 ∷ []) ≡ codes "-" ∷ codes "0" ∷ codes "12" ∷ []
  pub elements : map element_text (None ∷ Some 12 ∷ []) ≡ codes "-" ∷ codes "12" ∷ []
  pub reasons : map why_text (Ends Whole ∷ Ends Cut ∷ Ends Length ∷ Ends Digest ∷ Form ∷ Law ∷ [])
      ≡ codes "whole" ∷ codes "cut" ∷ codes "length"
      ∷ codes "chain" ∷ codes "form" ∷ codes "law" ∷ []
  pub first_line : front_line answer ≡ codes "front 1 records, 2 of 3 bytes, law\n"
  pub second_line : units_line answer ≡ codes "units 4 committed, 5 aborted, 6 cut off\n"
  pub queue : queue_line 7 (definition 2 3 jobs) ≡ codes "queue 7 jobs limit 2 error 3\n"
  pub element_free : element_line (element 1 2 3 4 5 (0x61 ∷ []) Free)
      ≡ codes "e 1 from 3 priority 4 attempts 5 61\n"
  pub by_enqueue : registrant_line (registrant 0 ann (Some (last_one 3 Enqueued 4 (Some 3))))
      ≡ codes "r ann enqueue tag 4 element 3\n"
  pub by_dequeue : registrant_line (registrant 0 ann (Some (last_one 3 Dequeued 4 None)))
      ≡ codes "r ann dequeue tag 4 element -\n"
  pub by_none : registrant_line (registrant 0 ann None) ≡ codes "r ann none\n"
