-- Worked logs, as records, and their reports; a true and a false checkpoint, a tail and an upgraded
-- log.
use Prim.Native.String.{String}
use Rattle.std.specs.Prelude.{◌≡◌, ◌+◌, ℕ, List, [], ◌∷◌, ◌++◌, Option, Some, None, filter, take}
use Rattle.std.specs.Prelude.{length, replicate, codes, drop}
use Rattle.std.specs.List.{flat_map}
use Rattle.rq_model.specs.Records.{By, Record, Define, Register, Deregister, Begin, Enqueue, Dequeue, Commit, Abort}
use Rattle.rq_model.specs.Records.{Checkpoint, Kill, Version, One, Two, no_queue}
use Rattle.rq_model.specs.Spelling.{body_of}
use Rattle.rq_model.specs.Frames.{log_of, digest, frame, start, header, last_of, body_in, digest_in, HasFrame}
use Rattle.rq_model.specs.States.{Element, Definition, State, empty, put}
use Rattle.rq_model.specs.Machine.{is_free_at, comes_first, run}
use Rattle.rq_model.specs.StateSpelling.{state_bytes}
use Rattle.rq_model.specs.Fronts.{Restarted}
use Rattle.rq_model.specs.Reports.{front_line, units_line, queue_text, IsReport}
use Rattle.rq_model.specs.Checkpoints.{IsReportAt, TrueAt, IsCheckpointAt}
use Rattle.rq_model.specs.Closing.{IsTail}
use Rattle.rq_model.specs.Upgrading.{IsUpgraded}

-- The text of what a restart returns, made by putting the elements in order.

abbrev pub in_order : List Element → List Element
in_order [] = []
in_order (e ∷ es) = put comes_first e (in_order es)

abbrev pub queues_made : ℕ → List Definition → State → List ℕ
queues_made queue [] s = []
queues_made queue (d ∷ ds) s =
    queue_text queue d (in_order (filter (is_free_at queue) s.elements)) s.registrants
    ++ queues_made (queue + 1) ds s

abbrev pub text_made : Restarted → List ℕ
text_made r = front_line r ++ (units_line r ++ queues_made 0 r.state.definitions r.state)

-- lines, each with its LF
abbrev pub lines : List String → List ℕ
lines ls = flat_map (λ l. codes l ++ codes "\n") ls

-- the log of these records has this report
abbrev pub Says : Version → List Record → List String → Type 0
Says version rs report = IsReport (log_of version rs) (lines report)

abbrev pub jobs : List ℕ
jobs = codes "jobs"

abbrev pub ann : List ℕ
ann = codes "ann"

abbrev pub nobody : Option By
nobody = None

abbrev pub by_ann : ℕ → Option By
by_ann tag = Some (record { name = ann; tag = tag })

abbrev pub one_element_log : List Record
one_element_log = Define 0 no_queue jobs ∷ Begin 1
    ∷ Enqueue 1 0 5 nobody (0x61 ∷ []) ∷ Commit 1 ∷ []

abbrev pub best_first_log : List Record
best_first_log = Define 0 no_queue jobs ∷ Begin 1 ∷ Enqueue 1 0 1 nobody (0x61 ∷ [])
    ∷ Enqueue 1 0 9 nobody (0x62 ∷ []) ∷ Enqueue 1 0 9 nobody (0x63 ∷ [])
    ∷ Commit 1 ∷ Begin 2 ∷ Dequeue 2 0 nobody ∷ Commit 2 ∷ []

abbrev pub second_abort_log : List Record
second_abort_log = Define 0 no_queue (codes "dead") ∷ Define 2 0 jobs
    ∷ Begin 1 ∷ Enqueue 1 1 5 nobody (0x61 ∷ []) ∷ Commit 1 ∷ Begin 2
    ∷ Dequeue 2 1 nobody ∷ Abort 2 ∷ Begin 3 ∷ Dequeue 3 1 nobody ∷ Abort 3 ∷ []

abbrev pub arrival_log : List Record
arrival_log =
    Define 0 no_queue (codes "dead") ∷ Define 2 0 jobs ∷ Register 0 ann ∷ Begin 1
    ∷ Enqueue 1 1 5 nobody (0x61 ∷ []) ∷ Commit 1 ∷ Begin 2 ∷ Dequeue 2 1 nobody ∷ Abort 2
    ∷ Begin 3 ∷ Dequeue 3 1 nobody ∷ Begin 4 ∷ Dequeue 4 0 (by_ann 70)
    ∷ Commit 4 ∷ Abort 3 ∷ Begin 5 ∷ Dequeue 5 0 (by_ann 71) ∷ Commit 5 ∷ []

abbrev pub return_and_arrival_log : List Record
return_and_arrival_log =
    Define 0 no_queue (codes "dead") ∷ Define 1 0 jobs ∷ Register 0 ann ∷ Begin 1
    ∷ Enqueue 1 0 3 nobody (0x61 ∷ []) ∷ Enqueue 1 1 7 nobody (0x62 ∷ []) ∷ Commit 1
    ∷ Begin 2 ∷ Dequeue 2 0 nobody ∷ Dequeue 2 1 nobody
    ∷ Abort 2 ∷ Begin 3 ∷ Dequeue 3 0 (by_ann 9) ∷ Commit 3 ∷ []

abbrev pub own_fresh_log : List Record
own_fresh_log = Define 0 no_queue jobs ∷ Register 0 ann ∷ Begin 1
    ∷ Enqueue 1 0 5 nobody (0x61 ∷ []) ∷ Dequeue 1 0 (by_ann 4) ∷ Commit 1 ∷ []

abbrev pub place_not_commit_log : List Record
place_not_commit_log = Define 0 no_queue jobs ∷ Register 0 ann
    ∷ Begin 1 ∷ Begin 2 ∷ Enqueue 1 0 5 (by_ann 10) (0x61 ∷ [])
    ∷ Enqueue 2 0 5 (by_ann 20) (0x62 ∷ []) ∷ Commit 2 ∷ Commit 1 ∷ []

abbrev pub deregister_log : List Record
deregister_log = Define 0 no_queue jobs ∷ Register 0 ann ∷ Begin 1
    ∷ Enqueue 1 0 5 (by_ann 10) (0x61 ∷ []) ∷ Deregister 0 ann ∷ Register 0 ann ∷ Commit 1 ∷ []

-- the records before a checkpoint inside a unit
abbrev pub before_the_checkpoint : List Record
before_the_checkpoint = Define 0 no_queue jobs ∷ Register 0 ann
    ∷ Begin 1 ∷ Enqueue 1 0 5 nobody (0x61 ∷ []) ∷ Commit 1 ∷ Begin 2
    ∷ Dequeue 2 0 (by_ann 10) ∷ Enqueue 2 0 8 nobody (0x62 ∷ []) ∷ []

abbrev pub checkpoint_log : List Record
checkpoint_log = before_the_checkpoint
    ++ Checkpoint (state_bytes (run empty before_the_checkpoint)) ∷ Commit 2 ∷ []

abbrev pub checkpoint_cut_log : List Record
checkpoint_cut_log = take 9 checkpoint_log

abbrev pub error_of_error_log : List Record
error_of_error_log = Define 0 no_queue (codes "bin") ∷ Define 1 0 (codes "dead")
    ∷ Define 1 1 jobs ∷ Begin 1 ∷ Enqueue 1 2 5 nobody (0x61 ∷ []) ∷ Commit 1 ∷ Begin 2
    ∷ Dequeue 2 2 nobody ∷ Abort 2 ∷ Begin 3 ∷ Dequeue 3 1 nobody ∷ Abort 3 ∷ []

abbrev pub kill_log : List Record
kill_log = Define 0 no_queue jobs ∷ Begin 1 ∷ Enqueue 1 0 5 nobody (0x61 ∷ []) ∷ Kill 0 2
    ∷ Commit 1 ∷ Begin 2 ∷ Dequeue 2 0 nobody ∷ Kill 0 2 ∷ Abort 2 ∷ Kill 0 2 ∷ []

pub record WorkedLogs : Type 0 where
  pub empty : Says One []
      ("front 0 records, 40 of 40 bytes, whole" ∷ "units 0 committed, 0 aborted, 0 cut off" ∷ [])
  pub one_element : Says One one_element_log
      ("front 4 records, 237 of 237 bytes, whole" ∷ "units 1 committed, 0 aborted, 0 cut off"
      ∷ "queue 0 jobs limit 0 error -" ∷ "e 2 from 0 priority 5 attempts 0 61" ∷ [])
  pub cut_off : Says One (take 3 one_element_log) ("front 3 records, 192 of 192 bytes, whole"
      ∷ "units 0 committed, 0 aborted, 1 cut off" ∷ "queue 0 jobs limit 0 error -" ∷ [])
  pub best_first : Says One best_first_log ("front 9 records, 505 of 505 bytes, whole"
      ∷ "units 2 committed, 0 aborted, 0 cut off" ∷ "queue 0 jobs limit 0 error -"
      ∷ "e 4 from 0 priority 9 attempts 0 63" ∷ "e 2 from 0 priority 1 attempts 0 61" ∷ [])
  pub returned : Says One (take 8 best_first_log)
      ("front 8 records, 460 of 460 bytes, whole" ∷ "units 1 committed, 0 aborted, 1 cut off"
      ∷ "queue 0 jobs limit 0 error -" ∷ "e 3 from 0 priority 9 attempts 1 62"
      ∷ "e 4 from 0 priority 9 attempts 0 63" ∷ "e 2 from 0 priority 1 attempts 0 61" ∷ [])
  pub second_abort_moves : Says One second_abort_log ("front 11 records, 580 of 580 bytes, whole"
      ∷ "units 1 committed, 2 aborted, 0 cut off" ∷ "queue 0 dead limit 0 error -"
      ∷ "e 3 from 1 priority 5 attempts 0 61" ∷ "queue 1 jobs limit 2 error 0" ∷ [])
  pub arrival_too_late : Says One (take 15 arrival_log)
      ("front 15 records, 775 of 775 bytes, whole" ∷ "units 2 committed, 2 aborted, 0 cut off"
      ∷ "queue 0 dead limit 0 error -" ∷ "e 4 from 1 priority 5 attempts 0 61"
      ∷ "r ann dequeue tag 70 element -" ∷ "queue 1 jobs limit 2 error 0" ∷ [])
  pub arrival_in_time : Says One arrival_log ("front 18 records, 926 of 926 bytes, whole"
      ∷ "units 3 committed, 2 aborted, 0 cut off" ∷ "queue 0 dead limit 0 error -"
      ∷ "r ann dequeue tag 71 element 4" ∷ "queue 1 jobs limit 2 error 0" ∷ [])
  pub return_and_arrival : Says One return_and_arrival_log
      ("front 14 records, 745 of 745 bytes, whole" ∷ "units 2 committed, 1 aborted, 0 cut off"
      ∷ "queue 0 dead limit 0 error -" ∷ "e 4 from 0 priority 3 attempts 1 61"
      ∷ "r ann dequeue tag 9 element 5" ∷ "queue 1 jobs limit 1 error 0" ∷ [])
  pub own_fresh : Says One own_fresh_log ("front 6 records, 342 of 342 bytes, whole"
      ∷ "units 1 committed, 0 aborted, 0 cut off" ∷ "queue 0 jobs limit 0 error -"
      ∷ "e 3 from 0 priority 5 attempts 0 61" ∷ "r ann dequeue tag 4 element -" ∷ [])
  pub place_not_commit_order : Says One place_not_commit_log
      ("front 8 records, 437 of 437 bytes, whole" ∷ "units 2 committed, 0 aborted, 0 cut off"
      ∷ "queue 0 jobs limit 0 error -" ∷ "e 4 from 0 priority 5 attempts 0 61"
      ∷ "e 5 from 0 priority 5 attempts 0 62" ∷ "r ann enqueue tag 20 element 5" ∷ [])
  pub register_again : Says One (place_not_commit_log ++ Register 0 ann ∷ [])
      ("front 9 records, 481 of 481 bytes, whole" ∷ "units 2 committed, 0 aborted, 0 cut off"
      ∷ "queue 0 jobs limit 0 error -" ∷ "e 4 from 0 priority 5 attempts 0 61"
      ∷ "e 5 from 0 priority 5 attempts 0 62" ∷ "r ann enqueue tag 20 element 5" ∷ [])
  pub deregister_forgets : Says One deregister_log
      ("front 7 records, 372 of 372 bytes, whole" ∷ "units 1 committed, 0 aborted, 0 cut off"
      ∷ "queue 0 jobs limit 0 error -" ∷ "e 3 from 0 priority 5 attempts 0 61" ∷ "r ann none" ∷ [])
  pub checkpoint_true : Says One checkpoint_log ("front 10 records, 724 of 724 bytes, whole"
      ∷ "units 2 committed, 0 aborted, 0 cut off" ∷ "queue 0 jobs limit 0 error -"
      ∷ "e 7 from 0 priority 8 attempts 0 62" ∷ "r ann dequeue tag 10 element 3" ∷ [])
  pub checkpoint_cut_off : Says One checkpoint_cut_log
      ("front 9 records, 679 of 679 bytes, whole" ∷ "units 1 committed, 0 aborted, 1 cut off"
      ∷ "queue 0 jobs limit 0 error -" ∷ "e 3 from 0 priority 5 attempts 1 61" ∷ "r ann none" ∷ [])
  pub error_of_error : Says Two error_of_error_log
      ("front 12 records, 626 of 626 bytes, whole" ∷ "units 1 committed, 2 aborted, 0 cut off"
      ∷ "queue 0 bin limit 0 error -" ∷ "e 4 from 2 priority 5 attempts 0 61"
      ∷ "queue 1 dead limit 1 error 0" ∷ "queue 2 jobs limit 1 error 1" ∷ [])
  pub error_of_error_cut : Says Two (take 11 error_of_error_log)
      ("front 11 records, 581 of 581 bytes, whole" ∷ "units 1 committed, 1 aborted, 1 cut off"
      ∷ "queue 0 bin limit 0 error -" ∷ "e 4 from 2 priority 5 attempts 0 61"
      ∷ "queue 1 dead limit 1 error 0" ∷ "queue 2 jobs limit 1 error 1" ∷ [])
  pub kill : Says Two kill_log ("front 10 records, 532 of 532 bytes, whole"
      ∷ "units 1 committed, 1 aborted, 0 cut off" ∷ "queue 0 jobs limit 0 error -" ∷ [])
  pub kill_cut : Says Two (take 9 kill_log)
      ("front 9 records, 483 of 483 bytes, whole" ∷ "units 1 committed, 1 aborted, 0 cut off"
      ∷ "queue 0 jobs limit 0 error -" ∷ "e 2 from 0 priority 5 attempts 1 61" ∷ [])

-- Logs with a record that is not lawful there.

abbrev pub unlawful_log : List Record
unlawful_log = Define 0 no_queue jobs ∷ Commit 7 ∷ Begin 1 ∷ []

abbrev pub nothing_done : String
nothing_done = "units 0 committed, 0 aborted, 0 cut off"

pub record UnlawfulLogs : Type 0 where
  pub commit_of_nobody : Says One unlawful_log
      ("front 1 records, 87 of 177 bytes, law" ∷ nothing_done ∷ "queue 0 jobs limit 0 error -" ∷ [])
  pub unit_zero : Says One (Begin 0 ∷ [])
      ("front 0 records, 40 of 85 bytes, law" ∷ nothing_done ∷ [])
  pub error_queue_undefined : Says One (Define 1 0 (codes "a") ∷ [])
      ("front 0 records, 40 of 84 bytes, law" ∷ nothing_done ∷ [])
  pub error_of_error : Says One error_of_error_log ("front 2 records, 133 of 626 bytes, law"
      ∷ nothing_done ∷ "queue 0 bin limit 0 error -" ∷ "queue 1 dead limit 1 error 0" ∷ [])
  pub kill : Says Two (Kill 0 0 ∷ []) ("front 0 records, 40 of 89 bytes, law" ∷ nothing_done ∷ [])

-- The spellings of three bodies and of two states.

-- the spelling of the state before the checkpoint
abbrev pub inside_a_unit : List ℕ
inside_a_unit =
    (0x00 ∷ 0x00 ∷ 0x00 ∷ 0x00 ∷ 0x00 ∷ 0x00 ∷ 0x00 ∷ 0x08 ∷ 0x00 ∷ 0x00 ∷ 0x00
    ∷ 0x00 ∷ 0x00 ∷ 0x00 ∷ 0x00 ∷ 0x02 ∷ 0x00 ∷ 0x00 ∷ 0x00 ∷ 0x00 ∷ 0x00 ∷ 0x00
    ∷ 0x00 ∷ 0x01 ∷ 0x00 ∷ 0x00 ∷ 0x00 ∷ 0x00 ∷ 0x00 ∷ 0x00 ∷ 0x00 ∷ 0x00 ∷ [])
    ++ (0x00 ∷ 0x00 ∷ 0x00 ∷ 0x01 ∷ 0x00 ∷ 0x00 ∷ 0xff ∷ 0xff
    ∷ 0xff ∷ 0xff ∷ 0x04 ∷ 0x6a ∷ 0x6f ∷ 0x62 ∷ 0x73 ∷ [])
    ++ (0x00 ∷ 0x00 ∷ 0x00 ∷ 0x01 ∷ 0x00 ∷ 0x00 ∷ 0x00 ∷ 0x00 ∷ 0x00 ∷ 0x00 ∷ 0x00 ∷ 0x02 ∷ [])
    ++ (0x00 ∷ 0x00 ∷ 0x00 ∷ 0x01 ∷ 0x00 ∷ 0x00 ∷ 0x00
    ∷ 0x00 ∷ 0x03 ∷ 0x61 ∷ 0x6e ∷ 0x6e ∷ 0x00 ∷ [])
    ++ (0x00 ∷ 0x00 ∷ 0x00 ∷ 0x02 ∷ [])
    ++ (0x00 ∷ 0x00 ∷ 0x00 ∷ 0x00 ∷ 0x00 ∷ 0x00 ∷ 0x00 ∷ 0x03 ∷ 0x00 ∷ 0x00 ∷ 0x00 ∷ 0x00
    ∷ 0x00 ∷ 0x00 ∷ 0x00 ∷ 0x00 ∷ 0x05 ∷ 0x00 ∷ 0x00 ∷ 0x00 ∷ 0x00 ∷ 0x00 ∷ 0x00 ∷ 0x00 ∷ 0x00
    ∷ 0x02 ∷ 0x00 ∷ 0x00 ∷ 0x00 ∷ 0x00 ∷ 0x00 ∷ 0x00 ∷ 0x00 ∷ 0x02 ∷ 0x00 ∷ 0x01 ∷ 0x61 ∷ [])
    ++ (0x00 ∷ 0x00 ∷ 0x00 ∷ 0x00 ∷ 0x00 ∷ 0x00 ∷ 0x00 ∷ 0x07 ∷ 0x00 ∷ 0x00 ∷ 0x00 ∷ 0x00
    ∷ 0x00 ∷ 0x00 ∷ 0x00 ∷ 0x00 ∷ 0x08 ∷ 0x00 ∷ 0x00 ∷ 0x00 ∷ 0x00 ∷ 0x00 ∷ 0x00 ∷ 0x00 ∷ 0x00
    ∷ 0x01 ∷ 0x00 ∷ 0x00 ∷ 0x00 ∷ 0x00 ∷ 0x00 ∷ 0x00 ∷ 0x00 ∷ 0x02 ∷ 0x00 ∷ 0x01 ∷ 0x62 ∷ [])
    ++ (0x00 ∷ 0x00 ∷ 0x00 ∷ 0x01 ∷ 0x00 ∷ 0x00 ∷ 0x00 ∷ 0x00 ∷ 0x00 ∷ 0x00 ∷ 0x00
    ∷ 0x06 ∷ 0x00 ∷ 0x00 ∷ 0x00 ∷ 0x00 ∷ 0x00 ∷ 0x00 ∷ 0x00 ∷ 0x02 ∷ 0x00 ∷ 0x00
    ∷ 0x00 ∷ 0x00 ∷ 0x03 ∷ 0x61 ∷ 0x6e ∷ 0x6e ∷ 0x02 ∷ 0x00 ∷ 0x00 ∷ 0x00 ∷ 0x00 ∷ 0x00
    ∷ 0x00 ∷ 0x00 ∷ 0x0a ∷ 0x00 ∷ 0x00 ∷ 0x00 ∷ 0x00 ∷ 0x00 ∷ 0x00 ∷ 0x00 ∷ 0x03 ∷ [])

pub record WorkedBytes : Type 0 where
  pub define : body_of (Define 0 no_queue jobs)
      ≡ (0x01 ∷ 0x00 ∷ 0x00 ∷ 0xff ∷ 0xff ∷ 0xff ∷ 0xff ∷ 0x6a ∷ 0x6f ∷ 0x62 ∷ 0x73 ∷ [])
  pub enqueue : body_of (Enqueue 1 0 5 nobody (0x61 ∷ []))
      ≡ (0x05 ∷ 0x00 ∷ 0x00 ∷ 0x00 ∷ 0x00 ∷ 0x00 ∷ 0x00 ∷ 0x00 ∷ 0x01 ∷ 0x00 ∷ 0x00 ∷ 0x00
      ∷ 0x00 ∷ 0x05 ∷ 0x00 ∷ 0x00 ∷ 0x00 ∷ 0x00 ∷ 0x00 ∷ 0x00 ∷ 0x00 ∷ 0x00 ∷ 0x00 ∷ 0x61 ∷ [])
  pub dequeue : body_of (Dequeue 2 0 (by_ann 10))
      ≡ (0x06 ∷ 0x00 ∷ 0x00 ∷ 0x00 ∷ 0x00 ∷ 0x00 ∷ 0x00 ∷ 0x00 ∷ 0x02 ∷ 0x00 ∷ 0x00 ∷ 0x00 ∷ 0x00
      ∷ 0x03 ∷ 0x61 ∷ 0x6e ∷ 0x6e ∷ 0x00 ∷ 0x00 ∷ 0x00 ∷ 0x00 ∷ 0x00 ∷ 0x00 ∷ 0x00 ∷ 0x0a ∷ [])
  pub nothing : state_bytes empty ≡ replicate 52 0
  pub inside : state_bytes (run empty before_the_checkpoint) ≡ inside_a_unit
  pub count : length inside_a_unit ≡ 195

-- the log with a checkpoint, restarted from it
pub record WorkedCheckpoint : Type 0 where
  pub a : IsReportAt (log_of One checkpoint_log) 447
      (lines ("front 10 records, 724 of 724 bytes, whole"
      ∷ "units 2 committed, 0 aborted, 0 cut off" ∷ "queue 0 jobs limit 0 error -"
      ∷ "e 7 from 0 priority 8 attempts 0 62" ∷ "r ann dequeue tag 10 element 3" ∷ []))
  pub b : IsReportAt (log_of One checkpoint_cut_log) 447
      (lines ("front 9 records, 679 of 679 bytes, whole" ∷ "units 1 committed, 0 aborted, 1 cut off"
      ∷ "queue 0 jobs limit 0 error -" ∷ "e 3 from 0 priority 5 attempts 1 61" ∷ "r ann none" ∷ []))

-- the 32 bytes before the frame that follows this many records of the log with one element
abbrev pub behind : ℕ → List ℕ
behind count = last_of (start One) (take count one_element_log)

abbrev pub false_log : List Record
false_log = Checkpoint (1 ∷ []) ∷ []

pub record WorkedEnds : Type 0 where
  pub form : IsReport (header One ++ (frame (start One) (0x0a ∷ []) ++ []))
      (lines ("front 0 records, 40 of 77 bytes, form" ∷ nothing_done ∷ []))
  pub cut : IsReport
      (log_of One (take 3 one_element_log) ++ take 44 (frame (behind 3) (body_of (Commit 1))))
      (lines ("front 3 records, 192 of 236 bytes, cut"
      ∷ "units 0 committed, 0 aborted, 1 cut off" ∷ "queue 0 jobs limit 0 error -" ∷ []))
  pub bad_length : (after : List ℕ) → length after ≡ 41
      → IsReport (log_of One (take 3 one_element_log) ++ 0 ∷ 0 ∷ 0 ∷ 0 ∷ after)
      (lines ("front 3 records, 192 of 237 bytes, length"
      ∷ "units 0 committed, 0 aborted, 1 cut off" ∷ "queue 0 jobs limit 0 error -" ∷ []))
  pub chain : (changed : List ℕ) → length changed ≡ 105 → HasFrame changed
      → (digest_in changed ≡ digest (behind 2) (body_in changed) → ⊥)
      → IsReport (log_of One (take 2 one_element_log) ++ changed)
      (lines ("front 2 records, 132 of 237 bytes, chain"
      ∷ "units 0 committed, 0 aborted, 1 cut off" ∷ "queue 0 jobs limit 0 error -" ∷ []))
  pub closed : Says One (take 8 best_first_log ++ Abort 2 ∷ [])
      ("front 9 records, 505 of 505 bytes, whole" ∷ "units 1 committed, 1 aborted, 0 cut off"
      ∷ "queue 0 jobs limit 0 error -" ∷ "e 3 from 0 priority 9 attempts 1 62"
      ∷ "e 4 from 0 priority 9 attempts 0 63" ∷ "e 2 from 0 priority 1 attempts 0 61" ∷ [])
  pub true_at : TrueAt (log_of One checkpoint_log) 447
  pub false_at : TrueAt (log_of One false_log) 40 → ⊥
  pub in_the_header : (b kept : List ℕ) → IsCheckpointAt b 39 kept → ⊥
  pub kind_9 : (b kept : List ℕ) (offset : ℕ) → IsCheckpointAt b offset kept
      → take 1 (body_in (drop offset b)) ≡ 9 ∷ []
  pub tail : IsTail (log_of One (take 8 best_first_log))
      (frame (last_of (start One) (take 8 best_first_log)) (8 ∷ 0 ∷ 0 ∷ 0 ∷ 0 ∷ 0 ∷ 0 ∷ 0 ∷ 2 ∷ [])
      ++ [])
  pub upgraded : IsUpgraded (log_of One one_element_log) (log_of Two one_element_log)
