-- Worked logs, each with what became of one request or of one client, on both sides of each edge.
use Rattle.std.specs.Prelude.{◌≡◌, ℕ, true, false, List, [], ◌∷◌, ◌++◌, Some, None, codes, take}
use Rattle.rq_model.specs.Records.{Record, Define, Register, Deregister, Begin, Enqueue, Dequeue}
use Rattle.rq_model.specs.Records.{Commit, Abort, Kill, One, Two, no_queue}
use Rattle.rq_model.specs.States.{Free, Enqueued, Dequeued, Registrant, empty}
use Rattle.rq_model.specs.Machine.{all_lawful, run, final}
use Rattle.rq_model.specs.Fates.{with_aborts, requests, takes, done, kills, shown, tries, tries_at}
use Rattle.rq_model.specs.Fates.{leavings, remains, hears}
use Rattle.rq_model.specs.ClientLines.{client_lines, registrant_lines, how_far_line}
use Rattle.rq_model.specs.WorkedLogs.{jobs, ann, nobody, by_ann}
use Rattle.rq_model.specs.WorkedMachine.{element, last, note, registrant}

-- how often p is shown, was done and was killed, and how often it was requested
abbrev pub fate : ℕ → List Record → List ℕ
fate p rs = shown p (final (run empty rs)) ∷ done p (with_aborts rs) ∷ kills p (with_aborts rs)
    ∷ requests p (with_aborts rs) ∷ []

-- how often p was tried in a queue, and how often it left that queue
abbrev pub tried_at : ℕ → ℕ → List Record → List ℕ
tried_at p home rs = tries_at p home (with_aborts rs) ∷ leavings p home (with_aborts rs) ∷ []

-- Request 3, into queue 1 with the limit 2; queue 0 is its error queue and has no limit.

abbrev pub request_open : List Record
request_open = Define 0 no_queue (codes "dead") ∷ Define 2 0 jobs
    ∷ Begin 1 ∷ Enqueue 1 1 5 nobody (0x61 ∷ []) ∷ []

abbrev pub requested : List Record
requested = request_open ++ Commit 1 ∷ []

abbrev pub request_held : List Record
request_held = requested ++ Begin 2 ∷ Dequeue 2 1 nobody ∷ []

-- tried once, and taken once more
abbrev pub request_held_again : List Record
request_held_again = request_held ++ Abort 2 ∷ Begin 3 ∷ Dequeue 3 1 nobody ∷ []

pub record WorkedRequests : Type 0 where
  pub shown : fate 3 requested ≡ 1 ∷ 0 ∷ 0 ∷ 1 ∷ []
  pub done : fate 3 (request_held ++ Commit 2 ∷ []) ≡ 0 ∷ 1 ∷ 0 ∷ 1 ∷ []
  pub returned : fate 3 (request_held ++ Abort 2 ∷ []) ≡ 1 ∷ 0 ∷ 0 ∷ 1 ∷ []
  pub cut_off : fate 3 request_held ≡ 1 ∷ 0 ∷ 0 ∷ 1 ∷ []
  pub killed : fate 3 (requested ++ Kill 1 3 ∷ []) ≡ 0 ∷ 0 ∷ 1 ∷ 1 ∷ []
  pub killed_elsewhere : fate 3 (requested ++ Kill 0 3 ∷ []) ≡ 1 ∷ 0 ∷ 0 ∷ 1 ∷ []
  pub killed_while_held : fate 3 (request_held ++ Kill 1 3 ∷ []) ≡ 1 ∷ 0 ∷ 0 ∷ 1 ∷ []
  pub killed_and_done : fate 3 (request_held ++ Kill 1 3 ∷ Commit 2 ∷ []) ≡ 0 ∷ 1 ∷ 0 ∷ 1 ∷ []
  pub killed_when_back : fate 3 (request_held ++ Abort 2 ∷ Kill 1 3 ∷ []) ≡ 0 ∷ 0 ∷ 1 ∷ 1 ∷ []
  pub killed_while_fresh : fate 3 (request_open ++ Kill 1 3 ∷ Commit 1 ∷ []) ≡ 1 ∷ 0 ∷ 0 ∷ 1 ∷ []
  pub aborted : fate 3 (request_open ++ Abort 1 ∷ []) ≡ 0 ∷ 0 ∷ 0 ∷ 0 ∷ []
  pub still_open : fate 3 request_open ≡ 0 ∷ 0 ∷ 0 ∷ 0 ∷ []
  pub no_request : fate 2 requested ≡ 0 ∷ 0 ∷ 0 ∷ 0 ∷ []
  pub twice_done : fate 3 (request_held_again ++ Commit 3 ∷ []) ≡ 0 ∷ 1 ∷ 0 ∷ 1 ∷ []

-- Request 4, into queue 2; the limits of queues 2 and 1 are 1 and 2, each the error queue of the
-- next one.

abbrev pub moved_once : List Record
moved_once = Define 0 no_queue (codes "bin") ∷ Define 2 0 (codes "dead") ∷ Define 1 1 jobs
    ∷ Begin 1 ∷ Enqueue 1 2 5 nobody (0x61 ∷ []) ∷ Commit 1
    ∷ Begin 2 ∷ Dequeue 2 2 nobody ∷ Abort 2 ∷ []

abbrev pub moved_twice : List Record
moved_twice = moved_once ++ Begin 3 ∷ Dequeue 3 1 nobody ∷ Abort 3
    ∷ Begin 4 ∷ Dequeue 4 1 nobody ∷ Abort 4 ∷ []

abbrev pub moved_and_done : List Record
moved_and_done = moved_twice ++ Begin 5 ∷ Dequeue 5 0 nobody ∷ Commit 5 ∷ []

pub record WorkedTries : Type 0 where
  pub below_the_limit : tried_at 3 1 request_held ≡ 1 ∷ 0 ∷ []
  pub stays : (final (run empty request_held)).elements ≡ element 3 1 1 5 1 (0x61 ∷ []) Free ∷ []
  pub at_the_limit : tried_at 3 1 request_held_again ≡ 2 ∷ 1 ∷ []
  pub leaves : (final (run empty request_held_again)).elements
      ≡ element 3 0 1 5 0 (0x61 ∷ []) Free ∷ []
  pub not_yet_aborted : tries_at 3 1 request_held_again ≡ 1
  pub lawful : all_lawful Two empty moved_and_done ≡ true
  pub lawful_one : all_lawful One empty moved_and_done ≡ false
  pub first_home : tried_at 4 2 moved_and_done ≡ 1 ∷ 1 ∷ []
  pub second_home : tried_at 4 1 moved_and_done ≡ 2 ∷ 1 ∷ []
  pub third_home : tried_at 4 0 moved_and_done ≡ 0 ∷ 0 ∷ []
  pub tried : tries 4 moved_and_done ≡ 3
  pub taken : takes 4 moved_and_done ≡ 4
  pub moved_then_done : fate 4 moved_and_done ≡ 0 ∷ 1 ∷ 0 ∷ 1 ∷ []
  pub moved_and_held : (final (run empty (take 17 moved_and_done))).elements
      ≡ element 4 0 2 5 1 (0x61 ∷ []) Free ∷ []
  pub attempts_begin_anew : (run empty (take 12 moved_twice)).elements
      ≡ element 4 1 2 5 1 (0x61 ∷ []) Free ∷ []

-- Ann's operation 3 in queue 0.

abbrev pub named : List Record
named = Define 0 no_queue jobs ∷ Register 0 ann
    ∷ Begin 1 ∷ Enqueue 1 0 5 (by_ann 7) (0x61 ∷ []) ∷ []

abbrev pub told_once : List Record
told_once = named ++ Commit 1 ∷ []

-- and then 6, by which she takes 3
abbrev pub takes_it : List Record
takes_it = told_once ++ Begin 2 ∷ Dequeue 2 0 (by_ann 8) ∷ []

abbrev pub clients : List Record → List Registrant
clients rs = (run empty rs).registrants

pub record WorkedClients : Type 0 where
  pub heard : clients told_once
      ≡ registrant 0 ann (Some (last 3 Enqueued 7 (Some 3))) ∷ []
  pub its_operation : hears 0 ann empty told_once ≡ note 1 0 ann (last 3 Enqueued 7 (Some 3)) ∷ []
  pub other_queue : hears 1 ann empty told_once ≡ []
  pub not_yet : hears 0 ann empty named ≡ []
  pub aborted : clients (named ++ Abort 1 ∷ []) ≡ registrant 0 ann None ∷ []
  pub aborted_unheard : hears 0 ann empty (named ++ Abort 1 ∷ []) ≡ []
  pub deregistered_between : clients (named ++ Deregister 0 ann ∷ Register 0 ann ∷ Commit 1 ∷ [])
      ≡ registrant 0 ann None ∷ []
  pub deregistered_unheard : hears 0 ann empty (named ++ Deregister 0 ann ∷ Commit 1 ∷ []) ≡ []
  pub deregistered : remains 0 ann (named ++ Deregister 0 ann ∷ Commit 1 ∷ []) ≡ false
  pub registered_again : clients (told_once ++ Register 0 ann ∷ [])
      ≡ registrant 0 ann (Some (last 3 Enqueued 7 (Some 3))) ∷ []
  pub registered_anew : clients (told_once ++ Deregister 0 ann ∷ Register 0 ann ∷ [])
      ≡ registrant 0 ann None ∷ []
  pub anew : remains 0 ann (told_once ++ Deregister 0 ann ∷ Register 0 ann ∷ []) ≡ true
  pub heard_twice : clients (takes_it ++ Commit 2 ∷ [])
      ≡ registrant 0 ann (Some (last 6 Dequeued 8 (Some 3))) ∷ []
  pub hears_both : hears 0 ann empty (takes_it ++ Commit 2 ∷ [])
      ≡ note 1 0 ann (last 3 Enqueued 7 (Some 3)) ∷ note 2 0 ann (last 6 Dequeued 8 (Some 3)) ∷ []
  pub second_aborted : clients (takes_it ++ Abort 2 ∷ [])
      ≡ registrant 0 ann (Some (last 3 Enqueued 7 (Some 3))) ∷ []
  pub cut_off : (final (run empty takes_it)).registrants
      ≡ registrant 0 ann (Some (last 3 Enqueued 7 (Some 3))) ∷ []
  pub found_none : clients (takes_it ++ Dequeue 2 0 (by_ann 9) ∷ Commit 2 ∷ [])
      ≡ registrant 0 ann (Some (last 7 Dequeued 9 None)) ∷ []

-- The lines of clients in a report.

abbrev pub two_queues : List ℕ
two_queues =
    codes "front 9 records, 462 of 462 bytes, whole\nunits 1 committed, 0 aborted, 0 cut off\n"
    ++ (codes "queue 0 jobs limit 0 error -\ne 3 from 0 priority 5 attempts 0 -\n"
    ++ (codes "r ann enqueue tag 7 element 3\nr anna none\n"
    ++ codes "queue 1 late limit 2 error 0\nr ann none\n"))

pub record WorkedClientLines : Type 0 where
  pub its_line : client_lines 0 ann two_queues ≡ codes "r ann enqueue tag 7 element 3\n" ∷ []
  pub other_queue : client_lines 1 ann two_queues ≡ codes "r ann none\n" ∷ []
  pub longer_name : client_lines 0 (codes "anna") two_queues ≡ codes "r anna none\n" ∷ []
  pub not_there : client_lines 1 (codes "anna") two_queues ≡ []
  pub all : registrant_lines 0 two_queues
      ≡ codes "r ann enqueue tag 7 element 3\n" ∷ codes "r anna none\n" ∷ []
  pub no_queue : registrant_lines 2 two_queues ≡ []
  pub longer_number : registrant_lines 1 (codes "queue 10 late limit 0 error -\nr ann none\n") ≡ []
  pub far : how_far_line 0 ann (takes_it ++ Commit 2 ∷ []) ≡ codes "r ann dequeue tag 8 element 3\n"
  pub far_from_none : how_far_line 0 ann named ≡ codes "r ann none\n"
