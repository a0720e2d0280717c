-- One state in the middle of things: what is lawful there, what each record does there, and what
-- belongs to each queue.
use Rattle.std.specs.Prelude.{◌≡◌, ℕ, true, false, List, [], ◌∷◌, ◌++◌, map, Option, Some, None}
use Rattle.std.specs.Prelude.{replicate, codes, take}
use Rattle.std.specs.List.{list_all, list_any}
use Rattle.rq_model.specs.Records.{By, Record, Define, Register, Deregister, Begin, Enqueue}
use Rattle.rq_model.specs.Records.{Dequeue, Commit, Abort, Checkpoint, Kill, One, Two}
use Rattle.rq_model.specs.States.{Mark, Free, Fresh, Held, Kind, Enqueued, Dequeued, Element, Last}
use Rattle.rq_model.specs.States.{Note, Definition, Registrant, State, empty, definition_at, put}
use Rattle.rq_model.specs.States.{id_before, name_before, registrant_before}
use Rattle.rq_model.specs.Machine.{is_lawful, best, later, lawful_front, aborts, final, step}
use Rattle.rq_model.specs.Machine.{Committed, Aborted, Open, outcome}
use Rattle.rq_model.specs.Queues.{Op, Move, part_of, defined_by, with_definitions, touches}
use Rattle.rq_model.specs.Queues.{touching, transfers, moves, arrivals}
use Rattle.rq_model.specs.Redo.{act, sent, before, from, redone, all_sent}
use Rattle.rq_model.specs.Fronts.{Form, restarted}
use Rattle.rq_model.specs.Laws.{move_before, earlier}
use Rattle.rq_model.specs.WorkedLogs.{jobs, ann, nobody, by_ann, arrival_log, one_element_log, unlawful_log}

abbrev pub bob : List ℕ
bob = codes "bob"

abbrev pub by_bob : Option By
by_bob = Some (record { name = bob; tag = 1 })

abbrev pub more : List ℕ
more = codes "more"

abbrev pub element : ℕ → ℕ → ℕ → ℕ → ℕ → List ℕ → Mark → Element
element id home origin priority attempts payload mark = record {
  id = id;
  home = home;
  origin = origin;
  priority = priority;
  attempts = attempts;
  payload = payload;
  mark = mark;
}

abbrev pub last : ℕ → Kind → ℕ → Option ℕ → Last
last place kind tag id = record { place = place; kind = kind; tag = tag; element = id }

abbrev pub note : ℕ → ℕ → List ℕ → Last → Note
note unit queue name l = record { unit = unit; queue = queue; name = name; last = l }

abbrev pub registrant : ℕ → List ℕ → Option Last → Registrant
registrant queue name l = record { queue = queue; name = name; last = l }

abbrev pub definition : ℕ → ℕ → List ℕ → Definition
definition limit error name = record { limit = limit; error = error; name = name }

abbrev pub dead_queue : Definition
dead_queue = definition 0 4294967295 (codes "dead")

abbrev pub jobs_queue : Definition
jobs_queue = definition 2 0 jobs

-- units 7 and 9 are open; queue 0 has no limit, queue 1 the limit 2
abbrev pub busy : State
busy = record {
  next = 20;
  greatest = 9;
  committed = 3;
  aborted = 2;
  definitions = dead_queue ∷ jobs_queue ∷ [];
  units = 7 ∷ 9 ∷ [];
  registrants = registrant 0 ann None
      ∷ registrant 1 ann (Some (last 4 Enqueued 5 (Some 4))) ∷ registrant 1 bob None ∷ [];
  elements = element 3 1 1 5 1 (0x61 ∷ []) Free ∷ element 4 1 1 9 0 [] (Held 7)
      ∷ element 6 0 1 5 0 (0x62 ∷ []) Free ∷ element 8 1 0 2 1 (0x63 ∷ []) (Held 7)
      ∷ element 11 1 1 9 0 (0x64 ∷ []) (Fresh 7) ∷ element 12 1 1 9 0 (0x65 ∷ []) (Fresh 9)
      ∷ element 13 1 1 7 0 (0x66 ∷ []) Free ∷ element 14 1 1 7 0 (0x67 ∷ []) Free ∷ [];
  notes = note 7 1 ann (last 10 Dequeued 6 (Some 4)) ∷ note 9 1 ann (last 12 Enqueued 7 (Some 12))
      ∷ note 7 0 ann (last 15 Dequeued 8 None) ∷ [];
}

-- What is lawful: each case of the table, at its edges.
pub record WorkedLaw : Type 0 where
  pub lawful : list_all (is_lawful One busy)
      (Define 0 4294967295 more ∷ Define 1 0 more ∷ Define 1000 0 more
      ∷ Register 0 bob ∷ Register 1 ann ∷ Deregister 1 bob ∷ Begin 10 ∷ Begin 11
      ∷ Enqueue 7 1 0 nobody [] ∷ Enqueue 9 0 0 (by_ann 0) [] ∷ Dequeue 7 0 nobody
      ∷ Dequeue 9 1 by_bob ∷ Commit 7 ∷ Commit 9 ∷ Abort 7 ∷ Abort 9 ∷ Checkpoint [] ∷ []) ≡ true
  pub unlawful : list_any (is_lawful One busy)
      (Define 0 0 more ∷ Define 1 4294967295 more ∷ Define 1001 0 more
      ∷ Define 1 2 more ∷ Define 1 1 more ∷ Define 0 4294967295 jobs
      ∷ Register 2 ann ∷ Deregister 0 bob ∷ Deregister 2 ann ∷ Begin 9 ∷ Begin 8
      ∷ Enqueue 8 1 0 nobody [] ∷ Enqueue 7 2 0 nobody [] ∷ Enqueue 7 0 0 by_bob []
      ∷ Dequeue 8 1 nobody ∷ Dequeue 7 2 nobody ∷ Dequeue 7 0 by_bob
      ∷ Commit 8 ∷ Abort 8 ∷ Kill 0 3 ∷ Kill 1 3 ∷ []) ≡ false
  pub lawful_two : list_all (is_lawful Two busy)
      (Define 1 1 more ∷ Define 1000 0 more ∷ Kill 0 3 ∷ Kill 1 99 ∷ []) ≡ true
  pub unlawful_two : list_any (is_lawful Two busy)
      (Define 0 0 more ∷ Define 1001 1 more ∷ Define 1 2 more ∷ Kill 2 3 ∷ []) ≡ false
  pub queue_4096 : is_lawful One (record busy { definitions = replicate 4095 dead_queue })
      (Define 0 4294967295 jobs) ≡ true
  pub queue_4097 : is_lawful One (record busy { definitions = replicate 4096 dead_queue })
      (Define 0 4294967295 jobs) ≡ false
  pub front : lawful_front One empty unlawful_log ≡ Define 0 4294967295 jobs ∷ []

-- What each record does.
pub record WorkedSteps : Type 0 where
  pub define : step busy (Define 3 0 more)
      ≡ record busy { next = 21; definitions = dead_queue ∷ jobs_queue ∷ definition 3 0 more ∷ [] }
  pub register : step busy (Register 0 bob)
      ≡ record busy {
        next = 21;
        registrants = registrant 0 ann None ∷ registrant 0 bob None
            ∷ registrant 1 ann (Some (last 4 Enqueued 5 (Some 4))) ∷ registrant 1 bob None ∷ [];
      }
  pub register_again : step busy (Register 1 ann) ≡ record busy { next = 21 }
  pub deregister : step busy (Deregister 1 ann)
      ≡ record busy {
        next = 21;
        registrants = registrant 0 ann None ∷ registrant 1 bob None ∷ [];
        notes = note 7 0 ann (last 15 Dequeued 8 None) ∷ [];
      }
  pub begin : step busy (Begin 11)
      ≡ record busy { next = 21; greatest = 11; units = 7 ∷ 9 ∷ 11 ∷ [] }
  pub enqueue : step busy (Enqueue 7 1 4 nobody (0x68 ∷ []))
      ≡ record busy {
        next = 21;
        elements = busy.elements ++ element 20 1 1 4 0 (0x68 ∷ []) (Fresh 7) ∷ [];
      }
  pub enqueue_by : step busy (Enqueue 9 0 4 (by_ann 30) [])
      ≡ record busy {
        next = 21;
        elements = busy.elements ++ element 20 0 0 4 0 [] (Fresh 9) ∷ [];
        notes = busy.notes ++ note 9 0 ann (last 20 Enqueued 30 (Some 20)) ∷ [];
      }
  pub dequeue : step busy (Dequeue 9 1 nobody) ≡ record busy {
    next = 21;
    elements = element 3 1 1 5 1 (0x61 ∷ []) Free ∷ element 4 1 1 9 0 [] (Held 7)
        ∷ element 6 0 1 5 0 (0x62 ∷ []) Free ∷ element 8 1 0 2 1 (0x63 ∷ []) (Held 7)
        ∷ element 11 1 1 9 0 (0x64 ∷ []) (Fresh 7) ∷ element 12 1 1 9 0 (0x65 ∷ []) (Fresh 9)
        ∷ element 13 1 1 7 0 (0x66 ∷ []) (Held 9) ∷ element 14 1 1 7 0 (0x67 ∷ []) Free ∷ [];
  }
  pub dequeue_by : (step busy (Dequeue 9 1 (by_ann 30))).notes
      ≡ busy.notes ++ note 9 1 ann (last 20 Dequeued 30 (Some 13)) ∷ []
  pub dequeue_none : step (record busy { elements = [] }) (Dequeue 9 1 (by_ann 30))
      ≡ record busy {
        next = 21;
        elements = [];
        notes = busy.notes ++ note 9 1 ann (last 20 Dequeued 30 None) ∷ [];
      }
  pub commit : step busy (Commit 7) ≡ record busy {
    next = 21;
    committed = 4;
    units = 9 ∷ [];
    registrants = registrant 0 ann (Some (last 15 Dequeued 8 None))
        ∷ registrant 1 ann (Some (last 10 Dequeued 6 (Some 4))) ∷ registrant 1 bob None ∷ [];
    elements = element 3 1 1 5 1 (0x61 ∷ []) Free ∷ element 6 0 1 5 0 (0x62 ∷ []) Free
        ∷ element 11 1 1 9 0 (0x64 ∷ []) Free ∷ element 12 1 1 9 0 (0x65 ∷ []) (Fresh 9)
        ∷ element 13 1 1 7 0 (0x66 ∷ []) Free ∷ element 14 1 1 7 0 (0x67 ∷ []) Free ∷ [];
    notes = note 9 1 ann (last 12 Enqueued 7 (Some 12)) ∷ [];
  }
  pub abort : step busy (Abort 7) ≡ record busy {
    next = 21;
    aborted = 3;
    units = 9 ∷ [];
    elements = element 3 1 1 5 1 (0x61 ∷ []) Free ∷ element 4 1 1 9 1 [] Free
        ∷ element 6 0 1 5 0 (0x62 ∷ []) Free ∷ element 8 0 0 2 0 (0x63 ∷ []) Free
        ∷ element 12 1 1 9 0 (0x65 ∷ []) (Fresh 9) ∷ element 13 1 1 7 0 (0x66 ∷ []) Free
        ∷ element 14 1 1 7 0 (0x67 ∷ []) Free ∷ [];
    notes = note 9 1 ann (last 12 Enqueued 7 (Some 12)) ∷ [];
  }
  pub no_limit : (step (record busy { elements = element 4 0 0 9 0 [] (Held 7) ∷ [] })
      (Abort 7)).elements
      ≡ element 4 0 0 9 1 [] Free ∷ []
  pub checkpoint : step busy (Checkpoint (9 ∷ [])) ≡ record busy { next = 21 }
  pub kill : step busy (Kill 1 13) ≡ record busy {
    next = 21;
    elements = element 3 1 1 5 1 (0x61 ∷ []) Free ∷ element 4 1 1 9 0 [] (Held 7)
        ∷ element 6 0 1 5 0 (0x62 ∷ []) Free ∷ element 8 1 0 2 1 (0x63 ∷ []) (Held 7)
        ∷ element 11 1 1 9 0 (0x64 ∷ []) (Fresh 7) ∷ element 12 1 1 9 0 (0x65 ∷ []) (Fresh 9)
        ∷ element 14 1 1 7 0 (0x67 ∷ []) Free ∷ [];
  }
  pub kill_held : step busy (Kill 1 4) ≡ record busy { next = 21 }
  pub kill_elsewhere : step busy (Kill 0 13) ≡ record busy { next = 21 }
  pub later_new : later (Some (last 8 Enqueued 1 (Some 8))) (last 9 Dequeued 2 None)
      ≡ Some (last 9 Dequeued 2 None)
  pub later_old : later (Some (last 9 Dequeued 2 None)) (last 8 Enqueued 1 (Some 8))
      ≡ Some (last 9 Dequeued 2 None)
  pub later_same : later (Some (last 8 Enqueued 1 (Some 8))) (last 8 Dequeued 2 None)
      ≡ Some (last 8 Enqueued 1 (Some 8))
  pub undone : aborts busy ≡ Abort 7 ∷ Abort 9 ∷ []
  pub ended : final busy ≡ step (step busy (Abort 7)) (Abort 9)
  pub answer : restarted busy 5 100 Form
      ≡ record {
        state = final busy;
        records = 20;
        used = 95;
        total = 100;
        why = Form;
        committed = 3;
        aborted = 2;
        cut_off = 2;
      }

-- Orders.
-- an element that left at a place
abbrev pub moved : ℕ → ℕ → Move
moved place id = record { place = place; element = element id 0 1 5 0 [] Free }

-- places that differ both ways; one place and ids that differ both ways; the same twice
abbrev pub pairs_of_moves : List (Move × Move)
pairs_of_moves = (moved 13 9, moved 14 4) ∷ (moved 14 4, moved 13 9)
    ∷ (moved 14 4, moved 14 9) ∷ (moved 14 9, moved 14 4) ∷ (moved 14 4, moved 14 4) ∷ []

pub record WorkedOrders : Type 0 where
  pub names : map (λ (p : List ℕ × List ℕ). name_before p.0 p.1)
      ((codes "a", codes "ab") ∷ (codes "ab", codes "a") ∷ (codes "a", codes "a")
      ∷ (codes "a", codes "b") ∷ (codes "b", codes "ab") ∷ [])
      ≡ true ∷ false ∷ false ∷ true ∷ false ∷ []
  pub registrants : map (λ (p : Registrant × Registrant). registrant_before p.0 p.1)
      ((registrant 0 bob None, registrant 1 ann None)
      ∷ (registrant 1 ann None, registrant 0 bob None)
      ∷ (registrant 1 ann None, registrant 1 bob None)
      ∷ (registrant 1 bob None, registrant 1 ann None)
      ∷ (registrant 1 ann None, registrant 1 ann None) ∷ [])
      ≡ true ∷ false ∷ true ∷ false ∷ false ∷ []
  pub moves : map (λ (p : Move × Move). earlier p.0 p.1) pairs_of_moves
      ≡ true ∷ false ∷ true ∷ false ∷ false ∷ []
  pub merged : map (λ (p : Move × Move). move_before p.0 p.1) pairs_of_moves
      ≡ true ∷ false ∷ true ∷ false ∷ true ∷ []
  pub best_of_1 : best 1 busy.elements ≡ Some (element 13 1 1 7 0 (0x66 ∷ []) Free)
  pub best_of_0 : best 0 busy.elements ≡ Some (element 6 0 1 5 0 (0x62 ∷ []) Free)
  pub best_of_2 : best 2 busy.elements ≡ None
  pub put_between : map (λ (e : Element). e.id)
      (put id_before (element 7 0 0 0 0 [] Free) busy.elements)
      ≡ 3 ∷ 4 ∷ 6 ∷ 7 ∷ 8 ∷ 11 ∷ 12 ∷ 13 ∷ 14 ∷ []
  pub no_definition : definition_at busy.definitions 2 ≡ definition 0 4294967295 []
  pub second_definition : definition_at busy.definitions 1 ≡ jobs_queue

-- By queue.
pub record WorkedQueues : Type 0 where
  pub part : part_of busy 0
      ≡ record {
        queue = 0;
        definition = dead_queue;
        elements = element 6 0 1 5 0 (0x62 ∷ []) Free ∷ [];
        registrants = registrant 0 ann None ∷ [];
        notes = note 7 0 ann (last 15 Dequeued 8 None) ∷ [];
      }
  pub defined : defined_by arrival_log ≡ dead_queue ∷ jobs_queue ∷ []
  pub with_defined : with_definitions busy (Begin 10 ∷ Define 3 0 more ∷ [])
      ≡ record busy { definitions = dead_queue ∷ jobs_queue ∷ definition 3 0 more ∷ [] }
  pub outcomes : map (outcome empty arrival_log) (0 ∷ 1 ∷ 2 ∷ 3 ∷ 4 ∷ 5 ∷ 6 ∷ [])
      ≡ None ∷ Some (Committed 5) ∷ Some (Aborted 8) ∷ Some (Aborted 14)
      ∷ Some (Committed 13) ∷ Some (Committed 17) ∷ None ∷ []
  pub still_open : outcome empty (take 3 one_element_log) 1 ≡ Some Open
  pub outcomes_here : map (outcome busy (Abort 9 ∷ Begin 10 ∷ Commit 10 ∷ [])) (7 ∷ 8 ∷ 9 ∷ 10 ∷ [])
      ≡ Some Open ∷ None ∷ Some (Aborted 20) ∷ Some (Committed 22) ∷ []
  pub touching_0 : map (λ (op : Op). op.place) (touching empty arrival_log 0)
      ≡ 2 ∷ 12 ∷ 13 ∷ 16 ∷ 17 ∷ []
  pub touching_1 : map (λ (op : Op). op.place) (touching empty arrival_log 1)
      ≡ 4 ∷ 5 ∷ 7 ∷ 8 ∷ 10 ∷ 14 ∷ []
  pub touching_here : touching busy
      (Abort 9 ∷ Kill 0 6 ∷ Begin 10 ∷ Checkpoint [] ∷ Dequeue 10 0 nobody
      ∷ Deregister 0 ann ∷ Abort 10 ∷ Define 0 4294967295 more ∷ Commit 7 ∷ []) 0
      ≡ record { place = 21; does = Kill 0 6 } ∷ record { place = 24; does = Dequeue 10 0 nobody }
      ∷ record { place = 25; does = Deregister 0 ann }
      ∷ record { place = 26; does = Abort 10 } ∷ record { place = 28; does = Commit 7 } ∷ []
  pub by_note_alone : map (touches (record busy { elements = [] }) [] 1)
      (Commit 7 ∷ Commit 9 ∷ Abort 7 ∷ Commit 8 ∷ []) ≡ true ∷ true ∷ true ∷ false ∷ []
  pub by_mark_alone : map (touches (record busy { notes = [] }) [] 1)
      (Commit 7 ∷ Commit 9 ∷ Abort 9 ∷ Commit 8 ∷ []) ≡ true ∷ true ∷ true ∷ false ∷ []
  pub by_operation : map (touches empty (Enqueue 1 2 0 nobody []
      ∷ Dequeue 3 2 nobody ∷ Enqueue 4 1 0 nobody [] ∷ Register 2 ann ∷ []) 2)
      (Commit 1 ∷ Abort 3 ∷ Commit 4 ∷ Abort 1 ∷ Commit 2 ∷ [])
      ≡ true ∷ true ∷ false ∷ true ∷ false ∷ []
  pub moves_of_1 : moves empty arrival_log 1
      ≡ record { place = 14; element = element 4 0 1 5 0 (0x61 ∷ []) Free } ∷ []
  pub moves_of_0 : moves empty arrival_log 0 ≡ []
  pub arrivals_of_0 : arrivals empty arrival_log 0
      ≡ record { place = 14; element = element 4 0 1 5 0 (0x61 ∷ []) Free } ∷ []
  pub arrivals_of_1 : arrivals empty arrival_log 1 ≡ []
  pub transfers_here : transfers busy (Begin 10 ∷ Abort 7 ∷ [])
      ≡ record {
        from = 1;
        move = record { place = 21; element = element 8 0 0 2 0 (0x63 ∷ []) Free };
      } ∷ []

-- If nothing arrives, an operation makes of a part what it makes of the state.
abbrev pub Acts : Record → Type 0
Acts r = act 20 r (part_of busy 1) ≡ part_of (step busy r) 1

pub record WorkedRedo : Type 0 where
  pub define : act 20 (Define 3 0 more) (part_of busy 1) ≡ part_of busy 1
  pub begin : act 20 (Begin 10) (part_of busy 1) ≡ part_of busy 1
  pub checkpoint : act 20 (Checkpoint []) (part_of busy 1) ≡ part_of busy 1
  pub register : Acts (Register 1 more)
  pub deregister : Acts (Deregister 1 ann)
  pub enqueue : Acts (Enqueue 7 1 4 (by_ann 30) (0x68 ∷ []))
  pub dequeue : Acts (Dequeue 9 1 (by_ann 30))
  pub commit : Acts (Commit 7)
  pub abort : Acts (Abort 7)
  pub kill : Acts (Kill 1 13)
  pub moved_away : sent 20 (Abort 7) (part_of busy 1)
      ≡ record { place = 20; element = element 8 0 0 2 0 (0x63 ∷ []) Free } ∷ []
  pub stayed : sent 20 (Commit 7) (part_of busy 1) ≡ []
  pub arrived : redone (part_of (with_definitions empty arrival_log) 0)
      (touching empty arrival_log 0) (arrivals empty arrival_log 0)
      ≡ record {
        queue = 0;
        definition = dead_queue;
        elements = [];
        registrants = registrant 0 ann (Some (last 16 Dequeued 71 (Some 4))) ∷ [];
        notes = [];
      }
  pub left : all_sent (part_of (with_definitions empty arrival_log) 1)
      (touching empty arrival_log 1) []
      ≡ record { place = 14; element = element 4 0 1 5 0 (0x61 ∷ []) Free } ∷ []
  pub places_before : map (λ (m : Move). m.place) (before 5
      (map (λ n. record { place = n; element = element n 0 0 0 0 [] Free }) (4 ∷ 5 ∷ 6 ∷ [])))
      ≡ 4 ∷ []
  pub places_from : map (λ (m : Move). m.place) (from 5
      (map (λ n. record { place = n; element = element n 0 0 0 0 [] Free }) (4 ∷ 5 ∷ 6 ∷ [])))
      ≡ 5 ∷ 6 ∷ []
