-- The worked logs and the worked ends of logs, by computation.
use Rattle.std.proofs.Common.{◌≡◌, ℕ, ◌+◌, ◌≤◌, ◌^◌, true, List, [], ◌∷◌, ◌++◌, length, refl, sym, ap, subst, ◌∙◌}
use Rattle.std.proofs.Common.{arith, inr, take, append_assoc}
use Rattle.std.specs.Prelude.{drop, codes, nat_le, nat_lt, Bool, false, ◌&&◌, Option, Some, None}
use Rattle.std.specs.List.{AllByRecursion, list_all}
use Rattle.std.proofs.lemmas.Bool.{and_parts, leb-true, ltb-true}
use Rattle.std.proofs.lemmas.List.{length-append, append-nil, take_all, length-take}
use Rattle.std.specs.Fmt.{digits}
use Rattle.sha2.specs.Sha256.{sha256}
use Rattle.rq_model.specs.Records.{By, Record, Define, Register, Deregister, Begin, Enqueue, Dequeue, Commit, Abort}
use Rattle.rq_model.specs.Records.{Checkpoint, Kill, Version, One, Two}
use Rattle.rq_model.specs.Spelling.{is_name, IsWho, body_of, IsRecord}
use Rattle.rq_model.specs.Frames.{digest, frame, log_limit, magic, header, frames_of, last_of, log_of, Whole}
use Rattle.rq_model.specs.Frames.{IsBodyLength, stated, Rest, Cut, Length, Digest, IsRest}
use Rattle.rq_model.specs.States.{State, empty}
use Rattle.rq_model.specs.Machine.{is_lawful, all_lawful, run, final, aborts}
use Rattle.rq_model.specs.WellFormed.{IsWellFormed}
use Rattle.rq_model.specs.StateSpelling.{state_bytes}
use Rattle.rq_model.specs.Fronts.{Ends, Law, IsFront, IsWhy, Why, restarted, Form}
use Rattle.rq_model.specs.Reports.{IsReport}
use Rattle.rq_model.specs.Checkpoints.{TrueAt}
use Rattle.rq_model.specs.WorkedLogs.{text_made, ann, jobs, unlawful_log, UnlawfulLogs, one_element_log, best_first_log}
use Rattle.rq_model.specs.WorkedLogs.{second_abort_log, arrival_log, return_and_arrival_log, own_fresh_log}
use Rattle.rq_model.specs.WorkedLogs.{place_not_commit_log, deregister_log, before_the_checkpoint, checkpoint_log}
use Rattle.rq_model.specs.WorkedLogs.{checkpoint_cut_log, error_of_error_log, kill_log, WorkedLogs, WorkedBytes}
use Rattle.rq_model.specs.WorkedLogs.{WorkedCheckpoint, WorkedEnds, behind, false_log}
use Rattle.rq_model.proofs.Kept.{runs_are_well_formed, empty_is_well_formed}
use Rattle.rq_model.proofs.RecordReaders.{body_fits}
use Rattle.rq_model.proofs.Runs.{frame_long, frame_reads, right_at, length-sha256}
use Rattle.rq_model.proofs.Longest.{front_stops, frames_of_join, one_front}
use Rattle.rq_model.proofs.Restarts.{each_cut, header_long}
use Rattle.rq_model.proofs.FromCheckpoints.{true_is_same}
use Rattle.rq_model.proofs.Tails.{crash_is_harmless}
use Rattle.rq_model.proofs.Texts.{is_text}

pub worked_bytes : WorkedBytes
worked_bytes = grind arith

-- the state that a restart ends in is well formed
pub final_kept : (version : Version) (s : State) → IsWellFormed s → IsWellFormed (final s)
final_kept version s h =
    let all = take_all (length (aborts s)) (aborts s) (omega arith) in
    runs_are_well_formed version s (aborts s) h
    (subst (λ (rs : List Record). all_lawful version s rs ≡ true) all
    (crash_is_harmless version s (length (aborts s)) h).0)

-- if the front and its end are known, so is the report
pub front_says : (b : List ℕ) (version : Version) (rs : List Record) (rest : List ℕ) (why : Why)
    → IsFront b version rs rest → IsWhy version (run empty rs) (last_of (sha256 (magic version)) rs) rest why
    → IsReport b (text_made (restarted (run empty rs) (length rest) (length b) why))
front_says b version rs rest why front ends =
    let r = restarted (run empty rs) (length rest) (length b) why in
    let keeps = runs_are_well_formed version empty rs empty_is_well_formed front.longest.begins.lawful in (
      r,
      grind arith,
      is_text r (final_kept version (run empty rs) keeps),
    )

-- the bytes of a log are the header's and each frame's
unfoldable pub size : List Record → ℕ
size [] = 0
size (r ∷ rs) = 36 + length (body_of r) + size rs

frames_size : (p : List ℕ) (rs : List Record) → length (frames_of p rs) ≡ size rs
unfolding size
frames_size p [] = refl
frames_size p (r ∷ rs) =
    omega (
      arith,
      length-append (frame p (body_of r)) (frames_of (digest p (body_of r)) rs),
      frame_long p (body_of r),
      frames_size (digest p (body_of r)) rs,
    )

pub log_size : (version : Version) (rs : List Record) → length (log_of version rs) ≡ 40 + size rs
log_size version rs =
    omega (
      arith,
      length-append (header version) (frames_of (sha256 (magic version)) rs),
      header_long version,
      frames_size (sha256 (magic version)) rs,
    )

pub whole_front : (version : Version) (rs : List Record) → AllByRecursion (IsRecord version) rs
    → all_lawful version empty rs ≡ true → 40 + size rs ≤ log_limit → IsFront (log_of version rs) version rs []
whole_front version rs are lawful short =
    let bytes = frames_of (sha256 (magic version)) rs in
    record {
      short = omega (arith, log_size version rs, short);
      bytes = bytes;
      whole = refl;
      longest = front_stops version empty (sha256 (magic version)) bytes [] rs (Ends Whole)
          (record { records = are; lawful = lawful; whole = sym (append-nil bytes) }) refl;
    }

-- a test for records
unfoldable pub is_who : Option By → Bool
is_who None = true
is_who (Some by) = is_name by.name && nat_lt by.tag (2 ^ 64)

unfoldable pub is_record : Version → Record → Bool
is_record version (Define limit error name) = nat_lt limit (2 ^ 16) && (nat_lt error (2 ^ 32) && is_name name)
is_record version (Register queue name) = nat_lt queue (2 ^ 32) && is_name name
is_record version (Deregister queue name) = nat_lt queue (2 ^ 32) && is_name name
is_record version (Begin unit) = nat_lt unit (2 ^ 64)
is_record version (Enqueue unit queue priority by payload) =
    nat_lt unit (2 ^ 64)
    && (nat_lt queue (2 ^ 32) && (nat_lt priority (2 ^ 8) && (is_who by && nat_le (length payload) 65535)))
is_record version (Dequeue unit queue by) = nat_lt unit (2 ^ 64) && (nat_lt queue (2 ^ 32) && is_who by)
is_record version (Commit unit) = nat_lt unit (2 ^ 64)
is_record version (Abort unit) = nat_lt unit (2 ^ 64)
is_record version (Checkpoint bytes) = nat_le (length bytes) 268435455
is_record One (Kill queue element) = false
is_record Two (Kill queue element) = nat_lt queue (2 ^ 32) && nat_lt element (2 ^ 64)

who_passes : (by : Option By) → is_who by ≡ true → IsWho by
unfolding is_who
who_passes None h = tt
who_passes (Some by) h = let both = and_parts (is_name by.name) (nat_lt by.tag (2 ^ 64)) h in
    (both.0, ltb-true by.tag (2 ^ 64) both.1)

pub passes : (version : Version) (r : Record) → is_record version r ≡ true → IsRecord version r
unfolding is_record
passes version (Define limit error name) h =
    let a = and_parts (nat_lt limit (2 ^ 16)) (nat_lt error (2 ^ 32) && is_name name) h in
    let b = and_parts (nat_lt error (2 ^ 32)) (is_name name) a.1 in
    (ltb-true limit (2 ^ 16) a.0, ltb-true error (2 ^ 32) b.0, b.1)
passes version (Register queue name) h = let a = and_parts (nat_lt queue (2 ^ 32)) (is_name name) h in
    (ltb-true queue (2 ^ 32) a.0, a.1)
passes version (Deregister queue name) h = let a = and_parts (nat_lt queue (2 ^ 32)) (is_name name) h in
    (ltb-true queue (2 ^ 32) a.0, a.1)
passes version (Begin unit) h = ltb-true unit (2 ^ 64) h
passes version (Enqueue unit queue priority by payload) h =
    let a = and_parts (nat_lt unit (2 ^ 64))
    (nat_lt queue (2 ^ 32) && (nat_lt priority (2 ^ 8) && (is_who by && nat_le (length payload) 65535))) h in
    let b = and_parts (nat_lt queue (2 ^ 32)) (nat_lt priority (2 ^ 8) && (is_who by && nat_le (length payload) 65535))
    a.1 in
    let c = and_parts (nat_lt priority (2 ^ 8)) (is_who by && nat_le (length payload) 65535) b.1 in
    let d = and_parts (is_who by) (nat_le (length payload) 65535) c.1 in (
      ltb-true unit (2 ^ 64) a.0,
      ltb-true queue (2 ^ 32) b.0,
      ltb-true priority (2 ^ 8) c.0,
      who_passes by d.0,
      leb-true (length payload) 65535 d.1,
    )
passes version (Dequeue unit queue by) h =
    let a = and_parts (nat_lt unit (2 ^ 64)) (nat_lt queue (2 ^ 32) && is_who by) h in
    let b = and_parts (nat_lt queue (2 ^ 32)) (is_who by) a.1 in
    (ltb-true unit (2 ^ 64) a.0, ltb-true queue (2 ^ 32) b.0, who_passes by b.1)
passes version (Commit unit) h = ltb-true unit (2 ^ 64) h
passes version (Abort unit) h = ltb-true unit (2 ^ 64) h
passes version (Checkpoint bytes) h = leb-true (length bytes) 268435455 h
passes One (Kill queue element) h = absurd cc
passes Two (Kill queue element) h = let a = and_parts (nat_lt queue (2 ^ 32)) (nat_lt element (2 ^ 64)) h in
    (ltb-true queue (2 ^ 32) a.0, ltb-true element (2 ^ 64) a.1)

pub all_pass : (version : Version) (rs : List Record) → list_all (is_record version) rs ≡ true
    → AllByRecursion (IsRecord version) rs
all_pass version [] h = tt
all_pass version (r ∷ rs) h = let both = and_parts _ _ h in
    (passes version r both.0, all_pass version rs both.1)

pub log_says : (version : Version) (rs : List Record) (text : List ℕ) → list_all (is_record version) rs ≡ true
    → all_lawful version empty rs ≡ true → nat_le (40 + size rs) log_limit ≡ true
    → text_made (restarted (run empty rs) 0 (40 + size rs) (Ends Whole)) ≡ text → IsReport (log_of version rs) text
log_says version rs text are lawful short made =
    let made_of = ap (λ (n : ℕ). text_made (restarted (run empty rs) 0 n (Ends Whole))) (log_size version rs) ∙ made in
    subst (IsReport (log_of version rs)) made_of
    (front_says (log_of version rs) version rs [] (Ends Whole)
    (whole_front version rs (all_pass version rs are) lawful (leb-true (40 + size rs) log_limit short)) refl)

pub worked_logs : WorkedLogs
unfolding size is_who is_record digits
worked_logs = record {
  empty = log_says One [] _ refl refl refl refl;
  one_element = log_says One one_element_log _ refl refl refl refl;
  cut_off = log_says One (take 3 one_element_log) _ refl refl refl refl;
  best_first = log_says One best_first_log _ refl refl refl refl;
  returned = log_says One (take 8 best_first_log) _ refl refl refl refl;
  second_abort_moves = log_says One second_abort_log _ refl refl refl refl;
  arrival_too_late = log_says One (take 15 arrival_log) _ refl refl refl refl;
  arrival_in_time = log_says One arrival_log _ refl refl refl refl;
  return_and_arrival = log_says One return_and_arrival_log _ refl refl refl refl;
  own_fresh = log_says One own_fresh_log _ refl refl refl refl;
  place_not_commit_order = log_says One place_not_commit_log _ refl refl refl refl;
  register_again = log_says One (place_not_commit_log ++ Register 0 ann ∷ []) _ refl refl refl refl;
  deregister_forgets = log_says One deregister_log _ refl refl refl refl;
  checkpoint_true = log_says One checkpoint_log _ refl refl refl refl;
  checkpoint_cut_off = log_says One checkpoint_cut_log _ refl refl refl refl;
  error_of_error = log_says Two error_of_error_log _ refl refl refl refl;
  error_of_error_cut = log_says Two (take 11 error_of_error_log) _ refl refl refl refl;
  kill = log_says Two kill_log _ refl refl refl refl;
  kill_cut = log_says Two (take 9 kill_log) _ refl refl refl refl;
}

-- if a record is not lawful, the front ends before it
unlawful_says : (version : Version) (rs : List Record) (r : Record) (after : List Record) (text : List ℕ)
    → list_all (is_record version) (rs ++ r ∷ []) ≡ true → all_lawful version empty rs ≡ true
    → is_lawful version (run empty rs) r ≡ false
    → nat_le (40 + size (rs ++ r ∷ after)) log_limit ≡ true
    → text_made (restarted (run empty rs) (size (r ∷ after)) (40 + size (rs ++ r ∷ after)) Law) ≡ text
    → IsReport (log_of version (rs ++ r ∷ after)) text
unlawful_says version rs r after text are lawful not_lawful short made =
    let start = sha256 (magic version) in
    let p = last_of start rs in
    let b = log_of version (rs ++ r ∷ after) in
    let bytes = frames_of start (rs ++ r ∷ after) in
    let rest = frames_of p (r ∷ after) in
    let all = each_cut (IsRecord version) rs (r ∷ []) (all_pass version (rs ++ r ∷ []) are) in
    let more = frames_of (digest p (body_of r)) after in
    let fit = body_fits version r all.1.0 in
    let body_is = (frame_reads p (body_of r) more fit).body_is in
    let ends : IsWhy version (run empty rs) p rest Law =
    (right_at p (body_of r) more fit, r, (all.1.0, body_is), not_lawful) in
    let front : IsFront b version rs rest = record {
      short = omega (arith, log_size version (rs ++ r ∷ after), leb-true _ _ short);
      bytes = bytes;
      whole = refl;
      longest = front_stops version empty start bytes rest rs Law
          (record { records = all.0; lawful = lawful; whole = frames_of_join start rs (r ∷ after) }) ends;
    } in
    let made_of = (λ i. text_made (restarted (run empty rs) (frames_size p (r ∷ after) i)
    (log_size version (rs ++ r ∷ after) i) Law)) ∙ made in
    subst (IsReport b) made_of (front_says b version rs rest Law front ends)

pub unlawful_logs : UnlawfulLogs
unfolding size is_who is_record digits
unlawful_logs = record {
  commit_of_nobody = unlawful_says One (take 1 unlawful_log) (Commit 7) (Begin 1 ∷ []) _ refl refl refl refl refl;
  unit_zero = unlawful_says One [] (Begin 0) [] _ refl refl refl refl refl;
  error_queue_undefined = unlawful_says One [] (Define 1 0 (codes "a")) [] _ refl refl refl refl refl;
  error_of_error = unlawful_says One (take 2 error_of_error_log) (Define 1 1 jobs)
      (drop 3 error_of_error_log) _ refl refl refl refl refl;
  kill = unlawful_says Two [] (Kill 0 0) [] _ refl refl refl refl refl;
}

-- the checkpoint inside a unit is true
pub true_log : (after : List Record)
    → list_all (is_record One)
    (before_the_checkpoint ++ Checkpoint (state_bytes (run empty before_the_checkpoint)) ∷ after) ≡ true
    → all_lawful One empty (before_the_checkpoint ++ Checkpoint (state_bytes (run empty before_the_checkpoint)) ∷ after)
    ≡ true
    → nat_le (40 + size (before_the_checkpoint ++ Checkpoint (state_bytes (run empty before_the_checkpoint)) ∷ after))
    log_limit ≡ true
    → TrueAt (log_of One (before_the_checkpoint ++ Checkpoint (state_bytes (run empty before_the_checkpoint))
    ∷ after)) 447
unfolding size
true_log after are lawful short =
    let rs = before_the_checkpoint ++ Checkpoint (state_bytes (run empty before_the_checkpoint)) ∷ after in (
      before_the_checkpoint,
      state_bytes (run empty before_the_checkpoint),
      record {
        version = One;
        after = after;
        rest = [];
        front =
            whole_front One rs (all_pass One rs are) lawful (leb-true (40 + size rs) log_limit short);
        there =
            sym (log_size One before_the_checkpoint);
      },
      refl,
    )

pub worked_checkpoint : WorkedCheckpoint
unfolding size is_who is_record digits
worked_checkpoint = record {
  a = let (r, restart, text) = worked_logs.checkpoint_true in
      (r, true_is_same (log_of One checkpoint_log) 447 r (true_log (Commit 2 ∷ []) refl refl refl) restart, text);
  b = let (r, restart, text) = worked_logs.checkpoint_cut_off in
      (r, true_is_same (log_of One checkpoint_cut_log) 447 r (true_log [] refl refl refl) restart, text);
}

pub front_has_report : (b : List ℕ) (version : Version) (rs : List Record) (rest : List ℕ) (why : Why)
    → IsFront b version rs rest → IsWhy version (run empty rs) (last_of (sha256 (magic version)) rs) rest why
    → (text : List ℕ) × IsReport b text
front_has_report b version rs rest why front ends = (text_made _, front_says b version rs rest why front ends)

-- a log whose records are followed by something that is no right frame
ends_says : (version : Version) (rs : List Record) (rest : List ℕ) (n : ℕ) (why : Rest) (text : List ℕ)
    → list_all (is_record version) rs ≡ true → all_lawful version empty rs ≡ true → length rest ≡ n
    → IsRest (last_of (sha256 (magic version)) rs) rest why → nat_le (40 + size rs + n) log_limit ≡ true
    → text_made (restarted (run empty rs) n (40 + size rs + n) (Ends why)) ≡ text
    → IsReport (log_of version rs ++ rest) text
ends_says version rs rest n why text are lawful long ends short made =
    let start = sha256 (magic version) in
    let b = log_of version rs ++ rest in
    let total : length b ≡ 40 + size rs + n =
    omega (arith, length-append (log_of version rs) rest, log_size version rs, long) in
    let bytes = frames_of start rs ++ rest in
    let front : IsFront b version rs rest = record {
      short = omega (arith, total, leb-true (40 + size rs + n) log_limit short);
      bytes = bytes;
      whole = append_assoc (header version) (frames_of start rs) rest;
      longest = front_stops version empty start bytes rest rs (Ends why)
          (record { records = all_pass version rs are; lawful = lawful; whole = refl }) ends;
    } in
    let made_of = (λ i. text_made (restarted (run empty rs) (long i) (total i) (Ends why))) ∙ made in
    subst (IsReport b) made_of (front_says b version rs rest (Ends why) front ends)

form_says : (text : List ℕ) → text_made (restarted empty 37 77 Form) ≡ text
    → IsReport (header One ++ (frame (sha256 (magic One)) (10 ∷ []) ++ [])) text
form_says text made =
    let start = sha256 (magic One) in
    let rest = frame start (10 ∷ []) ++ [] in
    let b = header One ++ rest in
    let reads = frame_reads start (10 ∷ []) [] (omega arith, omega arith) in
    let long = reads.long in
    let total : length b ≡ 77 = omega (arith, length-append (header One) rest, length-sha256 (magic One)) in
    let ends : IsWhy One empty start rest Form = grind arith in
    let front : IsFront b One [] rest = record {
      short = omega (arith, total);
      bytes = rest;
      whole = refl;
      longest = front_stops One empty start rest rest [] Form
          (record { records = tt; lawful = refl; whole = refl }) ends;
    } in
    subst (IsReport b) ((λ i. text_made (restarted empty (long i) (total i) Form)) ∙ made)
    (front_says b One [] rest Form front ends)

-- the one checkpoint of a log of one record spells nothing
not_true : TrueAt (log_of One false_log) 40 → ⊥
unfolding size is_who is_record
not_true (records, kept, h, spelled) =
    let known = whole_front One false_log (all_pass One false_log refl) refl
    (leb-true (40 + size false_log) log_limit refl) in
    let same = one_front (log_of One false_log) h.version One
    (records ++ Checkpoint kept ∷ h.after) false_log h.rest [] h.front known in
    at records same.1 spelled
  where
    at : (rs : List Record) → rs ++ Checkpoint kept ∷ h.after ≡ false_log → kept ≡ state_bytes (run empty rs) → ⊥
    at [] e is = let bytes : kept ≡ 1 ∷ [] = cc in let lengths : 1 ≡ 52 = ap length (sym bytes ∙ is) in
        omega (arith, lengths)
    at (r ∷ rs) e is = omega (arith, ap length e, length-append rs (Checkpoint kept ∷ h.after))

-- the frame of the last COMMIT without its last byte
cut_long : length (take 44 (frame (behind 3) (body_of (Commit 1)))) ≡ 44
cut_long = omega (
  arith,
  length-take 44 (frame (behind 3) (body_of (Commit 1))),
  frame_long (behind 3) (body_of (Commit 1)),
)

cut_stated : stated (take 44 (frame (behind 3) (body_of (Commit 1)))) ≡ 9
cut_stated = refl

zero_length : (after : List ℕ) → IsBodyLength (stated (0 ∷ 0 ∷ 0 ∷ 0 ∷ after)) → ⊥
zero_length after range = let none : stated (0 ∷ 0 ∷ 0 ∷ 0 ∷ after) ≡ 0 = refl in omega (arith, none, range.0)

pub ended : WorkedEnds
unfolding size is_who is_record digits
ended = record {
  form = form_says _ refl;
  cut = ends_says One (take 3 one_element_log) (take 44 (frame (behind 3) (body_of (Commit 1)))) 44 Cut _ refl refl
      cut_long (
        omega (arith, cut_long),
        inr ((omega (arith, cut_stated), omega (arith, cut_stated)), omega (arith, cut_stated, cut_long)),
      ) refl refl;
  bad_length = λ after long. ends_says One (take 3 one_element_log) (0 ∷ 0 ∷ 0 ∷ 0 ∷ after) 45 Length _ refl refl
      (omega (arith, long)) (omega (arith, long), zero_length after) refl refl;
  chain = λ changed long framed differs. ends_says One (take 2 one_element_log) changed 105 Digest _ refl refl long
      (framed, differs) refl refl;
  closed = log_says One (take 8 best_first_log ++ Abort 2 ∷ []) _ refl refl refl refl;
  true_at = true_log (Commit 2 ∷ []) refl refl refl;
  false_at = not_true;
  in_the_header = λ b kept h. omega (arith, h.past_header);
  kind_9 = λ b kept offset h. ap (take 1) h.body;
  tail = record {
    version = One;
    records = take 8 best_first_log;
    rest = [];
    front =
        whole_front One (take 8 best_first_log) (all_pass One (take 8 best_first_log) refl) refl
        (leb-true (40 + size (take 8 best_first_log)) log_limit refl);
    bytes = refl;
  };
  upgraded = record {
    version = One;
    records = one_element_log;
    rest = [];
    front =
        whole_front One one_element_log (all_pass One one_element_log refl) refl
        (leb-true (40 + size one_element_log) log_limit refl);
    bytes = refl;
  };
}
