-- A restart, a close or a report of the last of several files accounts for the records of all.
use Rattle.std.proofs.Common.{◌≡◌, ℕ, ◌+◌, ◌-◌, ◌<◌, ◌≤◌, ◌^◌, List, [], ◌∷◌, ◌++◌, length, take, drop, refl, sym, ap}
use Rattle.std.proofs.Common.{subst, ◌∙◌, arith}
use Rattle.std.proofs.lemmas.List.{append-nil, append_cancel_right, drop-append-le, length-append}
use Rattle.std.proofs.lemmas.List.{length-drop, take-append-le}
use Rattle.rq_model.specs.Records.{Record, Checkpoint, Version}
use Rattle.rq_model.specs.Frames.{before, body_in, frame, frames_of, HasHeader, last_of, log_limit}
use Rattle.rq_model.specs.Frames.{start, Whole}
use Rattle.rq_model.specs.Spelling.{body_of}
use Rattle.rq_model.specs.States.{State, empty}
use Rattle.rq_model.specs.Machine.{run, aborts, final}
use Rattle.rq_model.specs.StateSpelling.{SpellsCarried, carried_next, state_bytes}
use Rattle.rq_model.specs.Fronts.{Begins, Ends, Restarted, restarted}
use Rattle.rq_model.specs.Checkpoints.{IsRestartUpTo}
use Rattle.rq_model.specs.Appending.{MayFollow}
use Rattle.rq_model.specs.Carrying.{IsFrontUpTo}
use Rattle.rq_model.specs.Fates.{requests, done, kills, with_aborts}
use Rattle.rq_model.specs.FateLaws.{Accounts, element_lines}
use Rattle.rq_model.specs.AllFiles.{File, records_in, CarriesOn, records_of_all, AreCarriedOn, AreFiles, FilesAccount}
use Rattle.rq_model.specs.AllFiles.{BegunFileCarriesOn, ClosedFilesAccount, FilesAreOneRun, FilesReportAccounts}
use Rattle.rq_model.specs.ClientLines.{FilesTellClients, TellsClients}
use Rattle.rq_model.proofs.Kept.{runs_are_well_formed, empty_is_well_formed}
use Rattle.rq_model.proofs.RecordReaders.{body_fits}
use Rattle.rq_model.proofs.Runs.{frame_reads, frames_assoc}
use Rattle.rq_model.proofs.Longest.{front_stops, last_of_join}
use Rattle.rq_model.proofs.Restarts.{follows, frames_many, next_run, run_join}
use Rattle.rq_model.proofs.FromCheckpoints.{IsLinked, front_at, ends_at, one_restart_at}
use Rattle.rq_model.proofs.Appended.{front_follows}
use Rattle.rq_model.proofs.Carried.{crash_while_carried_grows, files_join, within}
use Rattle.rq_model.proofs.Tails.{aborts_follow, crash_is_harmless}
use Rattle.rq_model.proofs.Accounts.{accounts, text_accounts, text_tells}

-- the checkpoint that a file begins with is read again, whatever follows it
pub begun_file_carries_on : BegunFileCarriesOn
begun_file_carries_on version records file s more spelt small link bytes front =
    let p = last_of (start version) records in
    let t = run empty records in
    let first = Checkpoint (state_bytes t) in
    let behind : drop file.offset file.bytes ≡ frame p (body_of first) ++ more =
    bytes ∙ frames_assoc p (body_of first) [] more in
    let body = (frame_reads p (body_of first) more (body_fits version first small)).body_is in
    let is : file.kept ≡ state_bytes t = ap (drop 1) (sym front.checkpoint.body ∙ ap body_in behind ∙ body) in
    record { state = s; front = front; link = link; spells = subst (SpellsCarried version t) (sym is) spelt }

-- the records of the files before, and those of the file, are records of one log
record Joined (version : Version) (records : List Record) (file : File) (s : State) : Type 0 where
  together : MayFollow version empty (records ++ records_in file)
  state : run s (records_in file) ≡ run empty (records ++ records_in file)

joined : (version : Version) (records : List Record) (file : File) → MayFollow version empty records
    → (h : CarriesOn version records file) → Joined version records file h.state
joined version records file old h =
    let (front, same) = files_join carried_next carried_next file.bytes file.offset version h.state file.kept records file.after file.rest old
    h.front h.link h.spells in
    record {
      together = follows version empty (start version) _ file.rest (records ++ records_in file) front.begins;
      state = same;
    }

all_follow : (version : Version) (records : List Record) (files : List File) → MayFollow version empty records
    → AreCarriedOn version records files → MayFollow version empty (records_of_all records files)
all_follow version records [] old h = old
all_follow version records (file ∷ files) old h =
    all_follow version (records ++ records_in file) files (joined version records file old h.0).together h.1

earlier : (version : Version) (log : List ℕ) (files : List File) (newest : File) (records : List Record)
    → (h : AreFiles version log files newest records) → MayFollow version empty (records_of_all h.first files)
earlier version log files newest records h =
    all_follow version h.first files (front_follows log version h.first h.rest h.front) h.between

-- the records of all files are records of one log
pub all_together : (version : Version) (log : List ℕ) (files : List File) (newest : File) (records : List Record)
    → AreFiles version log files newest records → MayFollow version empty records
all_together version log files newest records h =
    let past = records_of_all h.first files in
    let both = joined version past newest (earlier version log files newest records h) h.carries in
    subst (MayFollow version empty) (sym h.all) both.together

-- the state of a restart of the file
state_there : (most : ℕ) (version : Version) (records : List Record) (file : File) (r : Restarted)
    → MayFollow version empty records → CarriesOn version records file → IsRestartUpTo most file.bytes file.offset r
    → r.state ≡ final (run empty (records ++ records_in file))
state_there most version records file r old h at =
    let ended = ends_at carried_next most file.bytes file.offset version h.state file.kept file.after file.rest r h.front at in
    ap (λ (z : Restarted). z.state) ended.answer ∙ ap final (joined version records file old h).state

pub files_are_one_run : FilesAreOneRun
files_are_one_run most version log files newest records r h at =
    let past = records_of_all h.first files in
    let both = joined version past newest (earlier version log files newest records h) h.carries in
    let ended = ends_at carried_next most newest.bytes newest.offset version h.carries.state newest.kept newest.after
    newest.rest r h.carries.front at in (
      subst (MayFollow version empty) (sym h.all) both.together,
      length newest.rest,
      length newest.bytes,
      ended.why,
      ended.answer ∙ ap (λ (z : State). restarted z (length newest.rest) (length newest.bytes) ended.why)
          (both.state ∙ ap (run empty) (sym h.all)),
    )

pub files_account : FilesAccount
files_account most version log files newest records r h at =
    let old = earlier version log files newest records h in
    let past = records_of_all h.first files in
    let all = past ++ records_in newest in
    let both = joined version past newest old h.carries in
    let found : Accounts (with_aborts all) r.state =
    subst (Accounts (with_aborts all)) (sym (state_there most version past newest r old h.carries at))
    (accounts version all both.together.lawful) in
    subst (λ (z : List Record). Accounts (with_aborts z) r.state) (sym h.all) found

-- the bytes up to the end of a front have it too
cut_front : (most : ℕ) (b used : List ℕ) (offset : ℕ) (version : Version) (s : State) (kept : List ℕ)
    (after : List Record) (rest : List ℕ) → IsFrontUpTo most b offset version s kept after rest → b ≡ used ++ rest
    → IsFrontUpTo most used offset version s kept after [] × (before offset used ≡ before offset b)
cut_front most b used offset version s kept after rest h whole =
    let p = before offset b in
    let xs : List Record = Checkpoint kept ∷ after in
    let fs = frames_of p xs in
    let past = h.checkpoint.past_header in
    let high = within most b offset version s kept after rest h in
    let size : length b ≡ length used + length rest = ap length whole ∙ length-append used rest in
    let behind : length (drop offset b) ≡ length fs + length rest =
    ap length h.front.begins.whole ∙ length-append fs rest in
    let room : offset ≤ length used = omega (arith, size, behind, length-drop offset b, high) in
    let ahead : before offset used ≡ p =
    sym (ap (before offset) whole
    ∙ ap (take 32) (drop-append-le (offset - 32) used rest (omega (arith, room)))
    ∙ take-append-le 32 (drop (offset - 32) used) rest (omega (arith, past, room, length-drop (offset - 32) used))) in
    let frames : drop offset used ≡ fs =
    append_cancel_right (drop offset used) fs rest
    (sym (drop-append-le offset used rest room) ∙ ap (drop offset) (sym whole) ∙ h.front.begins.whole) in
    let head : HasHeader version used =
    sym (take-append-le 40 used rest (omega (arith, past, room))) ∙ ap (take 40) (sym whole) ∙ h.header in
    let old : Begins version s p fs xs [] =
    record { records = h.front.begins.records; lawful = h.front.begins.lawful; whole = sym (append-nil fs) } in
    let at : IsLinked used offset p fs = record { ahead = ahead; behind = frames } in (
      front_at most used offset version s kept after p fs [] (omega (arith, size, h.short)) head past
          at h.spells (front_stops version s p fs [] xs (Ends Whole) old refl),
      ahead,
    )

-- the state of a restart of the file with a beginning of the aborts behind its front
closed_state : (most : ℕ) (version : Version) (records : List Record) (file : File) (used part missing : List ℕ)
    (r : Restarted) → MayFollow version empty records → CarriesOn version records file → file.bytes ≡ used ++ file.rest
    → frames_of (last_of (start version) (records ++ records_in file)) (aborts (run empty (records ++ records_in file)))
    ≡ part ++ missing → length (used ++ part) ≤ log_limit → IsRestartUpTo most (used ++ part) file.offset r
    → r.state ≡ final (run empty (records ++ records_in file))
closed_state most version records file used part missing r old h whole parts short at =
    let all = records ++ records_in file in
    let xs = records_in file in
    let both = joined version records file old h in
    let t = run h.state xs in
    let (front, ahead) = cut_front carried_next file.bytes used file.offset version h.state file.kept file.after file.rest h.front whole in
    let ends : last_of (before file.offset used) xs ≡ last_of (start version) all =
    ap (λ (p : List ℕ). last_of p xs) (ahead ∙ h.link) ∙ sym (last_of_join (start version) records xs) in
    let may : MayFollow version t (aborts t) =
    subst (λ (z : State). MayFollow version z (aborts z)) (sym both.state) (aborts_follow version all both.together) in
    let tail : frames_of (last_of (before file.offset used) xs) (aborts t) ≡ part ++ missing =
    (λ i. frames_of (ends i) (aborts (both.state i))) ∙ parts in
    let left = crash_while_carried_grows carried_next used file.offset version h.state file.kept file.after (aborts t) part missing
    front may tail short in
    let few = take left.count (aborts t) in
    let same = one_restart_at most carried_next (used ++ part) file.offset r _ at left.restart in
    let keeps = runs_are_well_formed version empty all empty_is_well_formed both.together.lawful in
    let harmless = (crash_is_harmless version (run empty all) left.count keeps).1 in
    ap (λ (z : Restarted). z.state) same ∙ ap final (run_join h.state xs few)
    ∙ (λ i. final (run (both.state i) (take left.count (aborts (both.state i))))) ∙ harmless

pub closed_files_account : ClosedFilesAccount
closed_files_account most version log files newest records used part missing r h whole parts short at =
    let old = earlier version log files newest records h in
    let past = records_of_all h.first files in
    let all = past ++ records_in newest in
    let both = joined version past newest old h.carries in
    let tail : frames_of (last_of (start version) all) (aborts (run empty all)) ≡ part ++ missing =
    subst (λ (z : List Record). frames_of (last_of (start version) z) (aborts (run empty z)) ≡ part ++ missing) h.all
    parts in
    let found : Accounts (with_aborts all) r.state =
    subst (Accounts (with_aborts all))
    (sym (closed_state most version past newest used part missing r old h.carries whole tail short at))
    (accounts version all both.together.lawful) in
    subst (λ (z : List Record). Accounts (with_aborts z) r.state) (sym h.all) found

-- there are no more records than 64 bits count
few_in_all : (version : Version) (records : List Record) (file : File) → CarriesOn version records file
    → length (records ++ records_in file) < 2 ^ 64
few_in_all version records file h =
    let p = before file.offset file.bytes in
    let fs = frames_of p (records_in file) in
    omega (
      arith,
      length-append records (records_in file),
      h.spells.next,
      next_run empty records,
      frames_many p (records_in file),
      ap length h.front.front.begins.whole,
      length-append fs file.rest,
      length-drop file.offset file.bytes,
      h.front.short,
    )

pub files_report_accounts : FilesReportAccounts
files_report_accounts most version log files newest records text p low h (r, at, told) =
    let old = earlier version log files newest records h in
    let past = records_of_all h.first files in
    let all = past ++ records_in newest in
    let both = joined version past newest old h.carries in
    subst (λ (z : List Record). element_lines p text + (done p (with_aborts z) + kills p (with_aborts z))
    ≡ requests p (with_aborts z)) (sym h.all)
    (text_accounts version all r text p low both.together (few_in_all version past newest h.carries)
    (state_there most version past newest r old h.carries at) told)

pub files_tell_clients : FilesTellClients
files_tell_clients most version log files newest records text h (r, at, told) =
    let old = earlier version log files newest records h in
    let past = records_of_all h.first files in
    let both = joined version past newest old h.carries in
    subst (λ (z : List Record). TellsClients (with_aborts z) text) (sym h.all)
    (text_tells version (past ++ records_in newest) r text both.together (state_there most version past newest r old h.carries at)
    told)
