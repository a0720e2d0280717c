-- At a checkpoint: the front of a true one, a log that grows after one, and one that is carried on in another file.
use Rattle.std.proofs.Common.{ℕ, ◌-◌, ◌≤◌, List, [], ◌∷◌, ◌++◌, length, take, drop, ap, ◌∙◌, arith, ◌≡◌, ◌+◌, refl, sym}
use Rattle.std.proofs.Common.{subst, append_assoc, inl, inr}
use Rattle.std.proofs.lemmas.List.{append-nil, length-drop, take-append-le, drop-append-le, length-append, take_at}
use Rattle.std.proofs.lemmas.List.{length-take, append_cancel_left}
use Rattle.std.proofs.lemmas.Bool.{cases_lt}
use Rattle.rq_model.specs.Records.{Record, Checkpoint, Version}
use Rattle.rq_model.specs.Spelling.{body_of}
use Rattle.rq_model.specs.Frames.{frames_of, before, HasHeader, log_limit, header, start, last_of, Whole, frame, body_in}
use Rattle.rq_model.specs.States.{State, empty}
use Rattle.rq_model.specs.Machine.{run}
use Rattle.rq_model.specs.StateSpelling.{log_next, state_bytes, SpellsUpTo}
use Rattle.rq_model.specs.Fronts.{Ends, Begins, Restarted, restarted, IsLongest}
use Rattle.rq_model.specs.Checkpoints.{IsRestartUpTo}
use Rattle.rq_model.specs.Appending.{MayFollow}
use Rattle.rq_model.specs.Carrying.{IsFrontUpTo, TrueHasFront, CrashWhileCarriedGrows, carried_header, carried_file, carried_at}
use Rattle.rq_model.specs.Carrying.{as_log, moved, moved_log, when_moved, MovesOn, begun_anew, StartsAnew, FrontGoesOn}
use Rattle.rq_model.specs.Carrying.{LaterSaysTheSame, FilesJoin, AnewJoins}
use Rattle.rq_model.proofs.CarriedFiles.{read_header, read_whole, read_size}
use Rattle.rq_model.proofs.RecordReaders.{body_fits}
use Rattle.rq_model.proofs.Runs.{frame_reads, frames_assoc}
use Rattle.rq_model.proofs.Longest.{front_stops, log_ends, frames_apart}
use Rattle.rq_model.proofs.StateCodes.{one_state, short_is_counted}
use Rattle.rq_model.proofs.FromCheckpoints.{IsLinked, linked, before_long, apart}
use Rattle.rq_model.proofs.Restarts.{follows, header_long, front_spelt, run_join, parts_follow, later_longest}
use Rattle.rq_model.proofs.Restarts.{spelt_after, why_parts, begins_join}
use Rattle.rq_model.proofs.FromCheckpoints.{front_at, true_front, restart_at, ends_at, true_is_same, greater_is_wider}
use Rattle.rq_model.proofs.Appended.{crash_in_frames, front_follows, longer_begins}

pub true_has_front : TrueHasFront
true_has_front b offset (records, kept, h, spelled) = (
  h.version,
  records,
  h.after,
  kept,
  h.rest,
  h.front,
  (true_front b offset records kept h spelled).0,
)

pub within : (most : ℕ) (b : List ℕ) (offset : ℕ) (version : Version) (s : State) (kept : List ℕ)
    (after : List Record) (rest : List ℕ) → IsFrontUpTo most b offset version s kept after rest → offset ≤ length b
within most b offset version s kept after rest h = omega (arith, h.checkpoint.frame.whole.room, length-drop offset b)

-- what is linked stays linked if bytes come after it
link_grows : (b part : List ℕ) (offset : ℕ) → 32 ≤ offset → offset ≤ length b
    → IsLinked (b ++ part) offset (before offset b) (drop offset b ++ part)
link_grows b part offset low high = record {
  ahead = ap (take 32) (drop-append-le (offset - 32) b part (omega (arith, high)))
      ∙ take-append-le 32 (drop (offset - 32) b) part (omega (arith, low, high, length-drop (offset - 32) b));
  behind = drop-append-le offset b part high;
}

pub crash_while_carried_grows : CrashWhileCarriedGrows
crash_while_carried_grows most b offset version s kept after xs part missing h new parts short =
    let p = before offset b in
    let rs : List Record = Checkpoint kept ∷ after in
    let old = follows version s p (drop offset b) [] rs h.front.begins in
    let g = crash_in_frames version s p rs xs part missing old new parts in
    let past = h.checkpoint.past_header in
    let high = within most b offset version s kept after [] h in
    let head : HasHeader version (b ++ part) = take-append-le 40 b part (omega (arith, past, high)) ∙ h.header in
    let grown = link_grows b part offset (omega (arith, past)) high in
    let bytes = ap (λ (z : List ℕ). z ++ part) (h.front.begins.whole ∙ append-nil (frames_of p rs)) in
    let at : IsLinked (b ++ part) offset p (frames_of p rs ++ part) =
    record { ahead = grown.ahead; behind = grown.behind ∙ bytes } in
    let left = front_at most (b ++ part) offset version s kept (after ++ take g.count xs) p (frames_of p rs ++ part) g.rest short
    head past at h.spells g.front in
    record {
      count = g.count;
      rest = g.rest;
      why = g.why;
      whole = g.whole;
      front = left;
      clean = g.clean;
      restart = restart_at most (b ++ part) offset version s kept (after ++ take g.count xs) p g.rest (Ends g.why) left
          grown.ahead g.ends;
    }

-- what is in a carried file, read as a log
pub record GoesOn (version : Version) (log p bytes : List ℕ) : Type 0 where
  pub header : HasHeader version log
  pub at : IsLinked log carried_at p bytes
  pub size : length log ≡ carried_at + length bytes

pub goes_on : (version : Version) (p bytes log : List ℕ) → length p ≡ 32 → log ≡ header version ++ (p ++ bytes)
    → GoesOn version log p bytes
goes_on version p bytes log long parts = record {
  header = ap (take 40) parts ∙ take_at (header version) (p ++ bytes) 40 (header_long version);
  at = linked log (header version) p [] bytes carried_at long parts (omega (arith, header_long version));
  size = omega (
    arith,
    ap length parts,
    length-append (header version) (p ++ bytes),
    length-append p bytes,
    header_long version,
    long,
  );
}

-- A checkpoint and all bytes after it, moved.

moved_goes : (most : ℕ) (b : List ℕ) (offset : ℕ) (version : Version) (s : State) (kept : List ℕ)
    (after : List Record) (rest : List ℕ) → IsFrontUpTo most b offset version s kept after rest
    → GoesOn version (moved_log version b offset) (before offset b) (drop offset b)
moved_goes most b offset version s kept after rest h =
    let past = h.checkpoint.past_header in
    let p = before offset b in
    let bytes = drop offset b in
    goes_on version p bytes (moved_log version b offset)
    (before_long b offset (omega (arith, past)) (within most b offset version s kept after rest h))
    (read_whole version p bytes)

-- the log has as many bytes as the file
moved_short : (b : List ℕ) (offset : ℕ) (version : Version) → length (moved version b offset) ≤ log_limit
    → length (moved_log version b offset) ≤ log_limit
moved_short b offset version short =
    let file = moved version b offset in
    omega (arith, short, read_size version file (read_header version (before offset b) (drop offset b)))

moved_front : (most : ℕ) (b : List ℕ) (offset : ℕ) (version : Version) (s : State) (kept : List ℕ)
    (after : List Record) (rest : List ℕ) → IsFrontUpTo most b offset version s kept after rest
    → length (moved version b offset) ≤ log_limit
    → IsFrontUpTo most (moved_log version b offset) carried_at version s kept after rest
moved_front most b offset version s kept after rest h short =
    let goes = moved_goes most b offset version s kept after rest h in
    front_at most (moved_log version b offset) carried_at version s kept after (before offset b) (drop offset b) rest
    (moved_short b offset version short) goes.header (omega arith) goes.at h.spells h.front

moved_restart : (most other : ℕ) (b : List ℕ) (offset : ℕ) (version : Version) (s : State) (kept : List ℕ)
    (after : List Record) (rest : List ℕ) (r : Restarted) → IsFrontUpTo most b offset version s kept after rest
    → length (moved version b offset) ≤ log_limit → IsRestartUpTo other b offset r
    → IsRestartUpTo most (moved_log version b offset) carried_at (when_moved offset r)
moved_restart most other b offset version s kept after rest r h short k =
    let xs : List Record = Checkpoint kept ∷ after in
    let t = run s xs in
    let p = before offset b in
    let new = moved_log version b offset in
    let high = within most b offset version s kept after rest h in
    let goes = moved_goes most b offset version s kept after rest h in
    let ended = ends_at most other b offset version s kept after rest r h k in
    let front = moved_front most b offset version s kept after rest h short in
    let few : length rest ≤ length b - offset =
    omega (arith, ap length h.front.begins.whole, length-append (frames_of p xs) rest, length-drop offset b) in
    let used : length b - length rest + carried_at - offset ≡ length new - length rest =
    omega (arith, goes.size, few, high, length-drop offset b) in
    let total : length b + carried_at - offset ≡ length new = omega (arith, goes.size, high, length-drop offset b) in
    let answer : when_moved offset r ≡ restarted t (length rest) (length new) ended.why =
    ap (when_moved offset) ended.answer
    ∙ (λ i. record (restarted t (length rest) (length new) ended.why) { used = used i; total = total i }) in
    subst (IsRestartUpTo most new carried_at) (sym answer)
    (restart_at most new carried_at version s kept after p rest ended.why front goes.at.ahead ended.ends)

pub moves_on : MovesOn
moves_on = record {
  front = moved_front;
  restart = moved_restart;
  truth = λ most b offset version s kept after rest r h short true_here restart.
      moved_restart most log_next b offset version s kept after rest r h short (true_is_same b offset r true_here restart);
}

-- A log that goes on from a state.

pub starts_anew : StartsAnew
starts_anew most version p s log long spells small short is =
    let kept = state_bytes s in
    let xs : List Record = Checkpoint kept ∷ [] in
    let bytes = frames_of p xs in
    let file = begun_anew version p s in
    let goes = goes_on version p bytes log long (is ∙ read_whole version p bytes) in
    let size : length log ≡ length file = ap length is ∙ read_size version file (read_header version p bytes) in
    let begins : Begins version s p bytes xs [] =
    record { records = (small, tt); lawful = refl; whole = sym (append-nil bytes) } in
    let front = front_at most log carried_at version s kept [] p bytes [] (omega (arith, short, size)) goes.header
    (omega arith) goes.at spells (front_stops version s p bytes [] xs (Ends Whole) begins refl) in (
      front,
      goes.at.ahead,
      subst (λ (n : ℕ). IsRestartUpTo most log carried_at (restarted (run s xs) 0 n (Ends Whole))) size
          (restart_at most log carried_at version s kept [] p [] (Ends Whole) front goes.at.ahead refl),
    )

pub front_goes_on : FrontGoesOn
front_goes_on most b version records rest le front small short =
    let (kept, log_end, size) = log_ends version records in
    let p = last_of (start version) records in
    let s = run empty records in
    let spells = greater_is_wider.spells log_next most version s (state_bytes s) le
    (front_spelt b version records rest front) in
    (starts_anew most version p s (as_log version (begun_anew version p s)) size spells small short refl).0

pub later_says_the_same : LaterSaysTheSame
later_says_the_same most b offset version s kept earlier again after rest r wide h spelled low k =
    let p = before offset b in
    let rs : List Record = Checkpoint kept ∷ earlier in
    let xs : List Record = Checkpoint again ∷ after in
    let t = run s rs in
    let q = last_of p rs in
    let bytes = frames_of q xs ++ rest in
    let there = offset + length (frames_of p rs) in
    let past = h.checkpoint.past_header in
    let high = within most b offset version s kept (earlier ++ xs) rest h in
    let (old, new) = parts_follow version s rs xs (follows version s p (drop offset b) rest (rs ++ xs) h.front.begins) in
    let left = take (offset - 32) b in
    let whole = apart b offset (omega (arith, past))
    ∙ ap (λ (z : List ℕ). left ++ (p ++ z)) (h.front.begins.whole ∙ frames_apart p rest rs xs) in
    let at = linked b left p rs bytes there (before_long b offset (omega (arith, past)) high) whole
    (omega (arith, length-take (offset - 32) b, past, high)) in
    let counted = short_is_counted t (omega (arith, low, wide)) (omega (arith, ap length spelled, new.records.0)) in
    let spells = subst (SpellsUpTo most version t) (sym spelled)
    (spelt_after most version s rs h.spells.keeps h.spells.fits h.spells.deep old low counted) in
    let front = front_at most b there version t again after q bytes rest h.short h.header (omega (arith, past)) at spells
    (later_longest version s p (drop offset b) rest rs xs h.front) in
    let ended = ends_at most most b offset version s kept (earlier ++ xs) rest r h k in
    let ends = why_parts version s p rest rs xs ended.why ended.ends in
    let answer = ended.answer ∙ ap (λ (z : State). restarted z (length rest) (length b) ended.why) (run_join s rs xs) in (
      front,
      subst (IsRestartUpTo most b there) (sym answer) (restart_at most b there version t again after q rest ended.why front at.ahead ends),
    )

-- A longest list that begins earlier.
pub longest_joins : (version : Version) (s : State) (p bytes rest : List ℕ) (rs xs : List Record) → MayFollow version s rs
    → IsLongest version (run s rs) (last_of p rs) bytes xs rest
    → IsLongest version s p (frames_of p rs ++ bytes) (rs ++ xs) rest
longest_joins version s p bytes rest rs xs old h =
    let q = last_of p rs in
    record {
      begins = begins_join version s p bytes rest rs xs old h.begins;
      longest = λ others after b. elim (cases_lt (length others) (length rs)) [
        | inl few ↦ omega (arith, few, length-append rs xs)
        | inr many ↦
            let (more, same) = longer_begins version p bytes after rs others old.records b.records many b.whole in
            let all = subst (MayFollow version s) same (follows version s p (frames_of p rs ++ bytes) after others b) in
            let new = (parts_follow version s rs more all).1 in
            let whole : frames_of p rs ++ bytes ≡ frames_of p rs ++ (frames_of q more ++ after) =
            b.whole ∙ ap (λ (z : List Record). frames_of p z ++ after) same ∙ frames_apart p after rs more in
            let behind : Begins version (run s rs) q bytes more after =
            record {
              records = new.records;
              lawful = new.lawful;
              whole = append_cancel_left (frames_of p rs) _ _ whole;
            } in
            omega (arith, h.longest more after behind, ap length same, length-append rs more, length-append rs xs)
      ];
    }

pub files_join : FilesJoin
files_join most other b offset version s kept records after rest old front linked spelled =
    let t = run empty records in
    let is : s ≡ t = one_state most other version version s t kept front.spells spelled in
    let xs : List Record = Checkpoint kept ∷ after in
    let p = last_of (start version) records in
    let bytes = drop offset b in
    let linked_front = subst (λ (q : List ℕ). IsLongest version s q bytes xs rest) linked front.front in
    let here = subst (λ (z : State). IsLongest version z p bytes xs rest) is linked_front in (
      longest_joins version empty (start version) bytes rest records xs old here,
      ap (λ (z : State). run z xs) is ∙ sym (run_join empty records xs),
    )

-- the checkpoint that the file begins with is read again, whatever follows it
pub anew_joins : AnewJoins
anew_joins most b new more version records rest s kept after left front small whole h =
    let p = last_of (start version) records in
    let t = run empty records in
    let first = Checkpoint (state_bytes t) in
    let made = frames_of p (first ∷ []) in
    let (log, log_end, long) = log_ends version records in
    let file : new ≡ carried_file version p (made ++ more) =
    whole ∙ append_assoc (carried_header version) (p ++ made) more
    ∙ ap (λ (z : List ℕ). carried_header version ++ z) (append_assoc p made more) in
    let read = as_log version new in
    let goes = goes_on version p (made ++ more) read long
    (ap (as_log version) file ∙ read_whole version p (made ++ more)) in
    let behind : drop carried_at read ≡ frame p (body_of first) ++ more =
    goes.at.behind ∙ frames_assoc p (body_of first) [] more in
    let body = (frame_reads p (body_of first) more (body_fits version first small)).body_is in
    let is : kept ≡ state_bytes t = ap (drop 1) (sym h.checkpoint.body ∙ ap body_in behind ∙ body) in
    files_join most log_next read carried_at version s kept records after left (front_follows b version records rest front) h goes.at.ahead
    (subst (SpellsUpTo log_next version t) (sym is) (front_spelt b version records rest front))
