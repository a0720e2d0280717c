-- A growth behind a judged front, of a log or from a checkpoint on, and records behind the front; and the judge behind a
-- front of which the state was made.
use Rattle.std.proofs.Common.{◌≡◌, ℕ, ◌≤◌, List, ◌∷◌, length, drop, ap, arith, [], ◌++◌, sym, subst, ◌∙◌}
use Rattle.std.specs.Global.{Vec}
use Rattle.std.proofs.lemmas.List.{append-nil, length-append, length-drop}
use Rattle.rq_model.specs.Records.{Record, Checkpoint, Version}
use Rattle.rq_model.specs.Frames.{log_limit, header, start, log_of, frames_of, last_of, before}
use Rattle.rq_model.specs.Fronts.{IsFront}
use Rattle.rq_model.proofs.Longest.{front_whole, log_joins}
use Rattle.rq_model.proofs.Restarts.{header_long}
use Rattle.rq_model.specs.Appending.{CrashWhileAppending, AppendedIsFront}
use Rattle.rq_model.specs.States.{State, empty}
use Rattle.rq_model.specs.Machine.{run}
use Rattle.rq_record.specs.Views.{version_of}
use Rattle.rq_catalog.specs.declared.judge.Judge.{Judge}
use Rattle.rq_catalog.specs.Judges.{StandsIn}
use Rattle.rq_restart.specs.declared.redone.RedoneFront.{RedoneFront}
use Rattle.rq_restart.specs.RedoneFronts.{IsRedoneAt, IsRedoneFront}
use Rattle.rq_judged.specs.declared.judged.JudgedFront.{JudgedFront}
use Rattle.rq_judged.specs.JudgedFronts.{IsJudged, IsJudgedAt}
use Rattle.rq_front.specs.declared.framer.Framer.{Framer}
use Rattle.rq_front.specs.Framers.{Place, length_with, behind_header, at_checkpoint}
use Rattle.rq_journal.specs.Appenders.{IsAppenderAt}
use Rattle.rq_journal.specs.Growths.{AreWrittenBehind, IsGrownAt, IsGrownBehind, IsGrownFrom}
use Rattle.rq_journal.specs.declared.appender.Appender.{Appender}
use Rattle.rq_journal.specs.declared.growths.Growth.{Growth}
use Rattle.rq_journal.proofs.Taking.{later}

-- a judge of the state behind a front
abbrev pub with_judge : RedoneFront → Judge → JudgedFront
with_judge f j = record { judge = j; last = f.last; end = f.end }

abbrev pub judged_of : (b : List ℕ) (f : RedoneFront) (j : Judge) → IsRedoneFront b f → StandsIn (version_of f.version) j f.state
    → IsJudged b (with_judge f j)
judged_of b f j h stands = record {
  version = version_of f.version;
  records = h.records;
  front = h.front;
  ends = h.ends;
  used = h.used;
  count = h.count;
  last = h.last;
  judge = subst (λ (s : State). StandsIn (version_of f.version) j s) h.state stands;
}

abbrev pub judged_at : (b : List ℕ) (offset : ℕ) (f : RedoneFront) (j : Judge) → IsRedoneAt b offset f
    → StandsIn (version_of f.version) j f.state → IsJudgedAt b offset (with_judge f j)
judged_at b offset f j h stands = record {
  version = version_of f.version;
  base = h.base;
  kept = h.kept;
  after = h.after;
  front = h.front;
  ends = h.ends;
  used = h.used;
  count = h.count;
  last = h.last;
  judge = subst (λ (s : State). StandsIn (version_of f.version) j s) h.state stands;
}

-- how long a log is
pub log_long : (version : Version) (rs : List Record)
    → length (log_of version rs) ≡ length_with (behind_header version) rs
log_long version rs = omega (arith, length-append (header version) (frames_of (start version) rs), header_long version)

-- the log of a front is no longer than one may be
pub log_short : (b : List ℕ) (version : Version) (rs : List Record) (rest : List ℕ) → IsFront b version rs rest
    → length (log_of version rs) ≤ log_limit
log_short b version rs rest front =
    omega (arith, front.short, ap length (front_whole b version rs rest front), length-append (log_of version rs) rest)

-- no records yet
at_first : (at : Place) (rs : List Record) (g : Growth) → IsAppenderAt at rs g.appender → g.frames.items ≡ []
    → IsGrownAt at rs [] g
at_first at rs g stands none = record {
  stands = subst (λ (z : List Record). IsAppenderAt at z g.appender) (sym (append-nil rs)) stands;
  frames = none;
}

pub numbered : (b : List ℕ) (f : JudgedFront) (framer : Framer) (frames : Vec ℕ) (next : ℕ) → framer.last ≡ f.last
    → framer.len ≡ f.end.used → frames.items ≡ [] → (h : IsJudged b f) → next ≡ (run empty h.records).next
    → IsGrownBehind b [] (record {
      appender = record { judge = f.judge; framer = framer; next = next };
      end = f.end;
      frames = frames;
    })
numbered b f framer frames next last len none h number =
    let long = log_long h.version h.records in
    let stands : IsAppenderAt (behind_header h.version) h.records (record { judge = f.judge; framer = framer; next = next }) =
    record {
      may = record { records = h.front.longest.begins.records; lawful = h.front.longest.begins.lawful };
      short = omega (arith, long, log_short b h.version h.records (drop f.end.used b) h.front);
      judge = h.judge;
      framer = record { last = last ∙ h.last; len = omega (arith, len, h.used, long) };
      number = number;
    } in
    record {
      version = h.version;
      records = h.records;
      front = h.front;
      used = h.used;
      grown = at_first (behind_header h.version) h.records _ stands none;
    }

pub numbered_at : (b : List ℕ) (offset : ℕ) (f : JudgedFront) (framer : Framer) (frames : Vec ℕ) (next : ℕ)
    → framer.last ≡ f.last → framer.len ≡ f.end.used → frames.items ≡ [] → (h : IsJudgedAt b offset f)
    → next ≡ (run h.base (Checkpoint h.kept ∷ h.after)).next → IsGrownFrom b offset [] (record {
      appender = record { judge = f.judge; framer = framer; next = next };
      end = f.end;
      frames = frames;
    })
numbered_at b offset f framer frames next last len none h number =
    let xs : List Record = Checkpoint h.kept ∷ h.after in
    let at = at_checkpoint h.version h.base b offset in
    let begins = h.front.front.begins in
    let within : f.end.used ≤ length b =
    omega (
      arith,
      h.used,
      ap length begins.whole,
      length-append (frames_of (before offset b) xs) (drop f.end.used b),
      length-drop offset b,
      h.front.checkpoint.frame.whole.room,
    ) in
    let stands : IsAppenderAt at xs (record { judge = f.judge; framer = framer; next = next }) =
    record {
      may = record { records = begins.records; lawful = begins.lawful };
      short = omega (arith, within, h.front.short, h.used);
      judge = h.judge;
      framer = record { last = last ∙ h.last; len = len ∙ h.used };
      number = number;
    } in
    record {
      version = h.version;
      base = h.base;
      kept = h.kept;
      after = h.after;
      front = h.front;
      used = h.used;
      grown = at_first at xs _ stands none;
    }

-- records behind the front
pub behind : (b : List ℕ) (version : Version) (rs xs : List Record) (rest : List ℕ) (a : Appender) (written : List ℕ)
    → IsFront b version rs rest → IsAppenderAt (behind_header version) (rs ++ xs) a
    → written ≡ frames_of (last_of (start version) rs) xs → CrashWhileAppending → AppendedIsFront
    → AreWrittenBehind b xs written
behind b version rs xs rest a written front there bytes crash appended =
    let may = later (behind_header version) rs xs a there in
    let joined : log_of version (rs ++ xs) ≡ log_of version rs ++ written =
    log_joins version rs xs ∙ ap (λ (z : List ℕ). log_of version rs ++ z) (sym bytes) in
    let short : length (log_of version (rs ++ xs)) ≤ log_limit = omega (arith, log_long version (rs ++ xs), there.short) in
    record {
      version = version;
      records = rs;
      rest = rest;
      front = front;
      crash = λ part missing parts. crash b version rs rest xs part missing front may (sym bytes ∙ parts)
          (omega (
            arith,
            short,
            ap length joined,
            ap length parts,
            length-append part missing,
            length-append (log_of version rs) written,
            length-append (log_of version rs) part,
          ));
      whole = subst (λ (z : List ℕ). IsFront z version (rs ++ xs) []) joined
          (appended b version rs rest xs front may short);
    }
