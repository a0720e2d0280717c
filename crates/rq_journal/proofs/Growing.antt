-- Records whose frames are gathered, behind a front.
use Rattle.std.proofs.Common.{ℕ, List, [], ◌∷◌, ◌++◌, drop, sym, ap, subst, ◌∙◌, append_assoc}
use Rattle.std.specs.Prelude.{Result, Ok, Err, OnOk}
use Rattle.std.proofs.lemmas.List.{append-nil}
use Rattle.rq_model.specs.Records.{Record, Checkpoint}
use Rattle.rq_model.specs.Spelling.{body_of}
use Rattle.rq_model.specs.Frames.{frame, frames_of, last_of}
use Rattle.rq_model.specs.Appending.{MayFollow, CrashInFrames, CrashWhileAppending, AppendedIsFront}
use Rattle.rq_model.proofs.Longest.{frames_of_join, last_of_join}
use Rattle.rq_front.specs.Framers.{Place, at_checkpoint}
use Rattle.rq_journal.specs.Appenders.{AppendsOne, IsAppenderAt}
use Rattle.rq_journal.specs.Growths.{AreWrittenAt, AreWrittenBehind, AreWrittenFrom, GrowsBy, IsGrownAt, IsGrownBehind, IsGrownFrom}
use Rattle.rq_journal.specs.declared.appender.NotTaken.{NotTaken}
use Rattle.rq_journal.specs.declared.growths.Growth.{Growth}
use Rattle.rq_journal.proofs.Taking.{later}
use Rattle.rq_journal.proofs.Openings.{behind}

-- a record that was taken
grown_by_one : (a b : Growth) (r : Record) → AppendsOne a.appender b.appender r a.frames.items b.frames.items
    → GrowsBy a b (r ∷ [])
grown_by_one a b r one at rs xs g =
    let q = last_of at.link rs in
    let next = one at (rs ++ xs) g.stands in
    let f = frame (last_of q xs) (body_of r) in
    record {
      stands = subst (λ (ys : List Record). IsAppenderAt at ys b.appender) (append_assoc rs xs (r ∷ [])) next.0;
      frames = next.1
          ∙ (λ i. g.frames i ++ frame (last_of_join at.link rs xs i) (body_of r))
          ∙ ap (λ (z : List ℕ). frames_of q xs ++ z) (sym (append-nil f))
          ∙ sym (frames_of_join q xs (r ∷ []));
    }

pub grows : (a b : Growth) (r : Record) (result : Result (Unit {0}) NotTaken)
    → OnOk result (AppendsOne a.appender b.appender r a.frames.items b.frames.items) → OnOk result (GrowsBy a b (r ∷ []))
grows a b r (Ok x) one = grown_by_one a b r one
grows a b r (Err why) one = tt

-- what a crash leaves of the frames
pub written_at : (at : Place) (rs xs : List Record) (g : Growth) → CrashInFrames → MayFollow at.version at.state rs
    → IsGrownAt at rs xs g → AreWrittenAt at rs xs g.frames.items
written_at at rs xs g crash may h = λ part missing parts.
    crash at.version at.state at.link rs xs part missing may (later at rs xs g.appender h.stands)
    (sym h.frames ∙ parts)

pub written_behind : (b : List ℕ) (xs : List Record) (g : Growth) → CrashWhileAppending → AppendedIsFront
    → IsGrownBehind b xs g → AreWrittenBehind b xs g.frames.items
written_behind b xs g crash appended h =
    behind b h.version h.records xs (drop g.end.used b) g.appender g.frames.items h.front h.grown.stands h.grown.frames
    crash appended

pub written_from : (b : List ℕ) (offset : ℕ) (xs : List Record) (g : Growth) → CrashInFrames
    → IsGrownFrom b offset xs g → AreWrittenFrom b offset xs g.frames.items
written_from b offset xs g crash h = record {
  version = h.version;
  base = h.base;
  kept = h.kept;
  after = h.after;
  rest = drop g.end.used b;
  front = h.front;
  crash = written_at (at_checkpoint h.version h.base b offset) (Checkpoint h.kept ∷ h.after) xs g crash
      (record { records = h.front.front.begins.records; lawful = h.front.front.begins.lawful }) h.grown;
}
