-- A file that is mended: a log, or a carried file, which is read as one.
use Rattle.std.specs.Prelude.{◌≡◌, ℕ, ◌<◌, List, length, Result, Ok, Err}
use Rattle.rq_model.specs.Records.{Version}
use Rattle.rq_model.specs.Frames.{Rest}
use Rattle.rq_model.specs.Carrying.{HasCarriedHeader, as_log, carried_at}
use Rattle.rq_record.specs.declared.fault.Fault.{Fault}
use Rattle.rq_record.specs.declared.fault.Fault.TheVariants.{NotALog, NoCheckpoint}
use Rattle.rq_front.specs.Chains.{IsCarried, IsHeaded, Refused, rest_of}
use Rattle.rq_behind.specs.Mending.{AreProved, AreTold, IsFrontEnd, with_changes}
use Rattle.rq_behind.specs.declared.changes.Change.{Change}
use Rattle.rq_behind.specs.declared.mended_logs.Mended.{Mended}

-- A log whose frames begin at an offset was mended to these bytes. Each byte that was put back is told,
-- and proved by a digest that stands as it stood. Right frames stand up to the end now, and something
-- follows. If a header stood in the log, no byte before the end of its front was changed
pub record IsMendedLog (log : List ℕ) (from : ℕ) (b : List ℕ) (cs : List Change) (end : ℕ) (rest : Rest)
    : Type 0 where
  pub changed : b ≡ with_changes log cs
  pub told : AreTold log 0 cs
  pub proved : AreProved log b cs
  pub headed : IsHeaded b
  pub right : IsFrontEnd b from end rest
  pub front : IsHeaded log → (least : ℕ) × (why : Rest) × IsFrontEnd log from least why × AreTold log least cs

-- a file is read as a log whose frames begin at an offset: a carried one as its log, any other as it is
pub data IsReadAs (file log : List ℕ) (from : ℕ) : Type 0 where
  AsItIs : (IsCarried file → ⊥) → log ≡ file → from ≡ 40 → IsReadAs file log from
  AsLog : (version : Version) → HasCarriedHeader version file → log ≡ as_log version file
      → from ≡ carried_at → IsReadAs file log from

-- a file was mended: it differs from what it was in the bytes that are told and in no other, and the
-- log as which it was read was mended to the one as which it is read
pub record IsMendedFile (file : List ℕ) (m : Mended) : Type 0 where
  pub changed : m.bytes.items ≡ with_changes file m.changes.items
  pub told : AreTold file 0 m.changes.items
  pub from : ℕ
  pub log : List ℕ
  pub was : IsReadAs file log from
  pub out : List ℕ
  pub is : IsReadAs m.bytes.items out from
  pub mended : IsMendedLog log from out m.changes.items m.end (rest_of m.rest)

-- why a file is not mended: it is too long; it is carried, and ends before its first frame; it begins
-- with no header; or memory ran out
abbrev pub RefusesToMend : List ℕ → Fault → Type 0
RefusesToMend file NoCheckpoint = IsCarried file × (length file < carried_at)
RefusesToMend file NotALog = Refused file NotALog × (IsCarried file → ⊥)
RefusesToMend file e = Refused file e

-- what comes of mending a file
abbrev pub Mends : List ℕ → Result Mended Fault → Type 0
Mends file (Ok m) = IsMendedFile file m
Mends file (Err e) = RefusesToMend file e
