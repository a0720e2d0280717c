-- A carried file is mended as the log as which it is read.
use Rattle.std.proofs.Common.{◌≡◌, ℕ, ◌+◌, ◌-◌, ◌<◌, ◌≤◌, List, [], ◌∷◌, ◌++◌, length, take, drop, get_or, refl, sym}
use Rattle.std.proofs.Common.{ap, subst, ◌∙◌, arith}
use Rattle.std.specs.Prelude.{Option, Some, None, Result, Ok, Err, IfSome, IfNone, IfOk, IfErr, slice_set}
use Rattle.std.proofs.lemmas.List.{drop_at, drop-set-add, get_or-drop, length-append, length-drop}
use Rattle.std.proofs.lemmas.List.{take_at, take-append-drop, take-set-le}
use Rattle.rq_model.specs.Records as model
use Rattle.rq_model.specs.Frames.{HasHeader, header}
use Rattle.rq_model.specs.Carrying.{HasCarriedHeader, IsNoLog, ReadsAsLog, as_log, carried_at, carried_header, carried_magic}
use Rattle.rq_model.specs.LogLaws.{OneVersion}
use Rattle.rq_model.proofs.Restarts.{header_long}
use Rattle.rq_model.proofs.Runs.{length-sha256}
use Rattle.rq_record.specs.declared.fault.Fault.{Fault}
use Rattle.rq_record.specs.declared.fault.Fault.TheVariants as faults
use Rattle.rq_record.specs.declared.version.Version.{Version}
use Rattle.rq_record.specs.Views.{version_of}
use Rattle.rq_front.proofs.Framing.{log_long}
use Rattle.rq_front.specs.Chains.{IsCarried, IsHeaded, Refused, rest_of}
use Rattle.rq_behind.specs.Mending.{AreTold, with_changes}
use Rattle.rq_behind.specs.MendedFiles.{AsItIs, AsLog, IsMendedFile, IsMendedLog, IsReadAs, Mends, RefusesToMend}
use Rattle.rq_behind.specs.declared.changes.Change.{Change}
use Rattle.rq_behind.specs.declared.mended_logs.Mended.{Mended}
use Rattle.rq_behind.proofs.Advances.{end_behind}
use Rattle.rq_behind.proofs.Changed.{told_before}

-- Changes behind an offset.

-- what stands before it stays
kept_before : (log b : List ℕ) (at from : ℕ) (cs : List Change) → at ≤ from → AreTold log from cs
    → take at (with_changes b cs) ≡ take at b
kept_before log b at from [] low told = refl
kept_before log b at from (c ∷ cs) low told =
    kept_before log (slice_set b c.offset c.now) at (c.offset + 1) cs (omega (arith, low, told.0)) told.4
    ∙ take-set-le at b c.offset c.now (omega (arith, low, told.0))

set_behind : (b : List ℕ) (at offset now : ℕ) → at ≤ offset
    → drop at (slice_set b offset now) ≡ slice_set (drop at b) (offset - at) now
set_behind b at offset now low =
    let place : offset ≡ at + (offset - at) = omega arith in
    ap (λ (k : ℕ). drop at (slice_set b k now)) place ∙ drop-set-add at b (offset - at) now

-- bytes that stand behind it in two lists are the same there after changes
changed_alike : (log b c : List ℕ) (at from : ℕ) (cs : List Change) → at ≤ from → drop at b ≡ drop at c → AreTold log from cs
    → drop at (with_changes b cs) ≡ drop at (with_changes c cs)
changed_alike log b c at from [] low same told = same
changed_alike log b c at from (x ∷ xs) low same told =
    let far : at ≤ x.offset = omega (arith, low, told.0) in
    changed_alike log (slice_set b x.offset x.now) (slice_set c x.offset x.now) at (x.offset + 1) xs (omega (arith, far))
    (set_behind b at x.offset x.now far ∙ ap (λ (y : List ℕ). slice_set y (x.offset - at) x.now) same
    ∙ sym (set_behind c at x.offset x.now far))
    told.4

stood_alike : (b c : List ℕ) (at offset : ℕ) → at ≤ offset → drop at b ≡ drop at c → get_or b offset 0 ≡ get_or c offset 0
stood_alike b c at offset low same =
    let place : at + (offset - at) ≡ offset = omega arith in
    ap (λ (k : ℕ). get_or b k 0) (sym place) ∙ sym (get_or-drop at b (offset - at) 0)
    ∙ ap (λ (x : List ℕ). get_or x (offset - at) 0) same ∙ get_or-drop at c (offset - at) 0 ∙ ap (λ (k : ℕ). get_or c k 0) place

-- and what is told of the one is told of the other
told_alike : (b c : List ℕ) (at from : ℕ) (cs : List Change) → at ≤ from → drop at b ≡ drop at c → length b ≡ length c
    → AreTold b from cs → AreTold c from cs
told_alike b c at from [] low same size told = told
told_alike b c at from (x ∷ xs) low same size told = (
  told.0,
  omega (arith, told.1, size),
  told.2 ∙ stood_alike b c at x.offset (omega (arith, low, told.0)) same,
  told.3,
  told_alike b c at (x.offset + 1) xs (omega (arith, low, told.0)) same size told.4,
)

-- The log as which a carried file is read.

carried_long : (version : model.Version) → length (carried_header version) ≡ 40
carried_long version = omega (arith, length-sha256 (carried_magic version))

as_carried : (file log : List ℕ) → IsReadAs file log carried_at
    → (version : model.Version) × HasCarriedHeader version file × (log ≡ as_log version file)
as_carried file log (AsItIs not same e) = absurd (omega (arith, e))
as_carried file log (AsLog version head same e) = (version, head, same)

as_headed : (version : model.Version) (file log : List ℕ) → log ≡ as_log version file → HasHeader version log
as_headed version file log same = ap (take 40) same ∙ take_at (header version) (drop 40 file) 40 (header_long version)

-- what is put in place of the header of bytes that are lent is a carried file
pub is_carried : (r : Option Version) (b lent new : List ℕ) → lent ≡ b → IsHeaded b
    → IfSome r (λ v. HasHeader (version_of v) lent × (new ≡ carried_header (version_of v) ++ drop 40 lent))
    → IfNone r ((IsHeaded lent → ⊥) × (new ≡ lent))
    → (version : model.Version) × HasHeader version b × (new ≡ carried_header version ++ drop 40 b)
is_carried (Some v) b lent new same headed some none =
    subst (λ (x : List ℕ). (version : model.Version) × HasHeader version x × (new ≡ carried_header version ++ drop 40 x)) same
    (version_of v, some.0, some.1)
is_carried None b lent new same headed some none = absurd (none.0 (subst IsHeaded (sym same) headed))

-- it is as long as the log that it was, and is read as that
pub size_of_carried : (version : model.Version) (b new : List ℕ) → HasHeader version b
    → new ≡ carried_header version ++ drop 40 b → length new ≡ length b
size_of_carried version b new head is = omega (
  arith,
  ap length is,
  length-append (carried_header version) (drop 40 b),
  carried_long version,
  length-drop 40 b,
  log_long version b head,
)

read_again : (version : model.Version) (b new : List ℕ) → HasHeader version b → new ≡ carried_header version ++ drop 40 b
    → IsReadAs new b carried_at
read_again version b new head is =
    let behind : drop 40 new ≡ drop 40 b = ap (drop 40) is ∙ drop_at (carried_header version) (drop 40 b) 40 (carried_long version) in
    AsLog version (ap (take 40) is ∙ take_at (carried_header version) (drop 40 b) 40 (carried_long version))
    (sym (take-append-drop 40 b) ∙ ap (λ (x : List ℕ). x ++ drop 40 b) head ∙ ap (λ (x : List ℕ). header version ++ x) (sym behind))
    refl

-- A carried file that is read as a log is mended as it is.
pub mended_carried : ReadsAsLog → OneVersion → (file log out : List ℕ) (m : Mended) → IsReadAs file log carried_at
    → carried_at ≤ length log → IsMendedLog log carried_at out m.changes.items m.end (rest_of m.rest)
    → (version : model.Version) × HasHeader version out × (m.bytes.items ≡ carried_header version ++ drop 40 out)
    → IsMendedFile file m
mended_carried reads one file log out m read long mended back =
    let cs = m.changes.items in
    let carried = as_carried file log read in
    let version = carried.0 in
    let head : HasHeader version log = as_headed version file log carried.2 in
    let front = mended.front (version, head) in
    let low : carried_at ≤ front.0 = end_behind log carried_at front.0 front.2.0 front.1 long front.2.1 in
    let told : AreTold log carried_at cs = told_before log carried_at front.0 cs low front.3 in
    let behind : drop 40 log ≡ drop 40 file = ap (drop 40) carried.2 ∙ reads.behind version file 40 carried.1 (omega arith) in
    let size : length log ≡ length file = ap length carried.2 ∙ reads.size version file carried.1 in
    let told_file : AreTold file carried_at cs = told_alike log file 40 carried_at cs (omega arith) behind size told in
    let stays : take 40 out ≡ take 40 log =
    ap (take 40) mended.changed ∙ kept_before log log 40 carried_at cs (omega arith) told in
    let versions : version ≡ back.0 = one out version back.0 (stays ∙ head) back.1 in
    let made : List ℕ = with_changes file cs in
    let first : take 40 made ≡ carried_header version = kept_before log file 40 carried_at cs (omega arith) told ∙ carried.1 in
    let last : drop 40 made ≡ drop 40 out =
    changed_alike log file log 40 carried_at cs (omega arith) (sym behind) told ∙ ap (drop 40) (sym mended.changed) in
    record {
      changed = back.2 ∙ ap (λ (v : model.Version). carried_header v ++ drop 40 out) (sym versions)
          ∙ ap (λ (x : List ℕ). x ++ drop 40 out) (sym first) ∙ ap (λ (x : List ℕ). take 40 made ++ x) (sym last)
          ∙ take-append-drop 40 made;
      told = told_before file 0 carried_at cs (omega arith) told_file;
      from = carried_at;
      log = log;
      was = read;
      out = out;
      is = read_again back.0 out m.bytes.items back.1 back.2;
      mended = mended;
    }

-- why it is not mended
pub short_carried : ReadsAsLog → (file log : List ℕ) → IsReadAs file log carried_at → length log < carried_at
    → RefusesToMend file faults.NoCheckpoint
short_carried reads file log read short =
    let carried = as_carried file log read in
    let size : length log ≡ length file = ap length carried.2 ∙ reads.size carried.0 file carried.1 in
    ((carried.0, carried.1), omega (arith, short, size))

pub refused_carried : ReadsAsLog → (file log : List ℕ) (e : Fault) → IsReadAs file log carried_at → Refused log e
    → RefusesToMend file e
refused_carried reads file log faults.TooLong read refused =
    let carried = as_carried file log read in
    let size : length log ≡ length file = ap length carried.2 ∙ reads.size carried.0 file carried.1 in
    omega (arith, refused, size)
refused_carried reads file log faults.NotALog read refused =
    let carried = as_carried file log read in
    absurd (refused.1 (carried.0, as_headed carried.0 file log carried.2))
refused_carried reads file log faults.Resources read refused = tt
refused_carried reads file log _ read refused = absurd refused

-- A log is mended as it is.

refused_log : (file : List ℕ) (e : Fault) → (IsCarried file → ⊥) → Refused file e → RefusesToMend file e
refused_log file faults.NotALog not refused = (refused, not)
refused_log file faults.NoCheckpoint not refused = absurd refused
refused_log file _ not refused = refused

pub mends_log : IsNoLog → (file log : List ℕ) (r : Result Mended Fault) → (IsCarried file → ⊥) → log ≡ file
    → IfOk r (λ m. IsMendedLog log 40 m.bytes.items m.changes.items m.end (rest_of m.rest)) → IfErr r (Refused log)
    → Mends file r
mends_log apart file log (Ok m) not same mended refused =
    let it = subst (λ (b : List ℕ). IsMendedLog b 40 m.bytes.items m.changes.items m.end (rest_of m.rest)) same mended in
    record {
      changed = it.changed;
      told = it.told;
      from = 40;
      log = file;
      was = AsItIs not refl refl;
      out = m.bytes.items;
      is = AsItIs (λ carried. apart.headed carried.0 it.headed.0 m.bytes.items carried.1 it.headed.1) refl refl;
      mended = it;
    }
mends_log apart file log (Err e) not same mended refused =
    refused_log file e not (subst (λ (b : List ℕ). Refused b e) same refused)
