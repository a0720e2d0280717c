-- What is made of a file, why nothing is made of one, and what is written.
use Rattle.std.proofs.Common.{◌≡◌, ℕ, ◌≤◌, List, ◌∷◌, length, take, refl, sym, ap, subst, ◌∙◌, arith, inl, inr}
use Rattle.std.specs.Prelude.{Err, Option, Result, Ok}
use Rattle.std.specs.Global.{Vec}
use Rattle.std.proofs.lemmas.List.{take_at}
use Rattle.std.proofs.KnownBytes.{Keeps-refl}
use Rattle.rq_model.specs.Frames.{AreBytes, HasHeader, header, log_limit}
use Rattle.rq_model.specs.Records.{Version}
use Rattle.rq_model.specs.States.{State}
use Rattle.rq_model.specs.StateSpelling.{SpellsState, carried_next}
use Rattle.rq_model.specs.Checkpoints.{IsCheckpointAt, TrueAt}
use Rattle.rq_model.specs.LogLaws.{EveryLogHasReport, OneVersion, TrueSaysTheSame}
use Rattle.rq_model.proofs.Restarts.{header_long}
use Rattle.rq_model.specs.Fronts.{Restarted}
use Rattle.rq_model.specs.Reports.{IsReport, IsText}
use Rattle.rq_front.specs.Chains.{IsHeaded, Refused, IsLog}
use Rattle.rq_record.specs.declared.fault.Fault.{Fault}
use Rattle.rq_record.specs.declared.fault.Fault.TheVariants as faults
use Rattle.rq_judged.specs.Refusals.{RefusedAt, RefusedUpTo}
use Rattle.rq_restart.specs.Tails.{StaysOpen}
use Rattle.rq_writer.specs.Made.{Made}
use Rattle.rq_report.specs.Streams.{Delivers, Reports}
use Rattle.rq_tool.specs.Streams.{IsOverlong, ReadFaults, ReadsFile, WriteFaults, PutsText, Writes}
use Rattle.rq_tool.specs.Works.{HasNoLog, HasNoReportAt, IsWhyNot}
use Rattle.rq_tool.specs.declared.works.Work.{Work}
use Rattle.rq_tool.specs.Headline.{Runs, WritesOnly}
use Rattle.rq_tool.specs.declared.works.Work.TheVariants as works

-- The report from a checkpoint.

-- a log with a true checkpoint begins with a header
headed : (b : List ℕ) (offset : ℕ) → TrueAt b offset → IsHeaded b
headed b offset true_at =
    let found = true_at.2 in (
      found.version,
      ap (take 40) found.front.whole
          ∙ take_at (header found.version) found.front.bytes 40 (header_long found.version),
    )

-- a true checkpoint stands there, and spells a state of the log's version
spelled_at : EveryLogHasReport → TrueSaysTheSame → OneVersion → (b : List ℕ) (offset : ℕ) → AreBytes b
    → length b ≤ log_limit → TrueAt b offset
    → (kept : List ℕ) × IsCheckpointAt b offset kept × (s : State)
    × ((version : Version) → HasHeader version b → SpellsState version s kept)
spelled_at every same one b offset bytes short true_at =
    let header = headed b offset true_at in
    let report = every header.0 b bytes short header.1 in
    let whole = (same b offset report.0 true_at).1 report.1 in
    let at = whole.1 in (
      at.kept,
      at.checkpoint,
      at.state,
      λ version is. subst (λ (v : Version). SpellsState v at.state at.kept)
          (one b at.version version at.header is) at.spells,
    )

one_kept : (b : List ℕ) (offset : ℕ) (kept other : List ℕ) → IsCheckpointAt b offset kept
    → IsCheckpointAt b offset other → kept ≡ other
one_kept b offset kept other x y =
    let same : 9 ∷ kept ≡ 9 ∷ other = sym x.body ∙ y.body in
    cc

-- no log is refused from any offset
pub refused_from : (most : ℕ) (b : List ℕ) (offset : ℕ) (e : Fault) → Refused b e → RefusedUpTo most b offset e
refused_from most b offset faults.TooLong h = h
refused_from most b offset faults.NotALog h = h
refused_from most b offset faults.Resources h = h
refused_from most b offset _ h = absurd h

-- and has no true checkpoint
no_log_at : (b : List ℕ) (offset : ℕ) (e : Fault) → Refused b e → HasNoReportAt b offset e
no_log_at b offset faults.TooLong h = (
  h,
  λ true_at. (let short : length b ≤ log_limit = true_at.2.front.short in absurd (omega (arith, h, short))),
)
no_log_at b offset faults.NotALog h = (h, λ true_at. absurd (h.1 (headed b offset true_at)))
no_log_at b offset faults.Resources h = (h, λ _. refl)
no_log_at b offset _ h = absurd h

-- from a true checkpoint there is a report, if memory is there
pub no_report_at : EveryLogHasReport → TrueSaysTheSame → OneVersion → (b : List ℕ) (offset : ℕ) (e : Fault)
    → AreBytes b → RefusedAt b offset e → HasNoReportAt b offset e
no_report_at every same one b offset faults.NoCheckpoint bytes h = (
  h,
  λ true_at. (let found = spelled_at every same one b offset bytes h.0 true_at in absurd (h.2 found.0 found.1)),
)
no_report_at every same one b offset faults.BadCheckpoint bytes h = (
  h,
  λ true_at. (
      let found = spelled_at every same one b offset bytes h.0 true_at in
      absurd (h.5 found.2
      (subst (SpellsState h.1 found.2) (one_kept b offset found.0 h.3 found.1 h.4) (found.3 h.1 h.2)))
      ),
)
no_report_at every same one b offset faults.TooLong bytes h = no_log_at b offset faults.TooLong h
no_report_at every same one b offset faults.NotALog bytes h = no_log_at b offset faults.NotALog h
no_report_at every same one b offset faults.Resources bytes h = no_log_at b offset faults.Resources h
no_report_at every same one b offset _ bytes h = absurd h

-- The closed log.

stays_open : (b : List ℕ) (e : Fault) → Refused b e → StaysOpen b e
stays_open b faults.TooLarge h = absurd h
stays_open b _ h = h

-- No log.

-- what is no log is refused, whatever is to be made of it
pub refuses : (work : Work) (b : List ℕ) (e : Fault) → Refused b e → IsWhyNot work b e
refuses works.Report b e h = h
refuses (works.ReportAt offset) b e h = no_log_at b offset e h
refuses (works.CarriedReport offset) b e h = refused_from carried_next b offset e h
refuses works.Audit b e h = h
refuses works.Close b e h = stays_open b e h
refuses works.Upgrade b e h = h

-- The log of a script.

-- a script of lawful length has a fault
pub unmade : (version : Version) (script : List ℕ) (e : Fault) → length script ≤ log_limit
    → Made {X = Vec ℕ} version (λ v. v.items) script (Err e) → HasNoLog version script e
unmade version script faults.TooLong short h = inr (short, h)
unmade version script faults.Resources short h = tt
unmade version script _ short h = (short, h)

pub overlong : (version : Version) (script : List ℕ) (e : Fault) → IsOverlong script e → HasNoLog version script e
overlong version script faults.TooLong h = inl h
overlong version script faults.Resources h = tt
overlong version script _ h = absurd h

-- What is written.

abbrev Done : Type 0
Done = Result (Unit {0}) Fault

-- What is written of a text that was made.

pub delivers_puts : (IsText : List ℕ → Type 0) (IsWhy : Fault → Type 0) (before after : ℕ)
    (old new : Option (List ℕ)) (text : List ℕ) (result : Done) → IsText text
    → Delivers before after old new text result → PutsText IsText IsWhy before after old new result
delivers_puts IsText IsWhy before after old new text (Ok done) is w = (w.0, (text, is, w.1))
delivers_puts IsText IsWhy before after old new text (Err faults.WriteFailed) is w = (w.0, (text, is, w.1))
delivers_puts IsText IsWhy before after old new text (Err _) is w = absurd w

-- a report's lines are written when all are made, which needs memory
pub reports_puts : (IsLines : List ℕ → Type 0) (IsWhy : Fault → Type 0) (r : Restarted) (before after : ℕ)
    (old new : Option (List ℕ)) (result : Done) → ((text : List ℕ) → IsText r text → IsLines text)
    → IsWhy faults.Resources → Reports r before after old new result
    → PutsText IsLines IsWhy before after old new result
reports_puts IsLines IsWhy r before after old new (Ok done) is none w = (w.2, (w.0, is w.0 w.1, w.3))
reports_puts IsLines IsWhy r before after old new (Err faults.Resources) is none w = (w.0, (none, w.1))
reports_puts IsLines IsWhy r before after old new (Err faults.WriteFailed) is none w = (w.2, (w.0, is w.0 w.1, w.3))
reports_puts IsLines IsWhy r before after old new (Err _) is none w = absurd w

-- where none is made, nothing is written: the reason is no fault of a reader or writer
pub puts_none : (IsText : List ℕ → Type 0) (IsWhy : Fault → Type 0) (count : ℕ) (held : Option (List ℕ)) (e : Fault)
    → (IsWhy faults.ReadFailed → ⊥) → (IsWhy faults.WriteFailed → ⊥) → IsWhy e
    → PutsText IsText IsWhy count count held held (Err e)
puts_none IsText IsWhy count held faults.ReadFailed no_read no_write h = absurd (no_read h)
puts_none IsText IsWhy count held faults.WriteFailed no_read no_write h = absurd (no_write h)
puts_none IsText IsWhy count held _ no_read no_write h = (refl, (h, Keeps-refl held))

-- Of a file that was read.

-- what is put is written; no read failed, and a write did exactly where that is told
pub puts_writes : (IsText : List ℕ → Type 0) (IsWhy : Fault → Type 0) (from to before after : ℕ)
    (old new : Option (List ℕ)) (result : Done) → to ≡ from → PutsText IsText IsWhy before after old new result
    → Writes IsText IsWhy old new result × ReadFaults from to result × WriteFaults before after result
puts_writes IsText IsWhy from to before after old new (Ok done) same h = (h.1, same, h.0)
puts_writes IsText IsWhy from to before after old new (Err faults.ReadFailed) same h = absurd h
puts_writes IsText IsWhy from to before after old new (Err _) same h = (h.1, same, h.0)

-- what is not read is not written
pub unread_writes : (IsText : List ℕ → Type 0) (IsWhy : Fault → Type 0) (IsNone : List ℕ → Fault → Type 0)
    (count : ℕ) (held : Option (List ℕ)) (b : List ℕ) (e : Fault) → ((f : Fault) → IsNone b f → IsWhy f)
    → (IsNone b faults.WriteFailed → ⊥) → ReadsFile IsNone b (Err e)
    → Writes IsText IsWhy held held (Err e) × WriteFaults {A = Unit {0}} count count (Err e)
unread_writes IsText IsWhy IsNone count held b faults.ReadFailed why no_write h = (Keeps-refl held, refl)
unread_writes IsText IsWhy IsNone count held b faults.WriteFailed why no_write h = absurd (no_write h)
unread_writes IsText IsWhy IsNone count held b e why no_write h = ((why e h, Keeps-refl held), refl)

-- for other texts and reasons
pub writes_else : (IsText IsOther : List ℕ → Type 0) (IsWhy IsElse : Fault → Type 0) (old new : Option (List ℕ))
    (result : Done) → ((text : List ℕ) → IsText text → IsOther text) → ((e : Fault) → IsWhy e → IsElse e)
    → Writes IsText IsWhy old new result → Writes IsOther IsElse old new result
writes_else IsText IsOther IsWhy IsElse old new (Ok done) text why w = (w.0, text w.0 w.1, w.2)
writes_else IsText IsOther IsWhy IsElse old new (Err faults.ReadFailed) text why w = w
writes_else IsText IsOther IsWhy IsElse old new (Err faults.WriteFailed) text why w = (w.0, text w.0 w.1, w.2)
writes_else IsText IsOther IsWhy IsElse old new (Err e) text why w = (why e w.0, w.1)

-- The headline.

pub writes_runs : (b : List ℕ) (old new : Option (List ℕ)) (result : Done)
    → Writes (λ text. IsLog b × IsReport b text) (Refused b) old new result → Runs b old new result
writes_runs b old new (Ok done) w = (w.1.0, w.0, w.1.1, w.2)
writes_runs b old new (Err faults.TooLong) w = w
writes_runs b old new (Err faults.NotALog) w = (w.0.0, w.0.1, w.1)
writes_runs b old new (Err faults.Resources) w = w.1
writes_runs b old new (Err faults.ReadFailed) w = w
writes_runs b old new (Err faults.WriteFailed) w = (w.1.0, w.0, w.1.1, w.2)
writes_runs b old new (Err _) w = absurd w.0

pub writes_only : (b : List ℕ) (old new : Option (List ℕ)) (result : Done)
    → Writes (λ text. IsLog b × IsReport b text) (Refused b) old new result → WritesOnly old new result
writes_only b old new (Ok done) w = (b, w.0, w.1.1, w.2)
writes_only b old new (Err faults.TooLong) w = (tt, w.1)
writes_only b old new (Err faults.NotALog) w = (tt, w.1)
writes_only b old new (Err faults.Resources) w = (tt, w.1)
writes_only b old new (Err faults.ReadFailed) w = (tt, w)
writes_only b old new (Err faults.WriteFailed) w = (b, w.0, w.1.1, w.2)
writes_only b old new (Err _) w = absurd w.0
