-- What is made of a log or of a script, and why it is not.
use Rattle.std.specs.Prelude.{◌≡◌, ◌<◌, ◌≤◌, ◌++◌, ◌⊎◌, ⊤, ℕ, Bool, true, false, List, codes, length, Option}
use Rattle.std.specs.Prelude.{Result, Ok, Err}
use Rattle.std.specs.List.{flat_map}
use Rattle.std.specs.Fmt.{decimal}
use Rattle.rq_model.specs.Records.{Version}
use Rattle.rq_model.specs.Frames.{log_limit}
use Rattle.rq_model.specs.Closing.{IsClosed, StandsFor}
use Rattle.rq_model.specs.Upgrading.{IsUpgraded, SaysTheSame}
use Rattle.rq_model.specs.Reports.{IsReport}
use Rattle.rq_model.specs.Checkpoints.{Audited, IsAudit, IsReportAt, TrueAt}
use Rattle.rq_model.specs.Carrying.{IsCarriedReport}
use Rattle.rq_record.specs.declared.fault.Fault.{Fault}
use Rattle.rq_record.specs.declared.fault.Fault.TheVariants.{Resources, TooLong}
use Rattle.rq_front.specs.Chains.{IsLog, Refused}
use Rattle.rq_judged.specs.Refusals.{RefusedAt, RefusedCarried}
use Rattle.rq_restart.specs.Tails.{StaysOpen}
use Rattle.rq_writer.specs.Made.{Made}
use Rattle.rq_tool.specs.Streams.{Writes}
use Rattle.rq_tool.specs.declared.works.Work.{Work}
use Rattle.rq_tool.specs.declared.works.Work.TheVariants.{Report, ReportAt, CarriedReport, Audit, Close, Upgrade}

abbrev pub truth_text : Bool → List ℕ
truth_text true = codes "true"
truth_text false = codes "false"

-- a checkpoint's offset, and whether it is true
abbrev pub audit_line : Audited → List ℕ
audit_line x = codes "checkpoint "
    ++ (decimal x.offset ++ (codes " " ++ (truth_text x.truth ++ codes "\n")))

-- one line for each checkpoint of b
abbrev pub IsAuditText : List ℕ → List ℕ → Type 0
IsAuditText b text = (found : List Audited) × IsAudit b found × (text ≡ flat_map audit_line found)

-- b, closed: a log that stands for b, also while its tail is written
pub record IsClosedLog (b closed : List ℕ) : Type 0 where
  pub log : IsLog b
  pub is : IsClosed b closed
  pub short : length closed ≤ log_limit
  pub stands : StandsFor b closed

-- b in version 2: a log that says the same as b
pub record IsUpgradedLog (b upgraded : List ℕ) : Type 0 where
  pub log : IsLog b
  pub is : IsUpgraded b upgraded
  pub same : SaysTheSame b upgraded
  pub short : length upgraded ≤ log_limit

-- why there is no report of b from the checkpoint at an offset: if that is true, memory was refused
abbrev pub HasNoReportAt : List ℕ → ℕ → Fault → Type 0
HasNoReportAt b offset e = RefusedAt b offset e × (TrueAt b offset → e ≡ Resources)

-- a text that is made of the bytes b
abbrev pub IsTextOf : Work → List ℕ → List ℕ → Type 0
IsTextOf Report b text = IsLog b × IsReport b text
IsTextOf (ReportAt offset) b text = IsLog b × IsReportAt b offset text
IsTextOf (CarriedReport offset) b text = IsLog b × IsCarriedReport b offset text
IsTextOf Audit b text = IsLog b × IsAuditText b text
IsTextOf Close b text = IsClosedLog b text
IsTextOf Upgrade b text = IsUpgradedLog b text

-- why none is
abbrev pub IsWhyNot : Work → List ℕ → Fault → Type 0
IsWhyNot Report b e = Refused b e
IsWhyNot (ReportAt offset) b e = HasNoReportAt b offset e
IsWhyNot (CarriedReport offset) b e = RefusedCarried b offset e
IsWhyNot Audit b e = Refused b e
IsWhyNot Close b e = StaysOpen b e
IsWhyNot Upgrade b e = Refused b e

-- The log of a script.

-- a script that is short enough, and its log
abbrev pub IsLogOf : Version → List ℕ → List ℕ → Type 0
IsLogOf version script log = (length script ≤ log_limit) × Made version (λ x. x) script (Ok log)

-- a script that is short enough, and the fault of its earliest line that has one
abbrev pub HasFault : Version → List ℕ → Fault → Type 0
HasFault version script e = (length script ≤ log_limit)
    × Made {X = List ℕ} version (λ x. x) script (Err e)

-- why the script b has no log: it is too long or has a fault, or memory is refused
abbrev pub HasNoLog : Version → List ℕ → Fault → Type 0
HasNoLog version b TooLong = (log_limit < length b) ⊎ HasFault version b TooLong
HasNoLog version b Resources = ⊤
HasNoLog version b e = HasFault version b e

-- over the script b: its log is written, and nothing else; or nothing is, since there is none; or a
-- beginning of the log is, and then a write failed
abbrev pub Makes : Version → List ℕ → Option (List ℕ)
    → Option (List ℕ) → Result (Unit {0}) Fault → Type 0
Makes version b = Writes (IsLogOf version b) (HasNoLog version b)
