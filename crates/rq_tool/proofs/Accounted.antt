-- A report that is written accounts for the records that it is of.
use Rattle.std.proofs.Common.{ℕ, List, subst, sym}
use Rattle.std.specs.Prelude.{Err, Ok, Option, Result}
use Rattle.std.specs.Io.KnownBytes.{Appends}
use Rattle.rq_model.specs.Reports.{IsReport}
use Rattle.rq_model.specs.Checkpoints.{IsReportAt, TrueAt}
use Rattle.rq_model.specs.LogLaws.{TrueSaysTheSame}
use Rattle.rq_model.specs.StateSpelling.{log_next}
use Rattle.rq_model.specs.Fates.{with_aborts}
use Rattle.rq_model.specs.FateLaws.{ReportAccounts}
use Rattle.rq_model.specs.AllFiles.{FilesReportAccounts}
use Rattle.rq_model.specs.ClientLines.{FilesTellClients, ReportTellsClients, TextAccounts}
use Rattle.rq_record.specs.declared.fault.Fault.{Fault}
use Rattle.rq_tool.specs.Headline.{AccountsForFiles, AccountsForFront, Runs}
use Rattle.rq_tool.specs.Streams.{Writes}
use Rattle.rq_tool.specs.Works.{IsTextOf, IsWhyNot}
use Rattle.rq_tool.specs.declared.works.Work.TheVariants as works

-- the report of b, that was written
module _ (accounts : ReportAccounts) (tells : ReportTellsClients) (b : List ℕ) (old new : Option (List ℕ)) where
  told : (text : List ℕ) → (is : IsReport b text) → TextAccounts (with_aborts is.1.records) text
  told text is =
      let found = is.1 in
      record {
        requests = λ p low. accounts b found.version found.records found.rest text p low found.front is;
        clients = tells b found.version found.records found.rest text found.front is;
      }

  written : (text : List ℕ) → IsReport b text → Appends old new text → (done : Unit {0})
      → AccountsForFront b old new (Ok done)
  written text is appends done =
      let found = is.1 in (
        found.version,
        found.records,
        found.rest,
        found.front,
        (text, appends, told text is),
      )

  pub run_accounts : (result : Result (Unit {0}) Fault) → Runs b old new result → AccountsForFront b old new result
  run_accounts (Ok done) h = written h.1 h.2 h.3 done
  run_accounts (Err e) h = tt

pub report_accounts : TrueSaysTheSame → ReportAccounts → ReportTellsClients → (b : List ℕ) (offset : ℕ) → TrueAt b offset
    → (old new : Option (List ℕ)) (result : Result (Unit {0}) Fault)
    → Writes (IsTextOf (works.ReportAt offset) b) (IsWhyNot (works.ReportAt offset) b) old new result
    → AccountsForFront b old new result
report_accounts same accounts tells b offset true_at old new (Ok done) h =
    written accounts tells b old new h.0 ((same b offset h.0 true_at).0 h.1.1) h.2 done
report_accounts same accounts tells b offset true_at old new (Err e) h = tt

pub files_account : FilesReportAccounts → FilesTellClients → (b : List ℕ) (offset : ℕ) (old new : Option (List ℕ))
    (result : Result (Unit {0}) Fault)
    → Writes (IsTextOf (works.ReportAt offset) b) (IsWhyNot (works.ReportAt offset) b) old new result
    → AccountsForFiles b offset old new result
files_account accounts tells b offset old new (Ok done) h = λ version log files newest records are bytes at.
    let text = h.0 in
    let report : IsReportAt newest.bytes newest.offset text =
    subst (λ (z : List ℕ). IsReportAt z newest.offset text) (sym bytes)
    (subst (λ (z : ℕ). IsReportAt b z text) (sym at) h.1.1) in (
      text,
      h.2,
      record {
        requests = λ p low. accounts log_next version log files newest records text p low are report;
        clients = tells log_next version log files newest records text are report;
      },
    )
files_account accounts tells b offset old new (Err e) h = λ version log files newest records are bytes at. tt
