-- The lines of the program, and what each does.
use Rattle.std.specs.Prelude.{◌≡◌, ℕ, ◌<◌, ◌≤◌, ◌^◌, ⊤, List, [], ◌∷◌, Option, Some, None, Result, codes}
use Rattle.std.specs.Fmt.{decimal}
use Rattle.rq_model.specs.Records.{Version, One, Two}
use Rattle.rq_model.specs.Checkpoints.{TrueAt}
use Rattle.rq_record.specs.declared.fault.Fault.{Fault}
use Rattle.rq_front.specs.Chains.{IsLog, Refused}
use Rattle.rq_plan.specs.Plans.{workers_of, grain_of}
use Rattle.rq_plan.specs.declared.plan.Plan.{Plan}
use Rattle.rq_restart.specs.Tails.{StaysOpen}
use Rattle.rq_tool.specs.Headline.{AccountsForFiles, AccountsForFront, Runs, RunsAt, WritesOnly, WritesReport}
use Rattle.rq_tool.specs.Streams.{Writes}
use Rattle.rq_tool.specs.Works.{IsAuditText, IsClosedLog, IsUpgradedLog, Makes}
use Rattle.rq_tool.specs.declared.commands.Command.{Command}
use Rattle.rq_tool.specs.declared.commands.Command.TheVariants as code

-- what a line of the program tells
pub data CommandLine : Type 0 where
  Make : (version : Version) (script log : List ℕ) → CommandLine
  Restart : (log : List ℕ) (workers grain : ℕ) → CommandLine
  RestartAt : (log : List ℕ) (offset workers grain : ℕ) → CommandLine
  Audit : (log : List ℕ) (workers grain : ℕ) → CommandLine
  Close : (log out : List ℕ) (workers grain : ℕ) → CommandLine
  Upgrade : (log out : List ℕ) (workers grain : ℕ) → CommandLine

-- the word that makes a log of a version
abbrev pub make_word : Version → List ℕ
make_word One = codes "make"
make_word Two = codes "make2"

-- its words, after the program's name
abbrev pub words_of : CommandLine → List (List ℕ)
words_of (Make version script log) = make_word version ∷ (script ∷ (log ∷ []))
words_of (Restart log workers grain) = codes "restart"
    ∷ (log ∷ (decimal workers ∷ (decimal grain ∷ [])))
words_of (RestartAt log offset workers grain) = codes "restart-at"
    ∷ (log ∷ (decimal offset ∷ (decimal workers ∷ (decimal grain ∷ []))))
words_of (Audit log workers grain) = codes "audit" ∷ (log ∷ (decimal workers ∷ []))
words_of (Close log out workers grain) = codes "close" ∷ (log ∷ (out ∷ (decimal workers ∷ [])))
words_of (Upgrade log out workers grain) = codes "upgrade" ∷ (log ∷ (out ∷ (decimal workers ∷ [])))

-- how many workers there may be, and how many frames a grain has
abbrev pub IsPlan : ℕ → ℕ → Type 0
IsPlan workers grain = (1 ≤ workers) × (workers ≤ 64) × (1 ≤ grain) × (grain ≤ 1000000)

-- the numbers of a line are in their ranges; where it names no grain, it is 1,000
abbrev pub IsCommandLine : CommandLine → Type 0
IsCommandLine (Make version script log) = ⊤
IsCommandLine (Restart log workers grain) = IsPlan workers grain
IsCommandLine (RestartAt log offset workers grain) = (offset < 2 ^ 64) × IsPlan workers grain
IsCommandLine (Audit log workers grain) = IsPlan workers grain × (grain ≡ 1000)
IsCommandLine (Close log out workers grain) = IsPlan workers grain × (grain ≡ 1000)
IsCommandLine (Upgrade log out workers grain) = IsPlan workers grain × (grain ≡ 1000)

-- the line of a command
abbrev pub command_line : Command → CommandLine
command_line (code.Make script log) = Make One script.now log.now
command_line (code.Make2 script log) = Make Two script.now log.now
command_line (code.Restart log plan) = Restart log.now (workers_of plan) (grain_of plan)
command_line (code.RestartAt log offset plan) =
    RestartAt log.now offset (workers_of plan) (grain_of plan)
command_line (code.Audit log plan) = Audit log.now (workers_of plan) (grain_of plan)
command_line (code.Close log out plan) = Close log.now out.now (workers_of plan) (grain_of plan)
command_line (code.Upgrade log out plan) = Upgrade log.now out.now (workers_of plan) (grain_of plan)

-- the words are those of the command's line, or of no line
abbrev pub IsCommand : List (List ℕ) → Option Command → Type 0
IsCommand words (Some command) = IsCommandLine (command_line command)
    × (words ≡ words_of (command_line command))
IsCommand words None = (l : CommandLine) → IsCommandLine l → words ≡ words_of l → ⊥

-- the words are the plan's numbers, or those of no plan
abbrev pub IsPlanOf : List ℕ → List ℕ → Option Plan → Type 0
IsPlanOf workers grain (Some plan) = IsPlan (workers_of plan) (grain_of plan)
    × (workers ≡ decimal (workers_of plan)) × (grain ≡ decimal (grain_of plan))
IsPlanOf workers grain None = (w g : ℕ) → IsPlan w g → workers ≡ decimal w → grain ≡ decimal g → ⊥

-- for a line that names no grain: it is 1,000
abbrev pub IsWorkersPlanOf : List ℕ → Option Plan → Type 0
IsWorkersPlanOf workers (Some plan) = IsPlan (workers_of plan) (grain_of plan)
    × (grain_of plan ≡ 1000) × (workers ≡ decimal (workers_of plan))
IsWorkersPlanOf workers None = (w : ℕ) → IsPlan w 1000 → workers ≡ decimal w → ⊥

-- What a command does.

-- with the bytes b of its first file, where the writer held the bytes `old` before and holds `new`
-- afterwards
abbrev pub ActsOn : CommandLine → List ℕ → Option (List ℕ)
    → Option (List ℕ) → Result (Unit {0}) Fault → Type 0
ActsOn (Make version script log) b old new result = Makes version b old new result
ActsOn (Restart log workers grain) b old new result = Runs b old new result
ActsOn (RestartAt log offset workers grain) b old new result =
    RunsAt b offset old new result × (TrueAt b offset → WritesReport b old new result)
ActsOn (Audit log workers grain) b old new result =
    Writes (λ text. IsLog b × IsAuditText b text) (Refused b) old new result
ActsOn (Close log out workers grain) b old new result =
    Writes (IsClosedLog b) (StaysOpen b) old new result
ActsOn (Upgrade log out workers grain) b old new result =
    Writes (IsUpgradedLog b) (Refused b) old new result

-- a report that it writes accounts for requests and clients: for those of the front, from a checkpoint
-- if that is true; and for those of all files, if b is the last of several and begins with it
abbrev pub AccountsOn : CommandLine → List ℕ → Option (List ℕ)
    → Option (List ℕ) → Result (Unit {0}) Fault → Type 0
AccountsOn (Restart log workers grain) b old new result = AccountsForFront b old new result
AccountsOn (RestartAt log offset workers grain) b old new result =
    (TrueAt b offset → AccountsForFront b old new result) × AccountsForFiles b offset old new result
AccountsOn line b old new result = ⊤

-- also where the reader tells no bytes
abbrev pub ActsOnly : CommandLine → Option (List ℕ)
    → Option (List ℕ) → Result (Unit {0}) Fault → Type 0
ActsOnly (Restart log workers grain) old new result = WritesOnly old new result
ActsOnly (RestartAt log offset workers grain) old new result =
    (b : List ℕ) × RunsAt b offset old new result
ActsOnly line old new result = (b : List ℕ) × ActsOn line b old new result
