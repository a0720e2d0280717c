-- A machine that goes along with the frames of a log, as their bytes come.
use Rattle.std.specs.Prelude.{◌≡◌, ◌≤◌, ◌+◌, ◌-◌, ℕ, true, false, List, length, drop}
use Rattle.rq_model.specs.Records.{Record, Version}
use Rattle.rq_model.specs.Spelling.{Spells}
use Rattle.rq_model.specs.Frames.{log_limit, HasHeader, before, last_of}
use Rattle.rq_model.specs.States.{State}
use Rattle.rq_model.specs.Machine.{is_lawful, step, run}
use Rattle.rq_model.specs.Fronts.{Begins, IsWhy, Why}
use Rattle.rq_record.specs.Views.{version_of}
use Rattle.rq_judged.specs.Views.{why_of}
use Rattle.rq_judged.specs.Windows.{Origin}
use Rattle.rq_restart.specs.declared.redone.RedoneFront.{RedoneFront}
use Rattle.rq_follow.specs.declared.pass.MachinePass.{MachinePass}
use Rattle.rq_follow.specs.declared.pass.Standing.{Standing}
use Rattle.rq_follow.specs.declared.pass.Finding.{Finding}
use Rattle.rq_follow.specs.declared.pass.Finding.TheVariants.{Lawful, Unlawful, NoRecord}

-- what a machine in the state s makes of a body; only behind a lawful record it is in another, t
abbrev pub IsMadeOf : Version → State → List ℕ → State → Finding → Type 0
IsMadeOf version s body t Lawful = (r : Record) × Spells version r body
    × (is_lawful version s r ≡ true) × (t ≡ step s r)
IsMadeOf version s body t Unlawful = (t ≡ s)
    × (r : Record) × Spells version r body × (is_lawful version s r ≡ false)
IsMadeOf version s body t NoRecord = (t ≡ s)
    × ((r : Record) → Spells version r body → ⊥)

-- a log from a place on, behind a state
abbrev pub origin_at : Version → State → List ℕ → ℕ → Origin
origin_at version s b place =
    record { version = version; base = s; link = before place b; ahead = place }

-- Of the bytes x, which come behind the origin, the frames of these records are passed, and the
-- machine did them; the rest waits in the window. That begins with a header, and before the place in
-- it stand the last 32 bytes of these frames
pub record StandsInWindow (o : Origin) (x : List ℕ) (rs : List Record) (rest : List ℕ) (f : MachinePass)
    : Type 0 where
  pub begins : Begins o.version o.base o.link x rs rest
  pub rules : version_of f.version ≡ o.version
  pub machine : f.machine ≡ run o.base rs
  pub count : f.records ≡ length rs
  pub total : f.total ≡ o.ahead + length x
  pub short : f.total ≤ log_limit
  pub small : length f.window.items ≤ f.total
  pub header : HasHeader o.version f.window.items
  pub after : 40 ≤ f.place
  pub within : f.place ≤ length f.window.items
  pub link : before f.place f.window.items ≡ last_of o.link rs
  pub waits : drop f.place f.window.items ≡ rest

-- it came behind some records of these bytes
abbrev pub HasComeBehind : Origin → List ℕ → MachinePass → Type 0
HasComeBehind o x f = (rs : List Record) × (rest : List ℕ) × StandsInWindow o x rs rest f

-- it came behind some records
abbrev pub HasComeBehindSome : MachinePass → Type 0
HasComeBehindSome f = (o : Origin) × (x : List ℕ) × HasComeBehind o x f

-- and for this reason no lawful record follows
abbrev pub FindsWhy : Origin → List ℕ → MachinePass → Why → Type 0
FindsWhy o x f why = (rs : List Record) × (rest : List ℕ) × StandsInWindow o x rs rest f
    × IsWhy o.version (run o.base rs) (last_of o.link rs) rest why

-- Of these bytes it came behind all records that follow the origin, and it knows why they end
abbrev pub HasDoneAll : Origin → List ℕ → MachinePass → Type 0
HasDoneAll o x f = FindsWhy o x f (why_of f.why)

-- of some bytes
abbrev pub HasDoneAllOfSome : MachinePass → Type 0
HasDoneAllOfSome f = (o : Origin) × (x : List ℕ) × HasDoneAll o x f

-- the front that a pass came behind, and the state there
pub record IsRedoneOf (f : MachinePass) (r : RedoneFront) : Type 0 where
  pub version : r.version ≡ f.version
  pub state : r.state ≡ f.machine
  pub last : r.last ≡ before f.place f.window.items
  pub used : r.end.used ≡ f.total - (length f.window.items - f.place)
  pub records : r.end.records ≡ f.records
  pub why : r.end.why ≡ f.why

-- the same, where a machine stands in place of the state
abbrev pub front_of : Standing → RedoneFront
front_of s = record { version = s.version; state = s.machine; last = s.last; end = s.end }
