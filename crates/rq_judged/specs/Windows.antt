-- A pass over the frames of a log that come piece by piece.
use Rattle.std.specs.Prelude.{◌≡◌, ◌≤◌, ◌<◌, ◌+◌, ℕ, true, List, ◌++◌, length, drop, Option, Some, None, ⊤}
use Rattle.rq_model.specs.Records.{Record, Version}
use Rattle.rq_model.specs.Frames as frames
use Rattle.rq_model.specs.Frames.{log_limit, HasHeader, before, last, last_of, start, AreBodies, IsRest}
use Rattle.rq_model.specs.States.{State, empty}
use Rattle.rq_model.specs.Machine.{run}
use Rattle.rq_model.specs.Fronts as fronts
use Rattle.rq_model.specs.Fronts.{Begins, IsWhy}
use Rattle.rq_record.specs.declared.fault.Fault.{Fault}
use Rattle.rq_record.specs.declared.fault.Fault.TheVariants.{Resources, TooLong}
use Rattle.rq_front.specs.declared.spans.Span.{Span}
use Rattle.rq_front.specs.Chains.{bodies_at, spans_from}
use Rattle.rq_catalog.specs.Judges.{StandsIn}
use Rattle.rq_judged.specs.Views.{why_of}
use Rattle.rq_judged.specs.Passes.{stays}
use Rattle.rq_judged.specs.declared.judged.JudgedFront.{JudgedFront}
use Rattle.rq_judged.specs.declared.ends.Why.{Why}
use Rattle.rq_judged.specs.declared.window.WindowPass.{WindowPass}

-- where a pass begins: the rules, the state, the 32 bytes before the first frame, and how many
-- bytes of the log stand ahead of it
pub record Origin : Type 0 where
  pub version : Version
  pub base : State
  pub link : List ℕ
  pub ahead : ℕ

-- what stands behind the lawful records waits in the window; or it is known why they end, for good,
-- and how much stands behind them is counted alone
abbrev pub Waits : Origin → List Record → List ℕ → WindowPass → Option Why → Type 0
Waits o rs rest f None = drop f.place f.window.items ≡ rest
Waits o rs rest f (Some why) =
    IsWhy o.version (run o.base rs) (last_of o.link rs) rest (why_of why)
    × (stays (why_of why) ≡ true) × (f.used + length rest ≡ f.total)

-- Of the bytes x, which come behind the origin, the frames of these records are passed, and the
-- judge stands behind them. The window begins with a header, and before the place in it stand the
-- last 32 bytes of these frames
pub record StandsAt (o : Origin) (x : List ℕ) (rs : List Record) (rest : List ℕ) (f : WindowPass)
    : Type 0 where
  pub begins : Begins o.version o.base o.link x rs rest
  pub judge : StandsIn o.version f.judge (run o.base rs)
  pub count : f.records ≡ length rs
  pub total : f.total ≡ o.ahead + length x
  pub short : f.total ≤ log_limit
  pub small : length f.window.items ≤ f.total
  pub header : HasHeader o.version f.window.items
  pub after : 40 ≤ f.place
  pub within : f.place ≤ length f.window.items
  pub link : before f.place f.window.items ≡ last_of o.link rs
  pub waits : Waits o rs rest f f.ended

-- it was fed these bytes
abbrev pub IsFed : Origin → List ℕ → WindowPass → Type 0
IsFed o x f = (rs : List Record) × (rest : List ℕ) × StandsAt o x rs rest f

-- it was fed some bytes
abbrev pub IsFedSome : WindowPass → Type 0
IsFedSome f = (o : Origin) × (x : List ℕ) × IsFed o x f

-- whatever f was fed, g was
abbrev pub KeepsFed : WindowPass → WindowPass → Type 0
KeepsFed f g = (o : Origin) (x : List ℕ) → IsFed o x f → IsFed o x g

-- for this reason no lawful record follows
abbrev pub HasEnd : Origin → List ℕ → WindowPass → fronts.Why → Type 0
HasEnd o x f why = (rs : List Record) × (rest : List ℕ) × StandsAt o x rs rest f
    × IsWhy o.version (run o.base rs) (last_of o.link rs) rest why

-- and so much of the log stands before that
abbrev pub IsStopped : Origin → List ℕ → WindowPass → fronts.Why → Type 0
IsStopped o x f why = (rs : List Record) × (rest : List ℕ) × StandsAt o x rs rest f
    × IsWhy o.version (run o.base rs) (last_of o.link rs) rest why
    × (f.used + length rest ≡ f.total)

-- the reason, if it stays
abbrev pub IsLasting : fronts.Why → Option Why → Type 0
IsLasting why None = ⊤
IsLasting why (Some w) = (why_of w ≡ why) × (stays why ≡ true)

-- From a place of the window on stand the frames of these bodies, up to an end, and there follows
-- so much
pub record AreFramed (window : List ℕ) (place : ℕ) (spans : List Span) (end : ℕ)
    (rest : frames.Rest) : Type 0 where
  pub fit : AreBodies (bodies_at window spans)
  pub are : spans ≡ spans_from place (bodies_at window spans)
  pub whole : drop place window
      ≡ frames.frames (before place window) (bodies_at window spans) ++ drop end window
  pub follows : IsRest (last (before place window) (bodies_at window spans)) (drop end window) rest
  pub after : 32 ≤ place
  pub within : place ≤ length window

-- why a piece is not taken: with it the log has so many bytes, or memory was refused
abbrev pub RefusesPiece : ℕ → Fault → Type 0
RefusesPiece total TooLong = log_limit < total
RefusesPiece total Resources = ⊤
RefusesPiece total e = ⊥

-- where a log of the version begins
abbrev pub log_origin : Version → Origin
log_origin version = record { version = version; base = empty; link = start version; ahead = 40 }

-- of the bytes x behind the origin these records are the front, and the judge stands behind them
pub record IsStoppedFront (o : Origin) (x : List ℕ) (f : JudgedFront) : Type 0 where
  pub records : List Record
  pub rest : List ℕ
  pub begins : Begins o.version o.base o.link x records rest
  pub ends : IsWhy o.version (run o.base records) (last_of o.link records) rest (why_of f.end.why)
  pub used : f.end.used + length rest ≡ o.ahead + length x
  pub short : o.ahead + length x ≤ log_limit
  pub count : f.end.records ≡ length records
  pub last : f.last ≡ last_of o.link records
  pub judge : StandsIn o.version f.judge (run o.base records)
