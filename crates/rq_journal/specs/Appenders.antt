-- Where an appender stands, what it takes there, and what it does not.
use Rattle.std.specs.Prelude.{◌≡◌, ◌≤◌, ◌<◌, ⊤, ℕ, false, List, [], ◌∷◌, ◌++◌, length}
use Rattle.rq_model.specs.Records.{Record, Version}
use Rattle.rq_model.specs.Spelling.{body_of, Spells}
use Rattle.rq_model.specs.Frames.{IsBodyLength, log_limit, frame, last_of}
use Rattle.rq_model.specs.States.{State}
use Rattle.rq_model.specs.Machine.{is_lawful, run, step}
use Rattle.rq_model.specs.StateSpelling.{carried_next}
use Rattle.rq_model.specs.Appending.{MayFollow}
use Rattle.rq_record.specs.Writing.{HasKind}
use Rattle.rq_front.specs.Framers.{Place, IsFramerAt, length_with}
use Rattle.rq_lawful.specs.declared.rules.Rule.{Rule}
use Rattle.rq_lawful.specs.Breaks.{Breaks}
use Rattle.rq_catalog.specs.declared.judge.Judge.{Judge}
use Rattle.rq_catalog.specs.Judges.{StandsIn}
use Rattle.rq_journal.specs.declared.appender.Appender.{Appender}
use Rattle.rq_journal.specs.declared.appender.NotTaken.{NotTaken}
use Rattle.rq_journal.specs.declared.appender.NotTaken.TheVariants.{Ended, Unlawful, Full, Resources}

-- the appender stands behind the frames of these records, which may follow there, in a log that is
-- no longer than one may be; and it knows the number of the next one
pub record IsAppenderAt (at : Place) (rs : List Record) (a : Appender) : Type 0 where
  pub may : MayFollow at.version at.state rs
  pub short : length_with at rs ≤ log_limit
  pub judge : StandsIn at.version a.judge (run at.state rs)
  pub framer : IsFramerAt at rs a.framer
  pub number : a.next ≡ (run at.state rs).next

-- the body is that of the record, in each version that has its kind
pub record IsSpelled (r : Record) (body : List ℕ) : Type 0 where
  pub bytes : body ≡ body_of r
  pub fits : IsBodyLength (length body)
  pub spells : (version : Version) → HasKind version r → Spells version r (body_of r)

-- the one is lawful where the other is, and breaks no other rule; and a judge stands behind both alike
pub record IsJudgedAs (a r : Record) : Type 0 where
  pub lawful : (version : Version) (s : State) → is_lawful version s a ≡ is_lawful version s r
  pub breaks : (version : Version) (s : State) (rule : Rule) → Breaks version s a rule
      → Breaks version s r rule
  pub stands : (version : Version) (j : Judge) (s : State) → StandsIn version j (step s a)
      → StandsIn version j (step s r)

-- if a stands behind some records, b stands behind the next one too, and its frame is what came
abbrev pub AppendsOne : Appender → Appender → Record → List ℕ → List ℕ → Type 0
AppendsOne a b r old new = (at : Place) (rs : List Record) → IsAppenderAt at rs a
    → IsAppenderAt at (rs ++ r ∷ []) b × (new ≡ old ++ frame (last_of at.link rs) (body_of r))

-- b stands at each place where a stands
abbrev pub KeepsPlace : Appender → Appender → Type 0
KeepsPlace a b = (at : Place) (rs : List Record) → IsAppenderAt at rs a → IsAppenderAt at rs b

-- why a record is not taken behind these: so many are numbered that no state behind it is spelled; or
-- it breaks a rule there, and there would be room; or there is none; or memory was refused
abbrev pub IsRefused : Place → List Record → Record → NotTaken → Type 0
IsRefused at rs r Ended = carried_next ≤ (run at.state rs).next
IsRefused at rs r (Unlawful rule) = Breaks at.version (run at.state rs) r rule
    × (is_lawful at.version (run at.state rs) r ≡ false) × (length_with at (rs ++ r ∷ []) ≤ log_limit)
IsRefused at rs r Full = log_limit < length_with at (rs ++ r ∷ [])
IsRefused at rs r Resources = ⊤

-- so it is refused at each place where a stands
abbrev pub Refuses : Appender → Record → NotTaken → Type 0
Refuses a r why = (at : Place) (rs : List Record) → IsAppenderAt at rs a → IsRefused at rs r why
