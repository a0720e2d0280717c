-- Where a framer stands, and what it makes of a body.
use Rattle.std.specs.Prelude.{◌≡◌, ◌+◌, ℕ, List, ◌++◌, length}
use Rattle.rq_model.specs.Records.{Record, Version}
use Rattle.rq_model.specs.Frames.{start, digest, frame, frames_of, last_of, before}
use Rattle.rq_model.specs.States.{State, empty}
use Rattle.rq_front.specs.declared.framer.Framer.{Framer}

-- where the first of some records is appended: the version, the state there, the 32 bytes before
-- its frame, and how many bytes stand ahead of it
pub record Place : Type 0 where
  pub version : Version
  pub state : State
  pub link : List ℕ
  pub ahead : ℕ

-- behind the header of a log
abbrev pub behind_header : Version → Place
behind_header version =
    record { version = version; state = empty; link = start version; ahead = 40 }

-- before the checkpoint at an offset of b, in the state that it spells
abbrev pub at_checkpoint : Version → State → List ℕ → ℕ → Place
at_checkpoint version s b offset =
    record { version = version; state = s; link = before offset b; ahead = offset }

-- how many bytes there are with the frames of these records
abbrev pub length_with : Place → List Record → ℕ
length_with at rs = at.ahead + length (frames_of at.link rs)

-- it stands behind the frames of these records
pub record IsFramerAt (at : Place) (rs : List Record) (f : Framer) : Type 0 where
  pub last : f.last ≡ last_of at.link rs
  pub len : f.len ≡ length_with at rs

-- it stands behind the frame of the body, and that is what came
pub record Frames (a b : Framer) (body old new : List ℕ) : Type 0 where
  pub last : b.last ≡ digest a.last body
  pub len : b.len ≡ a.len + (36 + length body)
  pub bytes : new ≡ old ++ frame a.last body
