-- What is put back in a log of which a frame is not right.
use Rattle.std.specs.Prelude.{◌≡◌, ◌⊎◌, ℕ, ◌+◌, ◌<◌, ◌≤◌, Bool, true, false, List, [], ◌∷◌, ◌++◌, All, length, take, drop, get_or, slice_set, ⊤}
use Rattle.rq_model.specs.Frames.{IsFrameRun, Rest, digest_in, stated}
use Rattle.rq_front.specs.Chains.{IsHeaded}
use Rattle.rq_behind.specs.Runs.{IsRightAt, frame_end}
use Rattle.rq_behind.specs.declared.changes.Change.{Change}
use Rattle.rq_behind.specs.declared.mending.Mending.{Mending}

-- the log with these bytes put in their places, one after the other
abbrev pub with_changes : List ℕ → List Change → List ℕ
with_changes log [] = log
with_changes log (c ∷ cs) = with_changes (slice_set log c.offset c.now) cs

-- the places rise, from an offset on. At each stood, in the log, what the change says, and something
-- else stands there now
abbrev pub AreTold : List ℕ → ℕ → List Change → Type 0
AreTold log from [] = ⊤
AreTold log from (c ∷ cs) = (from ≤ c.offset) × (c.offset < length log) × (c.was ≡ get_or log c.offset 0)
    × (c.was ≡ c.now → ⊥) × AreTold log (c.offset + 1) cs

-- where the digest of the frame at an offset begins, by its length
abbrev pub digest_place : List ℕ → ℕ → ℕ
digest_place b at = at + (4 + stated (drop at b))

-- the digest of the frame at p is taken over what stands at an offset; or that of a header, over which
-- the digest of the first frame is taken
abbrev pub Covers : List ℕ → ℕ → ℕ → Type 0
Covers b p offset = (p ≤ offset + 32) ⊎ ((p ≡ 40) × IsHeaded b)

-- a digest that stands as it stood in the log proves what stands now at an offset: that of the frame at
-- p, which is right and is taken over it
pub record IsProvedBy (log b : List ℕ) (p offset : ℕ) : Type 0 where
  pub right : IsRightAt b p
  pub covered : Covers b p offset
  pub before : offset < digest_place b p
  pub kept : digest_in (drop p b) ≡ take 32 (drop (digest_place b p) log)

-- each change is proved by the frame that it names
abbrev pub AreProved : List ℕ → List ℕ → List Change → Type 0
AreProved log b cs = All (λ c. IsProvedBy log b c.frame c.offset) cs

-- right frames stand in a row from an offset on, as long as they go, to an end
abbrev pub IsFrontEnd : List ℕ → ℕ → ℕ → Rest → Type 0
IsFrontEnd b from end rest = (bodies : List (List ℕ)) × IsFrameRun b from bodies end rest

-- How far it has come.

-- some bytes at an offset are these now
abbrev pub written : List ℕ → ℕ → List ℕ → List ℕ
written b offset now = take offset b ++ now ++ drop (offset + length now) b

-- the frame at p is right, ends there, and its digest is taken over n bytes from an offset on
pub record Proves (b : List ℕ) (p offset n end : ℕ) : Type 0 where
  pub right : IsRightAt b p
  pub covered : Covers b p offset
  pub within : offset + n ≤ digest_place b p
  pub ends : end ≡ frame_end b p

-- the log was changed so, from an offset on: up to another; behind that all stands as it stood
pub record IsChanged (log : List ℕ) (from : ℕ) (b : List ℕ) (cs : List Change) (at : ℕ) : Type 0 where
  pub same : b ≡ with_changes log cs
  pub told : (rest : List Change) → AreTold log at rest → AreTold log from (cs ++ rest)
  pub size : length b ≡ length log
  pub behind : drop at b ≡ drop at log

-- each change is proved by a frame that ends before an offset
abbrev pub AreProvedBefore : List ℕ → List ℕ → List Change → ℕ → Type 0
AreProvedBefore log b cs at = All (λ c. IsProvedBy log b c.frame c.offset × (frame_end b c.frame ≤ at)) cs

-- a log was mended up to an offset, and nothing before another was changed
pub record IsMended (log : List ℕ) (from : ℕ) (m : Mending) : Type 0 where
  pub changed : IsChanged log from m.bytes.items m.changes.items m.at
  pub proved : AreProvedBefore log m.bytes.items m.changes.items m.at
  pub within : m.at ≤ length log

-- what was mended stays so, and the place does not go back
pub record MendsOn (m n : Mending) : Type 0 where
  pub mended : (log : List ℕ) (from : ℕ) → IsMended log from m → IsMended log from n
  pub size : length n.bytes.items ≡ length m.bytes.items
  pub stays : m.at ≤ n.at
  pub within : m.at ≤ length m.bytes.items → n.at ≤ length n.bytes.items

-- something was put back, and the place goes on; or nothing, and it stays
pub record IsTried (m n : Mending) (found : Bool) : Type 0 where
  pub goes : MendsOn m n
  pub on : found ≡ true → m.at < n.at
  pub off : found ≡ false → n.at ≡ m.at

-- a log is to be mended whose frames begin at an offset: its header stands, and if it stood in the log
-- no byte is changed before the end of the front
pub record IsToMend (log : List ℕ) (from : ℕ) (m : Mending) : Type 0 where
  pub least : ℕ
  pub mended : IsMended log least m
  pub after : 40 ≤ m.at
  pub front : IsHeaded log → (rest : Rest) × IsFrontEnd log from least rest
