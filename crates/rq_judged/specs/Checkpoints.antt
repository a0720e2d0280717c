-- The checkpoint that a chain begins with.
use Rattle.std.specs.Prelude.{◌==◌, ℕ, List, [], ◌∷◌, Option, Some, None, if◌then◌else◌, ◌&&◌}
use Rattle.std.specs.Prelude.{nat_le, max, Result, Ok, Err}
use Rattle.rq_model.specs.Frames.{HasHeader}
use Rattle.rq_model.specs.StateSpelling.{SpellsUpTo}
use Rattle.rq_model.specs.Checkpoints.{IsCheckpointAt}
use Rattle.rq_record.specs.declared.fault.Fault.{Fault}
use Rattle.rq_record.specs.Views.{version_of}
use Rattle.rq_judged.specs.declared.checkpoint.Begun.{Begun}
use Rattle.rq_judged.specs.FrontEnds.{IsChain}
use Rattle.rq_judged.specs.Refusals.{RefusedUpTo}

-- what stands behind the kind of a checkpoint's body
abbrev pub kept_of : List ℕ → Option (List ℕ)
kept_of [] = None
kept_of (kind ∷ kept) = if kind == 9 then Some kept else None

-- so, of the first of these bodies
abbrev pub kept_in : List (List ℕ) → Option (List ℕ)
kept_in [] = None
kept_in (body ∷ bodies) = kept_of body

-- the version of the log, the chain from a checkpoint on, and the state that it spells, whose next
-- record number is at most this
pub record IsBegun (most : ℕ) (b : List ℕ) (offset : ℕ) (x : Begun) : Type 0 where
  pub header : HasHeader (version_of x.version) b
  pub chain : IsChain b offset x.found
  pub kept : List ℕ
  pub checkpoint : IsCheckpointAt b offset kept
  pub spells : SpellsUpTo most (version_of x.version) x.state kept

-- that, or why there is none
abbrev pub BeginsAt : ℕ → List ℕ → ℕ → Result Begun Fault → Type 0
BeginsAt most b offset (Ok x) = IsBegun most b offset x
BeginsAt most b offset (Err e) = RefusedUpTo most b offset e

-- the offset, where it lies behind the header and in the bytes; else one where no frame stands
abbrev pub chain_start : ℕ → ℕ → ℕ
chain_start offset len = if nat_le 40 offset && nat_le offset len then offset else max len 40
