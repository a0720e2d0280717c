-- The log in version 2.
use Rattle.std.specs.Prelude.{◌≡◌, ℕ, zero, suc, ⊤, ◌+◌, ◌≤◌, List, [], ◌∷◌, length, drop, Result, Ok, Err}
use Rattle.std.specs.Global.{Vec}
use Rattle.rq_model.specs.Records.{Record}
use Rattle.rq_model.specs.Frames.{log_limit, HasFrame, body_in, stated}
use Rattle.rq_model.specs.Fronts.{IsFront}
use Rattle.rq_model.specs.Upgrading.{IsUpgraded}
use Rattle.rq_record.specs.Views.{version_of}
use Rattle.rq_record.specs.declared.fault.Fault.{Fault}
use Rattle.rq_front.specs.Chains.{Refused, IsLog}
use Rattle.rq_restart.specs.declared.upgrades.Extent.{Extent}

-- so many frames stand one after the other, their digests aside
abbrev pub HaveFrames : ℕ → List ℕ → Type 0
HaveFrames zero bytes = ⊤
HaveFrames (suc n) bytes = HasFrame bytes × HaveFrames n (drop (36 + stated bytes) bytes)

-- and their bodies
abbrev pub bodies_in : ℕ → List ℕ → List (List ℕ)
bodies_in zero bytes = []
bodies_in (suc n) bytes = body_in bytes ∷ bodies_in n (drop (36 + stated bytes) bytes)

-- the version of b, where its front ends, and how many records that has
pub record IsExtent (b : List ℕ) (e : Extent) : Type 0 where
  pub log : IsLog b
  pub records : List Record
  pub front : IsFront b (version_of e.version) records (drop e.end b)
  pub within : e.end ≤ length b
  pub count : e.count ≡ length records

-- b in version 2, or why it is not there
abbrev pub Upgrades : List ℕ → Result (Vec ℕ) Fault → Type 0
Upgrades b (Ok v) = IsLog b × IsUpgraded b v.items × (length v.items ≤ log_limit)
Upgrades b (Err e) = Refused b e
