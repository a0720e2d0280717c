-- What a judge knows.
use Rattle.std.specs.Prelude.{ℕ, ◌≡◌}
use Rattle.std.specs.Ordering.{nat_cmp}
use Rattle.std.specs.BTreeSet as ordered
use Rattle.rq_model.specs.Records.{Version}
use Rattle.rq_model.specs.States.{State}
use Rattle.rq_model.specs.Machine.{is_open}
use Rattle.rq_record.specs.Views.{version_of}
use Rattle.rq_catalog.specs.declared.judge.Judge.{Judge}
use Rattle.rq_catalog.specs.Grounds.{AreGroundsOf}

-- it judges by the rules of the version what follows the state
pub record StandsIn (version : Version) (j : Judge) (s : State) : Type 0 where
  pub rules : version_of j.version ≡ version
  pub knows : AreGroundsOf j.grounds s
  pub units : (u : ℕ) → ordered.contains nat_cmp j.units u ≡ is_open s u

-- whatever state j stands at, k stands at it too
abbrev pub KeepsStanding : Judge → Judge → Type 0
KeepsStanding j k = (version : Version) (s : State) → StandsIn version j s → StandsIn version k s
