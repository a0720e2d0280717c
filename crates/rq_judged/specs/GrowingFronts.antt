-- The front of a log that grows.
use Rattle.std.specs.Prelude.{◌≡◌, ◌<◌, ◌≤◌, ⊤, ℕ, List, ◌++◌, length}
use Rattle.rq_model.specs.Records.{Version}
use Rattle.rq_model.specs.Frames.{log_limit, header}
use Rattle.rq_record.specs.declared.fault.Fault.{Fault}
use Rattle.rq_record.specs.declared.fault.Fault.TheVariants.{NotALog, TooLong, Resources}
use Rattle.rq_front.specs.Chains.{IsHeaded}
use Rattle.rq_judged.specs.declared.growing_front.GrowingFront.{GrowingFront}
use Rattle.rq_judged.specs.declared.growing_front.Stage.{Stage}
use Rattle.rq_judged.specs.declared.growing_front.Stage.TheVariants.{Header, Frames}
use Rattle.rq_judged.specs.Windows.{IsFed, log_origin}

-- the bytes b, of which there are fewer than a header has; or a header, and what is followed behind
-- it
abbrev pub IsStageOf : List ℕ → Stage → Type 0
IsStageOf b (Header first) = (first.items ≡ b) × (length b < 40)
IsStageOf b (Frames pass) = (version : Version) × (x : List ℕ) × (b ≡ header version ++ x)
    × IsFed (log_origin version) x pass

-- the front goes along with a log of which these bytes have come
abbrev pub GoesAlong : List ℕ → GrowingFront → Type 0
GoesAlong b f = IsStageOf b f.stage

-- why bytes do not come, with which there were these: they are more than a log may have, or no log
-- begins so; or memory was refused
abbrev pub RefusesMore : List ℕ → Fault → Type 0
RefusesMore b TooLong = log_limit < length b
RefusesMore b NotALog = (40 ≤ length b) × (IsHeaded b → ⊥)
RefusesMore b Resources = ⊤
RefusesMore b e = ⊥
