-- How far a pass over a log has come.
use Rattle.std.specs.Prelude.{◌≡◌, ◌≤◌, ◌+◌, ℕ, Bool, true, false, nat_lt, List, [], ◌∷◌, ◌++◌, length, take, drop}
use Rattle.std.specs.List.{AllByRecursion}
use Rattle.rq_model.specs.Records.{Record, Version}
use Rattle.rq_model.specs.Spelling.{IsRecord, Spells}
use Rattle.rq_model.specs.Frames as frames
use Rattle.rq_model.specs.Frames.{bodies_of, last_of, log_of, start}
use Rattle.rq_model.specs.States.{State, empty}
use Rattle.rq_model.specs.Machine.{is_lawful, all_lawful, step, run}
use Rattle.rq_model.specs.Fronts.{IsWhy, Why, Ends, Form, Law}
use Rattle.rq_catalog.specs.declared.judge.Judge.{Judge}
use Rattle.rq_catalog.specs.Judges.{StandsIn}
use Rattle.rq_judged.specs.declared.front_pass.Verdict.{Verdict}
use Rattle.rq_judged.specs.declared.front_pass.Verdict.TheVariants.{Lawful, Unlawful, NoRecord}
use Rattle.rq_judged.specs.declared.front_pass.Reach.{Reach}
use Rattle.rq_judged.specs.declared.front_pass.PassSoFar.{PassSoFar}

-- what a judge that stood in the state makes of a body; only behind a lawful record it stands
-- elsewhere
abbrev pub IsVerdict : Version → State → List ℕ → Judge → Verdict → Type 0
IsVerdict version s body j Lawful = (r : Record) × Spells version r body
    × (is_lawful version s r ≡ true) × StandsIn version j (step s r)
IsVerdict version s body j Unlawful = StandsIn version j s
    × (r : Record) × Spells version r body × (is_lawful version s r ≡ false)
IsVerdict version s body j NoRecord = StandsIn version j s
    × ((r : Record) → Spells version r body → ⊥)

-- nothing, or a body that spells a record which is not lawful, or one that spells none
abbrev pub StopsAt : Version → State → List (List ℕ) → Bool → Type 0
StopsAt version s [] unlawful = unlawful ≡ false
StopsAt version s (body ∷ left) true =
    (r : Record) × Spells version r body × (is_lawful version s r ≡ false)
StopsAt version s (body ∷ left) false = (r : Record) → Spells version r body → ⊥

-- the lawful records that the bodies spell, from a state on; the judge stands behind them
pub record AreJudged (version : Version) (s : State)
    (bodies : List (List ℕ)) (j : Judge) (reach : Reach) : Type 0 where
  pub kept : List Record
  pub left : List (List ℕ)
  pub records : AllByRecursion (IsRecord version) kept
  pub lawful : all_lawful version s kept ≡ true
  pub spelled : bodies ≡ bodies_of kept ++ left
  pub count : reach.lawful ≡ length kept
  pub stops : StopsAt version (run s kept) left (nat_lt reach.lawful reach.read)
  pub judge : StandsIn version j (run s kept)

-- frames of lawful records stand behind the header of b, and end at an offset
pub record IsPassed (version : Version) (b : List ℕ) (rs : List Record) (end : ℕ) : Type 0 where
  pub within : end ≤ length b
  pub few : 40 + length rs ≤ end
  pub records : AllByRecursion (IsRecord version) rs
  pub lawful : all_lawful version empty rs ≡ true
  pub whole : b ≡ log_of version rs ++ drop end b

-- the pass has come behind these records, and so has its judge
pub record HasPassed (version : Version) (b : List ℕ) (rs : List Record) (p : PassSoFar)
    : Type 0 where
  pub passed : IsPassed version b rs p.offset
  pub count : p.records ≡ length rs
  pub judge : StandsIn version p.judge (run empty rs)

-- it has come behind some
abbrev pub HasPassedSome : Version → List ℕ → PassSoFar → Type 0
HasPassedSome version b p = (rs : List Record) × HasPassed version b rs p

-- for this reason no lawful record follows in the first bytes of b
abbrev pub StopsIn : Version → List ℕ → ℕ → PassSoFar → Why → Type 0
StopsIn version b limit p why = (rs : List Record) × HasPassed version b rs p
    × IsWhy version (run empty rs) (last_of (start version) rs) (drop p.offset (take limit b)) why

-- more bytes do not take the reason away
abbrev pub stays : Why → Bool
stays (Ends frames.Whole) = false
stays (Ends frames.Cut) = false
stays (Ends frames.Length) = true
stays (Ends frames.Digest) = true
stays Form = true
stays Law = true
