-- Files of records, by where these begin.
use Rattle.std.proofs.Common.{◌≡◌, ℕ, ◌+◌, ◌≤◌, List, [], ◌∷◌, ◌++◌, length, sym, ap, ◌∙◌}
use Rattle.std.proofs.Common.{append_assoc, arith}
use Rattle.std.proofs.lemmas.List.{length-append}
use Rattle.rq_model.specs.Records.{Record, Version, One, Two}
use Rattle.rq_model.specs.Spelling.{body_of}
use Rattle.rq_model.specs.Frames.{frame, frames_of, start}
use Rattle.rq_model.specs.States.{empty}
use Rattle.rq_model.specs.Machine.{run}
use Rattle.rq_model.specs.WellFormed.{IsWellFormed}
use Rattle.rq_model.specs.StateSpelling.{Fits, IsDeepFor, SpellsCarried, carried_next, state_bytes}
use Rattle.rq_model.specs.Laws.{EmptyIsWellFormed, RunsAreWellFormed}
use Rattle.rq_model.specs.Appending.{MayFollow, FitsCheckpoint}
use Rattle.rq_model.proofs.Runs.{frame_long}
use Rattle.rq_model.proofs.Longest.{frames_of_join}
use Rattle.rq_model.proofs.Restarts.{run_join, spelt_after}
use Rattle.rq_model.proofs.StateCodes.{short_is_counted}
use Rattle.rq_live.specs.Starts.{Start, Plain, Carried, rules_of, base_of, link_of, bytes_ahead, file_of, state_reached}
use Rattle.rq_live.specs.Starts.{last_behind, AreBegun}

-- a file with more records
pub file_joins : (from : Start) (rs xs : List Record)
    → file_of from (rs ++ xs) ≡ file_of from rs ++ frames_of (last_behind from rs) xs
file_joins from rs xs =
    ap (λ (b : List ℕ). bytes_ahead from ++ b) (frames_of_join (link_of from) rs xs)
    ∙ sym (append_assoc (bytes_ahead from) (frames_of (link_of from) rs) (frames_of (last_behind from rs) xs))

-- one record more
pub one_longer : (from : Start) (rs : List Record) (r : Record)
    → length (file_of from (rs ++ r ∷ [])) ≡ length (file_of from rs) + (36 + length (body_of r))
one_longer from rs r =
    let f = frame (last_behind from rs) (body_of r) in
    omega (
      arith,
      ap length (file_joins from rs (r ∷ [])),
      length-append (file_of from rs) (frames_of (last_behind from rs) (r ∷ [])),
      length-append f [],
      frame_long (last_behind from rs) (body_of r),
    )

-- the state behind more records
pub state_joins : (from : Start) (rs xs : List Record)
    → state_reached from (rs ++ xs) ≡ run (state_reached from rs) xs
state_joins from rs xs = run_join (base_of from) rs xs

-- records that are begun are so with more behind them
pub begun_more : (from : Start) (rs xs : List Record) → AreBegun from rs → AreBegun from (rs ++ xs)
begun_more (Plain version) rs xs h = tt
begun_more (Carried version link s) rs xs h =
    (h.0, h.1, h.2 ++ xs, ap (λ (l : List Record). l ++ xs) h.3)

fits_empty : Fits empty
fits_empty = record {
  greatest = omega arith;
  definitions = tt;
  registrants = tt;
  elements = tt;
  notes = tt;
}

deep_empty : (version : Version) → IsDeepFor version empty
deep_empty One = tt
deep_empty Two = tt

-- the state before the first record is well formed
pub well_based : EmptyIsWellFormed → (from : Start) (rs : List Record) → AreBegun from rs → IsWellFormed (base_of from)
well_based start (Plain version) rs h = start
well_based start (Carried version link s) rs h = h.1.keeps

-- and so is the one behind the records
pub well_behind : EmptyIsWellFormed → RunsAreWellFormed → (from : Start) (rs : List Record) → AreBegun from rs
    → MayFollow (rules_of from) (base_of from) rs → IsWellFormed (state_reached from rs)
well_behind start runs from rs h may =
    runs (rules_of from) (base_of from) rs (well_based start from rs h) may.lawful

-- which the checkpoint of a carried file spells, if it numbers few enough records and is short
pub spelt_behind : EmptyIsWellFormed → (from : Start) (rs : List Record) → AreBegun from rs
    → MayFollow (rules_of from) (base_of from) rs → (state_reached from rs).next ≤ carried_next
    → FitsCheckpoint (state_reached from rs)
    → SpellsCarried (rules_of from) (state_reached from rs) (state_bytes (state_reached from rs))
spelt_behind start (Plain version) rs h may few fits =
    spelt_after carried_next version empty rs start fits_empty (deep_empty version) may few
    (short_is_counted (run empty rs) (omega (arith, few)) (omega (arith, fits)))
spelt_behind start (Carried version link s) rs h may few fits =
    spelt_after carried_next version s rs h.1.keeps h.1.fits h.1.deep may few
    (short_is_counted (run s rs) (omega (arith, few)) (omega (arith, fits)))
