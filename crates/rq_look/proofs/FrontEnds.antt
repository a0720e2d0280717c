-- Where the front of a log ends.
use Rattle.std.proofs.Common.{ℕ, ◌≤◌, List, length, Option, Some, None, ap, arith}
use Rattle.std.proofs.lemmas.List.{length-append, length-drop}
use Rattle.rq_model.specs.Frames.{before, header, start, frames_of, log_of}
use Rattle.rq_model.specs.Fronts.{IsRestart, Restarted}
use Rattle.rq_model.proofs.Longest.{front_whole, used_long}
use Rattle.rq_model.proofs.Restarts.{header_long}
use Rattle.rq_judged.specs.FrontEnds.{IsEndOf}
use Rattle.rq_found.specs.Ends.{IsRestartFrom}
use Rattle.rq_found.specs.declared.ends.End.{End}
use Rattle.rq_look.specs.Findings.{EndsWithin}

-- the first `used` bytes hold the header
pub used_fits : (b : List ℕ) (r : Restarted) → IsRestart b r → (40 ≤ r.used) × (r.used ≤ length b)
used_fits b r h =
    let long = used_long b h.version h.records h.rest r h.front h in
    let log = length-append (header h.version) (frames_of (start h.version) h.records) in (
      omega (arith, long, log, header_long h.version),
      omega (
        arith,
        long,
        ap length (front_whole b h.version h.records h.rest h.front),
        length-append (log_of h.version h.records) h.rest,
      ),
    )

-- so do those of a restart from a checkpoint, and they are of the log
pub used_within : (at : Option ℕ) (b : List ℕ) (r : Restarted) → IsRestartFrom at b r
    → (32 ≤ r.used) × (r.used ≤ length b)
used_within None b r is = let fits = used_fits b r is in (omega (arith, fits.0), fits.1)
used_within (Some at) b r is =
    let used = ap (λ (x : Restarted). x.used) is.answer in
    let room = is.checkpoint.frame.whole.room in
    let whole = ap length is.front.begins.whole in
    let parts = length-append (frames_of (before at b) is.records) is.rest in
    let low = is.checkpoint.past_header in (
      omega (arith, used, room, whole, parts, low, length-drop at b),
      omega (arith, used),
    )

-- so does the front whose end is told
pub ends_within : (at : Option ℕ) (b : List ℕ) (r : Restarted) (end : End) → IsRestartFrom at b r
    → IsEndOf r end.front → EndsWithin b end
ends_within at b r end is e =
    let fits = used_within at b r is in (omega (arith, fits.0, e.used), omega (arith, fits.1, e.used))
