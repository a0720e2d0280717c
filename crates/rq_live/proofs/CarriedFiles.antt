-- Carried files, as they are read.
use Rattle.std.proofs.Common.{◌≡◌, ℕ, ◌+◌, ◌≤◌, List, [], ◌∷◌, ◌++◌, length, take, drop, refl, sym, ap, subst, ◌∙◌}
use Rattle.std.proofs.Common.{append_assoc, arith}
use Rattle.std.proofs.lemmas.List.{length-append, append-nil, drop_at, take_at}
use Rattle.rq_model.specs.Records.{Record, Version, One, Two}
use Rattle.rq_model.specs.Spelling.{body_of}
use Rattle.rq_model.specs.Frames.{log_limit, frame, frames_of, digest, header, before, Whole}
use Rattle.rq_model.specs.Frames.{HasHeader, HasRightFrame, body_in}
use Rattle.rq_model.specs.States.{State}
use Rattle.rq_model.specs.Machine.{run}
use Rattle.rq_model.specs.StateSpelling.{carried_next, state_bytes, SpellsCarried}
use Rattle.rq_model.specs.LogLaws.{FrontStops, FrameIsRight}
use Rattle.rq_model.specs.Fronts.{IsLongest, Ends, Restarted}
use Rattle.rq_model.specs.Appending.{MayFollow}
use Rattle.rq_model.specs.Carrying.{IsCarriedFront, IsCarriedRestart, LaterSaysTheSame, as_log, carried_at}
use Rattle.rq_model.specs.Carrying.{carried_header, carried_magic}
use Rattle.rq_model.proofs.Runs.{length-sha256}
use Rattle.rq_model.proofs.RecordReaders.{body_fits}
use Rattle.rq_model.proofs.Restarts.{header_long}
use Rattle.rq_live.specs.Starts.{Carried, file_of, checkpoint_in, AreBegun}

pub carried_header_long : (version : Version) → length (carried_header version) ≡ 40
carried_header_long One = omega (arith, length-sha256 (carried_magic One))
carried_header_long Two = omega (arith, length-sha256 (carried_magic Two))

-- a carried file of these bytes behind its link is read as the log of these
pub reads_as : (version : Version) (link bytes : List ℕ)
    → as_log version ((carried_header version ++ link) ++ bytes) ≡ header version ++ (link ++ bytes)
reads_as version link bytes =
    ap (λ (b : List ℕ). header version ++ drop 40 b) (append_assoc (carried_header version) link bytes)
    ∙ ap (λ (b : List ℕ). header version ++ b)
    (drop_at (carried_header version) (link ++ bytes) 40 (carried_header_long version))

pub reads_headed : (version : Version) (link bytes : List ℕ) → HasHeader version (header version ++ (link ++ bytes))
reads_headed version link bytes = take_at (header version) (link ++ bytes) 40 (header_long version)

pub reads_linked : (version : Version) (link bytes : List ℕ) → length link ≡ 32
    → before carried_at (header version ++ (link ++ bytes)) ≡ link
reads_linked version link bytes long =
    ap (take 32) (drop_at (header version) (link ++ bytes) 40 (header_long version)) ∙ take_at link bytes 32 long

pub reads_behind : (version : Version) (link bytes : List ℕ) → length link ≡ 32
    → drop carried_at (header version ++ (link ++ bytes)) ≡ bytes
reads_behind version link bytes long =
    ap (drop 72) (sym (append_assoc (header version) link bytes))
    ∙ drop_at (header version ++ link) bytes 72
    (omega (arith, length-append (header version) link, header_long version, long))

-- how long such a file is, and the log as which it is read
pub file_long : (version : Version) (link : List ℕ) (s : State) (rs : List Record) → length link ≡ 32
    → length (file_of (Carried version link s) rs) ≡ 72 + length (frames_of link rs)
file_long version link s rs long = omega (
  arith,
  length-append (carried_header version ++ link) (frames_of link rs),
  length-append (carried_header version) link,
  carried_header_long version,
  long,
)

pub reads_long : (version : Version) (link bytes : List ℕ) → length link ≡ 32
    → length (header version ++ (link ++ bytes)) ≡ 72 + length bytes
reads_long version link bytes long = omega (
  arith,
  length-append (header version) (link ++ bytes),
  length-append link bytes,
  header_long version,
  long,
)

-- a carried file that begins with the checkpoint of its state has the front of all its records
pub carried_front : FrontStops → FrameIsRight → (version : Version) (link : List ℕ) (s : State) (after : List Record)
    → length link ≡ 32 → SpellsCarried version s (state_bytes s) → MayFollow version s (checkpoint_in s ∷ after)
    → length (file_of (Carried version link s) (checkpoint_in s ∷ after)) ≤ log_limit
    → IsCarriedFront (as_log version (file_of (Carried version link s) (checkpoint_in s ∷ after))) carried_at version s
    (state_bytes s) after []
carried_front stops right version link s after long spells may short =
    let r = checkpoint_in s in
    let rs : List Record = r ∷ after in
    let bytes = frames_of link rs in
    let log = header version ++ (link ++ bytes) in
    let body = body_of r in
    let first = right link body (frames_of (digest link body) after) (body_fits version r may.records.0) in
    let is : bytes ≡ frame link body ++ frames_of (digest link body) after = refl in
    let linked = reads_linked version link bytes long in
    let behind = reads_behind version link bytes long in
    let all : IsLongest version s link bytes rs [] = stops version s link bytes [] rs (Ends Whole) (record {
      records = may.records;
      lawful = may.lawful;
      whole = sym (append-nil bytes);
    }) refl in
    let framed : HasRightFrame (before carried_at log) (drop carried_at log) =
    subst (λ (p : List ℕ). HasRightFrame p (drop carried_at log)) (sym linked)
    (subst (HasRightFrame link) (sym behind) first.0) in
    let held : body_in (drop carried_at log) ≡ 9 ∷ state_bytes s = ap body_in behind ∙ first.1 in
    let longest : IsLongest version s (before carried_at log) (drop carried_at log) rs [] =
    subst (λ (p : List ℕ). IsLongest version s p (drop carried_at log) rs []) (sym linked)
    (subst (λ (x : List ℕ). IsLongest version s link x rs []) (sym behind) all) in
    subst (λ (b : List ℕ). IsCarriedFront b carried_at version s (state_bytes s) after [])
    (sym (reads_as version link bytes)) (record {
      short = omega (arith, short, file_long version link s rs long, reads_long version link bytes long);
      header = reads_headed version link bytes;
      checkpoint = record { past_header = omega arith; frame = framed; body = held };
      spells = spells;
      front = longest;
    })

-- a later checkpoint of the state there says the same as the first one
pub says_the_same : FrontStops → FrameIsRight → LaterSaysTheSame → (version : Version) (link : List ℕ) (s : State)
    (rs : List Record) (offset : ℕ) → AreBegun (Carried version link s) rs
    → MayFollow version s (rs ++ checkpoint_in (run s rs) ∷ [])
    → length (file_of (Carried version link s) (rs ++ checkpoint_in (run s rs) ∷ [])) ≤ log_limit
    → (run s rs).next ≤ carried_next → offset ≡ length (file_of (Carried version link s) rs) → (r : Restarted)
    → IsCarriedRestart (as_log version (file_of (Carried version link s) (rs ++ checkpoint_in (run s rs) ∷ [])))
    carried_at r
    → IsCarriedRestart (as_log version (file_of (Carried version link s) (rs ++ checkpoint_in (run s rs) ∷ []))) offset
    r
says_the_same stops right later version link s rs offset begun may short few is r restart =
    let (long, spells, after, are) = begun in
    let Says : List Record → Type 0 = λ (l : List Record). MayFollow version s (l ++ checkpoint_in (run s l) ∷ [])
    → length (file_of (Carried version link s) (l ++ checkpoint_in (run s l) ∷ [])) ≤ log_limit
    → (run s l).next ≤ carried_next → offset ≡ length (file_of (Carried version link s) l)
    → IsCarriedRestart (as_log version (file_of (Carried version link s) (l ++ checkpoint_in (run s l) ∷ [])))
    carried_at r
    → IsCarriedRestart (as_log version (file_of (Carried version link s) (l ++ checkpoint_in (run s l) ∷ []))) offset
    r in
    (subst Says (sym are) (λ may short few is restart.
    let l : List Record = checkpoint_in s ∷ after in
    let again = checkpoint_in (run s l) in
    let bytes = frames_of link (l ++ again ∷ []) in
    let log = as_log version (file_of (Carried version link s) (l ++ again ∷ [])) in
    let linked : before carried_at log ≡ link =
    ap (before carried_at) (reads_as version link bytes) ∙ reads_linked version link bytes long in
    let place : carried_at + length (frames_of (before carried_at log) l) ≡ offset =
    ap (λ (p : List ℕ). carried_at + length (frames_of p l)) linked ∙ sym (file_long version link s l long) ∙ sym is in
    let front = carried_front stops right version link s (after ++ again ∷ []) long spells may short in
    let x = later carried_next log carried_at version s (state_bytes s) after (state_bytes (run s l)) [] [] r
    (omega arith)
    front refl few restart in
    subst (λ (n : ℕ). IsCarriedRestart log n r) place x.1)) may short few is restart
