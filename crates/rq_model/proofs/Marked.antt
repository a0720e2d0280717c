-- A checkpoint that is appended.
use Rattle.std.proofs.Common.{◌≡◌, ℕ, ◌+◌, ◌≤◌, List, [], ◌∷◌, ◌++◌, length, map, refl, sym, ap, subst, ◌∙◌, arith}
use Rattle.rq_model.specs.Records.{Record, Abort, Checkpoint, Version}
use Rattle.rq_model.specs.Frames.{log_limit, Whole}
use Rattle.rq_model.specs.States.{Definition, State, empty}
use Rattle.rq_model.specs.Machine.{run, step, final}
use Rattle.rq_model.specs.StateSpelling.{state_bytes}
use Rattle.rq_model.specs.Fronts.{IsFront, Ends, Restarted, restarted, IsRestart}
use Rattle.rq_model.specs.Reports.{AreQueueLines, IsQueueText}
use Rattle.rq_model.specs.Appending.{MayFollow, with_checkpoint, CheckpointIsTrue, CheckpointSaysTheSame}
use Rattle.rq_model.proofs.Longest.{front_ends}
use Rattle.rq_model.proofs.Restarts.{run_join}
use Rattle.rq_model.proofs.Found.{front_restart, restart_lines, lines_report}
use Rattle.rq_model.proofs.Appended.{appended_is_front}

marked_front : (b : List ℕ) (version : Version) (records : List Record) (rest : List ℕ) → IsFront b version records rest
    → length (state_bytes (run empty records)) ≤ 268435455 → length (with_checkpoint version records) ≤ log_limit
    → IsFront (with_checkpoint version records) version
    (records ++ Checkpoint (state_bytes (run empty records)) ∷ []) []
marked_front b version records rest front small short =
    let xs : List Record = Checkpoint (state_bytes (run empty records)) ∷ [] in
    let new : MayFollow version (run empty records) xs = record { records = (small, tt); lawful = refl } in
    appended_is_front b version records rest xs front new short

pub checkpoint_is_true : CheckpointIsTrue
checkpoint_is_true b version records rest front small short = (
  records,
  state_bytes (run empty records),
  record {
    version = version;
    after = [];
    rest = [];
    front = marked_front b version records rest front small short;
    there = refl;
  },
  refl,
)

-- The number of the next record tells nothing about the queues.

aborts_bumped : (us : List ℕ) (s : State) (n : ℕ) → run (record s { next = n }) (map Abort us)
    ≡ record (run s (map Abort us)) { next = n + length us }
aborts_bumped [] s n = ap (λ (k : ℕ). record s { next = k }) (omega arith)
aborts_bumped (u ∷ us) s n =
    aborts_bumped us (step s (Abort u)) (n + 1)
    ∙ ap (λ (k : ℕ). record (run (step s (Abort u)) (map Abort us)) { next = k }) (omega arith)

lines_bumped : (queue : ℕ) (ds : List Definition) (s : State) (n : ℕ) (text : List ℕ)
    → AreQueueLines queue ds s text → AreQueueLines queue ds (record s { next = n }) text
lines_bumped queue [] s n text h = h
lines_bumped queue (d ∷ ds) s n text (listing, others, is, more, e) =
    (listing, others, is, lines_bumped (queue + 1) ds s n others more, e)

pub checkpoint_says_the_same : CheckpointSaysTheSame
checkpoint_says_the_same b version records rest fits front small short =
    let s = run empty records in
    let kept = state_bytes s in
    let c = with_checkpoint version records in
    let (r, restart) = front_restart b version records rest fits front in
    let (queues, told) = restart_lines b r restart in
    let ended = front_ends b version records rest r front restart in
    let t = run empty (records ++ Checkpoint kept ∷ []) in
    let again = restarted t 0 (length c) (Ends Whole) in
    let new : IsRestart c again = record {
      version = version;
      records = records ++ Checkpoint kept ∷ [];
      rest = [];
      why = Ends Whole;
      front = marked_front b version records rest front small short;
      ends = refl;
      answer = refl;
    } in
    let after : t ≡ step s (Checkpoint kept) = run_join empty records (Checkpoint kept ∷ []) in
    let finals : final t ≡ record (final s) { next = s.next + 1 + length s.units } =
    ap final after ∙ aborts_bumped s.units s (s.next + 1) in
    let lines_of_s : IsQueueText (final s) queues =
    subst (λ (z : Restarted). IsQueueText z.state queues) ended.answer told.lines in
    let bumped_lines = lines_bumped 0 (final s).definitions (final s) (s.next + 1 + length s.units) queues lines_of_s in
    let lines : IsQueueText again.state queues =
    subst (λ (z : State). IsQueueText z queues) (sym finals) bumped_lines in
    (r, again, queues, told, lines_report c again queues new lines)
