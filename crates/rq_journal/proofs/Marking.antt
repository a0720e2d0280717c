-- Units that are ended, and a checkpoint, among the frames that are gathered behind a front.
use Rattle.std.proofs.Common.{◌≡◌, ◌+◌, ◌-◌, ◌*◌, ◌/◌, ◌<◌, ◌≤◌, ℕ, List, [], ◌∷◌, ◌++◌, length, map, sym, ap, subst, ◌∙◌}
use Rattle.std.proofs.Common.{append_assoc, refl, inr, arith}
use Rattle.std.proofs.lemmas.List.{append-nil, length-append}
use Rattle.rq_model.specs.Records.{Record, Abort}
use Rattle.rq_model.specs.Spelling.{body_of}
use Rattle.rq_model.specs.Frames.{log_limit, log_of, digest, frame, frames_of, last_of}
use Rattle.rq_model.specs.LogLaws.{TrueSaysTheSame}
use Rattle.rq_model.specs.States.{State}
use Rattle.rq_model.specs.Machine.{run}
use Rattle.rq_model.specs.Fronts.{IsFront}
use Rattle.rq_model.specs.Appending.{AppendedIsFront, CheckpointIsTrue, CheckpointSaysTheSame, FitsCheckpoint, with_checkpoint}
use Rattle.rq_model.proofs.Runs.{frame_long}
use Rattle.rq_model.proofs.Longest.{frames_of_join, log_joins}
use Rattle.rq_model.proofs.Restarts.{run_join}
use Rattle.rq_front.specs.Framers.{Place, behind_header, length_with}
use Rattle.rq_journal.specs.Checkpoints.{IsCrowdedBy, IsMarked, Marks, MarksTruly, StaysUnmarked, checkpoint_in, unmarked}
use Rattle.rq_journal.specs.Growths.{GrowsBy, IsGrownAt, StopsGrowing}
use Rattle.rq_journal.specs.declared.appender.NotTaken.{NotTaken}
use Rattle.rq_journal.specs.declared.appender.NotTaken.TheVariants as untaken
use Rattle.rq_journal.specs.declared.checkpoints.NotMarked.{NotMarked}
use Rattle.rq_journal.specs.declared.growths.Growth.{Growth}
use Rattle.rq_journal.proofs.Openings.{log_long}
use Rattle.rq_journal.proofs.Taking.{later}

-- nothing more
pub grows_none : (a : Growth) → GrowsBy a a []
grows_none a at rs xs g = subst (λ (ys : List Record). IsGrownAt at rs ys a) (sym (append-nil xs)) g

-- one record more
pub grows_one_more : (a m b : Growth) (ys : List Record) (r : Record) → GrowsBy a m ys → GrowsBy m b (r ∷ [])
    → GrowsBy a b (ys ++ r ∷ [])
grows_one_more a m b ys r some one at rs xs g =
    subst (λ (zs : List Record). IsGrownAt at rs zs b) (append_assoc xs ys (r ∷ []))
    (one at rs (xs ++ ys) (some at rs xs g))

-- and the state behind it
pub runs_one_more : (s m t : State) (ys : List Record) (r : Record) → m ≡ run s ys → t ≡ run m (r ∷ [])
    → t ≡ run s (ys ++ r ∷ [])
runs_one_more s m t ys r some one = one ∙ ap (λ (z : State). run z (r ∷ [])) some ∙ sym (run_join s ys (r ∷ []))

-- how long it is with the ABORTs of units
aborts_long : (p : List ℕ) (units : List ℕ) → length (frames_of p (map Abort units)) ≡ 45 * length units
aborts_long p [] = omega arith
aborts_long p (unit ∷ units) =
    let q = digest p (body_of (Abort unit)) in
    omega (
      arith,
      aborts_long q units,
      length-append (frame p (body_of (Abort unit))) (frames_of q (map Abort units)),
      frame_long p (body_of (Abort unit)),
      nine unit,
    )
  where
    nine : (unit : ℕ) → length (body_of (Abort unit)) ≡ 9
    nine unit = refl

pub ends_long : (at : Place) (rs xs : List Record) (g : Growth) (units : List ℕ) → IsGrownAt at rs xs g
    → length_with at (rs ++ (xs ++ map Abort units)) ≡ g.appender.framer.len + 45 * length units
ends_long at rs xs g units h =
    let q = last_of at.link (rs ++ xs) in
    omega (
      arith,
      h.stands.framer.len,
      ap (length_with at) (sym (append_assoc rs xs (map Abort units))),
      ap length (frames_of_join at.link (rs ++ xs) (map Abort units)),
      length-append (frames_of at.link (rs ++ xs)) (frames_of q (map Abort units)),
      aborts_long q units,
    )

-- room for so many ABORTs in what is left of a log
pub no_room : (len count left : ℕ) → left ≡ log_limit - len → left / 45 < count → log_limit < len + 45 * count
no_room len count left is many = omega arith

-- why a record that is lawful is not taken
pub crowded : (a : Growth) (r : Record) (why : NotTaken) → StopsGrowing a r why → IsCrowdedBy a (r ∷ []) (unmarked why)
crowded a r untaken.Full h = λ at rs xs g.
    subst (λ (ys : List Record). log_limit < length_with at ys) (append_assoc rs xs (r ∷ [])) (h at rs xs g)
crowded a r untaken.Ended h = h
crowded a r (untaken.Unlawful rule) h = tt
crowded a r untaken.Resources h = tt

-- a checkpoint that was gathered
pub marks : (a b : Growth) (s : State) (offset : ℕ) → GrowsBy a b (checkpoint_in s ∷ []) → FitsCheckpoint s
    → offset ≡ a.appender.framer.len → Marks a b s offset
marks a b s offset grown fits is = record {
  grown = grown;
  fits = fits;
  begins = λ at rs xs g. is ∙ g.stands.framer.len;
}

-- is true
pub marks_truly : (a b : Growth) (s : State) (offset : ℕ) → AppendedIsFront → CheckpointIsTrue → CheckpointSaysTheSame
    → TrueSaysTheSame → Marks a b s offset → MarksTruly a b s offset
marks_truly a b s offset appended truth queues same m whole version rs xs rest front g here =
    let at = behind_header version in
    let all = rs ++ xs in
    let point = checkpoint_in s in
    let there = m.grown at rs xs g in
    let log : log_of version rs ++ b.frames.items ≡ log_of version (all ++ point ∷ []) =
    ap (λ (z : List ℕ). log_of version rs ++ z) there.frames ∙ sym (log_joins version rs (xs ++ point ∷ []))
    ∙ ap (log_of version) (sym (append_assoc rs xs (point ∷ []))) in
    let is : log_of version rs ++ b.frames.items ≡ with_checkpoint version all =
    log ∙ ap (λ (z : State). log_of version (all ++ checkpoint_in z ∷ [])) here in
    let short : length (with_checkpoint version all) ≤ log_limit =
    omega (
      arith,
      there.stands.short,
      ap (length_with at) (sym (append_assoc rs xs (point ∷ []))),
      log_long version (all ++ point ∷ []),
      ap length log,
      ap length is,
    ) in
    let old : length (log_of version all) ≤ log_limit = omega (arith, g.stands.short, log_long version all) in
    let front_there : IsFront (log_of version all) version all [] =
    appended whole version rs rest xs front (later at rs xs a.appender g.stands) old in
    let fits = subst FitsCheckpoint here m.fits in
    let true_there = truth (log_of version all) version all [] front_there fits short in
    let offset_is : offset ≡ length (log_of version all) = m.begins at rs xs g ∙ sym (log_long version all) in
    subst (λ (z : List ℕ). IsMarked z version all offset) (sym is)
    (subst (IsMarked (with_checkpoint version all) version all) (sym offset_is) (record {
      bytes = refl;
      short = short;
      begins = refl;
      truth = true_there;
      report = λ text. same (with_checkpoint version all) (length (log_of version all)) text true_there;
      queues = λ bytes. queues (log_of version all) version all [] bytes front_there fits short;
    }))

pub stays_unmarked : (a : Growth) (s : State) (r : Record) (why : NotTaken) (told : NotMarked) → StopsGrowing a r why
    → r ≡ checkpoint_in s → told ≡ unmarked why → StaysUnmarked a s told
stays_unmarked a s r why told h is tells =
    subst (StaysUnmarked a s) (sym tells)
    (stays a s why (subst (λ (x : Record). IsCrowdedBy a (x ∷ []) (unmarked why)) is (crowded a r why h)))
  where
    stays : (a : Growth) (s : State) (why : NotTaken) → IsCrowdedBy a (checkpoint_in s ∷ []) (unmarked why)
        → StaysUnmarked a s (unmarked why)
    stays a s untaken.Full h = h
    stays a s untaken.Ended h = inr h
    stays a s (untaken.Unlawful rule) h = h
    stays a s untaken.Resources h = h
