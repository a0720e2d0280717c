-- The front of a carried file that is read as a log, with the frames of further records behind it, a checkpoint among them.
use Rattle.std.proofs.Common.{◌≡◌, ◌+◌, ◌-◌, ◌≤◌, ◌<◌, ℕ, List, [], ◌∷◌, ◌++◌, length, take, drop, refl, sym, ap, subst, ◌∙◌}
use Rattle.std.proofs.Common.{append_assoc, arith}
use Rattle.std.proofs.lemmas.List.{append-nil, length-append, length-drop, length-take, take-append-drop, take-append-le, take_at, drop_at}
use Rattle.rq_model.specs.Records.{Record, Checkpoint, Version}
use Rattle.rq_model.specs.Spelling.{body_of}
use Rattle.rq_model.specs.Frames.{HasHeader, HasRightFrame, Whole, before, body_in, digest, frame, frames_of, last_of, log_limit}
use Rattle.rq_model.specs.LogLaws.{OneRestartAt}
use Rattle.rq_model.specs.States.{State}
use Rattle.rq_model.specs.Machine.{run}
use Rattle.rq_model.specs.StateSpelling.{carried_next, state_bytes}
use Rattle.rq_model.specs.Fronts.{Ends, IsLongest, Restarted, restarted}
use Rattle.rq_model.specs.Appending.{MayFollow}
use Rattle.rq_model.specs.Carrying.{IsCarriedFront, IsCarriedRestart, LaterSaysTheSame}
use Rattle.rq_model.proofs.Longest.{frames_of_join, front_stops}
use Rattle.rq_model.proofs.RecordReaders.{body_fits}
use Rattle.rq_model.proofs.Runs.{frame_is_right}
use Rattle.rq_front.specs.Framers.{at_checkpoint, length_with}
use Rattle.rq_judged.proofs.Passes.{part_more}
use Rattle.rq_journal.specs.Checkpoints.{IsTrueThere, Marks, MarksTrulyThere, carried_front, checkpoint_in}
use Rattle.rq_journal.specs.Growths.{IsGrownAt, IsGrownFrom}
use Rattle.rq_journal.specs.Closings.{IsClosedFrom, with_frames}
use Rattle.rq_journal.specs.declared.growths.Growth.{Growth}

-- records whose frames follow the front
module _ (b : List ℕ) (offset : ℕ) (version : Version) (base : State) (kept : List ℕ) (after : List Record)
    (rest : List ℕ) (h : IsCarriedFront b offset version base kept after rest) (xs : List Record) (w : List ℕ)
    (may : MayFollow version base ((Checkpoint kept ∷ after) ++ xs))
    (frames : w ≡ frames_of (last_of (before offset b) (Checkpoint kept ∷ after)) xs)
    (short : length_with (at_checkpoint version base b offset) ((Checkpoint kept ∷ after) ++ xs) ≤ log_limit) where
  abbrev rs : List Record
  rs = Checkpoint kept ∷ after

  abbrev p : List ℕ
  p = before offset b

  abbrev fs : List ℕ
  fs = frames_of p rs

  abbrev left : List ℕ
  left = take offset b

  abbrev grown : List ℕ
  grown = carried_front b offset kept after ++ w

  past : 40 ≤ offset
  past = h.checkpoint.past_header

  within : offset ≤ length b
  within = omega (arith, h.checkpoint.frame.whole.room, length-drop offset b)

  left_long : length left ≡ offset
  left_long = omega (arith, length-take offset b, within)

  b_is : b ≡ left ++ (fs ++ rest)
  b_is = sym (take-append-drop offset b) ∙ ap (λ (z : List ℕ). left ++ z) h.front.begins.whole

  front_is : carried_front b offset kept after ≡ left ++ fs
  front_is =
      ap (take (offset + length fs)) (b_is ∙ sym (append_assoc left fs rest))
      ∙ take_at (left ++ fs) rest (offset + length fs) (omega (arith, length-append left fs, left_long))

  grown_is : grown ≡ left ++ (fs ++ w)
  grown_is = ap (λ (z : List ℕ). z ++ w) front_is ∙ append_assoc left fs w

  ahead_of : (z : List ℕ) → before offset (left ++ z) ≡ before offset left
  ahead_of z = part_more left z (offset - 32) 32 (omega (arith, past, left_long))

  pub ahead : before offset grown ≡ p
  ahead = ap (before offset) grown_is ∙ ahead_of (fs ++ w) ∙ sym (ahead_of (fs ++ rest)) ∙ sym (ap (before offset) b_is)

  head_of : (z : List ℕ) → take 40 (left ++ z) ≡ take 40 left
  head_of z = take-append-le 40 left z (omega (arith, past, left_long))

  head : HasHeader version grown
  head = ap (take 40) grown_is ∙ head_of (fs ++ w) ∙ sym (head_of (fs ++ rest)) ∙ sym (ap (take 40) b_is) ∙ h.header

  bytes : fs ++ w ≡ frames_of p (rs ++ xs)
  bytes = ap (λ (z : List ℕ). fs ++ z) frames ∙ sym (frames_of_join p rs xs)

  behind : drop offset grown ≡ frames_of p (rs ++ xs)
  behind = ap (drop offset) grown_is ∙ drop_at left (fs ++ w) offset left_long ∙ bytes

  longest : IsLongest version base p (frames_of p (rs ++ xs)) (rs ++ xs) []
  longest =
      front_stops version base p (frames_of p (rs ++ xs)) [] (rs ++ xs) (Ends Whole)
      (record { records = may.records; lawful = may.lawful; whole = sym (append-nil (frames_of p (rs ++ xs))) }) refl

  abbrev body : List ℕ
  body = body_of (Checkpoint kept)

  abbrev more : List ℕ
  more = frames_of (digest p body) (after ++ xs)

  right : HasRightFrame p (frame p body ++ more) × (body_in (frame p body ++ more) ≡ body)
  right = frame_is_right p body more (body_fits version (Checkpoint kept) may.records.0)

  -- they are part of it, and nothing stands behind it
  pub grown_front : IsCarriedFront grown offset version base kept (after ++ xs) []
  grown_front = record {
    short = omega (arith, short, ap length grown_is, length-append left (fs ++ w), left_long, ap length bytes);
    header = head;
    checkpoint = record {
      past_header = past;
      frame = subst (λ (z : List ℕ). HasRightFrame z (drop offset grown)) (sym ahead)
          (subst (HasRightFrame p) (sym behind) right.0);
      body = ap body_in behind ∙ right.1;
    };
    spells = h.spells;
    front = subst (λ (z : List ℕ). IsLongest version base z (drop offset grown) (rs ++ xs) []) (sym ahead)
        (subst (λ (z : List ℕ). IsLongest version base p z (rs ++ xs) []) (sym behind) longest);
  }

-- a restart from a checkpoint behind which all is whole
restart_there : (b : List ℕ) (offset : ℕ) (version : Version) (s : State) (kept : List ℕ) (after : List Record)
    → IsCarriedFront b offset version s kept after []
    → IsCarriedRestart b offset (restarted (run s (Checkpoint kept ∷ after)) 0 (length b) (Ends Whole))
restart_there b offset version s kept after h = record {
  version = version;
  state = s;
  kept = kept;
  records = Checkpoint kept ∷ after;
  rest = [];
  why = Ends Whole;
  short = h.short;
  header = h.header;
  checkpoint = h.checkpoint;
  spells = h.spells;
  front = h.front;
  ends = refl;
  answer = refl;
}

-- a log that is closed
pub closed_from : (b : List ℕ) (offset : ℕ) (xs : List Record) (g : Growth) → IsGrownFrom b offset xs g
    → IsClosedFrom b offset xs (with_frames b g)
closed_from b offset xs g h =
    let there = h.grown.stands in record {
      version = h.version;
      base = h.base;
      kept = h.kept;
      after = h.after;
      rest = drop g.end.used b;
      front = h.front;
      whole = subst (λ (n : ℕ). IsCarriedFront (take n b ++ g.frames.items) offset h.version h.base h.kept (h.after ++ xs) [])
          (sym h.used)
          (grown_front b offset h.version h.base h.kept h.after (drop g.end.used b) h.front xs g.frames.items there.may
          h.grown.frames there.short);
    }

-- a checkpoint that was gathered is true
pub marks_truly_there : (a b : Growth) (s : State) (offset : ℕ) → LaterSaysTheSame → OneRestartAt → s.next < carried_next
    → Marks a b s offset → MarksTrulyThere a b s offset
marks_truly_there a b s offset later one low m whole first version base kept after xs rest front g here =
    let at = at_checkpoint version base whole first in
    let rs : List Record = Checkpoint kept ∷ after in
    let point = checkpoint_in s in
    let state = run base (Checkpoint kept ∷ (after ++ xs)) in
    let there = m.grown at rs xs g in
    let marked = carried_front whole first kept after ++ b.frames.items in
    let ahead_is = ahead whole first version base kept after rest front (xs ++ point ∷ []) b.frames.items there.stands.may
    there.frames there.stands.short in
    let grown = grown_front whole first version base kept after rest front (xs ++ point ∷ []) b.frames.items there.stands.may
    there.frames there.stands.short in
    let joined : IsCarriedFront marked first version base kept ((after ++ xs) ++ point ∷ []) [] =
    subst (λ (ys : List Record). IsCarriedFront marked first version base kept ys []) (sym (append_assoc after xs (point ∷ [])))
    grown in
    let front_there : IsCarriedFront marked first version base kept ((after ++ xs) ++ checkpoint_in state ∷ []) [] =
    subst (λ (z : State). IsCarriedFront marked first version base kept ((after ++ xs) ++ checkpoint_in z ∷ []) []) here joined in
    let begins : offset ≡ first + length (frames_of (before first marked) (Checkpoint kept ∷ (after ++ xs))) =
    m.begins at rs xs g
    ∙ ap (λ (z : List ℕ). first + length (frames_of z (Checkpoint kept ∷ (after ++ xs)))) (sym ahead_is) in
    let low_there : state.next ≤ carried_next = omega (arith, low, ap (λ (z : State). z.next) here) in
    let says = λ (r : Restarted) (k : IsCarriedRestart marked first r). later carried_next marked first version base kept
    (after ++ xs) (state_bytes state) [] [] r (omega arith) front_there refl low_there k in
    let found = restart_there marked first version base kept ((after ++ xs) ++ checkpoint_in state ∷ []) front_there in
    let at_offset = λ (n : ℕ) (is : n ≡ offset) (r : Restarted) (k : IsCarriedRestart marked n r). subst
    (λ (z : ℕ). IsCarriedRestart marked z r) is k in
    record {
      begins = begins;
      front = front_there;
      there = subst (λ (n : ℕ). IsCarriedFront marked n version state (state_bytes state) [] []) (sym begins) (says _ found).0;
      restart = λ r. (
        λ k. subst (IsCarriedRestart marked first)
            (one carried_next carried_next marked offset _ r (at_offset _ (sym begins) _ (says _ found).1) k) found,
        λ k. at_offset _ (sym begins) r (says r k).1,
      );
    }
