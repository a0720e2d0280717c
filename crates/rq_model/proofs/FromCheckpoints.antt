-- From a checkpoint: the front there, its restart, and that a true one restarts to the same.
use Rattle.std.proofs.Common.{◌≡◌, ℕ, ◌+◌, ◌-◌, ◌≤◌, List, [], ◌++◌, length, take, drop, sym, ap, ◌∙◌, append_assoc}
use Rattle.std.proofs.Common.{arith, ◌∷◌, refl, subst}
use Rattle.std.proofs.lemmas.List.{length-append, length-take, length-drop, take_at, drop_at, take-append-drop}
use Rattle.std.proofs.lemmas.List.{drop-drop}
use Rattle.rq_model.specs.Records.{Record, Checkpoint, Version, One, Two}
use Rattle.rq_model.specs.Spelling.{body_of}
use Rattle.rq_model.specs.Frames.{bodies_of, frames_of, last_of, before, log_limit, digest, frame, magic, header, start}
use Rattle.rq_model.specs.Frames.{HasHeader, body_in, HasRightFrame}
use Rattle.rq_model.specs.States.{State, empty}
use Rattle.rq_model.specs.Machine.{run}
use Rattle.rq_model.specs.StateSpelling.{log_next, state_bytes, SpellsState, SpellsUpTo}
use Rattle.rq_model.specs.Fronts.{Why, IsLongest, IsWhy, Restarted, restarted, IsRestart}
use Rattle.rq_model.specs.Reports.{IsText}
use Rattle.rq_model.specs.Checkpoints.{HasCheckpoint, IsCheckpointAt, TrueAt, IsRestartAt, IsRestartUpTo}
use Rattle.rq_model.specs.LogLaws.{OneVersion, TrueSaysTheSame}
use Rattle.rq_model.specs.Carrying.{IsFrontUpTo, GreaterIsWider}
use Rattle.rq_model.proofs.RecordReaders.{body_fits}
use Rattle.rq_model.proofs.Runs.{last_at_end, length-sha256, frame_reads, right_at}
use Rattle.rq_model.proofs.Longest.{one_longest, one_why, front_ends, frames_apart}
use Rattle.rq_model.proofs.StateCodes.{one_state}
use Rattle.rq_model.proofs.Restarts.{run_join, header_long, later_longest, at_both, why_joins, why_parts}
use Rattle.rq_model.proofs.Restarts.{fronts_are_spelt}

-- the 32 bytes before an offset of b, and all bytes from there on
pub record IsLinked (b : List ℕ) (offset : ℕ) (p bytes : List ℕ) : Type 0 where
  pub ahead : before offset b ≡ p
  pub behind : drop offset b ≡ bytes

-- the frames of records follow 32 bytes p: what comes next is linked to the last of these
pub linked : (b left p : List ℕ) (rs : List Record) (bytes : List ℕ) (offset : ℕ) → length p ≡ 32
    → b ≡ left ++ (p ++ (frames_of p rs ++ bytes)) → offset ≡ length left + 32 + length (frames_of p rs)
    → IsLinked b offset (last_of p rs) bytes
linked b left p rs bytes offset long whole there =
    let q = last_of p rs in
    let fs = frames_of p rs in
    let (kept, ended_by, q_long) = last_at_end [] p (bodies_of rs) long in
    let parts : b ≡ (left ++ kept) ++ (q ++ bytes) =
    whole ∙ ap (λ (z : List ℕ). left ++ z) (sym (append_assoc p fs bytes))
    ∙ ap (λ (z : List ℕ). left ++ (z ++ bytes)) ended_by
    ∙ ap (λ (z : List ℕ). left ++ z) (append_assoc kept q bytes)
    ∙ sym (append_assoc left kept (q ++ bytes)) in
    let size : length kept + 32 ≡ 32 + length fs =
    omega (arith, ap length ended_by, length-append p fs, length-append kept q, q_long, long) in
    let place : length (left ++ kept) ≡ offset - 32 = omega (arith, length-append left kept, size, there) in
    let end : length ((left ++ kept) ++ q) ≡ offset =
    omega (arith, length-append left kept, length-append (left ++ kept) q, q_long, size, there) in
    record {
      ahead = ap (λ (z : List ℕ). take 32 (drop (offset - 32) z)) parts
          ∙ ap (take 32) (drop_at (left ++ kept) (q ++ bytes) (offset - 32) place) ∙ take_at q bytes 32 q_long;
      behind = ap (drop offset) (parts ∙ sym (append_assoc (left ++ kept) q bytes))
          ∙ drop_at ((left ++ kept) ++ q) bytes offset end;
    }

-- the 32 bytes before an offset within b are 32, and are there
pub before_long : (b : List ℕ) (offset : ℕ) → 32 ≤ offset → offset ≤ length b → length (before offset b) ≡ 32
before_long b offset low high =
    omega (arith, length-take 32 (drop (offset - 32) b), length-drop (offset - 32) b, low, high)

pub apart : (b : List ℕ) (offset : ℕ) → 32 ≤ offset → b ≡ take (offset - 32) b ++ (before offset b ++ drop offset b)
apart b offset low =
    let left = take (offset - 32) b in
    let behind = drop (offset - 32) b in
    sym (take-append-drop (offset - 32) b)
    ∙ ap (λ (z : List ℕ). left ++ z)
    (sym (take-append-drop 32 behind)
    ∙ ap (λ (z : List ℕ). take 32 behind ++ z)
    (drop-drop 32 (offset - 32) b ∙ ap (λ (n : ℕ). drop n b) (omega (arith, low))))

-- lawful records, the first of them a CHECKPOINT
pub front_at : (most : ℕ) (b : List ℕ) (offset : ℕ) (version : Version) (s : State) (kept : List ℕ)
    (after : List Record) (p bytes rest : List ℕ) → length b ≤ log_limit → HasHeader version b → 40 ≤ offset → IsLinked b offset p bytes
    → SpellsUpTo most version s kept → IsLongest version s p bytes (Checkpoint kept ∷ after) rest
    → IsFrontUpTo most b offset version s kept after rest
front_at most b offset version s kept after p bytes rest short head past at spells front =
    let body = body_of (Checkpoint kept) in
    let more = frames_of (digest p body) after ++ rest in
    let fit = body_fits version (Checkpoint kept) front.begins.records.0 in
    let parts : drop offset b ≡ frame p body ++ more =
    at.behind ∙ front.begins.whole ∙ append_assoc (frame p body) (frames_of (digest p body) after) rest in
    record {
      short = short;
      header = head;
      checkpoint = record {
        past_header = past;
        frame = at_both HasRightFrame (before offset b) p (drop offset b) (frame p body ++ more) at.ahead parts
            (right_at p body more fit);
        body = ap body_in parts ∙ (frame_reads p body more fit).body_is;
      };
      spells = spells;
      front = at_both (λ q z. IsLongest version s q z (Checkpoint kept ∷ after) rest) (before offset b) p
          (drop offset b) bytes at.ahead at.behind front;
    }

-- a true checkpoint of the front
pub true_front : (b : List ℕ) (offset : ℕ) (records : List Record) (kept : List ℕ) (h : HasCheckpoint b offset records kept)
    → kept ≡ state_bytes (run empty records)
    → IsFrontUpTo log_next b offset h.version (run empty records) kept h.after h.rest
    × (before offset b ≡ last_of (start h.version) records)
true_front b offset records kept h spelled =
    let v = h.version in
    let p = start v in
    let xs : List Record = Checkpoint kept ∷ h.after in
    let bytes = frames_of (last_of p records) xs ++ h.rest in
    let past = length-append (header v) (frames_of p records) in
    let apart_here = h.front.longest.begins.whole ∙ frames_apart p h.rest records xs in
    let whole : b ≡ magic v ++ (p ++ (frames_of p records ++ bytes)) =
    h.front.whole ∙ ap (λ (z : List ℕ). header v ++ z) apart_here
    ∙ append_assoc (magic v) p (frames_of p records ++ bytes) in
    let at = linked b (magic v) p records bytes offset (length-sha256 (magic v)) whole
    (omega (arith, h.there, past, header_long v, length-sha256 (magic v), length-append (magic v) p)) in
    let spells = subst (SpellsState v (run empty records)) (sym spelled) (fronts_are_spelt b v records xs h.rest h.front) in (
      front_at log_next b offset v (run empty records) kept h.after (last_of p records) bytes h.rest h.front.short
          (ap (take 40) h.front.whole ∙ take_at (header v) h.front.bytes 40 (header_long v))
          (omega (arith, h.there, past, header_long v)) at spells
          (later_longest v empty p h.front.bytes h.rest records xs h.front.longest),
      at.ahead,
    )

-- the restart at a front
pub restart_at : (most : ℕ) (b : List ℕ) (offset : ℕ) (version : Version) (s : State) (kept : List ℕ)
    (after : List Record) (p rest : List ℕ) (why : Why) → IsFrontUpTo most b offset version s kept after rest
    → before offset b ≡ p
    → IsWhy version (run s (Checkpoint kept ∷ after)) (last_of p (Checkpoint kept ∷ after)) rest why
    → IsRestartUpTo most b offset (restarted (run s (Checkpoint kept ∷ after)) (length rest) (length b) why)
restart_at most b offset version s kept after p rest why h ahead ends =
    let xs : List Record = Checkpoint kept ∷ after in
    record {
      version = version;
      state = s;
      kept = kept;
      records = xs;
      rest = rest;
      why = why;
      short = h.short;
      header = h.header;
      checkpoint = h.checkpoint;
      spells = h.spells;
      front = h.front;
      ends = subst (λ (q : List ℕ). IsWhy version (run s xs) (last_of q xs) rest why) (sym ahead) ends;
      answer = refl;
    }

pub true_is_same : (b : List ℕ) (offset : ℕ) (r : Restarted) → TrueAt b offset → IsRestart b r → IsRestartAt b offset r
true_is_same b offset r (records, kept, h, spelled) restart =
    let v = h.version in
    let p = start v in
    let xs : List Record = Checkpoint kept ∷ h.after in
    let ended = front_ends b v (records ++ xs) h.rest r h.front restart in
    let (here, ahead) = true_front b offset records kept h spelled in
    let answer = ended.answer ∙ ap (λ (t : State). restarted t (length h.rest) (length b) ended.why)
    (run_join empty records xs) in
    subst (IsRestartAt b offset) (sym answer)
    (restart_at log_next b offset v (run empty records) kept h.after (last_of p records) h.rest ended.why here ahead
    (why_parts v empty p h.rest records xs ended.why ended.ends))

-- the version by the header's eighth byte
header_of : (v w : Version) → header v ≡ header w → v ≡ w
header_of One One e = refl
header_of Two Two e = refl
header_of One Two e = absurd cc
header_of Two One e = absurd cc

pub one_version : OneVersion
one_version b v w h k = header_of v w (sym h ∙ k)

-- what a restart from an offset says about a front from there
pub record EndsAt (b : List ℕ) (offset : ℕ) (version : Version) (s : State) (rs : List Record) (rest : List ℕ)
    (t : Restarted) : Type 0 where
  pub why : Why
  pub ends : IsWhy version (run s rs) (last_of (before offset b) rs) rest why
  pub answer : t ≡ restarted (run s rs) (length rest) (length b) why

ends_from : (most other : ℕ) (b : List ℕ) (offset : ℕ) (version : Version) (s : State) (kept : List ℕ)
    (rs : List Record) (rest : List ℕ) (t : Restarted) → HasHeader version b → IsCheckpointAt b offset kept
    → SpellsUpTo most version s kept → IsLongest version s (before offset b) (drop offset b) rs rest
    → IsRestartUpTo other b offset t → EndsAt b offset version s rs rest t
ends_from most other b offset version s kept rs rest t header checkpoint spells front k =
    let p = before offset b in
    let bytes = drop offset b in
    let versions = one_version b version k.version header k.header in
    let kepts : kept ≡ k.kept = ap (drop 1) (sym checkpoint.body ∙ k.checkpoint.body) in
    let states : s ≡ k.state = one_state most other version k.version s k.state k.kept
    (subst (SpellsUpTo most version s) kepts spells) k.spells in
    let again : IsLongest version s p bytes k.records k.rest = grind arith in
    let same = one_longest version s p bytes rs k.records rest k.rest front again in
    record {
      why = k.why;
      ends = grind arith;
      answer = k.answer ∙ (λ i. restarted (run (sym states i) (sym same.0 i)) (length (sym same.1 i)) (length b) k.why);
    }

pub ends_at : (most other : ℕ) (b : List ℕ) (offset : ℕ) (version : Version) (s : State) (kept : List ℕ)
    (after : List Record) (rest : List ℕ) (t : Restarted) → IsFrontUpTo most b offset version s kept after rest
    → IsRestartUpTo other b offset t → EndsAt b offset version s (Checkpoint kept ∷ after) rest t
ends_at most other b offset version s kept after rest t h k =
    ends_from most other b offset version s kept (Checkpoint kept ∷ after) rest t h.header h.checkpoint h.spells h.front k

pub one_restart_at : (most other : ℕ) (b : List ℕ) (offset : ℕ) (r t : Restarted) → IsRestartUpTo most b offset r
    → IsRestartUpTo other b offset t → r ≡ t
one_restart_at most other b offset r t h k =
    let again = ends_from most other b offset h.version h.state h.kept h.records h.rest t h.header h.checkpoint h.spells h.front k in
    let whys = one_why _ _ _ _ h.why _ h.ends again.ends in
    h.answer ∙ ap (restarted _ _ _) whys ∙ sym again.answer

-- if there is a restart from a true checkpoint, there is one of the whole
pub true_back : (b : List ℕ) (offset : ℕ) (t : Restarted) → TrueAt b offset → IsRestartAt b offset t
    → (r : Restarted) × IsRestart b r
true_back b offset t (records, kept, h, spelled) at =
    let v = h.version in
    let p = start v in
    let xs : List Record = Checkpoint kept ∷ h.after in
    let s = run empty records in
    let (here, ahead) = true_front b offset records kept h spelled in
    let ended = ends_at log_next log_next b offset v s kept h.after h.rest t here at in
    let ends = subst (λ (q : List ℕ). IsWhy v (run s xs) (last_of q xs) h.rest ended.why) ahead ended.ends in (
      restarted _ _ _ _,
      record {
        version = v;
        records = records ++ xs;
        rest = h.rest;
        why = ended.why;
        front = h.front;
        ends = why_joins v empty p h.rest records xs ended.why ends;
        answer = refl;
      },
    )

pub true_says_the_same : TrueSaysTheSame
true_says_the_same b offset text true_here = (
  λ (t, at, told).
      let (r, restart) = true_back b offset t true_here at in (
        r,
        restart,
        subst (λ (z : Restarted). IsText z text)
            (one_restart_at log_next log_next b offset t r at (true_is_same b offset r true_here restart)) told,
      ),
  λ (r, restart, told). (r, true_is_same b offset r true_here restart, told),
)

wider_spells : (most more : ℕ) (version : Version) (s : State) (kept : List ℕ) → most ≤ more
    → SpellsUpTo most version s kept → SpellsUpTo more version s kept
wider_spells most more version s kept le h = record {
  next = omega (arith, h.next, le);
  counted = h.counted;
  keeps = h.keeps;
  fits = h.fits;
  deep = h.deep;
  spelling = h.spelling;
}

pub greater_is_wider : GreaterIsWider
greater_is_wider = record {
  spells = wider_spells;
  front = λ most more b offset version s kept after rest le h. record {
    short = h.short;
    header = h.header;
    checkpoint = h.checkpoint;
    spells = wider_spells most more version s kept le h.spells;
    front = h.front;
  };
  restart = λ most more b offset r le h. record {
    version = h.version;
    state = h.state;
    kept = h.kept;
    records = h.records;
    rest = h.rest;
    why = h.why;
    short = h.short;
    header = h.header;
    checkpoint = h.checkpoint;
    spells = wider_spells most more h.version h.state h.kept le h.spells;
    front = h.front;
    ends = h.ends;
    answer = h.answer;
  };
}
