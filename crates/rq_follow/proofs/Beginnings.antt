-- How a log begins, or a carried file, and what more bytes make of it.
use Rattle.std.proofs.Common.{◌≡◌, ℕ, ◌+◌, ◌<◌, ◌≤◌, List, ◌++◌, length, take, drop, sym, ap, subst, ◌∙◌}
use Rattle.std.proofs.Common.{append_assoc, arith}
use Rattle.std.proofs.lemmas.List.{drop-drop, length-append, length-drop, length-take, take-append-drop, take-append-le}
use Rattle.std.proofs.lemmas.List.{take_at}
use Rattle.rq_model.specs.Records.{Version}
use Rattle.rq_model.specs.Frames.{HasHeader, HasRightFrame, before, digest, header, log_limit}
use Rattle.rq_model.specs.LogLaws.{LogEnds, OneVersion}
use Rattle.rq_model.specs.States.{State, empty}
use Rattle.rq_model.specs.StateSpelling.{SpellsCarried, carried_next}
use Rattle.rq_model.specs.Carrying.{HasCarriedHeader, ReadsAsLog, as_log, carried_at, carried_header}
use Rattle.rq_model.specs.Carrying.{carried_magic}
use Rattle.rq_model.proofs.Restarts.{header_long}
use Rattle.rq_model.proofs.Runs.{length-sha256}
use Rattle.rq_record.specs.declared.fault.Fault.{Fault}
use Rattle.rq_record.specs.declared.fault.Fault.TheVariants as faults
use Rattle.rq_record.specs.Views.{version_of}
use Rattle.rq_front.specs.Chains.{Refused}
use Rattle.rq_judged.specs.Checkpoints.{IsBegun}
use Rattle.rq_judged.specs.declared.checkpoint.Begun.{Begun}
use Rattle.rq_judged.specs.Refusals.{HasBadCheckpoint, HasNoCheckpoint, RefusedCarried}
use Rattle.rq_judged.specs.Windows.{RefusesPiece, log_origin}
use Rattle.rq_judged.proofs.Passes.{frame_more}
use Rattle.rq_judged.proofs.Starts.{started}
use Rattle.rq_follow.specs.declared.pass.MachinePass.{MachinePass}
use Rattle.rq_follow.specs.Passes.{HasDoneAll, origin_at}
use Rattle.rq_follow.specs.Followers.{IsCarriedAlong, IsLinked, IsPlain, IsReadSo, RefusesBytes, carried_origin}

pub carried_long : (version : Version) → length (carried_header version) ≡ 40
carried_long version = omega (arith, length-sha256 (carried_magic version))

-- A log begins.
pub plain_begun : (version : Version) → LogEnds → (b : List ℕ) (s : State) (f : MachinePass) → HasHeader version b
    → s ≡ empty
    → HasDoneAll (origin_at version s b 40) (drop 40 b) f → IsPlain b f
plain_begun version ends b s f head none fed =
    let it = started version ends b head in
    let here : HasDoneAll (origin_at version empty b 40) (drop 40 b) f =
    subst (λ (t : State). HasDoneAll (origin_at version t b 40) (drop 40 b) f) none fed in
    record {
      version = version;
      bytes = drop 40 b;
      whole = it.whole;
      fed = subst (λ (p : List ℕ). HasDoneAll (record { version = version; base = empty; link = p; ahead = 40 })
          (drop 40 b) f)
          it.chained here;
    }

-- A carried file is read as a log.
pub read_headed : (b w : List ℕ) (is : IsReadSo b w) → HasHeader is.version w
read_headed b w is =
    ap (take 40) is.read ∙ take_at (header is.version) (drop 40 b) 40 (header_long is.version)

pub read_size : ReadsAsLog → (b w : List ℕ) → IsReadSo b w → length w ≡ length b
read_size reads b w is = ap length is.read ∙ reads.size is.version b is.header

-- what a call that reads it as a log says of the log
pub refuses_read : ReadsAsLog → (b w : List ℕ) (e : Fault) → IsReadSo b w → RefusedCarried w carried_at e
    → RefusesBytes b e
refuses_read reads b w faults.NoCheckpoint is h =
    (is.version, is.header, subst (λ (z : List ℕ). HasNoCheckpoint z carried_at) is.read h)
refuses_read reads b w faults.BadCheckpoint is h =
    (is.version, is.header, subst (λ (z : List ℕ). HasBadCheckpoint carried_next z carried_at) is.read h)
refuses_read reads b w faults.TooLong is h = omega (arith, h, read_size reads b w is, is.short)
refuses_read reads b w faults.NotALog is h = absurd (h.1 (is.version, read_headed b w is))
refuses_read reads b w faults.Resources is h = tt
refuses_read reads b w _ is h = absurd h

-- and what one says that looks at its frames alone
pub refuses_frames : ReadsAsLog → (b w : List ℕ) (e : Fault) → IsReadSo b w → Refused w e → RefusesBytes b e
refuses_frames reads b w faults.TooLong is h = omega (arith, h, read_size reads b w is, is.short)
refuses_frames reads b w faults.NotALog is h = absurd (h.1 (is.version, read_headed b w is))
refuses_frames reads b w faults.Resources is h = tt
refuses_frames reads b w _ is h = absurd h

-- it begins with this checkpoint
pub carried_begun : OneVersion → ReadsAsLog → (b w : List ℕ) (x : Begun) (m : State) (f : MachinePass) → IsReadSo b w
    → IsBegun carried_next w carried_at x → m ≡ x.state
    → HasDoneAll (origin_at (version_of x.version) m w carried_at) (drop carried_at w) f → IsCarriedAlong b f
carried_begun one reads b w x m f is begun same fed =
    let version = is.version in
    let own : version_of x.version ≡ version = one w (version_of x.version) version begun.header (read_headed b w is) in
    let behind : List ℕ = drop 40 w in
    let room : 72 + 36 ≤ length w =
    omega (arith, begun.checkpoint.frame.whole.room, length-drop carried_at w) in
    let parts : behind ≡ before carried_at w ++ drop carried_at w =
    sym (take-append-drop 32 behind) ∙ ap (λ (z : List ℕ). take 32 behind ++ z) (drop-drop 32 40 w) in
    let back : b ≡ carried_header version ++ behind =
    subst (λ (z : List ℕ). b ≡ carried_header version ++ drop 40 z) (sym is.read) (reads.back version b is.header) in
    let there : HasDoneAll (origin_at version x.state w carried_at) (drop carried_at w) f =
    subst (λ (v : Version). HasDoneAll (origin_at v x.state w carried_at) (drop carried_at w) f) own
    (subst (λ (s : State). HasDoneAll (origin_at (version_of x.version) s w carried_at) (drop carried_at w) f) same
    fed) in
    record {
      version = version;
      base = x.state;
      kept = begun.kept;
      link = before carried_at w;
      bytes = drop carried_at w;
      whole = back ∙ ap (λ (z : List ℕ). carried_header version ++ z) parts;
      long = omega (arith, length-take 32 behind, length-drop 40 w, room);
      right = begun.checkpoint.frame;
      body = begun.checkpoint.body;
      spells = subst (λ (v : Version). SpellsCarried v x.state begun.kept) own begun.spells;
      fed = there;
    }

-- fewer bytes than the link has hold no checkpoint
pub too_short : (b w : List ℕ) → IsReadSo b w → length w < 72 → IsLinked b w
too_short b w is short = record {
  is = is;
  none = λ kept at. omega (arith, short, at.frame.whole.room, length-drop carried_at w);
}

-- More bytes.

right_more : (p x more : List ℕ) → HasRightFrame p x → HasRightFrame p (x ++ more)
right_more p x more h =
    let same = frame_more x more h.whole in
    record { whole = same.framed; right = same.sum ∙ h.right ∙ ap (digest p) (sym same.body) }

pub plain_more : (b more : List ℕ) (f g : MachinePass) (is : IsPlain b f)
    → HasDoneAll (log_origin is.version) (is.bytes ++ more) g
    → IsPlain (b ++ more) g
plain_more b more f g is fed = record {
  version = is.version;
  bytes = is.bytes ++ more;
  whole = ap (λ (z : List ℕ). z ++ more) is.whole ∙ append_assoc (header is.version) is.bytes more;
  fed = fed;
}

pub plain_total : (b : List ℕ) (f : MachinePass) → IsPlain b f → f.total ≡ length b
plain_total b f is =
    let (rs, rest, at, ends) = is.fed in
    omega (
      arith,
      at.total,
      ap length is.whole,
      length-append (header is.version) is.bytes,
      header_long is.version,
    )

pub carried_more : (b more : List ℕ) (f g : MachinePass) (is : IsCarriedAlong b f)
    → HasDoneAll (carried_origin is.version is.base is.link) (is.bytes ++ more) g → IsCarriedAlong (b ++ more) g
carried_more b more f g is fed = record {
  version = is.version;
  base = is.base;
  kept = is.kept;
  link = is.link;
  bytes = is.bytes ++ more;
  whole = ap (λ (z : List ℕ). z ++ more) is.whole
      ∙ append_assoc (carried_header is.version) (is.link ++ is.bytes) more
      ∙ ap (λ (z : List ℕ). carried_header is.version ++ z) (append_assoc is.link is.bytes more);
  long = is.long;
  right = right_more is.link is.bytes more is.right;
  body = (frame_more is.bytes more is.right.whole).body ∙ is.body;
  spells = is.spells;
  fed = fed;
}

pub carried_total : (b : List ℕ) (f : MachinePass) → IsCarriedAlong b f → f.total ≡ length b
carried_total b f is =
    let (rs, rest, at, ends) = is.fed in
    omega (
      arith,
      at.total,
      ap length is.whole,
      length-append (carried_header is.version) (is.link ++ is.bytes),
      length-append is.link is.bytes,
      carried_long is.version,
      is.long,
    )

-- a carried file that came in two parts
pub read_more : ReadsAsLog → (b w more v : List ℕ) → IsReadSo b w → v ≡ w ++ more → length v ≤ log_limit
    → IsReadSo (b ++ more) v
read_more reads b w more v is joined short =
    let head : HasCarriedHeader is.version (b ++ more) =
    headed_more is.version b more is.header in
    let read : v ≡ as_log is.version (b ++ more) =
    joined ∙ ap (λ (z : List ℕ). z ++ more) is.read ∙ sym (reads.more is.version b more is.header) in
    record {
      version = is.version;
      header = head;
      read = read;
      short = omega (arith, short, ap length read, reads.size is.version (b ++ more) head);
    }
  where
    headed_more : (version : Version) (b more : List ℕ) → HasCarriedHeader version b
        → HasCarriedHeader version (b ++ more)
    headed_more version b more h =
        let long : 40 ≤ length b = omega (arith, ap length h, carried_long version, length-take 40 b) in
        take-append-le 40 b more long ∙ h

-- why a piece is not taken is why the bytes with it are not
pub refuses : (n : ℕ) (z : List ℕ) (e : Fault) → n ≡ length z → RefusesPiece n e → RefusesBytes z e
refuses n z faults.TooLong is refused = omega (arith, is, refused)
refuses n z faults.Resources is refused = tt
refuses n z _ is refused = absurd refused
