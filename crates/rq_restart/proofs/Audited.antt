-- What is found on the way through the front is its audit, from its start or from a checkpoint on.
use Rattle.std.proofs.Common.{◌≡◌, ℕ, ◌+◌, ◌<◌, ◌≤◌, Bool, true, List, [], ◌∷◌, ◌++◌, length, drop, refl, sym, ap}
use Rattle.std.proofs.Common.{subst, ◌∙◌, arith, inl, inr}
use Rattle.std.specs.Prelude.{◌↔◌, Result, Ok, Err, IfOk, IfErr}
use Rattle.std.specs.Global.{Vec}
use Rattle.std.specs.List.{AllByRecursion}
use Rattle.std.proofs.lemmas.Bool.{and_parts, and_from, le-leb}
use Rattle.std.proofs.lemmas.List.{length-append}
use Rattle.std.proofs.lemmas.Slice.Eq.{bytes_eq-Decides}
use Rattle.rq_model.specs.Records.{Record, Checkpoint, Version}
use Rattle.rq_model.specs.Spelling.{body_of}
use Rattle.rq_model.specs.Frames.{frame, digest, frames_of, log_of, start, header, log_limit, HasHeader}
use Rattle.rq_model.specs.States.{State, empty}
use Rattle.rq_model.specs.Machine.{step, run}
use Rattle.rq_model.specs.WellFormed.{IsIn, Ordered}
use Rattle.rq_model.specs.StateSpelling.{carried_next, state_bytes}
use Rattle.rq_model.specs.Fronts.{IsFront}
use Rattle.rq_model.specs.Checkpoints.{Audited, HasCheckpoint, TrueAt, IsAudit}
use Rattle.rq_model.specs.LogLaws.{OneFront, LogEnds}
use Rattle.rq_model.proofs.Restarts.{frames_many, header_long, next_run}
use Rattle.rq_model.proofs.Runs.{frame_long}
use Rattle.rq_record.specs.declared.fault.Fault.{Fault}
use Rattle.rq_record.specs.declared.fault.Fault.TheVariants.{Resources}
use Rattle.rq_front.specs.Chains.{Refused}
use Rattle.rq_restart.specs.Audits.{Audits, IsAuditedFrom, audit_of, audits, is_spelled, past, AuditsAt}
use Rattle.rq_judged.proofs.Starts.{started, whole_front}
use Rattle.rq_record.specs.Views.{version_of}
use Rattle.rq_judged.specs.declared.checkpoint.Begun.{Begun}
use Rattle.rq_judged.specs.Checkpoints.{IsBegun}
use Rattle.rq_judged.proofs.Checkpoints.{from_checkpoint}

abbrev audit_at : State → ℕ → List Record → List ℕ → Audited
audit_at s at rs kept = record { offset = past at rs; truth = is_spelled (run s rs) kept }

past_grows : (at : ℕ) (rs : List Record) → at ≤ past at rs
past_grows at [] = omega arith
past_grows at (r ∷ rs) = let more = past_grows (at + 36 + length (body_of r)) rs in omega (arith, more)

-- one of those found is a checkpoint among the records
record IsFound (s : State) (at : ℕ) (rs : List Record) (x : Audited) : Type 0 where
  pub before : List Record
  pub kept : List ℕ
  pub after : List Record
  pub whole : rs ≡ before ++ Checkpoint kept ∷ after
  pub is : x ≡ audit_at s at before kept

later : (s : State) (at : ℕ) (r : Record) (rs : List Record) (x : Audited)
    → IsFound (step s r) (at + 36 + length (body_of r)) rs x → IsFound s at (r ∷ rs) x
later s at r rs x f =
    record {
      before = r ∷ f.before;
      kept = f.kept;
      after = f.after;
      whole = ap (λ (qs : List Record). r ∷ qs) f.whole;
      is = f.is;
    }

found : (s : State) (at : ℕ) (rs : List Record) (x : Audited) → IsIn x (audits s at rs) → IsFound s at rs x
found s at [] x h = absurd h
found s at (Checkpoint kept ∷ rs) x h = elim h [
  | inl is ↦ record { before = []; kept = kept; after = rs; whole = refl; is = is }
  | inr more ↦ later s at (Checkpoint kept) rs x
      (found (step s (Checkpoint kept)) (at + 36 + length (body_of (Checkpoint kept))) rs x more)
]
found s at (r ∷ rs) x h = later s at r rs x (found _ _ rs x h)

in_behind : (x : Audited) (xs ys : List Audited) → IsIn x ys → IsIn x (xs ++ ys)
in_behind x [] ys h = h
in_behind x (y ∷ xs) ys h = inr (in_behind x xs ys h)

-- each checkpoint among the records is found
pub audits_have : (s : State) (at : ℕ) (before : List Record) (kept : List ℕ) (after : List Record)
    → IsIn (audit_at s at before kept) (audits s at (before ++ Checkpoint kept ∷ after))
audits_have s at [] kept after = inl refl
audits_have s at (r ∷ before) kept after =
    in_behind _ (audit_of s at r) _ (audits_have (step s r) (at + 36 + length (body_of r)) before kept after)

-- they rise
from_place : (s : State) (at low : ℕ) (rs : List Record) → low < at
    → AllByRecursion (λ x. low < x.offset) (audits s at rs)
from_place s at low [] h = tt
from_place s at low (Checkpoint kept ∷ rs) h =
    (h, from_place (step s (Checkpoint kept)) (at + 36 + length (body_of (Checkpoint kept))) low rs (omega (arith, h)))
from_place s at low (r ∷ rs) h = from_place _ _ low rs (omega (arith, h))

rises : (s : State) (at : ℕ) (rs : List Record) → Ordered (λ x y. x.offset < y.offset) (audits s at rs)
rises s at [] = tt
rises s at (Checkpoint kept ∷ rs) = (
  from_place (step s (Checkpoint kept)) (at + 36 + length (body_of (Checkpoint kept))) at rs (omega arith),
  rises (step s (Checkpoint kept)) (at + 36 + length (body_of (Checkpoint kept))) rs,
)
rises s at (r ∷ rs) = rises _ _ rs

-- a record at a place of the records is the only one
same_split : (at : ℕ) (xs ys as' bs : List Record) (r q : Record) → xs ++ r ∷ as' ≡ ys ++ q ∷ bs
    → past at xs ≡ past at ys → (xs ≡ ys) × (r ≡ q)
same_split at [] [] as' bs r q e p = (refl, cc)
same_split at [] (y ∷ ys) as' bs r q e p =
    absurd (let more = past_grows (at + 36 + length (body_of y)) ys in omega (arith, p, more))
same_split at (x ∷ xs) [] as' bs r q e p =
    absurd (let more = past_grows (at + 36 + length (body_of x)) xs in omega (arith, p, more))
same_split at (x ∷ xs) (y ∷ ys) as' bs r q e p =
    let first : x ≡ y = cc in
    let rest : xs ++ r ∷ as' ≡ ys ++ q ∷ bs = cc in
    let place : past (at + 36 + length (body_of x)) xs ≡ past (at + 36 + length (body_of x)) ys =
    p ∙ ap (λ (z : Record). past (at + 36 + length (body_of z)) ys) (sym first) in
    let more = same_split (at + 36 + length (body_of x)) xs ys as' bs r q rest place in
    (λ i. first i ∷ more.0 i, more.1)

-- The place of a record is the length of the log before it.

frames_size : (p : List ℕ) (at : ℕ) (rs : List Record) → length (frames_of p rs) + at ≡ past at rs
frames_size p at [] = omega arith
frames_size p at (r ∷ rs) =
    let body = body_of r in
    let more = frames_size (digest p body) (at + 36 + length body) rs in
    omega (arith, more, frame_long p body, length-append (frame p body) (frames_of (digest p body) rs))

log_size : (version : Version) (rs : List Record) → length (log_of version rs) ≡ past 40 rs
log_size version rs =
    omega (
      arith,
      header_long version,
      length-append (header version) (frames_of (start version) rs),
      frames_size (start version) 40 rs,
    )

-- a checkpoint of the front stands where it is found
stands : (version : Version) (b : List ℕ) (rs : List Record) (rest : List ℕ) (before : List Record) (kept : List ℕ) (after : List Record)
    → IsFront b version rs rest → rs ≡ before ++ Checkpoint kept ∷ after → HasCheckpoint b (past 40 before) before kept
stands version b rs rest before kept after front is =
    let here : IsFront b version (before ++ Checkpoint kept ∷ after) rest =
    subst (λ (qs : List Record). IsFront b version qs rest) is front in
    record {
      version = version;
      after = after;
      rest = rest;
      front = here;
      there = sym (log_size version before);
    }

-- and is the only one that stands there
only : (version : Version) → OneFront → (b : List ℕ) (rs : List Record) (rest : List ℕ) (before : List Record) (kept : List ℕ) (after : List Record)
    (offset : ℕ) (records : List Record) (other : List ℕ) → IsFront b version rs rest
    → rs ≡ before ++ Checkpoint kept ∷ after → offset ≡ past 40 before → HasCheckpoint b offset records other
    → (records ≡ before) × (other ≡ kept)
only version law b rs rest before kept after offset records other front is place h =
    let one = law b h.version version (records ++ Checkpoint other ∷ h.after) rs h.rest rest h.front front in
    let same : past 40 records ≡ past 40 before = sym (log_size h.version records) ∙ sym h.there ∙ place in
    let both = same_split 40 records before h.after after (Checkpoint other) (Checkpoint kept) (one.1 ∙ is) same in
    let checkpoints : Checkpoint other ≡ Checkpoint kept = both.1 in
    (both.0, cc)

-- a front has no more records than a checkpoint can number
few : (version : Version) (b : List ℕ) (rs : List Record) (rest : List ℕ) (before : List Record) (kept : List ℕ)
    (after : List Record) → IsFront b version rs rest → rs ≡ before ++ Checkpoint kept ∷ after
    → (run empty before).next ≤ 4294967295
few version b rs rest before kept after front is =
    omega (
      arith,
      next_run empty before,
      ap length is,
      length-append before (Checkpoint kept ∷ after),
      frames_many (start version) rs,
      ap length front.longest.begins.whole,
      length-append (frames_of (start version) rs) rest,
      ap length front.whole,
      length-append (header version) front.bytes,
      front.short,
    )

-- the test of a checkpoint tells whether it is true
tells : (version : Version) → OneFront → (b : List ℕ) (rs : List Record) (rest : List ℕ) (before : List Record) (kept : List ℕ) (after : List Record)
    (offset : ℕ) → IsFront b version rs rest → rs ≡ before ++ Checkpoint kept ∷ after → offset ≡ past 40 before
    → (is_spelled (run empty before) kept ≡ true) ↔ TrueAt b offset
tells version law b rs rest before kept after offset front is place = (
  λ t. (
    before,
    kept,
    subst (λ (n : ℕ). HasCheckpoint b n before kept) (sym place)
        (stands version b rs rest before kept after front is),
    (bytes_eq-Decides kept (state_bytes (run empty before))).0 (and_parts _ _ t).1,
  ),
  λ t. (let same = only version law b rs rest before kept after offset t.0 t.1 front is place t.2 in
      let spelled : kept ≡ state_bytes (run empty before) =
      sym same.1 ∙ t.3 ∙ ap (λ (qs : List Record). state_bytes (run empty qs)) same.0 in
      and_from _ _
      (le-leb (run empty before).next carried_next
      (omega (arith, few version b rs rest before kept after front is)))
      ((bytes_eq-Decides kept (state_bytes (run empty before))).1 spelled)),
)

pub is_audit : (version : Version) → OneFront → (b : List ℕ) (rs : List Record) (rest : List ℕ)
    → IsFront b version rs rest → IsAudit b (audits empty 40 rs)
is_audit version law b rs rest front = record {
  version = version;
  records = rs;
  rest = rest;
  front = front;
  rising = rises empty 40 rs;
  offsets = λ n. (to n, from n);
  truths = truths;
}
  where
    to : (n : ℕ) → (x : Audited) × IsIn x (audits empty 40 rs) × (x.offset ≡ n)
        → (earlier : List Record) × (kept : List ℕ) × HasCheckpoint b n earlier kept
    to n (x, h, e) =
        let f = found empty 40 rs x h in
        let place : past 40 f.before ≡ n = sym (ap (λ (a : Audited). a.offset) f.is) ∙ e in (
          f.before,
          f.kept,
          subst (λ (m : ℕ). HasCheckpoint b m f.before f.kept) place
              (stands version b rs rest f.before f.kept f.after front f.whole),
        )

    from : (n : ℕ) → (earlier : List Record) × (kept : List ℕ) × HasCheckpoint b n earlier kept
        → (x : Audited) × IsIn x (audits empty 40 rs) × (x.offset ≡ n)
    from n (earlier, kept, c) =
        let one = law b c.version version (earlier ++ Checkpoint kept ∷ c.after) rs c.rest rest c.front front in
        let place : n ≡ past 40 earlier = c.there ∙ log_size c.version earlier in (
          audit_at empty 40 earlier kept,
          subst (λ (qs : List Record). IsIn (audit_at empty 40 earlier kept) (audits empty 40 qs)) one.1
              (audits_have empty 40 earlier kept c.after),
          sym place,
        )

    truths : (x : Audited) → IsIn x (audits empty 40 rs) → (x.truth ≡ true) ↔ TrueAt b x.offset
    truths x h =
        let f = found empty 40 rs x h in
        let place : x.offset ≡ past 40 f.before = ap (λ (a : Audited). a.offset) f.is in
        let truth : x.truth ≡ is_spelled (run empty f.before) f.kept = ap (λ (a : Audited). a.truth) f.is in
        subst (λ (t : Bool). (t ≡ true) ↔ TrueAt b x.offset) (sym truth)
        (tells version law b rs rest f.before f.kept f.after x.offset front f.whole place)

-- what is found in the front of a log, or no memory
pub audits_are : (version : Version) → OneFront → LogEnds → (b : List ℕ) → length b ≤ log_limit → HasHeader version b
    → (result : Result (Vec (ℕ × Bool)) Fault) → IfOk result (λ v. IsAuditedFrom version empty b 40 v.items)
    → IfErr result (λ e. e ≡ Resources) → Audits b result
audits_are version law ends b short head (Ok v) is refused =
    let front = whole_front version b is.records is.end is.why (started version ends b head) short is.front in (
      short,
      (version, head),
      subst (IsAudit b) (sym is.told) (is_audit version law b is.records (drop is.end b) front),
    )
audits_are version law ends b short head (Err e) is refused = subst (λ (f : Fault). Refused b f) (sym refused) tt

-- what is told of its records is its audit
pub audits_at : (b : List ℕ) (offset : ℕ) (x : Begun) → IsBegun carried_next b offset x → (result : Result (Vec (ℕ × Bool)) Fault)
    → IfOk result (λ v. IsAuditedFrom (version_of x.version) x.state b offset v.items)
    → IfErr result (λ e. e ≡ Resources) → AuditsAt b offset result
audits_at b offset x is (Ok v) audited refused =
    let has = from_checkpoint carried_next b offset x is audited.records audited.end audited.why audited.front in (
      record {
        version = version_of x.version;
        base = x.state;
        kept = is.kept;
        after = has.after;
        rest = drop audited.end b;
        front = has.from.front;
      },
      audited.told ∙ ap (audits x.state offset) has.are,
    )
audits_at b offset x is (Err e) audited refused = rw refused tt
