-- The end of a judged front is that of its restart.
use Rattle.std.proofs.Common.{◌≡◌, ℕ, ◌+◌, ◌≤◌, List, ◌∷◌, length, take, drop, refl, ap, ◌∙◌, arith}
use Rattle.std.specs.Prelude.{Option, is_some, Ok}
use Rattle.std.proofs.lemmas.List.{take_at, length-append, length-drop}
use Rattle.rq_model.specs.Records.{Record, Checkpoint, Version}
use Rattle.rq_model.specs.Frames.{HasHeader, before, frames_of, header, log_of}
use Rattle.rq_model.specs.Laws.{NumbersAfter, EmptyIsWellFormed}
use Rattle.rq_model.specs.States.{empty}
use Rattle.rq_model.specs.Machine.{run}
use Rattle.rq_model.specs.Fronts.{IsFront, restarted}
use Rattle.rq_model.proofs.Longest.{front_whole}
use Rattle.rq_model.proofs.Restarts.{header_long}
use Rattle.rq_lawful.specs.declared.rules.Rule.{Rule}
use Rattle.rq_judged.specs.FrontEnds.{FindsEnd, FindsEndAt, is_law}
use Rattle.rq_judged.specs.JudgedFronts.{IsJudged, IsJudgedAt}
use Rattle.rq_judged.specs.Views.{why_of}
use Rattle.rq_judged.specs.declared.ends.FrontEnd.{FrontEnd}
use Rattle.rq_judged.specs.declared.judged.JudgedFront.{JudgedFront}

-- a log with a front begins with its header
headed : (b : List ℕ) (version : Version) (rs : List Record) (rest : List ℕ) → IsFront b version rs rest
    → HasHeader version b
headed b version rs rest h = ap (take 40) h.whole ∙ take_at (header version) h.bytes 40 (header_long version)

-- what is told of a judged front, beside its first record's number
pub record IsTold (b : List ℕ) (f : JudgedFront) (x : FrontEnd × Option Rule) : Type 0 where
  pub used : x.0.used ≡ f.end.used
  pub total : x.0.total ≡ length b
  pub why : why_of x.0.why ≡ why_of f.end.why
  pub rule : is_some x.1 ≡ is_law (why_of f.end.why)

pub found : NumbersAfter → EmptyIsWellFormed → (b : List ℕ) (f : JudgedFront) → IsJudged b f
    → (x : FrontEnd × Option Rule) → x.0.next ≡ f.end.records → IsTold b f x → FindsEnd b (Ok x)
found after well b f h x records told =
    let rest = drop f.end.used b in
    let r = restarted (run empty h.records) (length rest) (length b) (why_of f.end.why) in
    let next : (run empty h.records).next ≡ 0 + length h.records =
    (after h.version empty h.records well h.front.longest.begins.lawful).next in
    let long : length b ≡ f.end.used + length rest =
    omega (
      arith,
      ap length (front_whole b h.version h.records rest h.front),
      length-append (log_of h.version h.records) rest,
      h.used,
    ) in (
      h.front.short,
      (h.version, headed b h.version h.records rest h.front),
      r,
      record {
        version = h.version;
        records = h.records;
        rest = rest;
        why = why_of f.end.why;
        front = h.front;
        ends = h.ends;
        answer = refl;
      },
      record {
        end = record {
          next = omega (arith, records, next, h.count);
          used = omega (arith, told.used, long);
          total = told.total;
          why = told.why;
        };
        rule = told.rule;
      },
    )

pub found_at : NumbersAfter → (b : List ℕ) (offset : ℕ) (f : JudgedFront) (h : IsJudgedAt b offset f)
    → (x : FrontEnd × Option Rule) → x.0.next ≡ h.base.next + f.end.records → IsTold b f x
    → FindsEndAt b offset (Ok x)
found_at after b offset f h x records told =
    let rest = drop f.end.used b in
    let xs : List Record = Checkpoint h.kept ∷ h.after in
    let begins = h.front.front.begins in
    let r = restarted (run h.base xs) (length rest) (length b) (why_of f.end.why) in
    let next : (run h.base xs).next ≡ h.base.next + length xs =
    (after h.version h.base xs h.front.spells.keeps begins.lawful).next in
    let within : f.end.used ≤ length b =
    omega (
      arith,
      h.used,
      ap length begins.whole,
      length-append (frames_of (before offset b) xs) rest,
      length-drop offset b,
      h.front.checkpoint.frame.whole.room,
    ) in (
      h.front.short,
      (h.version, h.front.header),
      r,
      record {
        version = h.version;
        state = h.base;
        kept = h.kept;
        records = xs;
        rest = rest;
        why = why_of f.end.why;
        short = h.front.short;
        header = h.front.header;
        checkpoint = h.front.checkpoint;
        spells = h.front.spells;
        front = h.front.front;
        ends = h.ends;
        answer = refl;
      },
      record {
        end = record {
          next = omega (arith, records, next, h.count);
          used = omega (arith, told.used, length-drop f.end.used b, within);
          total = told.total;
          why = told.why;
        };
        rule = told.rule;
      },
    )
