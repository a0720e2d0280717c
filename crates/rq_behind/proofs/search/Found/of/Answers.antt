use Rattle.std.proofs.Common.{◌≡◌, ◌∙◌, ℕ, ◌+◌, ◌-◌, List, [], ◌∷◌, ◌++◌, drop, Option, sym, ap, subst, arith}
use Rattle.std.proofs.lemmas.List.Sums.{sum_by_push}
use Rattle.rq_model.specs.Frames.{stated}
use Rattle.rq_front.specs.declared.spans.Span.{Span}
use Rattle.rq_record.specs.Views.{version_of}
use Rattle.rq_behind.specs.Behind.{AreRightFrames, IsNext, frame_bytes}
use Rattle.rq_behind.proofs.Sound.{found_all, found_apart, found_more, found_right, frame_ends, next_right}
use Rattle.rq_behind.proofs.search.Found.of.Goals as goal

pub span_at-span-requires-clause-within : goal.span_at-span-requires-clause-within
span_at-span-requires-clause-within c =
    let b = c.args.bytes.now in
    let next = next_right (version_of c.args.version) b c.frames.at c.in-At.place c.in-At.ensures in
    let ends = frame_ends b c.in-At.place next.0.whole in
    omega (arith, ends)

pub frames-preserved : goal.frames-preserved
frames-preserved c =
    let version = version_of c.args.version in
    let b = c.args.bytes.now in
    let s = c.span_at-span.result in
    let start = c.span_at-span.ensures.start in
    let place : c.in-At.place ≡ s.start - 4 = omega (arith, start) in
    let next = next_right version b c.frames.at c.in-At.place c.in-At.ensures in
    let items : c.push.new.self.items ≡ c.frames.spans.items ++ s ∷ [] = c.in_ok-push-in-At.ensures.items in
    let sum = sum_by_push (λ (x : Span). 36 + x.len) c.frames.spans.items s in
    let bytes : frame_bytes c.push.new.self.items ≡ frame_bytes c.frames.spans.items + (36 + s.len) =
    ap frame_bytes items ∙ sum in
    record {
      low = omega (arith, start, next.1, c.frames.invariant.low);
      high = omega (arith, c.span_at-span.ensures.high);
      sum = omega (arith, bytes, start, next.1, c.frames.invariant.sum);
      found =
          subst (λ (xs : List Span). (rest : List Span) (stop : Option ℕ)
          → AreRightFrames version b (s.start + s.len + 32) rest stop → AreRightFrames version b c.args.from (xs ++ rest) stop)
          (sym items)
          (found_more version b c.args.from c.frames.at c.frames.spans.items s c.frames.invariant.found
          (omega (arith, start)) (subst (IsNext version b c.frames.at) place c.in-At.ensures)
          (c.span_at-span.ensures.len ∙ ap (λ (n : ℕ). stated (drop n b)) place));
    }

pub returns-in-Nowhere-clause-found : goal.returns-in-Nowhere-clause-found
returns-in-Nowhere-clause-found c =
    found_all (version_of c.args.version) c.args.bytes.now c.args.from c.frames.at c.frames.spans.items
    c.in-Nowhere.gave_up c.frames.invariant.found c.in-Nowhere.ensures

pub returns-in-Nowhere-clause-right : goal.returns-in-Nowhere-clause-right
returns-in-Nowhere-clause-right c =
    found_right (version_of c.args.version) c.args.bytes.now c.args.from c.frames.spans.items c.in-Nowhere.gave_up
    (returns-in-Nowhere-clause-found c)

pub returns-in-Nowhere-clause-apart : goal.returns-in-Nowhere-clause-apart
returns-in-Nowhere-clause-apart c =
    found_apart (version_of c.args.version) c.args.bytes.now c.args.from c.frames.spans.items c.in-Nowhere.gave_up
    c.requires.within (returns-in-Nowhere-clause-found c)
