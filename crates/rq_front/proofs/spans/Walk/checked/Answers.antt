use Rattle.std.proofs.Common.{◌≡◌, ◌-◌, ◌≤◌, ℕ, List, length, take, get_or, sym, ap, subst, arith}
use Rattle.std.specs.Prelude.{All}
use Rattle.std.proofs.lemmas.List.{take_all, length-take}
use Rattle.std.proofs.lemmas.List.Elements.{All-from_recursion}
use Rattle.rq_model.specs.Frames as model
use Rattle.rq_model.specs.LogLaws.{RightIsFrame, RunStops}
use Rattle.rq_bytes.specs.Readers.{IsBytes}
use Rattle.rq_front.proofs.Walks.{Found, found, walk_spans, walk_cut, IsCut}
use Rattle.rq_front.specs.Chains.{rest_of}
use Rattle.rq_front.specs.Walks.{IsWalk, IsRight, IsSpanOf, IsFirstWrong}
use Rattle.rq_front.specs.declared.spans.Span.{Span}
use Rattle.rq_front.proofs.spans.Walk.checked.Goals as goal

pub first_wrong-requires-clause-inside : goal.first_wrong-requires-clause-inside
first_wrong-requires-clause-inside g c κs within =
    let h = c.requires.walk.1 in
    let all = All-from_recursion (IsSpanOf c.args.bytes.now) c.args.self.found.spans.items
    (walk_spans c.args.bytes.now c.requires.walk.0 c.args.self.found.spans.items c.args.self.found.end
    (omega (arith, h.after)) h.walk) in
    subst (All (IsSpanOf c.args.bytes.now)) (sym c.deref.ensures.value) all

-- the run up to the first wrong span
cut_found : RightIsFrame → RunStops → (b : List ℕ) (from : ℕ) (spans : List Span) (end index : ℕ) (s : Span) → IsBytes b
    → from ≤ length b → IsWalk b from spans end
    → IsFirstWrong b spans index → s ≡ get_or spans index s → Found b from (take index spans) (s.start - 4) model.Digest
cut_found law stops b from spans end index s bytes le walk first is =
    let cut : IsCut b from spans index s =
    subst (IsCut b from spans index) (sym is) (walk_cut b from spans end index s walk first.within) in
    let wrong : IsRight b s → ⊥ = λ right. first.wrong s (subst (IsRight b) is right) in
    found law stops b from (take index spans) (s.start - 4) model.Digest bytes le cut.walk first.before
    (cut.frame, λ same. wrong (record { whole = cut.frame; right = same }))

pub returns-in-Some : goal.returns-in-Some
returns-in-Some g c = λ from h.
    let b = c.args.bytes.now in
    let walked = c.args.self.found in
    let index = c.in-Some.index in
    let bytes : IsBytes b = λ i. omega (arith, c.type_inv.bytes i) in
    let first = subst (λ (ss : List Span). IsFirstWrong b ss index) c.deref.ensures.value c.in-Some.ensures.some in
    let it = subst (λ (end : ℕ). Found b from (take index walked.spans.items) end model.Digest) (sym c.offset.ensures)
    (cut_found c.frames_are_right.ensures.frame c.one_run.ensures.stops b from walked.spans.items walked.end index
    c.index.result.now bytes h.within h.walk first c.index.ensures) in
    let kept : c.truncate.new.self.items ≡ take index walked.spans.items = c.truncate.ensures.items in
    let many : length (take index walked.spans.items) ≡ index =
    omega (arith, first.within, length-take index walked.spans.items) in
    record {
      run = rw kept it.run;
      spans = rw kept it.are;
      inside = rw kept it.inside;
      few = rw kept it.few;
      front = rw kept (sym (ap (λ (n : ℕ). take n walked.spans.items) many));
    }

pub returns-in_default : goal.returns-in_default
returns-in_default g c = λ from h.
    let b = c.args.bytes.now in
    let walked = c.args.self.found in
    let bytes : IsBytes b = λ i. omega (arith, c.type_inv.bytes i) in
    let right = subst (All (IsRight b)) c.deref.ensures.value c.in_default.ensures.none in
    let it = found c.frames_are_right.ensures.frame c.one_run.ensures.stops b from walked.spans.items walked.end
    (rest_of walked.rest) bytes h.within h.walk right (h.rest (model.before walked.end b)) in
    record {
      run = it.run;
      spans = it.are;
      inside = it.inside;
      few = it.few;
      front =
          sym (take_all (length walked.spans.items) walked.spans.items (omega arith));
    }
