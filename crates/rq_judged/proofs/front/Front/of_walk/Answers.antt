use Rattle.std.proofs.Common.{◌≡◌, ℕ, List, length, take, sym, ap, subst, ◌∙◌, arith}
use Rattle.std.proofs.lemmas.List.{take-map}
use Rattle.rq_record.specs.Views.{version_of}
use Rattle.rq_front.specs.Chains.{body_at, bodies_at}
use Rattle.rq_front.specs.Walks.{Walks, spans_of}
use Rattle.rq_front.specs.declared.spans.Span.{Span}
use Rattle.rq_judged.specs.FrontEnds.{IsChain}
use Rattle.rq_judged.specs.Readings.{IsKnownOfBodies, KnowsBodies, AreApart}
use Rattle.rq_judged.proofs.front.Front.of_walk.Goals as goal

-- what is known of the bodies of the chain
known : (g : _) (c : goal.After-drop-found-2 g) (offset : ℕ) → Walks c.args.bytes.now offset c.args.walk
    → IsKnownOfBodies (version_of c.args.version) c.args.state.now
    (bodies_at c.args.bytes.now c.check_meanwhile-found.result.0.spans.items) c.keep_first.new.known
known g c offset walks =
    let b = c.args.bytes.now in
    let s = c.args.state.now in
    let found = c.check_meanwhile-found.result.0 in
    let spans = spans_of c.args.walk in
    let apart = subst (λ (ss : List Span). AreApart (version_of c.args.version) (bodies_at b ss) c.in_ok-parts.parts)
    c.spans-2.ensures c.in_ok-parts.ensures.parts in
    let all = subst (KnowsBodies (version_of c.args.version) s c.in_ok-parts.parts) c.in_ok-known.was
    c.check_meanwhile-found.ensures.known in
    let first = c.in_ok-keep_first.ensures.known (bodies_at b spans) (all (bodies_at b spans) apart) in
    let many : c.len.result ≡ length found.spans.items = omega (arith, c.len.ensures) in
    let same : take c.len.result (bodies_at b spans) ≡ bodies_at b found.spans.items =
    ap (λ (n : ℕ). take n (bodies_at b spans)) many ∙ take-map (body_at b) (length found.spans.items) spans
    ∙ ap (bodies_at b) (sym (c.check_meanwhile-found.ensures.chain offset walks).front) in
    subst (λ (bodies : List (List ℕ)). IsKnownOfBodies (version_of c.args.version) s bodies c.keep_first.new.known) same
    first

chain : (g : _) (c : goal.After-drop-found-2 g) (offset : ℕ) → Walks c.args.bytes.now offset c.args.walk
    → IsChain c.args.bytes.now offset c.check_meanwhile-found.result.0
chain g c offset walks =
    let is = c.check_meanwhile-found.ensures.chain offset walks in
    record {
      short = c.requires.short;
      after = walks.after;
      within = walks.within;
      run = is.run;
      spans = is.spans;
      inside = is.inside;
    }

pub returns-clause-front : goal.returns-clause-front
returns-clause-front g c = λ offset walks. c.settled.ensures.front (version_of c.args.version) c.args.state.now
    c.args.bytes.now offset (chain g c offset walks) (known g c offset walks)

pub returns-clause-analysis : goal.returns-clause-analysis
returns-clause-analysis g c =
    let offset = c.requires.walk.0 in
    c.settled.ensures.analysis (version_of c.args.version) c.args.state.now
    (bodies_at c.args.bytes.now c.check_meanwhile-found.result.0.spans.items) (known g c offset c.requires.walk.1)
