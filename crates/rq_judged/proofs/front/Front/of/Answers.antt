use Rattle.std.proofs.Common.{List, subst}
use Rattle.rq_record.specs.Views.{version_of}
use Rattle.rq_front.specs.Chains.{bodies_at}
use Rattle.rq_front.specs.declared.spans.Span.{Span}
use Rattle.rq_judged.specs.Readings.{IsKnownOfBodies, AreApart}
use Rattle.rq_judged.proofs.front.Front.of.Goals as goal

-- what is known of the chain's bodies
known : (g : _) (c : goal.After-settled g)
    → IsKnownOfBodies (version_of c.args.version) c.args.state.now
    (bodies_at c.args.bytes.now c.args.found.now.spans.items) c.in_ok-known.known
known g c =
    let apart = subst (λ (ss : List Span). AreApart (version_of c.args.version)
    (bodies_at c.args.bytes.now ss) c.in_ok-parts.parts) c.deref.ensures.value c.in_ok-parts.ensures.parts in
    c.in_ok-known.ensures (bodies_at c.args.bytes.now c.args.found.now.spans.items) apart

pub returns-clause-front : goal.returns-clause-front
returns-clause-front g c = λ offset chain. c.settled.ensures.front (version_of c.args.version) c.args.state.now
    c.args.bytes.now offset chain (known g c)

pub returns-clause-bodies : goal.returns-clause-bodies
returns-clause-bodies g c = c.settled.ensures.bodies (version_of c.args.version) c.args.state.now
    (bodies_at c.args.bytes.now c.args.found.now.spans.items) (known g c)

pub returns-clause-analysis : goal.returns-clause-analysis
returns-clause-analysis g c = c.settled.ensures.analysis (version_of c.args.version) c.args.state.now
    (bodies_at c.args.bytes.now c.args.found.now.spans.items) (known g c)
