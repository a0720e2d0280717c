use Rattle.std.proofs.Common.{ℕ, List, ap, arith, length, subst}
use Rattle.rq_model.specs.Frames.{IsFrameRun}
use Rattle.rq_front.specs.Chains.{IsHeaded, bodies_at, rest_of}
use Rattle.rq_behind.proofs.Advances.{is_mended}
use Rattle.rq_behind.proofs.mended_logs.mend_log.Goals as goal

pub chain-requires-clause-within : goal.chain-requires-clause-within
chain-requires-clause-within g c κs within = λ long.
    let size = c.in_ok-untried.ensures.size in
    let first = c.in_ok-mending.ensures.begun.mended.changed.size in
    let here = ap length c.deref.ensures.value in
    let low = c.requires.within (omega (arith, long, size, first, here)) in
    omega (arith, low, size, first, here)

pub returns-clause-mended : goal.returns-clause-mended
returns-clause-mended g c =
    let found = c.in-Ok.found in
    let bodies = bodies_at c.deref.result.now found.spans.items in
    let headed = subst IsHeaded c.deref.ensures.value c.in-Ok.ensures.log.1 in
    let run = subst (λ (b : List ℕ). IsFrameRun b c.args.from bodies found.end (rest_of found.rest)) c.deref.ensures.value
    c.in-Ok.ensures.run in
    is_mended c.args.bytes.items c.args.from c.in_ok-mending.mending c.mend_places.new.self found.end (rest_of found.rest)
    c.in_ok-mending.ensures.begun c.in_ok-untried.ensures headed (bodies, run)
