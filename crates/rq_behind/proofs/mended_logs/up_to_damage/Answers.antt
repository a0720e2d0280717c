use Rattle.std.proofs.Common.{ℕ, List, subst}
use Rattle.rq_model.specs.Frames.{IsFrameRun}
use Rattle.rq_front.specs.Chains.{bodies_at, rest_of}
use Rattle.rq_behind.specs.declared.mending.Mending.{Mending}
use Rattle.rq_behind.proofs.Advances.{begun_at}
use Rattle.rq_behind.proofs.mended_logs.up_to_damage.Goals as goal

pub returns-clause-begun : goal.returns-clause-begun
returns-clause-begun g c =
    let found = c.in_ok-found.found in
    let bodies = bodies_at c.deref.result.now found.spans.items in
    let run = subst (λ (b : List ℕ). IsFrameRun b c.args.from bodies found.end (rest_of found.rest)) c.deref.ensures.value
    c.in_ok-found.ensures.run in
    let m : Mending = record { bytes = c.args.bytes; changes = c.new.result; at = found.end } in
    begun_at m c.args.from (rest_of found.rest) c.new.ensures.items c.requires.after c.requires.within (bodies, run)
