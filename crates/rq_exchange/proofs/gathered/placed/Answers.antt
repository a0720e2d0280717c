use Rattle.std.proofs.Common.{◌∙◌, All, arith}
use Rattle.rq_exchange.proofs.Words.{common_steps, IsPart, map_push}
use Rattle.rq_exchange.proofs.Loops.{next_has}
use Rattle.rq_exchange.proofs.gathered.placed.Goals as goal

pub loop-done-preserved : goal.loop-done-preserved
loop-done-preserved c = (
  c.place.ensures.size ∙ c.loop-done.invariant.0,
  λ t all x h.
      let before = c.loop-done.invariant.1 t all x in
      let part : All (IsPart t) c.in-Some.done.items = next_has _ _ c.next.new.self c.args.all.items (cc) (cc)
      c.loop-done.yielded c.loop-done.yielded_by (λ done. All (IsPart t) done.items) all c.in-Some.is
      c.next.ensures.steps in
      let placed = c.place.ensures.placed t part in
      grind (arith, common_steps, map_push),
)
