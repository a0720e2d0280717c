use Rattle.std.proofs.Common.{◌≡◌, ◌∙◌, arith, rules}
use Rattle.rq_exchange.proofs.Words.{eqb_tells, common_steps, IsPart, map_push}
use Rattle.rq_exchange.proofs.Loops.{next_has, all_came}
use Rattle.rq_exchange.proofs.gathered.place.Goals as goal

pub loop-one-preserved : goal.loop-one-preserved
loop-one-preserved c = (
  c.put.ensures.size ∙ c.loop-one.invariant.0,
  λ t all x.
      let before = c.loop-one.invariant.1 t all x in
      let part : IsPart t c.in-Some.one = next_has _ _ c.next.new.self c.args.done.items (cc) (cc) c.loop-one.yielded
      c.loop-one.yielded_by (IsPart t) all c.in-Some.is c.next.ensures.steps in
      let placed = c.put.ensures.placed t part in
      (λ h. placed.keeps x (before.0 h), λ h. grind (arith, common_steps, map_push, eqb_tells)),
)

pub returns-clause-placed : goal.returns-clause-placed
returns-clause-placed c = λ t all.
    let came : c.loop-one.yielded ≡ c.args.done.items = search (rules, all_came) in
    record {
      keeps = λ x. (c.loop-one.invariant.1 t all x).0;
      parts = λ x h. (c.loop-one.invariant.1 t all x).1 (rw came h);
    }
