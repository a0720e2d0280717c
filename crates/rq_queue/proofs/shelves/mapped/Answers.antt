use Rattle.std.proofs.Common.{rules, map}
use Rattle.std.specs.BTreeMap.{IsFromIterResult}
use Rattle.std.proofs.lemmas.Iterator.{YieldsList-from_map}
use Rattle.std.proofs.lemmas.Iterator.Adapters.{YieldsList-from_vec, fact_from_collect}
use Rattle.std.proofs.lemmas.Iterator.Consumers.{YieldsList-at}
use Rattle.std.proofs.lemmas.Result.{IfOk-at_ok}
use Rattle.rq_queue.proofs.Building.{made_keyed, with_key}
use Rattle.rq_queue.proofs.Doing.{free_cmp}
use Rattle.rq_queue.proofs.shelves.mapped.Goals as goal

pub returns-clause-made : goal.returns-clause-made
returns-clause-made c =
    let made = IfOk-at_ok (IsFromIterResult free_cmp (map with_key c.args.list.items)) c.in_ok-free.was
    (fact_from_collect (IsFromIterResult free_cmp) c.collect.result c.collect.ensures.ran
    (YieldsList-from_map _ with_key (YieldsList-at c.map-keyed.ensures.source
    (YieldsList-from_vec {s = c.into_iter.result} c.args.list.items (search rules) (search rules)))
    c.map-keyed.ensures.closure (λ x r q k. search rules))) in
    made_keyed c.args.list.items c.in_ok-free.free c.requires.free c.requires.apart made
