use Rattle.std.proofs.Common.{rules}
use Rattle.std.specs.Map.{values_of}
use Rattle.std.proofs.lemmas.Iterator.Consumers.{YieldsList-from_rest}
use Rattle.std.proofs.lemmas.Iterator.Adapters.{items_from_extend}
use Rattle.rq_queue.proofs.shelves.free_list.Goals as goal

pub returns-clause-listed : goal.returns-clause-listed
returns-clause-listed c =
    let h = items_from_extend c.extend.result c.extend.ensures.ran
    (YieldsList-from_rest (values_of c.args.free.entries) c.into_values.ensures.rest) in search rules
