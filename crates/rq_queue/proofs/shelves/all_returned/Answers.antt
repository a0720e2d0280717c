use Rattle.std.proofs.Common.{rules, ◌≡◌, ◌∷◌, ◌++◌, [], List, filter, sym, ap, ◌∙◌, append_assoc}
use Rattle.std.proofs.lemmas.Iterator.Consumers.{YieldsList-end}
use Rattle.std.proofs.lemmas.Iterator.Adapters.{YieldsList-from_vec}
use Rattle.std.proofs.lemmas.List.{append-nil, map-id}
use Rattle.std.proofs.lemmas.List.Elements.{filter-append}
use Rattle.rq_model.specs.States.{Element}
use Rattle.rq_model.specs.Machine.{leaves}
use Rattle.rq_queue.proofs.shelves.all_returned.Goals as goal

pub loop-e-preserved : goal.loop-e-preserved
loop-e-preserved c =
    let e = c.in-Some.e in
    let gone = leaves c.args.home.now c.args.unit.0 in
    record {
      freed = λ rest others s. c.in_ok-give_back.ensures.freed rest others _ _
          (c.loop-e.invariant.freed (e ∷ rest) others (s ∙ append_assoc c.loop-e.yielded (e ∷ []) rest));
      leaving = c.in_ok-give_back.ensures.leaving
          ∙ (ap (λ (xs : List Element). xs ++ filter gone (e ∷ [])) c.loop-e.invariant.leaving
          ∙ sym (filter-append gone c.loop-e.yielded (e ∷ [])));
    }

pub returns-clause-freed : goal.returns-clause-freed
returns-clause-freed c =
    let all : c.loop-e.yielded ≡ c.args.list.items =
    sym (map-id c.loop-e.yielded)
    ∙ (YieldsList-end (YieldsList-from_vec c.args.list.items (search rules) (search rules)) c.loop-e.yielded _
    c.loop-e.yielded_by _ c.next.new.self c.in-None.is c.next.ensures.steps).0 in
    λ others. c.loop-e.invariant.freed [] others (sym all ∙ sym (append-nil c.loop-e.yielded))
