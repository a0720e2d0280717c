use Rattle.std.proofs.Common.{◌≤◌, ◌∙◌, arith, ap, subst, List}
use Rattle.std.specs.List.{flat_map}
use Rattle.rq_model.specs.States.{Definition}
use Rattle.rq_model.specs.StateSpelling.{definition_bytes}
use Rattle.rq_state.specs.Comparing.{left_after}
use Rattle.rq_standing.proofs.Spellings.{lists_compared}
use Rattle.rq_standing.proofs.queues.Queues.compare_lists.Goals as goal

pub compare-requires : goal.compare-requires
compare-requires c =
    let t = c.requires.few.0 in
    let holds = c.requires.few.1 in
    record {
      few = (
        t,
        holds.well,
        holds.units,
        omega (arith, c.requires.few.2),
      );
    }

pub returns-clause-compared : goal.returns-clause-compared
returns-clause-compared c = λ t holds.
    lists_compared t c.args.bytes.now c.compare_all.new.bytes c.compare.new.bytes c.compare_registrants.new.bytes
    c.compare_elements.new.bytes c.compare_notes.new.bytes
    (c.compare_all.ensures ∙ ap (λ (ds : List Definition). left_after (flat_map definition_bytes ds) c.args.bytes.now)
    (c.deref.ensures.value ∙ holds.definitions))
    (c.compare.ensures t holds.well holds.units) (c.compare_registrants.ensures t holds)
    (c.in_ok-compare_elements.ensures.compared t holds) (c.in_ok-compare_notes.ensures.compared t holds)
