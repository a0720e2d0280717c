use Rattle.std.proofs.Common.{sym, ap, ◌∙◌, ℕ, List, Option, map}
use Rattle.std.specs.BTreeMap.{insert_entry}
use Rattle.std.specs.Cmp.Lexicographic.{slice_cmp}
use Rattle.std.specs.Ordering.{nat_cmp}
use Rattle.std.proofs.lemmas.Cmp.{nat_list_cmp_total}
use Rattle.rq_model.specs.Machine.{registered}
use Rattle.rq_model.specs.States.{Last}
use Rattle.rq_queue.specs.Roll.{RollEntry, registrant_of}
use Rattle.rq_queue.proofs.Roll.{up_of}
use Rattle.rq_queue.proofs.Registered.{still_registered, newly_registered}
use Rattle.rq_queue.proofs.registrants.Registrants.register.Goals as goal

pub returns-then-contains_key-clause-done : goal.returns-then-contains_key-clause-done
returns-then-contains_key-clause-done c = λ queue.
    let es = c.self.inside.lasts.entries in
    ap (map (registrant_of queue)) (sym c.self.view_is)
    ∙ (still_registered queue c.in_ok-key.key es (sym c.contains_key.ensures ∙ c.if-contains_key.true)
    ∙ (ap (λ (name : List ℕ). registered queue name (map (registrant_of queue) es)) c.in_ok-key.ensures.kept
    ∙ ap (λ (es : List RollEntry). registered queue c.args.name.now (map (registrant_of queue) es)) c.self.view_is))

pub invariant_of-self-2 : goal.invariant_of-self-2
invariant_of-self-2 c = up_of (slice_cmp nat_cmp) nat_list_cmp_total _ c.in_ok-insert.ensures.ordered

pub returns-clause-done : goal.returns-clause-done
returns-clause-done c = λ queue.
    let es = c.self.inside.lasts.entries in
    ap (map (registrant_of queue)) (c.in_ok-insert.ensures.entries
    ∙ ap (λ (l : Option Last). insert_entry (slice_cmp nat_cmp) es c.in_ok-key.key l) c.none.ensures)
    ∙ (newly_registered queue c.in_ok-key.key es c.self.invariant
    (sym c.contains_key.ensures ∙ c.if-contains_key.false)
    ∙ (ap (λ (name : List ℕ). registered queue name (map (registrant_of queue) es)) c.in_ok-key.ensures.kept
    ∙ ap (λ (es : List RollEntry). registered queue c.args.name.now (map (registrant_of queue) es)) c.self.view_is))
