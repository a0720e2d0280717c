use Rattle.std.proofs.Common.{ℕ, ◌∷◌, List, Option, sym, ap, ◌∙◌, subst}
use Rattle.std.specs.BTreeMap.{BTreeMap, insert_entry}
use Rattle.std.specs.List.{AllByRecursion}
use Rattle.std.specs.Ordering.{nat_cmp}
use Rattle.rq_queue.specs.Priorities.{IsKnown, AreKnown}
use Rattle.rq_queue.proofs.Known.{known_with}
use Rattle.rq_queue.proofs.Units.{on_err}
use Rattle.rq_queue.proofs.priorities.kept_with.Goals as goal

pub returns-clause-known : goal.returns-clause-known
returns-clause-known c = λ es apart known.
    let e = c.args.e.now in
    let old = c.in-Some.by_id.entries in
    subst (λ (m : List (ℕ × ℕ)). AllByRecursion (IsKnown m) (e ∷ es))
    (sym (c.in_ok-insert.ensures.entries
    ∙ ap (λ (k : ℕ × ℕ). insert_entry nat_cmp old k.1 k.0) c.key-priority.ensures))
    (known_with e es old apart (subst (λ (o : Option (BTreeMap ℕ ℕ)). AreKnown o es) c.in-Some.is known))

pub returns-in_err-insert-clause-same : goal.returns-in_err-insert-clause-same
returns-in_err-insert-clause-same c = on_err c.from_residual.result
    (λ es known. subst (λ (m : List (ℕ × ℕ)). AllByRecursion (IsKnown m) es)
    (sym c.in_err-insert.ensures.err) (subst (λ (o : Option (BTreeMap ℕ ℕ)). AreKnown o es) c.in-Some.is known))
