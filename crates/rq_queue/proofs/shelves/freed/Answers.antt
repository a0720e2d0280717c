use Rattle.std.proofs.Common.{sym, subst, ℕ, [], ◌∷◌, List, refl}
use Rattle.std.specs.List.{AllByRecursion}
use Rattle.std.specs.Map.{values_of}
use Rattle.std.specs.BTreeMap.{insert_entry}
use Rattle.rq_queue.specs.Kept.{Entry, Among, IsKeyed}
use Rattle.rq_queue.proofs.Doing.{free_cmp, no_key, one_in, still_keyed}
use Rattle.rq_queue.proofs.shelves.freed.Goals as goal

pub returns-clause-among : goal.returns-clause-among
returns-clause-among c =
    λ k h. subst (λ (es : List Entry). Among (c.args.e ∷ []) (values_of es) (values_of c.args.free.now.entries))
    (sym c.in_ok-insert.ensures.entries)
    (subst (λ (key : ℕ × ℕ). Among (c.args.e ∷ [])
    (values_of (insert_entry free_cmp c.args.free.now.entries (record { 0 = key.0 }, key.1) c.args.e))
    (values_of c.args.free.now.entries)) (sym c.key-key.ensures)
    (one_in (record { 0 = c.args.e.priority }, c.args.e.id) c.args.e c.args.free.now.entries
    (no_key c.args.e.priority c.args.e c.args.free.now.entries k h)))

pub returns-clause-keyed : goal.returns-clause-keyed
returns-clause-keyed c = λ k h. subst (AllByRecursion IsKeyed) (sym c.in_ok-insert.ensures.entries)
    (subst (λ (key : ℕ × ℕ). AllByRecursion IsKeyed
    (insert_entry free_cmp c.args.free.now.entries (record { 0 = key.0 }, key.1) c.args.e)) (sym c.key-key.ensures)
    (still_keyed (record { 0 = c.args.e.priority }, c.args.e.id) c.args.e c.args.free.now.entries (refl, c.requires.mark)
    (no_key c.args.e.priority c.args.e c.args.free.now.entries k h) k))
