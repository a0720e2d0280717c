use Rattle.std.proofs.Common.{◌≡◌, ap, ◌∙◌, sym, subst, refl, true, [], ◌∷◌, List}
use Rattle.std.specs.BTreeMap.{insert_entry, is_at}
use Rattle.std.specs.List.{AllByRecursion}
use Rattle.std.specs.Ordering.{nat_cmp}
use Rattle.rq_model.specs.States.{Element}
use Rattle.rq_model.specs.Queues.{is_marked}
use Rattle.rq_model.proofs.Lists.{each_append}
use Rattle.rq_queue.specs.Kept.{Stowed, IsOfUnit, items_of}
use Rattle.rq_queue.proofs.Units.{Lists, stowed_at, stowed_of, each_at, each_in, found_of, on_err, same_at}
use Rattle.rq_queue.proofs.shelves.stow.Goals as goal

pub returns-in-Some-clause-stowed : goal.returns-in-Some-clause-stowed
returns-in-Some-clause-stowed c = subst (λ (es : Lists). Stowed c.args.e c.args.marked.now.entries es)
    (sym (c.get_mut.follows.holds c.push.new.self).0)
    (stowed_at (is_at (nat_cmp c.args.unit.0)) c.args.marked.now.entries c.in-Some.list.now c.push.new.self c.args.e
    (sym c.in-Some.ensures.value) c.in_ok-push.ensures.items)

pub returns-in-Some-clause-of_units : goal.returns-in-Some-clause-of_units
returns-in-Some-clause-of_units c = subst (AllByRecursion IsOfUnit)
    (sym (c.get_mut.follows.holds c.push.new.self).0)
    (each_at c.args.unit.0 c.args.marked.now.entries c.push.new.self
    (subst (λ (xs : List Element). AllByRecursion (λ (x : Element). is_marked c.args.unit.0 x.mark ≡ true) xs)
    (sym c.in_ok-push.ensures.items)
    (each_append (λ (x : Element). is_marked c.args.unit.0 x.mark ≡ true) c.in-Some.list.now.items (c.args.e ∷ [])
    (found_of c.args.unit.0 c.args.marked.now.entries c.in-Some.list.now (sym c.in-Some.ensures.value) c.requires.of_units)
    (c.requires.mark, tt))) c.requires.of_units)

pub returns-clause-stowed : goal.returns-clause-stowed
returns-clause-stowed c =
    let old = c.args.marked.now.entries in
    let list = c.in_ok-list.list in
    subst (λ (es : Lists). Stowed c.args.e old es)
    (sym (c.in_ok-insert.ensures.entries
    ∙ ap (λ m. insert_entry nat_cmp m.entries c.args.unit.0 list) c.get_mut.follows.holds-at-none))
    (stowed_of c.args.unit.0 old old [] list c.args.e
    (record { front = []; back = items_of old; whole_is = refl; others_are = refl })
    (sym c.in_default.ensures.value) c.in_ok-list.ensures.alone)

pub returns-clause-of_units : goal.returns-clause-of_units
returns-clause-of_units c =
    let list = c.in_ok-list.list in
    subst (AllByRecursion IsOfUnit)
    (sym (c.in_ok-insert.ensures.entries
    ∙ ap (λ m. insert_entry nat_cmp m.entries c.args.unit.0 list) c.get_mut.follows.holds-at-none))
    (each_in IsOfUnit c.args.unit.0 c.args.marked.now.entries list (sym c.in_default.ensures.value)
    (subst (λ (xs : List Element). AllByRecursion (λ (x : Element). is_marked c.args.unit.0 x.mark ≡ true) xs)
    (sym c.in_ok-list.ensures.alone) (c.requires.mark, tt)) c.requires.of_units)

pub returns-in_err-push-clause-same : goal.returns-in_err-push-clause-same
returns-in_err-push-clause-same c = on_err c.from_residual.result
    (ap items_of (c.get_mut.follows.holds c.push.new.self).0
    ∙ same_at (is_at (nat_cmp c.args.unit.0)) c.args.marked.now.entries c.in-Some.list.now c.push.new.self
    (sym c.in-Some.ensures.value) c.in_err-push.ensures.items)

pub returns-in_err-push-clause-of_units : goal.returns-in_err-push-clause-of_units
returns-in_err-push-clause-of_units c = subst (AllByRecursion IsOfUnit)
    (sym (c.get_mut.follows.holds c.push.new.self).0)
    (each_at c.args.unit.0 c.args.marked.now.entries c.push.new.self
    (subst (λ (xs : List Element). AllByRecursion (λ (x : Element). is_marked c.args.unit.0 x.mark ≡ true) xs)
    (sym c.in_err-push.ensures.items)
    (found_of c.args.unit.0 c.args.marked.now.entries c.in-Some.list.now (sym c.in-Some.ensures.value)
    c.requires.of_units)) c.requires.of_units)
