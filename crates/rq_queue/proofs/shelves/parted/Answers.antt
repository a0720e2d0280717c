use Rattle.std.proofs.Common.{rules, ◌≡◌, ◌+◌, ◌-◌, ◌∷◌, length, arith, subst, sym}
use Rattle.std.specs.List.Sorted.{IsPermutation}
use Rattle.std.proofs.lemmas.List.Sorted.{IsPermutation-swap_remove}
use Rattle.rq_queue.proofs.Building.{AreFreeFrom, all_free, marked_more, one_out}
use Rattle.rq_queue.proofs.shelves.parted.Goals as goal

pub loop-at-preserved-in-Continue-1 : goal.loop-at-preserved-in-Continue-1
loop-at-preserved-in-Continue-1 c =
    let before = c.loop-at.invariant in
    let at = c.loop-at.at - 1 in
    let es = c.loop-at.free.items in
    let rest = c.swap_remove-e.new.self.items in
    let e = c.swap_remove-e.result in
    let next : c.loop-at.at ≡ at + 1 = omega (arith, c.loop-at-test.true) in
    let fewer : length rest + 1 ≡ length es = search rules in
    let out : IsPermutation es (e ∷ rest) = subst (λ xs. IsPermutation es (e ∷ xs)) (sym c.swap_remove-e.ensures.items)
    (IsPermutation-swap_remove es at e (omega (arith, next, before.0)) c.swap_remove-e.ensures.value) in (
      omega (arith, next, before.0, fewer),
      (
        one_out at es rest fewer (search rules) (subst (λ n. AreFreeFrom n es) next before.1.0),
        (
          c.in_ok-stow.ensures.of_units,
          marked_more c.args.items.items es rest c.loop-at.marked.entries c.stow.new.marked.entries e
              c.in_ok-stow.ensures.stowed out before.1.1.1,
        ),
      ),
    )

pub returns-clause-free : goal.returns-clause-free
returns-clause-free c = all_free c.loop-at.free.items
    (λ k e l u. c.loop-at.invariant.1.0 k e (omega (arith, c.loop-at-test.false, l)) u)
