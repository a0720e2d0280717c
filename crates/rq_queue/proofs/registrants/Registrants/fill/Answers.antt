use Rattle.std.proofs.Common.{◌≡◌, ◌<◌, ◌∙◌, ap, sym, subst, map, length, ℕ, arith}
use Rattle.std.specs.BTreeMap.{insert_entry}
use Rattle.std.specs.Cmp.Lexicographic.{slice_cmp}
use Rattle.std.specs.Ordering.{nat_cmp}
use Rattle.std.proofs.Math.ListN.{get_or-map}
use Rattle.std.proofs.lemmas.Bool.{cases_Bool}
use Rattle.std.proofs.lemmas.Bool.Decides.{nat_tests}
use Rattle.std.proofs.lemmas.List.{length-map}
use Rattle.rq_queue.specs.Roll.{entry_of, is_early}
use Rattle.rq_queue.proofs.Registered.{taken_first, taken_last, taken_here, taken_over}
use Rattle.rq_queue.proofs.registrants.Registrants.fill.Goals as goal
use Rattle.rq_queue.proofs.registrants.Registrants.fill.Goals.{then-at-early+in_ok-put, else-at-early}

pub loop-at-init : goal.loop-at-init
loop-at-init c = c.requires.early ∙ taken_first c.args.early (map entry_of c.args.own.now)

pub loop-at-preserved : goal.loop-at-preserved
loop-at-preserved c =
    let at = c.loop-at.at in
    let own = c.args.own.now in
    let entries = map entry_of own in
    let here : at < length own = omega (arith, c.loop-at-test.true) in
    elim c.if-at-early.branch [
      | then-at-early+in_ok-put w ↦
          let r = w.index-own-at.result in
          let taken : is_early at ≡ c.args.early =
          grind (arith, nat_tests, w.if-at-early.true, cases_Bool (is_early at), cases_Bool c.args.early) in
          let entry = ap entry_of w.index-own-at.is ∙ sym (get_or-map entry_of own at r) in
          w.self-is ∙ w.in_ok-put.ensures.done
          ∙ (λ i. insert_entry (slice_cmp nat_cmp) (c.loop-at.invariant i) (entry i).0 (entry i).1)
          ∙ taken_here c.args.early at entries (entry_of r) c.requires.rise
          (subst (λ (n : ℕ). at < n) (sym (length-map own entry_of)) here) taken
      | else-at-early w ↦
          let apart : (is_early at ≡ c.args.early → ⊥) =
          λ e. grind (arith, nat_tests, e, w.if-at-early.false, cases_Bool (is_early at), cases_Bool c.args.early) in
          w.self-is ∙ c.loop-at.invariant ∙ taken_over c.args.early at entries apart
    ]

pub returns-clause-done : goal.returns-clause-done
returns-clause-done c =
    let own = c.args.own.now in
    c.loop-at.invariant ∙ taken_last c.args.early c.loop-at.at (map entry_of own)
    (omega (arith, length-map own entry_of, c.loop-at-test.false))
