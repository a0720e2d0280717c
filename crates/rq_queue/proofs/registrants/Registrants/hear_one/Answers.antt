use Rattle.std.proofs.Common.{◌≡◌, ℕ, List, Some, None, sym, ap, ◌∙◌, subst, map}
use Rattle.std.specs.Map.{lookup, set_value}
use Rattle.std.specs.BTreeMap.{is_at}
use Rattle.std.specs.Cmp.Lexicographic.{slice_cmp}
use Rattle.std.specs.Ordering.{nat_cmp}
use Rattle.std.proofs.lemmas.Cmp.{nat_list_cmp_total}
use Rattle.rq_model.specs.Machine.{later}
use Rattle.rq_queue.specs.Roll.{RollEntry, registrant_of, IsRoll, heard}
use Rattle.rq_queue.specs.declared.registrants.Registrants.TheInside.{Inside}
use Rattle.rq_queue.proofs.Roll.{up_of}
use Rattle.rq_queue.proofs.Registered.{not_own, nobody_hears, one_hears}
use Rattle.rq_queue.proofs.registrants.Registrants.hear_one.Goals.{in-Some+in_ok-hear, in_default}
use Rattle.rq_queue.proofs.registrants.Registrants.hear_one.Goals as goal

pub returns-then-not-is_by_at-clause-done : goal.returns-then-not-is_by_at-clause-done
returns-then-not-is_by_at-clause-done c =
    not_own c.args.unit.0 c.args.queue.0 c.args.note.now c.args.self.now
    (sym c.is_by_at.ensures ∙ c.if-not-is_by_at.true)

pub invariant_of-self : goal.invariant_of-self
invariant_of-self c = up_of (slice_cmp nat_cmp) nat_list_cmp_total _
    (c.get_mut.follows.holds c.hear.new.self).4

pub invariant_of-self-2 : goal.invariant_of-self-2
invariant_of-self-2 c = elim c.match-get_mut.branch [
  | in-Some+in_ok-hear w ↦ subst (λ (a : Inside). IsRoll a.lasts.entries) (sym w.self-inside-is)
      (up_of (slice_cmp nat_cmp) nat_list_cmp_total _ (c.get_mut.follows.holds w.hear.new.self).4)
  | in_default w ↦ subst (λ (a : Inside). IsRoll a.lasts.entries) (sym w.self-inside-is)
      (subst (λ m. IsRoll m.entries) (sym c.get_mut.follows.holds-at-none) c.self.invariant)
]

pub returns-clause-done : goal.returns-clause-done
returns-clause-done c =
    let n = c.args.note.now in
    let unit = c.args.unit.0 in
    let queue = c.args.queue.0 in
    let es = c.self.inside.lasts.entries in
    let own = sym c.is_by_at.ensures ∙ c.if-not-is_by_at.false in
    let seen = ap (λ (es : List RollEntry). map (heard unit n) (map (registrant_of queue) es)) c.self.view_is in
    elim c.match-get_mut.branch [
      | in-Some+in_ok-hear w ↦ let was = w.in-Some.last.now in
          let found = subst (λ (k : List ℕ). lookup (is_at (slice_cmp nat_cmp k)) es ≡ Some was)
          c.name.ensures (sym w.in-Some.ensures.value) in
          ap (λ (a : Inside). map (registrant_of queue) a.lasts.entries) w.self-inside-is
          ∙ (ap (map (registrant_of queue)) ((c.get_mut.follows.holds w.hear.new.self).0
          ∙ (λ i. set_value (is_at (slice_cmp nat_cmp (c.name.ensures i))) es
          ((w.in_ok-hear.ensures.later ∙ ap (later was) w.last.ensures) i)))
          ∙ (one_hears unit queue n was es c.self.invariant own found ∙ seen))
      | in_default w ↦
          let none = subst (λ (k : List ℕ). lookup (is_at (slice_cmp nat_cmp k)) es ≡ None)
          c.name.ensures (sym w.in_default.ensures.value) in
          ap (λ (a : Inside). map (registrant_of queue) a.lasts.entries) w.self-inside-is
          ∙ (ap (λ m. map (registrant_of queue) m.entries) c.get_mut.follows.holds-at-none
          ∙ (nobody_hears unit queue n es own none ∙ seen))
    ]
