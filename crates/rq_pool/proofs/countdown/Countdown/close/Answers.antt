use Rattle.std.proofs.Common.{arith, ap, sym, ◌∙◌, flat_map, inl, inr, ◌≤◌}
use Rattle.rq_pool.proofs.Countdowns.Words.{times_told, total, slots_items}
use Rattle.rq_pool.proofs.countdown.Countdown.close.Goals.{in-None, in-Some}
use Rattle.rq_pool.proofs.Countdowns.Endings.{all_made_in, all_refused_in, all_back}
use Rattle.rq_pool.proofs.Countdowns.Endings.{parts_long, word_small, settles, none_last, one_last, tells_last}
use Rattle.rq_pool.proofs.countdown.Countdown.close.Goals as goal

pub overflow_sub-arrived : goal.overflow_sub-arrived
overflow_sub-arrived g c = let z = c.close_with-closed in
    word_small g.T.Fits.fits c.args.self.table.shared.key _ _ _ _ _ _
    (sym z.result.slots.ok.0 ∙ z.ensures.counts.1 ∙ c.args.self.sized.1) c.word-waiting.ensures z.ensures.values.2

pub overflow_cast-waiting : goal.overflow_cast-waiting
overflow_cast-waiting g c = let z = c.close_with-closed in let small : c.word-waiting.result ≤ c.args.self.sources =
    word_small g.T.Fits.fits c.args.self.table.shared.key _ _ _ _ _ _
    (sym z.result.slots.ok.0 ∙ z.ensures.counts.1 ∙ c.args.self.sized.1) c.word-waiting.ensures z.ensures.values.2 in
    omega arith

pub returns-clause-settled : goal.returns-clause-settled
returns-clause-settled g c = let items = c.args.passes.items in let joined = c.join_all-seat.ensures in let z =
    c.close_with-closed in let told = ap (total times_told) joined.history.0 in
    settles g.T.Fits.fits c.args.self.table.shared.key c.join_all-seat.result.id c.join_all-seat.result.me.0
    (slots_items z.result.words) (slots_items z.result.slots) c.args.self.sources c.word-waiting.result
    (sym z.result.slots.ok.0 ∙ z.ensures.counts.1 ∙ c.args.self.sized.1) c.word-waiting.ensures z.ensures.values.2
    (flat_map (λ p. p.diary) items)
    (all_made_in (λ p. p.seat.me.0) (λ p. p.diary) (λ p. p.told.0) items ∙ sym joined.history.0)
    (all_refused_in (λ p. p.seat.me.0) (λ p. p.diary) (λ p. p.told.1) items ∙ sym joined.history.1)
    (all_back (λ p. p.diary) (λ p. p.gave_back) items)
    (joined.parts ∙ parts_long (λ p. p.seat.me.0) (λ p. p.rests.1) items ∙ c.requires.all) joined.own.2
    c.match-last.home.items (elim c.match-last.branch [
      | in-None w ↦ inl (
        told ∙ none_last (λ p. p.seat.me.0) items (c.find_last-last.ensures.none w.in-None.is),
        ap (λ h. h.items) w.home-is ∙ w.empty.ensures,
      )
      | in-Some w ↦ let was = c.find_last-last.ensures.some _ w.in-Some.is in let some_told =
          one_last (λ p. p.seat.me.0) items _ was.0 was.1 in
          inr (omega (arith, told), ap (λ h. h.items) w.home-is ∙ c.args.self.sized.2)
    ])

pub returns-clause-last : goal.returns-clause-last
returns-clause-last g c = tells_last c.args.passes.items _ c.find_last-last.ensures.some c.find_last-last.ensures.none
