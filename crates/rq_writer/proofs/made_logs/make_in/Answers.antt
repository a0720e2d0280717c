use Rattle.std.proofs.Common.{rules, Bor, Vec, Global, List, [], ◌∷◌, ◌++◌, ℕ}
use Rattle.std.specs.Prelude.{⊤}
use Rattle.std.proofs.lemmas.Result.{err_from_is_err_and}
use Rattle.rq_writer.proofs.Parts.{cut_shorter}
use Rattle.rq_writer.proofs.Steps.{nonzero, making_more, no_line_stops, line_stops}
use Rattle.rq_writer.proofs.made_logs.make_in.Goals as goal

pub returns-in_err-text : goal.returns-in_err-text
returns-in_err-text g c =
    let p = err_from_is_err_and c.from_residual-in_err-text.result c.from_residual-in_err-text.ensures.1 in
    rw (p.1, p.2) (no_line_stops _ _ _ _ _ _ _ c.loop-rest.invariant.2
    (λ (x : Bor (List ℕ) × Bor (List ℕ)). (x.0.now, x.1.now)) (λ (v : Vec ℕ Global). v.items) _
    (search (rules, nonzero c.loop-rest.rest.now, c.is_empty.ensures, c.loop-rest-test.true)) c.in_err-text.ensures)

pub returns-in_err-add_line : goal.returns-in_err-add_line
returns-in_err-add_line g c =
    let p = err_from_is_err_and c.from_residual-in_err-add_line.result c.from_residual-in_err-add_line.ensures.1 in
    rw (p.1, p.2) (line_stops _ _ _ _ _ _ _ c.loop-rest.invariant.2 ⊤ (λ (v : Vec ℕ Global). v.items)
    c.add_line.new.self (c.in_ok-text.text.now, c.in_ok-text.after.now) _
    (search (rules, nonzero c.loop-rest.rest.now, c.is_empty.ensures, c.loop-rest-test.true)) c.in_ok-text.ensures
    c.in_err-add_line.ensures)

pub loop-rest-smaller : goal.loop-rest-smaller
loop-rest-smaller g c =
    cut_shorter 10 c.loop-rest.rest.now (c.in_ok-text.text.now, c.in_ok-text.after.now) c.in_ok-text.ensures

pub loop-rest-preserved : goal.loop-rest-preserved
loop-rest-preserved g c =
    let inv = c.loop-rest.invariant in
    let one = c.in_ok-add_line.ensures in
    let next = one.2 inv.1 inv.2.holds in (
      inv.0 ++ one.0 ∷ [],
      inv.1 ++ next.0 ∷ [],
      making_more _ _ _ _ _ _ _ inv.2 c.add_line.new.self (c.in_ok-text.text.now, c.in_ok-text.after.now) one.0 next.0
          c.in_ok-text.ensures one.1 next.1 next.2,
    )
