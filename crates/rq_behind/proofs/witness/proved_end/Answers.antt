use Rattle.std.proofs.Common.{◌≡◌, ◌∙◌, ◌+◌, ◌-◌, ℕ, List, ap, arith, drop, take}
use Rattle.rq_behind.specs.Mending.{written}
use Rattle.rq_behind.proofs.Proved.{proved_of, written_back}
use Rattle.rq_behind.proofs.witness.proved_end.Goals as goal

pub returns-clause-proved : goal.returns-clause-proved
returns-clause-proved g c =
    proved_of c.args.bytes.now.items c.deref-2.result.now c.args.frame c.args.offset g.row.N c.args.now.now
    c.proof_end-end.result (c.deref-2.ensures.value ∙ c.write.ensures) (omega (arith, c.requires.within))
    c.proof_end-end.ensures

pub returns-clause-kept : goal.returns-clause-kept
returns-clause-kept g c =
    let b = c.args.bytes.now.items in
    let size : c.args.offset + g.row.N - c.args.offset ≡ g.row.N = omega arith in
    let stood = c.copy_from_slice.ensures.after
    ∙ ap (λ (x : List ℕ). take (c.args.offset + g.row.N - c.args.offset) (drop c.args.offset x)) c.deref.ensures.value
    ∙ ap (λ (n : ℕ). take n (drop c.args.offset b)) size in
    c.write-2.ensures ∙ ap (λ (x : List ℕ). written x c.args.offset c.copy_from_slice.new.self) c.write.ensures
    ∙ written_back b c.args.offset g.row.N c.args.now.now c.copy_from_slice.new.self (omega arith)
    (omega (arith, c.copy_from_slice.ensures.len)) c.requires.within stood
