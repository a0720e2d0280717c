use Rattle.std.proofs.Common.{ap, arith, length, refl}
use Rattle.rq_behind.specs.declared.mending.Mending.{Mending}
use Rattle.rq_behind.proofs.Advances.{end_behind, goes_to}
use Rattle.rq_behind.proofs.mending.Mending.go_on.Goals as goal

pub returns : goal.returns
returns g c =
    let m = c.args.self.now in
    let run = c.in-Ok.ensures.run in
    let size = ap length c.deref.ensures.value in
    let n : Mending = record { bytes = m.bytes; changes = m.changes; at = c.in-Ok.found.end } in
    goes_to m n refl refl (end_behind c.deref.result.now m.at c.in-Ok.found.end _ _ (omega (arith, size, c.requires.within)) run)
    (λ h. omega (arith, run.within, size))
