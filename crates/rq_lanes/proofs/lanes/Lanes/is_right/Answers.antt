use Rattle.std.proofs.Common.{◌+◌, ℕ, ap, ◌∙◌, arith}
use Rattle.std.specs.Prelude.{slice_range}
use Rattle.rq_lanes.specs.Messages.{lane, held}
use Rattle.rq_lanes.proofs.Holding.{ended}
use Rattle.rq_lanes.proofs.lanes.Lanes.is_right.Goals as goal

pub returns : goal.returns
returns g c = λ truth r late.
    let b = c.args.bytes.now in
    let l = held c.args.self.now.lanes c.args.j in
    record {
      within = r.fills.within;
      digest = ap (λ (p : ℕ). slice_range b p (p + 32)) (omega (arith, r.fills.within))
          ∙ c.stands_at.ensures truth (omega (arith, r.fills.within)) ∙ c.digest_of-digest.ensures
          ∙ ended b l c.args.self.now.clock (lane c.args.j c.args.self.now.hash) r late;
    }
