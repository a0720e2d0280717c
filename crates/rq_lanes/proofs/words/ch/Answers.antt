use Rattle.std.proofs.Common.{◌≡◌, ℕ, ◌<◌, ◌^◌, List, length, w32, Fits, arith}
use Rattle.std.specs.Simd.Lanes.{Each1}
use Rattle.std.proofs.lemmas.Simd.{Each1-get_or, below_from_Fits}
use Rattle.rq_lanes.proofs.ChMaj.{ch_short}
use Rattle.rq_lanes.proofs.words.ch.Goals as goal

pub returns : goal.returns
returns g c j h =
    let below = λ (xs : List ℕ) (long : length xs ≡ g.row.N)
    (fits : Each1 (Fits w32) xs). Each1-get_or (λ x. x < 2 ^ 32) xs j 0 (omega arith)
    (below_from_Fits w32 xs fits) in
    rw (c.xor-2.ensures j h, c.and.ensures j h, c.xor.ensures j h)
    (ch_short w32 _ _ _ (below c.args.x c.fits-x.0 c.fits-x.1) (below c.args.y c.fits-y.0 c.fits-y.1)
    (below c.args.z c.fits-z.0 c.fits-z.1))
