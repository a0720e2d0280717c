use Rattle.std.proofs.Common.{ℕ, ◌/◌, ◌^◌}
use Rattle.std.proofs.lemmas.Simd.{shifts_fit_splat}
use Rattle.rq_lanes.proofs.Columns.{with_each}
use Rattle.rq_lanes.proofs.words.shift.Goals as goal

pub overflow_shr-result : goal.overflow_shr-result
overflow_shr-result g c = shifts_fit_splat 32 c.args.x g.row.N c.args.count c.requires

pub returns : goal.returns
returns g c = λ j lt. with_each (λ (x m : ℕ). x / 2 ^ m) g.row.N c.args.count c.args.x j c.fits-x.0 lt
