use Rattle.std.proofs.Common.{◌-◌, arith}
use Rattle.std.proofs.lemmas.Simd.{shifts_fit_splat}
use Rattle.rq_lanes.proofs.Columns.{rotates}
use Rattle.rq_lanes.proofs.words.rotate.Goals as goal

pub overflow_shr-result : goal.overflow_shr-result
overflow_shr-result g c = shifts_fit_splat 32 c.args.x g.row.N c.args.count c.requires.1

pub overflow_shl-result : goal.overflow_shl-result
overflow_shl-result g c = shifts_fit_splat 32 c.args.x g.row.N (32 - c.args.count) (omega arith)

pub returns : goal.returns
returns g c = rotates g.row.N c.args.count c.args.x c.fits-x.0 c.requires.0 c.requires.1
