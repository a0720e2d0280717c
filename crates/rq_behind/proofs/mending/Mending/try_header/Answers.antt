use Rattle.std.proofs.Common.{◌∙◌, ap, arith, length}
use Rattle.std.proofs.lemmas.List.{length-append}
use Rattle.rq_model.specs.Frames.{header}
use Rattle.rq_model.proofs.Restarts.{header_long}
use Rattle.rq_record.specs.Views.{version_of}
use Rattle.rq_behind.proofs.mending.Mending.try_header.Goals as goal

pub copy_from_slice-requires : goal.copy_from_slice-requires
copy_from_slice-requires c =
    let version = version_of c.args.version in
    omega (
      arith,
      ap length c.deref.ensures.value,
      ap length c.in-Ok.ensures ∙ length-append c.new-spelled.result.items (header version),
      ap length c.new-spelled.ensures.items,
      header_long version,
    )
