use Rattle.std.proofs.Common.{◌≡◌, true, false, arith}
use Rattle.rq_model.specs.Machine.{is_lawful}
use Rattle.rq_record.specs.Views.{record_of, version_of}
use Rattle.rq_live.proofs.Taking.{breaks_at, no_room}
use Rattle.rq_live.proofs.kernel.Kernel.without_room.Goals as goal

pub returns-in-Some : goal.returns-in-Some
returns-in-Some c =
    let a = c.args.self.now in
    let r = record_of c.args.kept.now in
    let e = c.in-Some.ensures.exact in
    let breaks : is_lawful (version_of a.version) a.machine r ≡ false = grind (arith, e) in (
      λ from rs w h. h,
      λ from rs w h. breaks_at from rs w r a c.in-Some.rule h
          (breaks, c.in-Some.ensures.which),
    )

pub returns-in-None : goal.returns-in-None
returns-in-None c =
    let a = c.args.self.now in
    let r = record_of c.args.kept.now in
    let e = c.in-None.ensures.exact in
    let lawful : is_lawful (version_of a.version) a.machine r ≡ true = grind (arith, e) in (
      λ from rs w h. h,
      λ from rs w h. no_room from rs w r a a.body.items h c.requires.body.bytes lawful c.requires.long,
    )
