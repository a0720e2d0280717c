use Rattle.std.proofs.Common.{◌+◌, ◌*◌, ◌≤◌, length, ap, subst, ◌∙◌, sym, arith}
use Rattle.std.proofs.lemmas.Bool.Decides.{nat_tests}
use Rattle.rq_model.specs.Spelling.{body_of}
use Rattle.rq_model.specs.Frames.{log_limit}
use Rattle.rq_model.specs.States.{State}
use Rattle.rq_record.specs.Views.{record_of, version_of}
use Rattle.rq_standing.specs.Machines.{IsDone, state_after}
use Rattle.rq_live.specs.Kernels.{IsKernelBehind, FramesBody, open_behind}
use Rattle.rq_live.proofs.Taking.{moves_on, breaks_at}
use Rattle.rq_live.proofs.kernel.Kernel.done.Goals as goal

pub without_room-requires-clause-long : goal.without_room-requires-clause-long
without_room-requires-clause-long c =
    let e = c.has_room.ensures in
    let no_space = c.if-not-has_room.true in
    grind (arith, nat_tests, e, no_space)

pub put_frame-requires-clause-body : goal.put_frame-requires-clause-body
put_frame-requires-clause-body c = c.requires.fits

pub put_frame-requires-clause-room : goal.put_frame-requires-clause-room
put_frame-requires-clause-room c =
    let e = c.has_room.ensures in
    let yes = c.if-not-has_room.false in
    grind (arith, nat_tests, e, yes)

pub returns-in-Ok-clause-taken : goal.returns-in-Ok-clause-taken
returns-in-Ok-clause-taken c from rs w h =
    let r = record_of c.args.kept.now in
    let a = c.args.self.now in
    let is = c.in-Ok-Done.field-0-is in
    let framed : FramesBody (record a { machine = c.take.new.self }) c.put_frame.new.self (body_of r) =
    subst (FramesBody (record a { machine = c.take.new.self }) c.put_frame.new.self) c.requires.bytes
    c.in-Ok.ensures.framed in
    let e = c.has_room.ensures in
    let yes = c.if-not-has_room.false in
    let same = ap length c.requires.bytes in
    let room : a.len + (36 + length (body_of r)) + 45 * open_behind (length a.machine.units) r ≤ log_limit =
    grind (arith, nat_tests, e, yes, same) in
    moves_on from rs w r a c.put_frame.new.self c.in-Ok-Done.element h c.requires.spells
    (subst (IsDone (version_of a.version) a.machine r) is c.in-Ok-Done.ensures.answer) c.in-Ok.ensures.rules
    (c.in-Ok.ensures.machine ∙ c.in-Ok-Done.ensures.state ∙ ap (state_after a.machine r) is)
    (record { last = framed.last; len = framed.len; bytes = framed.bytes }) room

pub returns-in-Ok-Unlawful-clause-refused : goal.returns-in-Ok-Unlawful-clause-refused
returns-in-Ok-Unlawful-clause-refused c =
    let r = record_of c.args.kept.now in
    let a = c.args.self.now in
    let is = c.in-Ok-Unlawful.field-0-is in
    let still = c.in-Ok-Unlawful.ensures.state ∙ ap (state_after a.machine r) is in (
      λ from rs w h. subst (λ (s : State). IsKernelBehind from rs w (record a { machine = s })) (sym still) h,
      λ from rs w h. breaks_at from rs w r a c.in-Ok-Unlawful.rule h
          (subst (IsDone (version_of a.version) a.machine r) is c.in-Ok-Unlawful.ensures.answer),
    )
