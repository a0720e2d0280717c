use Rattle.std.proofs.Common.{ap, length, refl, arith}
use Rattle.rq_record.specs.Views.{version_of}
use Rattle.rq_writer.proofs.Splitting.{behind_fits, ended_is, caught}
use Rattle.rq_writer.proofs.front.MadeFront.catch_up.Goals as goal

pub returns-then-self-clause-state : goal.returns-then-self-clause-state
returns-then-self-clause-state g c =
    let stops = c.one_run.ensures.stops in
    let gives = c.one_front.ensures.from_run in
    λ rs h l. (
      h,
      ended_is (version_of c.args.version) (record { stops = stops; body = c.one_spelling.ensures.body; gives = gives })
          _ _ _ rs c.if-self.true h l,
    )

pub front_redone-requires-after_bounds : goal.front_redone-requires-after_bounds
front_redone-requires-after_bounds g c = λ κs within.
    omega (
      arith,
      behind_fits (version_of c.args.version) c.args.self.now.state c.args.self.now.since.items
          c.args.self.now.ended c.requires.0 c.if-self.false c.requires.1 c.requires.2,
      ap length c.as_slice-since.ensures.value,
    )

pub returns-clause-state : goal.returns-clause-state
returns-clause-state g c =
    let stops = c.one_run.ensures.stops in
    let gives = c.one_front.ensures.from_run in
    λ rs h l. caught (version_of c.args.version)
    (record { stops = stops; body = c.one_spelling.ensures.body; gives = gives }) c.args.self.now.state _
    c.args.self.now.since.items c.as_slice-since.result.now c.clear.new.self.items c.args.self.now.ended _ _ rs
    c.if-self.false c.as_slice-since.ensures.value c.in_ok-state.ensures.redone.state
    c.in_ok-state.ensures.redone.count refl c.clear.ensures.items h l
