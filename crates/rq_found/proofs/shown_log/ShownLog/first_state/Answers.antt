use Rattle.std.proofs.Common.{◌≡◌, subst}
use Rattle.rq_model.specs.Checkpoints.{IsCheckpointAt}
use Rattle.rq_found.proofs.shown_log.ShownLog.first_state.Goals as goal

pub returns-in-Some-state_at-clause-there : goal.returns-in-Some-state_at-clause-there
returns-in-Some-state_at-clause-there c = λ offset kept given stands.
    let here : offset ≡ c.in-Some.at = cc in
    c.in-Some-state_at.ensures kept (subst (λ at. IsCheckpointAt c.args.bytes.now at kept) here stands)
