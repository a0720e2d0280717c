use Rattle.std.proofs.Common.{◌≡◌, ◌∙◌, ◌++◌, ◌∷◌, [], Bool, List, map, ap}
use Rattle.std.proofs.lemmas.List.{map-append}
use Rattle.rq_model.specs.Machine.{run}
use Rattle.rq_model.specs.States.{State}
use Rattle.rq_model.specs.Checkpoints.{Audited}
use Rattle.rq_record.specs.Views.{record_of, version_of}
use Rattle.rq_catalog.proofs.Runs.{front_whole}
use Rattle.rq_restart.specs.Audits.{audited_of, is_spelled}
use Rattle.rq_restart.proofs.audits.tell_behind.Goals as goal
use Rattle.rq_restart.proofs.audits.tell_behind.Goals.{In_ok-go_on}

there : (g : _) (c : In_ok-go_on g) → c.go_on.new.machine ≡ run c.args.machine.now (map record_of c.args.before.now)
there g c = c.in_ok-go_on.ensures.went_on.state ∙ ap (run c.args.machine.now)
    (front_whole (version_of c.args.version) c.args.machine.now (map record_of c.args.before.now) c.requires.lawful)

pub returns-clause-state : goal.returns-clause-state
returns-clause-state g c = there g ((goal.at.returns-clause-state g c).In_ok-go_on)

pub returns-clause-found : goal.returns-clause-found
returns-clause-found g c =
    let old = c.args.found.now.items in
    let before : List Audited = map audited_of old in
    let at = c.args.offset in
    ap (map audited_of) c.in_ok-push.ensures.items ∙ map-append audited_of old ((at, c.in_ok-is_true.is_true) ∷ [])
    ∙ ap (λ (b : Bool). before ++ audited_of (at, b) ∷ []) (c.in_ok-is_true.ensures.truth
    ∙ ap (λ (s : State). is_spelled s c.args.kept.now) (there g ((goal.at.returns-clause-found g c).In_ok-go_on)))
