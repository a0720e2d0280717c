use Rattle.std.proofs.Common.{List, ℕ, Some, IfSome, refl, subst}
use Rattle.rq_model.specs.Records as model
use Rattle.rq_record.specs.Views.{version_of}
use Rattle.rq_lawful.specs.Breaks.{Breaks}
use Rattle.rq_lawful.proofs.Spelled.{breaks_spelled}
use Rattle.rq_lawful.proofs.breaches.broken.Goals as goal

pub returns-in-Some-clause-which : goal.returns-in-Some-clause-which
returns-in-Some-clause-which g c = λ s knows. breaks_spelled (Some c.in-Some.rule) (version_of c.args.version) s _ _
    c.in-Define.is (c.in-Some.ensures.which s c.in-Define.name knows)

pub returns-in-None-clause-which : goal.returns-in-None-clause-which
returns-in-None-clause-which g c = λ s knows.
    let version : model.Version = version_of c.args.version in
    breaks_spelled c.name_rule.result version s _ _ c.in-Define.is
    (subst (λ (name : List ℕ). IfSome c.name_rule.result
    (Breaks version s (model.Define c.in-Define.limit c.in-Define.error.0 name))) c.name.ensures
    (c.name_rule.ensures.which version s c.in-Define.limit c.in-Define.error.0 knows))

pub returns-in-Begin-clause-which : goal.returns-in-Begin-clause-which
returns-in-Begin-clause-which g c = λ s knows.
    breaks_spelled c.begin_rule.result (version_of c.args.version) s _ _ c.in-Begin.is
    (c.begin_rule.ensures.which (version_of c.args.version) s knows)

pub returns-in-Enqueue-clause-which : goal.returns-in-Enqueue-clause-which
returns-in-Enqueue-clause-which g c = λ s knows.
    breaks_spelled c.operation_rule.result (version_of c.args.version) s _ _ c.in-Enqueue.is
    (c.operation_rule.ensures.which (version_of c.args.version) s
    (model.Enqueue c.in-Enqueue.unit.0 c.in-Enqueue.queue.0 c.in-Enqueue.priority c.in-Enqueue.by
    c.in-Enqueue.payload) knows refl refl refl)

pub returns-in-Dequeue-clause-which : goal.returns-in-Dequeue-clause-which
returns-in-Dequeue-clause-which g c = λ s knows.
    breaks_spelled c.operation_rule-in-Dequeue.result (version_of c.args.version) s _ _ c.in-Dequeue.is
    (c.operation_rule-in-Dequeue.ensures.which (version_of c.args.version) s
    (model.Dequeue c.in-Dequeue.unit.0 c.in-Dequeue.queue.0 c.in-Dequeue.by) knows refl refl refl)

pub returns-in-Kill-clause-which : goal.returns-in-Kill-clause-which
returns-in-Kill-clause-which g c = λ s knows.
    breaks_spelled c.kill_rule.result (version_of c.args.version) s _ _ c.in-Kill.is
    (c.kill_rule.ensures.which s c.in-Kill.element.0 knows)
