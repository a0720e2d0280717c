use Rattle.std.proofs.Common.{[], ◌∷◌, ◌++◌, ap, ◌∙◌}
use Rattle.rq_record.specs.Views.{Record}
use Rattle.rq_writer.proofs.Splitting.{pushed, let_go}
use Rattle.rq_writer.proofs.front.MadeFront.keep.Goals as goal

pub returns-in_ok-push-clause-kept : goal.returns-in_ok-push-clause-kept
returns-in_ok-push-clause-kept c =
    λ version rs h. pushed version _ _ _ c.args.r.now _ rs c.if-not-self.true
    (c.in_ok-push.ensures.items
    ∙ ap (λ (k : Record). c.args.self.now.since.items ++ k ∷ []) c.in_ok-kept.ensures.kept) h

pub returns-else-not-self-clause-kept : goal.returns-else-not-self-clause-kept
returns-else-not-self-clause-kept c = λ version rs h. let_go version _ _ c.args.r.now _ rs c.if-not-self.false h
