use Rattle.rq_lawful.proofs.breaches.operation_rule.Goals as goal

pub returns-clause-which : goal.returns-clause-which
returns-clause-which g c = λ version s r knows queue unit registrant.
    c.by_rule.ensures.which version s r knows registrant
