use Rattle.rq_catalog.proofs.catalogue.CatalogueKnows.is_taken.Goals as goal

pub returns : goal.returns
returns c = λ s knows. c.has_name.ensures s knows.0
