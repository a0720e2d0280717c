use Rattle.rq_model.proofs.Clients.{how_far as proved}
use Rattle.rq_model.proofs.Meaning.{who_is_registered}
use Rattle.rq_model.proofs.how_far.Goals as goal

pub returns : goal.returns
returns c = record { last = proved; registered = who_is_registered }
