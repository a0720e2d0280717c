use Rattle.rq_look.proofs.Members.{several_shown}
use Rattle.rq_look.proofs.objects.several.Goals as goal

pub returns : goal.returns
returns c = several_shown c.args.all
