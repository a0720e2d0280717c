use Rattle.std.proofs.Common.{None, false, refl}
use Rattle.rq_serve.proofs.Adding.{adds_so}
use Rattle.rq_serve.specs.declared.answers.Answer.TheVariants.{NoRequest}
use Rattle.rq_serve.proofs.session.Session.doom_all.Goals as goal

pub returns-in-Ok : goal.returns-in-Ok
returns-in-Ok g c =
    adds_so None c.args.self.now (record c.args.self.now { doomed = c.add_all.new.self }) c.add.new.self NoRequest false
    c.add.result refl refl refl c.add.ensures.lines c.add.ensures.safe
