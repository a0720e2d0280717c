use Rattle.std.proofs.Common.{◌++◌, option_map}
use Rattle.std.specs.Int.{w32, to_be_bytes}
use Rattle.rq_model.specs.StateSpelling.{name_bytes, last_bytes}
use Rattle.rq_state.proofs.Behind.{follow}
use Rattle.rq_state.proofs.compared.Compared.registrant.Goals as goal

pub returns : goal.returns
returns c =
    let last = last_bytes (option_map (λ l. l.now) c.args.last) in
    follow (to_be_bytes w32 c.args.queue) (name_bytes c.args.name.now ++ last) c.args.self.now c.u32.new.self
    c.last.new.self c.u32.ensures
    (follow (name_bytes c.args.name.now) last c.u32.new.self c.name.new.self c.last.new.self c.name.ensures
    c.last.ensures)
