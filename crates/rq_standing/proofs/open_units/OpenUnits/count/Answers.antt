use Rattle.std.proofs.Common.{length, sym, ap, ◌∙◌}
use Rattle.std.proofs.lemmas.List.{length-map}
use Rattle.rq_standing.proofs.Units.{keys_are}
use Rattle.rq_standing.proofs.open_units.OpenUnits.count.Goals as goal

pub returns : goal.returns
returns c = λ s well are.
    c.len.ensures.len ∙ sym (length-map c.args.self.now.named.entries (λ e. e.0))
    ∙ ap length (keys_are c.args.self.now s well c.len.ensures.ordered are)
