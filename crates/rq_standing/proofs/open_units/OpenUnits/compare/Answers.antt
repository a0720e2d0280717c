use Rattle.std.proofs.Common.{◌<◌, ◌∙◌, ap, subst, sym, List, ℕ}
use Rattle.std.specs.Int.{w64, to_be_bytes}
use Rattle.std.specs.List.{flat_map}
use Rattle.rq_state.specs.Comparing.{left_after}
use Rattle.rq_state.proofs.Behind.{counted_follow}
use Rattle.rq_standing.proofs.Units.{keys_are}
use Rattle.rq_standing.proofs.open_units.OpenUnits.compare.Goals as goal

pub member_count-requires : goal.member_count-requires
member_count-requires c =
    let few = c.requires.few in
    subst (λ n. n < 4294967296) (sym (c.count-units.ensures few.0 few.1 few.2)) few.3

pub returns : goal.returns
returns c = λ s well are.
    counted_follow (to_be_bytes w64) s.units c.count-units.result c.args.bytes.now c.member_count.new.self c.compare_each.new.bytes
    (c.count-units.ensures s well are) c.member_count.ensures
    (c.compare_each.ensures.compared
    ∙ ap (λ (us : List ℕ). left_after (flat_map (to_be_bytes w64) us) c.member_count.new.self)
    (keys_are c.args.self.now s well c.compare_each.ensures.ordered are))
