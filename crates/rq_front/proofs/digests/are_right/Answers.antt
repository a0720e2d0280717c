use Rattle.std.proofs.Common.{◌++◌, [], List, map, arith}
use Rattle.std.specs.List.{filter}
use Rattle.rq_lanes.specs.declared.lanes.Message.{Message}
use Rattle.rq_bytes.specs.Readers.{IsBytes}
use Rattle.rq_front.proofs.Sides.{both_turns_right}
use Rattle.rq_front.specs.Walks.{has_turn, message_of}
use Rattle.rq_front.specs.declared.digests.Turn.TheVariants.{First, Second}
use Rattle.rq_front.proofs.digests.are_right.Goals as goal

pub returns : goal.returns
returns c = λ truth.
    let b = c.args.bytes.now in
    let bytes : IsBytes b = λ i. omega (arith, c.type_inv.bytes i) in
    let first : List Message = map message_of (filter (has_turn First) c.args.spans.now) in
    let second : List Message = map message_of (filter (has_turn Second) c.args.spans.now) in
    let some = c.taken-some.ensures [] (c.new-none.ensures b) in
    let all = c.taken-all.ensures first some in
    both_turns_right b bytes c.args.spans.now c.requires (c.finish.ensures (first ++ second) all truth)
