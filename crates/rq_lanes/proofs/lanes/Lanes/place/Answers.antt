use Rattle.std.proofs.Common.{rules, arith, ◌≤◌, ◌+◌, length}
use Rattle.rq_lanes.specs.Messages.{text}
use Rattle.rq_lanes.proofs.Blocks.{length-text}
use Rattle.rq_lanes.proofs.Holding.{placed, starts}
use Rattle.rq_lanes.proofs.lanes.Lanes.place.Goals as goal

pub returns : goal.returns
returns g c = λ ms h free.
    let b = c.args.bytes.now in
    let s = c.args.self.now in
    let m = c.args.message in
    let l = c.begin.new.self in
    let within : m.start + m.len + 32 ≤ length b = search rules in
    let count = c.blocks_of-count.ensures (text b m) (length-text b m (omega (arith, within))) in
    let fills = c.begin.ensures.fills (omega (arith, count)) in
    let run = starts b l s.clock _ fills c.begin.ensures.born (omega (arith, c.begin.ensures.due)) c.reset_lane.ensures.lane in
    placed b s ms c.reset_lane.new.hash c.args.j l m
    (omega arith) free c.begin.ensures.busy c.begin.ensures.message run c.reset_lane.ensures.others h
