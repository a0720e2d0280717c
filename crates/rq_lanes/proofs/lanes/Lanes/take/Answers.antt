use Rattle.rq_lanes.proofs.lanes.Lanes.take.Goals as goal

pub returns : goal.returns
returns g c = λ ms h.
    let looked = c.end.ensures.holds ms h in
    let free = c.release.ensures.holds c.args.bytes.now ms looked (c.end.ensures.right ms h) in
    c.place.ensures ms free c.release.ensures.idle
