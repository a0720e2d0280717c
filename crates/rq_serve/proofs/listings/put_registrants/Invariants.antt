use Rattle.std.proofs.Common.{◌≡◌, ◌++◌, string_bytes, drop}
use Rattle.std.specs.List.{flat_map}
use Rattle.rq_model.specs.Reports.{registrant_line}
use Rattle.rq_serve.proofs.listings.put_registrants.Given as goal

-- the lines so far, and those of the registrants that are left, are the lines of all
abbrev pub invariant-loop-r : goal.invariant-loop-r
invariant-loop-r l = string_bytes l.text ++ flat_map registrant_line (drop l.r-index l.registrants)
    ≡ string_bytes l.fn.text ++ flat_map registrant_line l.registrants
