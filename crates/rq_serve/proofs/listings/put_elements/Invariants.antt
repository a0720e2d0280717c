use Rattle.std.proofs.Common.{◌≡◌, ◌++◌, string_bytes, take, map}
use Rattle.std.specs.List.{flat_map}
use Rattle.rq_model.specs.Reports.{element_line}
use Rattle.rq_serve.proofs.listings.put_elements.Given as goal

abbrev pub invariant-loop-e : goal.invariant-loop-e
invariant-loop-e l = string_bytes l.text
    ≡ string_bytes l.fn.text ++ flat_map element_line (map (λ e. e.now) (take l.e-index l.elements))
