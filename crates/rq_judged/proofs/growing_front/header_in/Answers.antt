use Rattle.std.proofs.Common.{◌≡◌, ◌-◌, ◌++◌, List, ℕ, length, take, ap, ◌∙◌}
use Rattle.rq_judged.proofs.Pieces.{first_forty}
use Rattle.rq_judged.proofs.growing_front.header_in.Goals as goal

pub returns-clause-header : goal.returns-clause-header
returns-clause-header c =
    let a = c.args.first.now in
    let b = c.args.more.now in
    let put : c.extend_from_slice-2.new.self.items ≡ a ++ take (40 - length a) b =
    c.in_ok-extend_from_slice-2.ensures.items ∙ ap (λ (z : List ℕ). z ++ take (40 - length a) b)
    (c.in_ok-extend_from_slice.ensures.items ∙ ap (λ (z : List ℕ). z ++ a) c.in_ok-header.ensures.items) in
    put ∙ first_forty a b c.requires.first c.requires.more
