use Rattle.std.proofs.Common.{rules, ◌≡◌, ℕ, ◌+◌, ◌-◌, ◌++◌, List, [], length, take, drop, ap, sym, subst, ◌∙◌, arith}
use Rattle.std.specs.Prelude.{Result, Err, IfErr}
use Rattle.std.proofs.lemmas.List.{length-append, length-drop}
use Rattle.rq_model.specs.Frames.{header}
use Rattle.rq_record.specs.declared.fault.Fault.{Fault}
use Rattle.rq_record.specs.Views.{version_of}
use Rattle.rq_judged.specs.declared.window.WindowPass.{WindowPass}
use Rattle.rq_judged.specs.GrowingFronts.{RefusesMore}
use Rattle.rq_judged.specs.Windows.{IsFed, log_origin}
use Rattle.rq_judged.proofs.Pieces.{first_forty, forty_again, refuses, two_parts}
use Rattle.rq_judged.proofs.growing_front.begun.Goals as goal

pub returns-in_default-clause-refused : goal.returns-in_default-clause-refused
returns-in_default-clause-refused g c =
    let a = c.args.first.now in
    let b = c.args.more.now in
    let h = c.in_ok-header.header.items in
    let is : h ≡ take 40 (a ++ b) = c.in_ok-header.ensures.header in (
      omega (arith, c.requires.more, length-append a b),
      λ headed. c.in_default.ensures.none (
        headed.0,
        ap (take 40) c.deref.ensures.value ∙ forty_again h (a ++ b) is ∙ is ∙ headed.1,
      ),
    )

pub new-pass-requires : goal.new-pass-requires
new-pass-requires g c =
    let h = c.in_ok-header.header.items in
    sym (forty_again h (c.args.first.now ++ c.args.more.now) c.in_ok-header.ensures.header)
    ∙ ap (take 40) (sym c.deref.ensures.value) ∙ c.in-Some.ensures.some

pub returns-in_err-feed-clause-refused : goal.returns-in_err-feed-clause-refused
returns-in_err-feed-clause-refused g c =
    let a = c.args.first.now in
    let b = c.args.more.now in
    let (rs, rest, at) = c.new-pass.ensures in
    let size : c.new-pass.result.total + length c.split_at.result.1.now ≡ length (a ++ b) =
    omega (
      arith,
      at.total,
      ap length c.split_at.ensures.back,
      length-drop (40 - length a) b,
      length-append a b,
      c.requires.first,
      c.requires.more,
    ) in
    let answer : c.from_residual-in_err-feed.result ≡ Err c.in_err-feed.field-0.0 = search rules in
    subst (λ (r : Result WindowPass Fault). IfErr r (RefusesMore (a ++ b))) (sym answer)
    (refuses (c.new-pass.result.total + length c.split_at.result.1.now) (a ++ b) c.in_err-feed.field-0.0 size
    c.in_err-feed.ensures.refused)

pub returns-clause-begun : goal.returns-clause-begun
returns-clause-begun g c =
    let a = c.args.first.now in
    let b = c.args.more.now in
    let h = c.in_ok-header.header.items in
    let version = version_of c.in-Some.version in
    let left : List ℕ = drop (40 - length a) b in
    let is : h ≡ header version =
    sym (forty_again h (a ++ b) c.in_ok-header.ensures.header) ∙ ap (take 40) (sym c.deref.ensures.value)
    ∙ c.in-Some.ensures.some in
    let whole : a ++ b ≡ header version ++ left =
    two_parts a b c.requires.first c.requires.more
    ∙ ap (λ (z : List ℕ). z ++ left) (first_forty a b c.requires.first c.requires.more
    ∙ sym c.in_ok-header.ensures.header ∙ is) in (
      version,
      left,
      whole,
      subst (λ (z : List ℕ). IsFed (log_origin version) z c.feed.new.self) c.split_at.ensures.back
          (c.in_ok-feed.ensures.taken (log_origin version) [] c.new-pass.ensures),
    )
