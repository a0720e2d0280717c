use Rattle.std.proofs.Common.{◌≡◌, ◌∙◌, ℕ, ◌+◌, ◌-◌, ◌≤◌, ◌<◌, ⊎_elim, List, [], drop, take, sym, ap, refl, arith}
use Rattle.std.specs.List.{slice_range}
use Rattle.std.proofs.Math.ListN.{drop_of_length-le}
use Rattle.std.proofs.lemmas.List.{drop-take, length-take}
use Rattle.rq_found.proofs.frames.PlacedFrames.beginning_at.Goals as goal
use Rattle.rq_found.proofs.frames.PlacedFrames.beginning_at.Goals.{in-Some, in-None}

-- a part is what is left of the bytes up to its end
part_is : (b : List ℕ) (offset used : ℕ) → offset ≤ used → slice_range b offset used ≡ drop offset (take used b)
part_is b offset used low =
    let e : offset + (used - offset) ≡ used = omega (arith, low) in
    sym (drop-take offset (used - offset) b) ∙ ap (λ (n : ℕ). drop offset (take n b)) e

-- nothing is left of them behind that
none_left : (b : List ℕ) (offset used : ℕ) → used < offset → [] ≡ drop offset (take used b)
none_left b offset used behind = sym (drop_of_length-le (take used b) (omega (arith, behind, length-take used b)))

pub returns : goal.returns
returns c = (
  λ high. elim c.match-get.branch [
    | in-Some w ↦ rw (w.rest-is) (w.in-Some.ensures.lookup.0.2
        ∙ part_is c.args.bytes.now c.args.offset c.args.used w.in-Some.ensures.lookup.0.0)
    | in-None w ↦ rw (w.rest-is) (⊎_elim
        (λ behind. none_left c.args.bytes.now c.args.offset c.args.used behind)
        (λ short. let no : ⊥ = omega (arith, short, high) in absurd no) w.in-None.ensures.lookup.0)
  ],
  refl,
  refl,
)
