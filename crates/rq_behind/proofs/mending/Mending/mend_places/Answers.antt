use Rattle.std.proofs.Common.{arith, refl}
use Rattle.rq_behind.proofs.Advances.{goes_to, goes_twice}
use Rattle.rq_behind.proofs.mending.Mending.mend_places.Goals as goal

pub places-init : goal.places-init
places-init g c =
    let m = c.args.self.now in
    record { goes = goes_to m m refl refl (omega arith) (λ h. h); low = c.requires.after; high = c.requires.within }

pub mend_place-requires-clause-within : goal.mend_place-requires-clause-within
mend_place-requires-clause-within g c κs within = c.in_ok-go_on.ensures.within c.places.invariant.high

pub places-preserved : goal.places-preserved
places-preserved g c =
    let n = c.go_on.new.self in
    let k = c.mend_place.new.self in
    let first = c.in_ok-go_on.ensures in
    let second = c.in_ok-mend_place.ensures.goes in
    record {
      goes = goes_twice c.args.self.now c.places.self k c.places.invariant.goes (goes_twice c.places.self n k first second);
      low = omega (arith, first.stays, second.stays, c.places.invariant.low);
      high = second.within (first.within c.places.invariant.high);
    }

pub returns-then-branch : goal.returns-then-branch
returns-then-branch g c =
    goes_twice c.args.self.now c.places.self c.go_on.new.self c.places.invariant.goes c.in_ok-go_on.ensures

pub returns-then-not-branch : goal.returns-then-not-branch
returns-then-not-branch g c =
    let n = c.go_on.new.self in
    let k = c.mend_place.new.self in
    goes_twice c.args.self.now c.places.self k c.places.invariant.goes
    (goes_twice c.places.self n k c.in_ok-go_on.ensures c.in_ok-mend_place.ensures.goes)
