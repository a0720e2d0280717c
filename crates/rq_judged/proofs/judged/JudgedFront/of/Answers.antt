use Rattle.std.proofs.Common.{◌∙◌, refl, arith, length}
use Rattle.rq_record.specs.Views.{version_of}
use Rattle.rq_judged.specs.Views.{why_of}
use Rattle.rq_judged.specs.Passes.{StopsIn}
use Rattle.rq_judged.proofs.Passes.{HasStopped, has_stopped, starts}
use Rattle.rq_judged.proofs.judged.JudgedFront.of.Goals as goal
use Rattle.rq_judged.proofs.judged.JudgedFront.of.Goals.{In_ok-why}

pub finish-requires-clause-passes : goal.finish-requires-clause-passes
finish-requires-clause-passes g c κs within =
    let version = version_of c.in_ok-version.version in (
      version,
      starts version c.frames_join.ensures.end c.args.bytes.now _ c.in_ok-version.ensures.header refl refl c.new.ensures,
    )

-- how the pass stopped
stop : (g : _) (c : In_ok-why g) → StopsIn (version_of c.in_ok-version.version) c.args.bytes.now
    (length c.args.bytes.now) c.finish.new.self (why_of c.in_ok-why.why)
stop g c = c.in_ok-why.ensures.stops (version_of c.in_ok-version.version)
    (starts (version_of c.in_ok-version.version) c.frames_join.ensures.end c.args.bytes.now _
    c.in_ok-version.ensures.header refl refl c.new.ensures)

has : (g : _) (c : In_ok-why g) → HasStopped (version_of c.in_ok-version.version) c.args.bytes.now
    c.finish.new.self (why_of c.in_ok-why.why) (stop g c).0
has g c = has_stopped (version_of c.in_ok-version.version) c.frames_join.ensures.end c.one_front.ensures.stops
    c.args.bytes.now c.finish.new.self (why_of c.in_ok-why.why) c.in_ok-version.ensures.short
    c.in_ok-version.ensures.header (stop g c)

pub before-requires-clause-after : goal.before-requires-clause-after
before-requires-clause-after g c = omega (arith, (has g c).after)

pub before-requires-clause-within : goal.before-requires-clause-within
before-requires-clause-within g c = (has g c).within

pub returns : goal.returns
returns g c =
    let at = (goal.at.returns g c).In_ok-why in
    let is = has g at in
    record {
      version = version_of c.in_ok-version.version;
      records = (stop g at).0;
      front = is.front;
      ends = is.ends;
      used = is.used;
      count = (stop g at).1.count;
      last = c.before-2.ensures ∙ is.last;
      judge = (stop g at).1.judge;
    }
