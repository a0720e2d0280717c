use Rattle.std.proofs.Common.{◌++◌, [], Bool, List, ℕ, length, refl, sym, subst, string_bytes}
use Rattle.rq_front.specs.declared.spans.Span.{Span}
use Rattle.rq_behind.specs.Behind.{StandApart}
use Rattle.rq_look.specs.Dumps.{AreLinesBehind, IsCountLine, IsShownBehind}
use Rattle.rq_look.specs.Findings.{IsBehind}
use Rattle.rq_look.proofs.Gathered.{none_gathered, kept_back, both_gathered}
use Rattle.rq_look.proofs.dumps.put_wanted_behind.Goals as goal

pub returns-then-not-wanted-clause-shown : goal.returns-then-not-wanted-clause-shown
returns-then-not-wanted-clause-shown g c = (
  [],
  λ at r is e.
      subst (λ (x : Bool). IsShownBehind x at c.args.bytes.now c.args.wanted.now c.args.most []) (sym c.if-not-wanted.true)
      refl,
  none_gathered (string_bytes c.args.text.now) (g.W.Output.contents c.args.output.now),
)

pub put_frames-requires-clause-apart : goal.put_frames-requires-clause-apart
put_frames-requires-clause-apart g c = (
  c.args.end.now.front.used,
  subst (λ (ss : List Span). StandApart c.args.end.now.front.used (length c.args.bytes.now) ss) (sym c.deref.ensures.value)
      c.in_ok-found.ensures.apart,
)

pub returns-clause-shown : goal.returns-clause-shown
returns-clause-shown g c =
    let held = g.W.Output.contents in
    let b = c.args.bytes.now in
    let w = c.args.wanted.now in
    let found = c.in_ok-found.ensures.found in
    let frames = c.in_ok-put_frames.ensures.lines in
    let count = c.in_ok-put_counted.ensures in
    let text : List ℕ = frames.0 ++ count.0 in (
      text,
      λ at r is e.
          subst (λ (x : Bool). IsShownBehind x at b w c.args.most text) (sym c.if-not-wanted.false) (
            r,
            c.in_ok-found.found,
            found.0,
            frames.0,
            count.0,
            is,
            subst (λ (n : ℕ). IsBehind b n c.in_ok-found.found) e.used found,
            found.1,
            subst (λ (ss : List Span). AreLinesBehind w found.0 b c.args.most ss frames.0) c.deref.ensures.value
                (frames.1 found.0 found.1),
            subst (λ (n : ℕ). IsCountLine w.json c.in_ok-found.found n count.0) e.total count.1,
            refl,
          ),
      both_gathered frames.0 count.0 (string_bytes c.args.text.now) (string_bytes c.put_frames.new.text)
          (string_bytes c.put_counted.new.text) (held c.args.output.now) (held c.put_frames.new.output)
          (held c.put_frames.new.output) frames.2
          (kept_back count.0 (string_bytes c.put_frames.new.text) (string_bytes c.put_counted.new.text)
          (held c.put_frames.new.output) count.2),
    )
