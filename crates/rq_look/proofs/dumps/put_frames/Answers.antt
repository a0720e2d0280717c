use Rattle.std.proofs.Common.{◌∙◌, ◌-◌, ◌+◌, ◌≡◌, ◌<◌, ◌∷◌, Bool, List, None, drop, take, get_or, length, suc, sym, ap, subst, arith, if◌then◌else◌, refl, string_bytes}
use Rattle.std.proofs.lemmas.List.{drop_more, drop_all}
use Rattle.rq_front.specs.declared.spans.Span.{Span}
use Rattle.rq_look.proofs.Behind.{IsUnderWay, first_behind, body_within, one_more, enough_behind, all_behind}
use Rattle.rq_look.proofs.Dumped.{same_frame}
use Rattle.rq_look.proofs.dumps.put_frames.Goals as goal
use Rattle.rq_look.proofs.dumps.put_frames.Goals.{then-is_wanted, else-is_wanted}

pub loop-span-init : goal.loop-span-init
loop-span-init g c =
    let held = g.W.Output.contents in (
      first_behind c.args.bytes.now c.args.wanted.now c.args.most c.args.spans.now (string_bytes c.args.text.now)
          (held c.args.output.now) c.requires.apart,
      refl,
    )

pub loop-span-preserved : goal.loop-span-preserved
loop-span-preserved g c =
    let held = g.W.Output.contents in
    let b = c.args.bytes.now in
    let w = c.args.wanted.now in
    let spans = c.args.spans.now in
    let i = c.loop-span.span-index in
    let most = c.loop-span.most in
    let inv = c.loop-span.invariant in
    let put = c.in_ok-is_wanted.ensures in
    let wanted = c.in_ok-is_wanted.is_wanted in
    let frame = c.behind-frame.ensures in
    let s : Span = get_or spans i (record { start = 0; len = 0 }) in
    let here : i < length spans = omega (arith, c.loop-span-test.true) in
    let split : drop i spans ≡ s ∷ drop (i + 1) spans = drop_more spans i _ here in
    let some : most ≡ suc (most - 1) = omega arith in
    let now = subst (λ (ss : List Span). IsUnderWay b w c.args.most spans most ss (string_bytes c.args.text.now)
    (string_bytes c.loop-span.text) (held c.args.output.now) (held c.loop-span.output)) split inv.0 in (
      one_more b w c.args.most spans most s (drop (i + 1) spans) (string_bytes c.args.text.now)
          (string_bytes c.loop-span.text) (held c.args.output.now) (held c.loop-span.output)
          (string_bytes c.put_entry.new.text) (held c.put_entry.new.output) wanted put.line.0 (most - 1) c.if-is_wanted.most
          now some
          (elim c.if-is_wanted.branch [
            | then-is_wanted h ↦ h.most-is ∙ sym (ap (λ (x : Bool). if x then most - 1 else most) h.if-is_wanted.true)
            | else-is_wanted h ↦ h.most-is ∙ sym (ap (λ (x : Bool). if x then most - 1 else most) h.if-is_wanted.false)
          ])
          (λ version head.
          same_frame w _ version _ (s.start - 4) _ None _ (take s.len (drop s.start b)) wanted put.line.0
          (frame.version version head) frame.offset frame.place
          (frame.body (body_within now.from b s (drop (i + 1) spans) now.apart)) put.line.1)
          put.line.2,
      put.faults ∙ inv.1,
    )

pub returns-then-most-eq0-clause-lines : goal.returns-then-most-eq0-clause-lines
returns-then-most-eq0-clause-lines g c =
    let held = g.W.Output.contents in
    enough_behind c.args.bytes.now c.args.wanted.now c.args.most c.args.spans.now c.loop-span.most _
    (string_bytes c.args.text.now) (string_bytes c.loop-span.text) (held c.args.output.now) (held c.loop-span.output)
    c.loop-span.invariant.0 (omega arith)

pub returns-clause-lines : goal.returns-clause-lines
returns-clause-lines g c =
    let held = g.W.Output.contents in
    let spans = c.args.spans.now in
    all_behind c.args.bytes.now c.args.wanted.now c.args.most spans c.loop-span.most _ (string_bytes c.args.text.now)
    (string_bytes c.loop-span.text) (held c.args.output.now) (held c.loop-span.output) c.loop-span.invariant.0
    (drop_all c.loop-span.span-index spans (omega (arith, c.loop-span-test.false)))
