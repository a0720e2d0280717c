use Rattle.std.proofs.Common.{[], inl, inr, refl, sym, subst, append-nil, arith, string_bytes}
use Rattle.rq_record.specs.Views.{record_of, version_of}
use Rattle.rq_look.specs.Entries.{FindsRecord, shown_entry}
use Rattle.rq_look.proofs.Dumped.{of_record}
use Rattle.rq_look.proofs.frame_lines.put_frame.Goals as goal

pub returns-then-is_early-clause-line : goal.returns-then-is_early-clause-line
returns-then-is_early-clause-line c =
    ([], inl (omega (arith, c.if-is_early.true), refl, refl), sym (append-nil (string_bytes c.args.text.now)))

pub returns-in-Some-clause-line : goal.returns-in-Some-clause-line
returns-in-Some-clause-line c =
    let it = c.args.it.now in
    let put = c.in_ok-put_if_wanted-in-Some.ensures in
    let spelled = subst (FindsRecord (version_of it.version) it.body.now) c.in-Some.is c.in_ok-found.ensures.record in (
      put.line.0,
      inr (
        omega (arith, c.if-is_early.false),
        of_record c.args.wanted.now (version_of it.version) it.offset it.place
            it.body.now (record_of c.in-Some.r) (shown_entry c.shown.result) _ put.line.0 spelled c.shown.ensures put.asked
            put.line.1,
      ),
      put.line.2,
    )
