use Rattle.std.proofs.Common.{arith, sym, subst}
use Rattle.rq_tool.specs.Streams.{IsUnread}
use Rattle.rq_tool.proofs.Reading.{failed_unread, long_unread, none_unread, short_unread}
use Rattle.rq_tool.proofs.input.refused.Goals as goal

pub returns-then-first-lt-HEADER_LEN-clause-told : goal.returns-then-first-lt-HEADER_LEN-clause-told
returns-then-first-lt-HEADER_LEN-clause-told g c = λ origin taken.
    let short = c.if-first-lt-HEADER_LEN.true in
    short_unread origin (g.I.Input.remaining c.args.input.now) c.args.first.now c.requires.none short
    (c.requires.end short) taken

pub returns-in-Ok-clause-told : goal.returns-in-Ok-clause-told
returns-in-Ok-clause-told g c = λ origin taken.
    let remaining = g.I.Input.remaining in
    long_unread origin (remaining c.args.input.now) (remaining c.counted.new.input) c.args.first.now c.in-Ok.total
    (omega (arith, c.requires.first, c.if-first-lt-HEADER_LEN.false)) c.in-Ok.ensures.count c.in-Ok.ensures.limit
    c.in-Ok.ensures.end taken c.if-total-gt-LOG_LIMIT.true

pub returns-in-Ok-2-clause-told : goal.returns-in-Ok-2-clause-told
returns-in-Ok-2-clause-told g c = λ origin taken.
    let remaining = g.I.Input.remaining in
    none_unread origin (remaining c.args.input.now) (remaining c.counted.new.input) c.args.first.now c.in-Ok.total
    (omega (arith, c.requires.first, c.if-first-lt-HEADER_LEN.false)) c.in-Ok.ensures.count c.in-Ok.ensures.limit
    c.in-Ok.ensures.end taken (omega (arith, c.if-total-gt-LOG_LIMIT.false)) c.requires.none

pub returns-in-Err-clause-told : goal.returns-in-Err-clause-told
returns-in-Err-clause-told g c = λ origin taken.
    let remaining = g.I.Input.remaining in
    let now = remaining c.args.input.now in
    let new = remaining c.counted.new.input in
    subst (IsUnread origin new) (sym c.in-Err.ensures.refused)
    (failed_unread origin now new c.args.first.now taken c.in-Err.ensures.partly)
