use Rattle.std.proofs.Common.{◌≡◌, ℕ, inr, rules, subst, sym}
use Rattle.std.specs.Prelude.{Result, Err}
use Rattle.std.specs.Global.{Vec}
use Rattle.std.proofs.lemmas.Result.{err_from_is_err_and}
use Rattle.rq_record.specs.declared.fault.Fault.{Fault}
use Rattle.rq_front.specs.Chains.{Refused}
use Rattle.rq_tool.specs.Streams.{TakesInput}
use Rattle.rq_tool.proofs.Reading.{all_read, all_taken, first_taken, not_read, reads_all, some_taken, takes_on, unread}
use Rattle.rq_tool.proofs.Reading.{unread_taken, why_unread}
use Rattle.rq_tool.proofs.input.read_log.Goals as goal

pub returns-in_err-piece-clause-reads : goal.returns-in_err-piece-clause-reads
returns-in_err-piece-clause-reads g c =
    let p = err_from_is_err_and c.from_residual.result c.from_residual.ensures.1 in
    rw (p.1, p.2) (not_read Refused (g.I.Input.remaining c.args.input.now) c.in_err-piece.field-0.0 (λ _. tt)
    (inr c.in_err-piece.ensures.refused))

pub returns-in_err-read_up_to-clause-reads : goal.returns-in_err-read_up_to-clause-reads
returns-in_err-read_up_to-clause-reads g c =
    let p = err_from_is_err_and c.from_residual-in_err-read_up_to.result c.from_residual-in_err-read_up_to.ensures.1 in
    rw (p.1, p.2) (not_read Refused (g.I.Input.remaining c.args.input.now) c.in_err-read_up_to.field-0.0 (λ _. tt)
    c.in_err-read_up_to.ensures.refused)

pub returns-in_default-clause-reads : goal.returns-in_default-clause-reads
returns-in_default-clause-reads g c =
    let remaining = g.I.Input.remaining in
    let old = remaining c.args.input.now in
    let new = remaining c.refused.new.input in
    unread old new c.refused.result
    (why_unread old (remaining c.read_up_to.new.input) new c.roomy-bytes.result.items c.read_up_to.new.bytes.items
    c.deref-in_default.result.now c.refused.result c.roomy-bytes.ensures.items c.in_ok-read_up_to.ensures.bytes
    c.deref-in_default.ensures.value c.refused.ensures.told)

pub returns-in_default-clause-takes : goal.returns-in_default-clause-takes
returns-in_default-clause-takes g c =
    let remaining = g.I.Input.remaining in
    let old = remaining c.args.input.now in
    let new = remaining c.refused.new.input in
    unread_taken (Vec ℕ) old new c.refused.result
    (why_unread old (remaining c.read_up_to.new.input) new c.roomy-bytes.result.items c.read_up_to.new.bytes.items
    c.deref-in_default.result.now c.refused.result c.roomy-bytes.ensures.items c.in_ok-read_up_to.ensures.bytes
    c.deref-in_default.ensures.value c.refused.ensures.told)

pub returns-in_err-read_up_to-2-clause-reads : goal.returns-in_err-read_up_to-2-clause-reads
returns-in_err-read_up_to-2-clause-reads g c =
    let p = err_from_is_err_and c.from_residual-in_err-read_up_to-2.result
    c.from_residual-in_err-read_up_to-2.ensures.1 in
    rw (p.1, p.2) (not_read Refused (g.I.Input.remaining c.args.input.now) c.in_err-read_up_to-2.field-0.0 (λ _. tt)
    c.in_err-read_up_to-2.ensures.refused)

pub returns-in_err-read_up_to-2-clause-takes : goal.returns-in_err-read_up_to-2-clause-takes
returns-in_err-read_up_to-2-clause-takes g c =
    let remaining = g.I.Input.remaining in
    let old = remaining c.args.input.now in
    let mid = remaining c.read_up_to.new.input in
    let new = remaining c.read_up_to-2.new.input in
    let taken = first_taken old mid c.roomy-bytes.result.items c.read_up_to.new.bytes.items c.roomy-bytes.ensures.items
    c.in_ok-read_up_to.ensures.bytes in
    let some = takes_on old mid new (c.read_up_to.new.bytes.items, taken) c.in_err-read_up_to-2.ensures.partly in
    let answer : c.from_residual-in_err-read_up_to-2.result ≡ Err c.in_err-read_up_to-2.field-0.0 = search rules in
    subst (λ (r : Result (Vec ℕ) Fault). TakesInput old new r) (sym answer)
    (some_taken (Vec ℕ) old new c.in_err-read_up_to-2.field-0.0 c.in_err-read_up_to-2.ensures.refused some)

pub returns-clause-reads : goal.returns-clause-reads
returns-clause-reads g c =
    let remaining = g.I.Input.remaining in
    let old = remaining c.args.input.now in
    let new = remaining c.read_up_to-2.new.input in
    let bytes = c.read_up_to-2.new.bytes.items in
    let taken = first_taken old (remaining c.read_up_to.new.input) c.roomy-bytes.result.items
    c.read_up_to.new.bytes.items c.roomy-bytes.ensures.items c.in_ok-read_up_to.ensures.bytes in
    let all = reads_all old new bytes (c.in_ok-read_up_to-2.ensures.bytes old taken)
    c.in_ok-read_up_to-2.ensures.limit c.in_ok-read_up_to-2.ensures.end in
    all_read Refused old new bytes c.within.result (λ _ long. long) all c.within.ensures.fits c.within.ensures.long

pub returns-clause-takes : goal.returns-clause-takes
returns-clause-takes g c =
    let remaining = g.I.Input.remaining in
    let old = remaining c.args.input.now in
    let new = remaining c.read_up_to-2.new.input in
    let bytes = c.read_up_to-2.new.bytes.items in
    let taken = first_taken old (remaining c.read_up_to.new.input) c.roomy-bytes.result.items
    c.read_up_to.new.bytes.items c.roomy-bytes.ensures.items c.in_ok-read_up_to.ensures.bytes in
    let all = reads_all old new bytes (c.in_ok-read_up_to-2.ensures.bytes old taken)
    c.in_ok-read_up_to-2.ensures.limit c.in_ok-read_up_to-2.ensures.end in
    all_taken old new bytes c.within.result all
