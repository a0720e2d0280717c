use Rattle.std.proofs.Common.{inr}
use Rattle.std.proofs.lemmas.Result.{err_from_is_err_and}
use Rattle.rq_tool.specs.Streams.{IsOverlong}
use Rattle.rq_tool.proofs.Reading.{all_read, all_taken, first_taken, not_read, reads_all}
use Rattle.rq_tool.proofs.input.read_script.Goals as goal

pub returns-in_err-piece-clause-reads : goal.returns-in_err-piece-clause-reads
returns-in_err-piece-clause-reads g c =
    let p = err_from_is_err_and c.from_residual.result c.from_residual.ensures.1 in
    rw (p.1, p.2) (not_read IsOverlong (g.I.Input.remaining c.args.input.now) c.in_err-piece.field-0.0 (λ _. tt)
    (inr c.in_err-piece.ensures.refused))

pub returns-in_err-read_up_to-clause-reads : goal.returns-in_err-read_up_to-clause-reads
returns-in_err-read_up_to-clause-reads g c =
    let p = err_from_is_err_and c.from_residual-in_err-read_up_to.result c.from_residual-in_err-read_up_to.ensures.1 in
    rw (p.1, p.2) (not_read IsOverlong (g.I.Input.remaining c.args.input.now) c.in_err-read_up_to.field-0.0 (λ _. tt)
    c.in_err-read_up_to.ensures.refused)

pub returns-clause-reads : goal.returns-clause-reads
returns-clause-reads g c =
    let old = g.I.Input.remaining c.args.input.now in
    let new = g.I.Input.remaining c.read_up_to.new.input in
    let bytes = c.read_up_to.new.bytes.items in
    let taken = first_taken old new c.roomy-bytes.result.items bytes c.roomy-bytes.ensures.items
    c.in_ok-read_up_to.ensures.bytes in
    let all = reads_all old new bytes taken c.in_ok-read_up_to.ensures.limit c.in_ok-read_up_to.ensures.end in
    all_read IsOverlong old new bytes c.within.result (λ _ long. long) all c.within.ensures.fits c.within.ensures.long

pub returns-clause-takes : goal.returns-clause-takes
returns-clause-takes g c =
    let old = g.I.Input.remaining c.args.input.now in
    let new = g.I.Input.remaining c.read_up_to.new.input in
    let bytes = c.read_up_to.new.bytes.items in
    let taken = first_taken old new c.roomy-bytes.result.items bytes c.roomy-bytes.ensures.items
    c.in_ok-read_up_to.ensures.bytes in
    let all = reads_all old new bytes taken c.in_ok-read_up_to.ensures.limit c.in_ok-read_up_to.ensures.end in
    all_taken old new bytes c.within.result all
