use Rattle.std.proofs.Common.{◌≡◌, refl}
use Rattle.std.proofs.lemmas.Result.{err_from_is_err_and}
use Rattle.rq_found.specs.declared.trouble.Trouble.TheVariants.{Log}
use Rattle.rq_found.proofs.Writes.{only_writes_fail}
use Rattle.rq_found.proofs.outputs.write_bytes.Goals as goal

pub returns-in_err-write_all : goal.returns-in_err-write_all
returns-in_err-write_all g c =
    let held = g.W.Output.contents in
    let count = g.W.Output.faults in
    let fault = c.in_err-write_all.field-0.0 in
    let p = err_from_is_err_and c.from_residual.result c.from_residual.ensures.1 in
    let e : p.0 ≡ Log fault = p.2 in
    let fails = only_writes_fail (count c.args.output.now) (count c.write_all.new.output) (held c.args.output.now)
    (held c.write_all.new.output) c.args.text.now fault c.in_err-write_all.ensures in
    rw (p.1, e, fails.0) record { faults = fails.1; written = tt; failed = refl }
