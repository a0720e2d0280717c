use Rattle.std.proofs.Common.{◌≡◌, inl}
use Rattle.std.proofs.lemmas.Result.{err_from_is_err_and}
use Rattle.rq_found.specs.declared.trouble.Trouble.TheVariants.{Log}
use Rattle.rq_look.proofs.log_script.put_front_script.Goals as goal

pub returns-in_err-first-clause-refused : goal.returns-in_err-first-clause-refused
returns-in_err-first-clause-refused g c =
    let p = err_from_is_err_and c.from_residual-in_err-first.result c.from_residual-in_err-first.ensures.1 in
    let e : p.0 ≡ Log c.in_err-first.field-0.0 = p.2 in
    rw (p.1, e, c.in_err-first.ensures.refused) (tt, inl (c.in_ok-end.ensures.log, tt))
