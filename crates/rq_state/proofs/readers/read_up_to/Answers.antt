use Rattle.std.proofs.Common.{arith, subst}
use Rattle.std.proofs.lemmas.Result.{err_from_is_err_and}
use Rattle.rq_model.specs.StateSpelling.{SpellsUpTo}
use Rattle.rq_record.specs.Views.{version_of}
use Rattle.rq_state.proofs.Kept.{not_formed, not_read, not_kept, not_built, is_read}
use Rattle.rq_state.proofs.readers.read_up_to.Goals as goal

pub returns-in_default : goal.returns-in_default
returns-in_default c = not_formed _ _ _ c.in_default.ensures

pub returns-in_err-fields : goal.returns-in_err-fields
returns-in_err-fields c =
    let p = err_from_is_err_and c.from_residual.result c.from_residual.ensures.1 in
    rw (p.1, p.2) (not_read _ _ _ _ (λ i. grind arith) c.in-Some.ensures c.in_err-fields.ensures)

pub returns-in_err-check_fields : goal.returns-in_err-check_fields
returns-in_err-check_fields c =
    let p = err_from_is_err_and c.from_residual-in_err-check_fields.result c.from_residual-in_err-check_fields.ensures.1 in
    rw (p.1, p.2) (not_kept _ _ _ _ _ (λ i. grind arith) c.in_ok-fields.ensures c.in_err-check_fields.ensures)

pub of_ordered-requires : goal.of_ordered-requires
of_ordered-requires c = grind arith

pub returns-in_err-state : goal.returns-in_err-state
returns-in_err-state c =
    let p = err_from_is_err_and c.from_residual-in_err-state.result c.from_residual-in_err-state.ensures.1 in
    rw (p.1, p.2) (not_built _ _ _ _ _ (λ i. grind arith) c.in_ok-fields.ensures c.in_err-state.ensures.refused)

pub returns : goal.returns
returns c = subst (λ s. SpellsUpTo c.args.most (version_of c.args.version) s c.args.bytes.now) (grind arith)
    (is_read _ _ _ _ (λ i. grind arith) c.in_ok-fields.ensures c.in_ok-check_fields.ensures)
