use Rattle.std.proofs.Common.{Some, None, arith}
use Rattle.std.proofs.lemmas.Bool.Decides.{nat_tests}
use Rattle.rq_writer.proofs.Numbers.{number_is}
use Rattle.rq_writer.proofs.fields.decimal_number.Goals as goal

pub returns-then-not-is_decimal : goal.returns-then-not-is_decimal
returns-then-not-is_decimal c =
    number_is c.args.most c.args.text.now None (omega arith) (grind (arith, nat_tests))

pub returns-in_err-number : goal.returns-in_err-number
returns-in_err-number c =
    rw c.from_residual.ensures (number_is c.args.most c.args.text.now None (omega arith) (grind (arith, nat_tests)))

pub returns-then-number-most : goal.returns-then-number-most
returns-then-number-most c =
    number_is c.args.most c.args.text.now (Some c.in_ok-number.number) (omega arith) (grind (arith, nat_tests))

pub returns-else-number-most : goal.returns-else-number-most
returns-else-number-most c =
    number_is c.args.most c.args.text.now None (omega arith) (grind (arith, nat_tests))
