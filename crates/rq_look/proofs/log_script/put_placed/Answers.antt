use Rattle.std.proofs.Common.{◌∙◌, sym}
use Rattle.rq_record.specs.Views.{record_of}
use Rattle.rq_look.proofs.log_script.put_placed.Goals as goal

pub returns-clause-line : goal.returns-clause-line
returns-clause-line g c =
    let put = c.in_ok-relieve.ensures.written in (
      record_of c.in_ok-it.it.record,
      put.0,
      c.in_ok-it.ensures.spelled,
      c.in_ok-put_line.ensures.tellable (c.is_untold.ensures.named c.if-is_untold.false),
      put.1,
      sym c.in_ok-put_line.ensures.line ∙ put.2,
    )
