use Rattle.std.proofs.Common.{ℕ, ◌++◌, List, length, sym, ap, subst, ◌∙◌}
use Rattle.rq_model.specs.Spelling.{body_of}
use Rattle.rq_model.specs.Frames.{IsBodyLength}
use Rattle.rq_record.specs.Views.{record_of}
use Rattle.rq_journal.proofs.Taking.{body_fits}
use Rattle.rq_journal.proofs.appender.Appender.append.Goals as goal

pub append_spelled-requires : goal.append_spelled-requires
append_spelled-requires c =
    let r = record_of c.args.next.now in
    let body = c.deref.ensures.value ∙ c.in-Ok.ensures.bytes
    ∙ ap (λ (l : List ℕ). l ++ body_of r) c.new-body.ensures.items in record {
      bytes = body;
      fits = subst (λ (l : List ℕ). IsBodyLength (length l)) (sym body)
          (body_fits r c.one_spelling.ensures.body c.in-Ok.ensures.spelled);
      spells = c.in-Ok.ensures.spelled;
    }
