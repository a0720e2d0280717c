use Rattle.std.proofs.Common.{ℕ, ◌++◌, List, length, sym, ap, subst, ◌∙◌}
use Rattle.rq_model.specs.Spelling.{body_of}
use Rattle.rq_model.specs.Frames.{IsBodyLength}
use Rattle.rq_record.specs.Views as code
use Rattle.rq_record.specs.Views.{record_of}
use Rattle.rq_live.specs.Kernels.{IsBodyOf, KernelTakes, KernelStops}
use Rattle.std.specs.Prelude.{Option, IfOk, IfErr}
use Rattle.rq_model.specs.Records.{Record}
use Rattle.rq_record.specs.declared.record.ElemId.{ElemId}
use Rattle.rq_live.proofs.Taking.{body_fits}
use Rattle.rq_live.proofs.kernel.Kernel.take.Goals as goal

pub done-requires : goal.done-requires
done-requires c =
    let r = record_of c.args.next.now in
    let body = c.in-Ok.ensures.bytes ∙ ap (λ (l : List ℕ). l ++ body_of r) c.clear.ensures.items in
    subst (λ (k : code.Record). IsBodyOf (record_of k) c.encode.new.out.items) (sym c.in-Ok-of.ensures.kept) (record {
      bytes = body;
      fits = subst (λ (l : List ℕ). IsBodyLength (length l)) (sym body)
          (body_fits r c.one_spelling.ensures.body c.in-Ok.ensures.spelled);
      spells = c.in-Ok.ensures.spelled;
    })

pub returns-clause-taken : goal.returns-clause-taken
returns-clause-taken c =
    subst (λ (r : Record). IfOk c.done.result
    (λ (id : Option ElemId). KernelTakes c.args.self.now c.done.new.self r id))
    (ap record_of c.in-Ok-of.ensures.kept) c.done.ensures.taken

pub returns-clause-refused : goal.returns-clause-refused
returns-clause-refused c =
    subst (λ (r : Record). IfErr c.done.result (KernelStops c.args.self.now c.done.new.self r))
    (ap record_of c.in-Ok-of.ensures.kept) c.done.ensures.refused
