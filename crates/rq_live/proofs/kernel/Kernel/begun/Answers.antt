use Rattle.std.proofs.Common.{◌≡◌, ◌∙◌, ◌∷◌, ◌++◌, ap, ℕ, List}
use Rattle.rq_model.specs.Spelling.{body_of}
use Rattle.rq_model.specs.Frames.{digest, frame}
use Rattle.rq_model.specs.Carrying.{carried_file}
use Rattle.rq_record.specs.Views.{version_of}
use Rattle.rq_live.specs.Starts.{checkpoint_in}
use Rattle.rq_live.proofs.kernel.Kernel.begun.Goals as goal

pub returns-in-Ok-begun_by-clause-begun : goal.returns-in-Ok-begun_by-clause-begun
returns-in-Ok-begun_by-clause-begun c =
    let a = c.args.self.now in
    let body : c.encode.new.out.items ≡ body_of (checkpoint_in a.machine) =
    c.in-Ok-encode.ensures.bytes ∙ ap (λ (l : List ℕ). l ++ 9 ∷ c.in-Ok.bytes) c.clear.ensures.items
    ∙ ap (λ (b : List ℕ). 9 ∷ b) c.in-Ok.ensures.spelled in
    record {
      fits = c.in-Ok.ensures.fits;
      few = c.in-Ok.ensures.few;
      bytes = c.in-Ok-begun_by.ensures.bytes
          ∙ ap (λ (b : List ℕ). carried_file (version_of a.version) a.last (frame a.last b)) body;
      last = c.in-Ok-begun_by.ensures.last ∙ ap (digest a.last) body;
    }
