use Rattle.std.proofs.Common.{◌≡◌, ◌++◌, ◌∙◌, ℕ, List, ap, sym, subst, string_bytes}
use Rattle.std.specs.Io.KnownBytes.{Appends}
use Rattle.std.proofs.KnownBytes.{Appends-trans}
use Rattle.rq_page.specs.Markup.{page_foot, page_head}
use Rattle.rq_page.proofs.pages.put_page.Goals as goal

pub returns-clause-whole : goal.returns-clause-whole
returns-clause-whole g c =
    let old = g.W.Output.contents c.args.output.now in
    let mid = g.W.Output.contents c.write_bytes.new.output in
    let new = g.W.Output.contents c.write_bytes-2.new.output in
    let put = c.in_ok-put_all.ensures in (
      put.0,
      Appends-trans old mid new page_head (put.0 ++ page_foot)
          (subst (λ (t : List ℕ). Appends old mid t) c.as_bytes.ensures.value c.in_ok-write_bytes.ensures.written)
          (subst (λ (t : List ℕ). Appends mid new t) (c.as_bytes-2.ensures.value ∙ put.1) c.in_ok-write_bytes-2.ensures.written),
    )
