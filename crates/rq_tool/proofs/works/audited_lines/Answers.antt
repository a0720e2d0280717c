use Rattle.std.proofs.Common.{map, ap, rules, ◌∙◌}
use Rattle.std.specs.Prelude.{Ok}
use Rattle.std.specs.List.{flat_map}
use Rattle.rq_restart.specs.Audits.{Audits, audited_of}
use Rattle.rq_tool.specs.Works.{audit_line}
use Rattle.rq_tool.proofs.works.audited_lines.Goals as goal

pub returns-clause-made : goal.returns-clause-made
returns-clause-made g c =
    let h : Audits c.args.bytes.items (Ok c.in_ok-found.found) = search rules in (
      (h.0, h.1),
      (
        map audited_of c.in_ok-found.found.items,
        h.2,
        c.in_ok-text.ensures ∙ ap (λ xs. flat_map audit_line (map audited_of xs)) c.deref.ensures.value,
      ),
    )
