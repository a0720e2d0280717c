use Rattle.std.proofs.Common.{◌≡◌, ◌∙◌, ap, rules, string_bytes}
use Rattle.rq_look.specs.Objects.{value_shown}
use Rattle.rq_look.specs.ReportObjects.{pretty_lines}
use Rattle.rq_look.proofs.Members.{report_told}
use Rattle.rq_look.proofs.report_objects.report_json.Goals as goal

pub returns : goal.returns
returns c =
    let made = c.in_ok-report.ensures in
    let text = string_bytes c.push.new.self in
    let is : text ≡ pretty_lines (value_shown c.in_ok-report.report) = search rules in
    report_told c.args.at c.args.r.now c.args.wanted c.args.end.now (string_bytes c.args.end.now.reason) text made.0
    c.requires.end made.1 (is ∙ ap pretty_lines made.2)
