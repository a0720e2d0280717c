use Rattle.std.proofs.Common.{string_bytes}
use Rattle.rq_look.proofs.Gathered.{then_written}
use Rattle.rq_look.proofs.frame_lines.put_entry.Goals as goal

pub returns-clause-line : goal.returns-clause-line
returns-clause-line g c =
    let held = g.W.Output.contents in
    let put = c.in_ok-is_wanted.ensures.line in
    let written = c.in_ok-relieve.ensures.written in (
      put.0,
      put.1,
      then_written put.0 (string_bytes c.args.text.now) (string_bytes c.put_frame.new.text)
          (string_bytes c.relieve.new.text) written.0 (held c.args.output.now) (held c.relieve.new.output)
          put.2 written.1 written.2,
    )
