use Rattle.std.proofs.Common.{subst}
use Rattle.std.proofs.KnownBytes.{Appends-trans}
use Rattle.rq_model.specs.Fronts.{Why}
use Rattle.rq_found.specs.Ends.{is_whole}
use Rattle.rq_look.specs.Scripts.{IsChoice}
use Rattle.rq_look.proofs.FrontEnds.{ends_within}
use Rattle.rq_look.proofs.salvages.salvage.Goals as goal

pub put_rest-requires-clause-within : goal.put_rest-requires-clause-within
put_rest-requires-clause-within g c =
    let end = c.in_ok-end.ensures.end in
    ends_within c.args.log.now.at c.args.log.now.bytes.now end.0 c.in_ok-end.end end.1 end.2

pub returns-clause-told : goal.returns-clause-told
returns-clause-told g c =
    let held = g.W.Output.contents in
    let end = c.in_ok-end.ensures.end in
    let script = c.in_ok-end.ensures.script in
    let choice = c.in_ok-put_rest.ensures.choice in (
      end.0,
      end.1,
      script.0,
      choice.0,
      script.1,
      subst (λ (why : Why). IsChoice (is_whole why) choice.0) end.2.why choice.1,
      Appends-trans (held c.args.output.now) (held c.put_front_script.new.output) (held c.put_rest.new.output) script.0
          choice.0 script.2 choice.2,
    )
