use Rattle.std.proofs.Common.{arith, subst}
use Rattle.std.specs.Prelude.{All}
use Rattle.std.proofs.lemmas.List.{take_all}
use Rattle.std.proofs.lemmas.List.Elements.{All-take, All-drop}
use Rattle.rq_front.proofs.InPieces.{more_parts, first_in_part}
use Rattle.rq_front.specs.Walks.{IsRight, IsSpanOf}
use Rattle.rq_front.proofs.digests.wrong_in.Goals as goal

pub wrong_in_part-requires : goal.wrong_in_part-requires
wrong_in_part-requires c = All-take (IsSpanOf c.args.bytes.now) _ _
    (All-drop (IsSpanOf c.args.bytes.now) c.parts.done c.args.spans.now c.requires)

pub parts-preserved : goal.parts-preserved
parts-preserved c = (
  omega arith,
  more_parts c.args.bytes.now c.args.spans.now c.parts.done _ _
      (omega arith) c.parts.invariant.1 c.in_default.ensures.none,
)

pub returns-in-Some-clause-some : goal.returns-in-Some-clause-some
returns-in-Some-clause-some c =
    first_in_part c.args.bytes.now c.args.spans.now c.parts.done _ c.in-Some.index c.parts.invariant.0
    c.parts.invariant.1 c.in-Some.ensures.some

pub returns-clause-none : goal.returns-clause-none
returns-clause-none c = subst (All (IsRight c.args.bytes.now))
    (take_all c.parts.done c.args.spans.now (omega arith)) c.parts.invariant.1
