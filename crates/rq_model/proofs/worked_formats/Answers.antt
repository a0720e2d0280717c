use Rattle.rq_model.proofs.WorkedEdges.{names, bodies, widths, framed, rests, states, members, lines}
use Rattle.rq_model.proofs.worked_formats.Goals as goal

pub returns : goal.returns
returns c = record {
  names = names;
  bodies = bodies;
  widths = widths;
  frames = framed;
  rests = rests;
  states = states;
  members = members;
  lines = lines;
}
