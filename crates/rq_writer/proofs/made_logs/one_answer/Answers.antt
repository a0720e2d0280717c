use Rattle.rq_writer.proofs.OneAnswer.{every_script_has_answer, one_answer}
use Rattle.rq_writer.proofs.made_logs.one_answer.Goals as goal

pub returns-clause-some : goal.returns-clause-some
returns-clause-some c =
    every_script_has_answer
    (record {
      stops = c.one_run.ensures.stops;
      body = c.one_spelling.ensures.body;
      gives =
          c.one_front.ensures.from_run;
    })

pub returns-clause-one : goal.returns-clause-one
returns-clause-one c =
    one_answer (record { front = c.one_front.ensures.front; joins = c.frames_join.ensures.log })
