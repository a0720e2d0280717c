use Rattle.rq_model.proofs.Appended.{crash_in_frames, crash_while_appending, appended_is_front, written_stays}
use Rattle.rq_model.proofs.appended_logs.Goals as goal

pub returns : goal.returns
returns c = record {
  frames = crash_in_frames;
  crash = crash_while_appending;
  front = appended_is_front;
  stays = written_stays;
}
