use Rattle.rq_model.proofs.OneEnd.{frames_with_one_end, records_with_one_end, tampering_shows as proved, link_witnesses}
use Rattle.rq_model.proofs.OneEnd.{files_with_one_end}
use Rattle.rq_model.proofs.tampering_shows.Goals as goal

pub returns : goal.returns
returns c = record {
  frames = frames_with_one_end;
  records = records_with_one_end;
  fronts = proved;
  link = link_witnesses;
  files = files_with_one_end;
}
