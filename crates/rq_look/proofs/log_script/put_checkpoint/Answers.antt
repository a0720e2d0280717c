use Rattle.std.proofs.Common.{codes}
use Rattle.rq_look.proofs.Scripts.{put_behind}
use Rattle.rq_look.proofs.log_script.put_checkpoint.Goals as goal

pub returns-clause-text : goal.returns-clause-text
returns-clause-text c =
    put_behind c.put_hex.result _ _ _ (codes "checkpoint-hex ") _ c.in_ok-push_str.ensures.bytes
    c.put_hex.ensures.text
