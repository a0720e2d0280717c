use Rattle.std.proofs.Common.{◌≡◌, ◌∙◌, length, rules}
use Rattle.rq_front.proofs.Framing.{put_header}
use Rattle.rq_front.proofs.carried_headers.put_in_place.Goals as goal

pub returns : goal.returns
returns c =
    let long : length c.args.magic ≡ 8 = search rules in
    put_header c.args.magic c.copy_from_slice.new.self c.copy_from_slice-2.new.self c.args.bytes.now long
    c.copy_from_slice.ensures.after (c.copy_from_slice-2.ensures.after ∙ c.digest-digest.ensures)
