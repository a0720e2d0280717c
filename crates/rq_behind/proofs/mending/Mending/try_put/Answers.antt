use Rattle.std.proofs.Common.{refl, arith}
use Rattle.rq_behind.specs.declared.mending.Mending.{Mending}
use Rattle.rq_behind.proofs.Advances.{goes_put}
use Rattle.rq_behind.proofs.mending.Mending.try_put.Goals as goal

pub returns : goal.returns
returns g c =
    let n : Mending = record { bytes = c.put_back.new.bytes; changes = c.put_back.new.changes; at = c.in-Some.end } in
    goes_put c.args.self.now n c.args.frame c.args.offset g.row.N c.in-Some.end c.args.now.now c.proved_end.new.bytes.items
    (omega arith) c.requires.within c.requires.ahead c.requires.behind c.in-Some.ensures.kept c.in_ok-put_back.ensures.written
    c.in_ok-put_back.ensures.changed c.in_ok-put_back.ensures.told c.in-Some.ensures.proved.0 c.in-Some.ensures.proved.1 refl
