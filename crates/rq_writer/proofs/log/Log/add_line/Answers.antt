use Rattle.std.proofs.Common.{arith}
use Rattle.std.specs.Prelude.{⊤}
use Rattle.std.proofs.lemmas.Result.{err_from_is_err_and}
use Rattle.rq_record.specs.Views.{version_of}
use Rattle.rq_writer.proofs.Steps.{framed_length, no_frame, line_kept}
use Rattle.rq_writer.proofs.log.Log.add_line.Goals as goal

pub returns-in_err-append : goal.returns-in_err-append
returns-in_err-append g c =
    let p = err_from_is_err_and c.from_residual-in_err-append.result c.from_residual-in_err-append.ensures.1 in
    rw (p.1, p.2) (no_frame (version_of c.args.version) c.frames_join.ensures.log _ _ c.args.self.now
    (record { out = c.append.new.out; last = c.args.self.now.last; front = c.record_at.new.front })
    c.record_at.new.front c.in_ok-r.r c.in_ok-r.ensures ⊤ ⊤ c.append.new.out.items _ c.in_err-append.ensures)

pub last_32-self-requires : goal.last_32-self-requires
last_32-self-requires g c = grind (arith, framed_length)

pub returns : goal.returns
returns g c =
    line_kept (version_of c.args.version) c.frames_join.ensures.log _ _ c.args.self.now _ c.record_at.new.front
    c.in_ok-r.r c.in_ok-r.ensures c.keep.result c.frames_join.ensures.end c.in_ok-append.ensures (cc)
    c.keep.ensures.kept c.keep.ensures.refused
