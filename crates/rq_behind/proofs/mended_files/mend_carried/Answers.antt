use Rattle.std.proofs.Common.{◌≡◌, ◌∙◌, arith, rules, subst, sym}
use Rattle.std.specs.Prelude.{Result, Err}
use Rattle.rq_record.specs.declared.fault.Fault.{Fault}
use Rattle.rq_behind.specs.MendedFiles.{Mends}
use Rattle.std.specs.Vec.{with_items}
use Rattle.std.proofs.lemmas.List.{with_items_is}
use Rattle.rq_behind.specs.declared.mended_logs.Mended.{Mended}
use Rattle.rq_behind.proofs.Files.{is_carried, mended_carried, refused_carried, short_carried, size_of_carried}
use Rattle.rq_behind.proofs.mended_files.mend_carried.Goals as goal

pub returns-then-len-lt-CARRIED_AT : goal.returns-then-len-lt-CARRIED_AT
returns-then-len-lt-CARRIED_AT g c = λ file read.
    short_carried c.carried_headers.ensures.read file c.args.log.items read (omega (arith, c.len.ensures))

pub returns-in_err-mended : goal.returns-in_err-mended
returns-in_err-mended g c = λ file read.
    let e = c.in_err-mended.field-0.0 in
    let answer : c.from_residual.result ≡ Err e = search rules in
    subst (λ (r : Result Mended Fault). Mends file r) (sym answer)
    (refused_carried c.carried_headers.ensures.read file c.args.log.items e read c.in_err-mended.ensures.refused)

pub returns : goal.returns
returns g c = λ file read.
    let m = c.in_ok-mended.mended in
    let it = c.in_ok-mended.ensures.mended in
    let new = c.write_as_carried.new.bytes in
    let back = is_carried c.write_as_carried.result m.bytes.items c.deref_mut.result.now new c.deref_mut.ensures.value it.headed
    c.write_as_carried.ensures.some c.write_as_carried.ensures.none in
    let size = size_of_carried back.0 m.bytes.items new back.1 back.2 in
    let made = with_items_is m.bytes new (omega (arith, size, m.bytes.ok.0)) in
    let k : Mended = record {
      bytes = with_items m.bytes new;
      changes = m.changes;
      end = m.end;
      rest = m.rest;
      untried = m.untried;
    } in
    mended_carried c.carried_headers.ensures.read c.versions.ensures.header file c.args.log.items m.bytes.items k read
    (omega arith) it (back.0, back.1, made ∙ back.2)
