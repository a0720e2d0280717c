use Rattle.std.proofs.Common.{◌≡◌, length, map, refl, arith}
use Rattle.std.proofs.lemmas.List.{length-map}
use Rattle.rq_record.specs.Views.{record_of, version_of}
use Rattle.rq_judged.specs.Views.{why_of}
use Rattle.rq_restart.proofs.RedoneFronts.{from_empty}
use Rattle.rq_restart.proofs.Upgradings.{is_extent}
use Rattle.rq_restart.proofs.upgrades.extent_of.Goals as goal

pub returns : goal.returns
returns c = λ b is.
    let f = c.args.from in
    let rs = map record_of f.front.records.items in
    let count : c.len.result ≡ length rs = omega (arith, c.len.ensures, length-map f.front.records.items record_of) in
    is_extent (version_of f.version) is.ends b rs _ (why_of f.front.why) refl is.found.short is.header
    (from_empty b f is) count
