use Rattle.std.proofs.Common.{◌≡◌, ◌∙◌, ◌++◌, ℕ, List, length, drop, ◌-◌, ap, arith}
use Rattle.rq_model.specs.Frames.{header}
use Rattle.rq_model.proofs.Restarts.{header_long}
use Rattle.rq_record.specs.Views.{version_of}
use Rattle.rq_live.proofs.Taking.{stands_new}
use Rattle.rq_live.proofs.kernel.Kernel.new.Goals as goal

pub last_bytes-requires : goal.last_bytes-requires
last_bytes-requires c =
    let version = version_of c.args.version in
    let is : c.header_of.new.out.items ≡ header version =
    c.in_ok-header_of.ensures ∙ ap (λ (b : List ℕ). b ++ header version) c.new-pending.ensures.items in
    omega (arith, ap length (c.deref.ensures.value ∙ is), header_long version)

pub returns-clause-stands : goal.returns-clause-stands
returns-clause-stands c =
    let version = version_of c.args.version in
    let is : c.header_of.new.out.items ≡ header version =
    c.in_ok-header_of.ensures ∙ ap (λ (b : List ℕ). b ++ header version) c.new-pending.ensures.items in
    stands_new version c.empty.result c.last_bytes.result c.header_of.new.out.items is c.empty.ensures
    (c.last_bytes.ensures ∙ ap (λ (b : List ℕ). drop (length b - 32) b) c.deref.ensures.value)

pub returns-clause-few : goal.returns-clause-few
returns-clause-few c =
    let version = version_of c.args.version in
    let is : c.header_of.new.out.items ≡ header version =
    c.in_ok-header_of.ensures ∙ ap (λ (b : List ℕ). b ++ header version) c.new-pending.ensures.items in
    omega (arith, ap length is, header_long version)
