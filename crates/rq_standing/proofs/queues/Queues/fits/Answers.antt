use Rattle.std.proofs.Common.{◌≡◌, ◌+◌, ◌*◌, ◌-◌, ◌≤◌, ℕ, List, length, sum_by, nat_le, ap, ◌∙◌, arith}
use Rattle.rq_model.specs.States.{Definition}
use Rattle.rq_queue.specs.Rooms.{member_bytes}
use Rattle.rq_standing.specs.Spelled.{least_bytes}
use Rattle.rq_standing.proofs.Spellings.{of_all}
use Rattle.rq_standing.proofs.queues.Queues.fits.Goals as goal

room_behind : (lists members len : ℕ) → lists ≤ len → nat_le members (len - lists) ≡ nat_le (lists + members) len
room_behind lists members len l = grind (arith, l)

pub returns-then-lists-len : goal.returns-then-lists-len
returns-then-lists-len c = λ t holds.
    let lists = 52 + 7 * c.len.result + 8 * c.count.result in
    let members = sum_by member_bytes c.deref.result.now in
    let of_parts : members ≡ 6 * length t.registrants + 28 * length t.elements + 38 * length t.notes =
    ap (sum_by member_bytes) c.deref.ensures.value
    ∙ of_all c.parts_make_the_state.ensures t c.args.self.now.parts.items holds.well holds.parts holds.size in
    let definitions : c.len.result ≡ length t.definitions =
    omega (
      arith,
      c.len.ensures,
      c.args.self.now.definitions.ok.0,
      ap (λ (ds : List Definition). length ds) holds.definitions,
    ) in
    let units : c.count.result ≡ length t.units = c.count.ensures t holds.well holds.units in
    let all : lists + members ≡ least_bytes t = omega (arith, of_parts, definitions, units) in
    c.parts_fit.ensures
    ∙ room_behind lists members c.args.len c.if-lists-len.true
    ∙ ap (λ n. nat_le n c.args.len) all
