use Rattle.std.proofs.Common.{◌+◌, ◌<◌, ◌≤◌, List, ℕ, length, ap, sym, subst, ◌∙◌, arith, refl}
use Rattle.std.specs.Prelude.{⊤, OnOk, Result}
use Rattle.std.proofs.lemmas.Bool.{not-false}
use Rattle.std.proofs.lemmas.Bool.Decides.{nat_tests}
use Rattle.rq_model.specs.Spelling.{body_of}
use Rattle.rq_model.specs.Frames.{log_limit}
use Rattle.rq_model.specs.Machine.{run}
use Rattle.rq_record.specs.Views.{record_of}
use Rattle.rq_record.specs.declared.fault.Fault.{Fault}
use Rattle.rq_front.specs.Framers.{Frames}
use Rattle.rq_journal.proofs.Taking.{one_longer, stands_still, moves_on}
use Rattle.rq_journal.proofs.appender.Appender.append_spelled.Goals as goal

pub returns-then-not-has_room-clause-refused : goal.returns-then-not-has_room-clause-refused
returns-then-not-has_room-clause-refused c at rs h =
    let a = c.args.self.now in
    let body : List ℕ = c.args.body.now in
    let told = c.has_room.ensures in
    let none = c.if-not-has_room.true in
    let long : log_limit < a.framer.len + (36 + length body) = grind (arith, nat_tests, told, none) in
    omega (arith, long, h.framer.len, ap length c.requires.bytes, one_longer at rs (record_of c.args.next.now))

pub returns-in-Some-clause-refused : goal.returns-in-Some-clause-refused
returns-in-Some-clause-refused c at rs h =
    let a = c.args.self.now in
    let body : List ℕ = c.args.body.now in
    let here = run at.state rs in
    let told = c.has_room.ensures in
    let some = c.if-not-has_room.false in
    let short : a.framer.len + (36 + length body) ≤ log_limit = grind (arith, nat_tests, told, some) in (
      c.in-Ok.ensures.breaks at.version here c.in-Some.rule (c.in-Some.ensures.which at.version here h.judge),
      sym (c.in-Ok.ensures.lawful at.version here) ∙ c.in-Some.ensures.unlawful at.version here h.judge,
      omega (arith, short, h.framer.len, ap length c.requires.bytes, one_longer at rs (record_of c.args.next.now)),
    )

pub returns-in_default-advance-clause-stays : goal.returns-in_default-advance-clause-stays
returns-in_default-advance-clause-stays c at rs h =
    stands_still at rs c.args.self.now c.advance.new.self c.in_default-advance.ensures.kept h

pub returns-clause-taken : goal.returns-clause-taken
returns-clause-taken c =
    let r = record_of c.args.next.now in
    let a = c.args.self.now in
    let old : List ℕ = c.args.out.now.items in
    let new : List ℕ = c.put.new.out.items in
    let told = c.has_room.ensures in
    let some = c.if-not-has_room.false in
    let same = ap length c.requires.bytes in
    let room : a.framer.len + (36 + length (body_of r)) ≤ log_limit = grind (arith, nat_tests, told, some, same) in
    let put : Frames a.framer c.put.new.self c.args.body.now c.reserve.new.self.items new =
    subst (λ (x : Result ⊤ Fault). OnOk x (Frames a.framer c.put.new.self c.args.body.now c.reserve.new.self.items new))
    c.unwrap.ensures c.put.ensures.framed in
    let framed : Frames a.framer c.put.new.self (body_of r) old new =
    subst (λ (x : List ℕ). Frames a.framer c.put.new.self x old new) c.requires.bytes
    (subst (λ (x : List ℕ). Frames a.framer c.put.new.self c.args.body.now x new) c.reserve.ensures.items put) in
    moves_on a (record { judge = c.advance.new.self; framer = c.put.new.self; next = a.next + 1 }) r old new c.requires.spells
    (λ version s stands.
    sym (c.in-Ok.ensures.lawful version s) ∙ not-false _ (sym (c.in_default-broken.ensures.exact version s stands)))
    (λ version s stands.
    c.in-Ok.ensures.stands version c.advance.new.self s (c.in-Ok-advance.ensures.stands version s stands))
    framed room refl
