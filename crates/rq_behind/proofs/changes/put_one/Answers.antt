use Rattle.std.proofs.Common.{◌≡◌, ◌+◌, ℕ, List, [], ◌∷◌, sym, ap, ◌∙◌, arith, get_or, refl}
use Rattle.std.proofs.lemmas.List.{append-nil}
use Rattle.std.proofs.lemmas.List.Elements.{All-nil, All-cons}
use Rattle.rq_behind.specs.declared.changes.Change.{Change}
use Rattle.rq_behind.proofs.Changed.{changed_later, changed_one}
use Rattle.rq_behind.proofs.changes.put_one.Goals as goal

pub returns-then-was-now-clause-changed : goal.returns-then-was-now-clause-changed
returns-then-was-now-clause-changed c = λ log from h.
    changed_later log from c.args.bytes.now.items c.args.changes.now.items c.args.offset (c.args.offset + 1) (omega arith) h

pub returns-then-was-now-clause-told : goal.returns-then-was-now-clause-told
returns-then-was-now-clause-told c = (
  [],
  sym (append-nil c.args.changes.now.items),
  All-nil (λ (x : Change). (x.frame ≡ c.args.frame) × (x.offset ≡ c.args.offset)),
)

pub returns-clause-changed : goal.returns-clause-changed
returns-clause-changed c =
    let x : Change = record { offset = c.args.offset; was = c.byte_at-was.result; now = c.args.now; frame = c.args.frame } in
    changed_one c.args.bytes.now.items c.set_byte.new.bytes.items c.args.changes.now.items c.push.new.self.items x
    c.set_byte.ensures c.in_ok-push.ensures.items
    (c.byte_at-was.ensures ∙ ap (λ (xs : List ℕ). get_or xs c.args.offset 0) c.deref.ensures.value) c.requires.within c.if-was-now.false

pub returns-clause-told : goal.returns-clause-told
returns-clause-told c =
    let x : Change = record { offset = c.args.offset; was = c.byte_at-was.result; now = c.args.now; frame = c.args.frame } in
    let P = λ (y : Change). (y.frame ≡ c.args.frame) × (y.offset ≡ c.args.offset) in
    (x ∷ [], c.in_ok-push.ensures.items, All-cons P x [] (refl, refl) (All-nil P))
