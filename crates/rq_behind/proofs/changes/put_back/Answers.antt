use Rattle.std.proofs.Common.{◌≡◌, ℕ, ◌+◌, ◌<◌, ◌≤◌, List, [], ◌++◌, length, refl, sym, ap, subst, ◌∙◌, arith, rules}
use Rattle.std.proofs.Math.Seq.{paste, paste-zero}
use Rattle.std.proofs.lemmas.List.{append_assoc, append-nil, length-set}
use Rattle.std.proofs.lemmas.List.Elements.{All-append, All-nil}
use Rattle.rq_behind.specs.Mending.{IsChanged}
use Rattle.rq_behind.specs.declared.changes.Change.{Change}
use Rattle.rq_behind.proofs.Changed.{paste_all, paste_next}
use Rattle.rq_behind.proofs.changes.put_back.Goals as goal

pub places-init : goal.places-init
places-init g c =
    let b = c.args.bytes.now.items in
    let cs = c.args.changes.now.items in
    let offset = c.args.offset in
    record {
      size = refl;
      written = paste-zero b offset c.args.now.now;
      changed = λ log from h. subst (λ (k : ℕ). IsChanged log from b cs k) (omega arith) h;
      told = (
        [],
        sym (append-nil cs),
        All-nil (λ (x : Change). (x.frame ≡ c.args.frame) × (offset ≤ x.offset) × (x.offset < offset + g.row.N)),
      );
    }

pub places-preserved : goal.places-preserved
places-preserved g c =
    let b = c.args.bytes.now.items in
    let cs = c.args.changes.now.items in
    let offset = c.args.offset in
    let k = c.places.k in
    let set = c.in_ok-put_one.ensures.written in
    let t = c.places.invariant.told in
    let u = c.in_ok-put_one.ensures.told in
    record {
      size = ap length set ∙ length-set c.places.bytes.items (offset + k) _ ∙ c.places.invariant.size;
      written = paste_next b c.places.bytes.items c.put_one.new.bytes.items offset k _ c.args.now.now (search rules)
          c.places.invariant.written set (omega (arith, c.requires.within)) (omega arith);
      changed = λ log from h. subst (λ (n : ℕ). IsChanged log from c.put_one.new.bytes.items c.put_one.new.changes.items n)
          (omega arith) (c.in_ok-put_one.ensures.changed log from (c.places.invariant.changed log from h));
      told = (
        t.0 ++ u.0,
        u.1 ∙ ap (λ (xs : List Change). xs ++ u.0) t.1 ∙ append_assoc cs t.0 u.0,
        All-append (λ (x : Change). (x.frame ≡ c.args.frame) × (offset ≤ x.offset) × (x.offset < offset + g.row.N)) t.0 u.0 t.2
            (λ i d lt. let x = u.2 i d lt in (x.0, omega (arith, x.1), omega (arith, x.1))),
      );
    }

pub returns-clause-written : goal.returns-clause-written
returns-clause-written g c =
    c.places.invariant.written ∙ ap (paste c.args.bytes.now.items c.args.offset c.args.now.now) (omega arith)
    ∙ paste_all c.args.bytes.now.items c.args.offset g.row.N c.args.now.now (omega arith)

pub returns-clause-changed : goal.returns-clause-changed
returns-clause-changed g c = λ log from h.
    subst (λ (n : ℕ). IsChanged log from c.places.bytes.items c.places.changes.items n) (omega arith)
    (c.places.invariant.changed log from h)

pub returns-clause-told : goal.returns-clause-told
returns-clause-told g c = c.places.invariant.told
