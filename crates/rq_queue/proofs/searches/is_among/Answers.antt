use Rattle.std.proofs.Common.{◌∙◌, ℕ, Option, sym, ap, subst}
use Rattle.std.specs.BTreeMap.{BTreeMap}
use Rattle.std.specs.Map.{values_of}
use Rattle.std.specs.Option.{option_copied}
use Rattle.rq_queue.specs.Priorities.{AreKnown}
use Rattle.rq_queue.proofs.Searching.{none_among, one_among}
use Rattle.rq_queue.proofs.searches.is_among.Goals as goal

pub returns-in-Some-get : goal.returns-in-Some-get
returns-in-Some-get c = c.contains_key.ensures
    ∙ one_among c.args.id.0 c.in-Some-get.priority.now c.in-Some.by_id.entries c.args.free.now.entries
    (sym c.get.ensures.value ∙ ap option_copied c.in-Some-get.is) c.requires.keyed
    (subst (λ (o : Option (BTreeMap ℕ ℕ)). AreKnown o (values_of c.args.free.now.entries)) c.in-Some.is c.requires.known)

pub returns-in-None : goal.returns-in-None
returns-in-None c = sym (none_among c.args.id.0 c.in-Some.by_id.entries (values_of c.args.free.now.entries)
    (sym c.get.ensures.value ∙ ap option_copied c.in-None.is)
    (subst (λ (o : Option (BTreeMap ℕ ℕ)). AreKnown o (values_of c.args.free.now.entries)) c.in-Some.is c.requires.known))
