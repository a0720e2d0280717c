-- What the grounds of judgement know of a state, and who is registered with which queue.
use Rattle.std.specs.Prelude.{ℕ, Bool, ◌==◌, ◌&&◌, nat_eq, List, [], map, slice_index_or, ◌≡◌}
use Rattle.std.specs.List.{list_any}
use Rattle.std.specs.Ordering.{nat_cmp}
use Rattle.std.specs.Cmp.Lexicographic.{pointwise, slice_cmp}
use Rattle.std.specs.BTreeMap.{is_at}
use Rattle.std.specs.BTreeSet.{BTreeSet}
use Rattle.rq_catalog.specs.declared.registrants.RegisteredNames.{RegisteredNames}
use Rattle.std.specs.Str.{bytes_eq}
use Rattle.indexmap.specs.IndexSet.{contains}
use Rattle.rq_model.specs.States.{State, Definition, Registrant}
use Rattle.rq_model.specs.Machine.{is_registered}
use Rattle.rq_catalog.specs.declared.grounds.Grounds.{Grounds}

-- the same queue and the same name
abbrev pub key_eq : ℕ × List ℕ → ℕ × List ℕ → Bool
key_eq a b = nat_eq a.0 b.0 && pointwise nat_eq a.1 b.1

-- the names that are registered with a queue
abbrev pub names_with : List (BTreeSet (List ℕ)) → ℕ → List (List ℕ)
names_with sets queue = slice_index_or (map (λ (s : BTreeSet (List ℕ)). s.keys) sets) queue []

-- the name is in the set of the queue, by the order in which the set is searched
abbrev pub is_on_roll : List (BTreeSet (List ℕ)) → ℕ × List ℕ → Bool
is_on_roll sets k = list_any (is_at (slice_cmp nat_cmp k.1)) (names_with sets k.0)

-- the name is registered with the queue
abbrev pub is_registered_in : RegisteredNames → ℕ × List ℕ → Bool
is_registered_in registrants k = is_on_roll registrants.by_queue.items k

abbrev pub has_key : ℕ × List ℕ → Registrant → Bool
has_key key r = (r.queue == key.0) && bytes_eq r.name key.1

abbrev pub has_name : List ℕ → Definition → Bool
has_name name d = bytes_eq d.name name

-- all that lawfulness looks at in the state, but for its open units
pub record AreGroundsOf (g : Grounds) (s : State) : Type 0 where
  pub definitions : g.definitions.items ≡ s.definitions
  pub names : (n : List ℕ) → contains (pointwise nat_eq) g.names n
      ≡ list_any (has_name n) s.definitions
  pub registrants : (k : ℕ × List ℕ) → is_registered_in g.registrants k ≡ is_registered s k.0 k.1
  pub greatest : g.greatest ≡ s.greatest

-- of whatever state g knows, h knows it too
abbrev pub KeepsKnowing : Grounds → Grounds → Type 0
KeepsKnowing g h = (s : State) → AreGroundsOf g s → AreGroundsOf h s
