-- What the tests of members say.
use Rattle.std.proofs.Common.{arith, inl, inr, ◌⊎◌, ◌≡◌, ℕ, ◌+◌, ◌≤◌, Bool, true, ◌&&◌, List, [], ◌∷◌, refl}
use Rattle.std.specs.Prelude.{◌↔◌, IsTrue}
use Rattle.std.specs.List.{list_all, AllByRecursion}
use Rattle.std.proofs.lemmas.Bool.{and_parts, lt-ltb}
use Rattle.rq_model.specs.Records.{Version, One, Two, no_queue}
use Rattle.rq_model.specs.States.{Mark, Free, Fresh, Held, Element, Note, Definition}
use Rattle.rq_model.specs.States.{Registrant, State, definition_at}
use Rattle.rq_model.specs.WellFormed.{unit_is_open, IsElement, IsRegistrant, IsNote, AreDefinitions, IsOneDeep}
use Rattle.rq_model.specs.StateSpelling.{IsDeepFor}
use Rattle.rq_state.specs.Tests.{unit_test, definitions_test, depth_test, deep_test, mark_test, element_test}
use Rattle.rq_state.specs.Tests.{registrant_test, note_test}

and_true : (a b : Bool) → a ≡ true → b ≡ true → (a && b) ≡ true
and_true a b h k = grind arith

-- if the test decides the property, all pass exactly if all have it
pub each_tested : {X : Type 0} (p : X → Bool) (P : X → Type 0) → ((x : X) → p x ≡ true → P x)
    → ((x : X) → P x → p x ≡ true) → (xs : List X) → IsTrue (list_all p xs) ↔ AllByRecursion P xs
each_tested {X} p P there back xs = (passes xs, passed xs)
  where
    passes : (xs : List X) → list_all p xs ≡ true → AllByRecursion P xs
    passes [] h = tt
    passes (x ∷ xs) h = let both = and_parts (p x) _ h in (there x both.0, passes xs both.1)

    passed : (xs : List X) → AllByRecursion P xs → list_all p xs ≡ true
    passed [] h = refl
    passed (x ∷ xs) h = and_true (p x) _ (back x h.0) (passed xs h.1)

-- Definitions.

pub definitions_tested : (number : ℕ) (ds : List Definition)
    → IsTrue (definitions_test number ds) ↔ AreDefinitions number ds
definitions_tested number ds = (there number ds, back number ds)
  where
    there : (number : ℕ) (ds : List Definition) → definitions_test number ds ≡ true → AreDefinitions number ds
    there number [] h = tt
    there number (d ∷ ds) h = let both = and_parts _ _ h in
        (grind arith, there (number + 1) ds both.1)

    back : (number : ℕ) (ds : List Definition) → AreDefinitions number ds → definitions_test number ds ≡ true
    back number [] h = refl
    back number (d ∷ ds) h = and_true _ _ (grind arith) (back (number + 1) ds h.1)

pub depth_tested : (ds : List Definition) → IsTrue (list_all (depth_test ds) ds) ↔ IsOneDeep ds
depth_tested ds = each_tested _ _ there back ds
  where
    there : (d : Definition) → depth_test ds d ≡ true
        → (d.error ≡ no_queue) ⊎ ((definition_at ds d.error).error ≡ no_queue)
    there d h = grind arith

    back : (d : Definition) → (d.error ≡ no_queue) ⊎ ((definition_at ds d.error).error ≡ no_queue)
        → depth_test ds d ≡ true
    back d (inl none) = grind arith
    back d (inr one) = grind arith

pub deep_tested : (version : Version) (s : State) → IsTrue (deep_test version s.definitions) ↔ IsDeepFor version s
deep_tested One s = depth_tested _
deep_tested Two s = grind arith

-- Units.

pub units_tested : (greatest : ℕ) (units : List ℕ)
    → IsTrue (list_all (unit_test greatest) units) ↔ AllByRecursion (λ u. (1 ≤ u) × (u ≤ greatest)) units
units_tested greatest = each_tested _ _ (λ u h. grind arith) (λ u h. grind arith)

-- Elements.

mark_back : (s : State) (mark : Mark) → unit_is_open s mark → mark_test s mark ≡ true
mark_back s Free h = refl
mark_back s (Fresh u) h = h
mark_back s (Held u) h = h

six_back : (a b c d e f : Bool) → a ≡ true → b ≡ true → c ≡ true → d ≡ true → e ≡ true → f ≡ true
    → (a && (b && (c && (d && (e && f))))) ≡ true
six_back a b c d e f p q r s t u = grind arith

pub elements_tested : (s : State) (es : List Element)
    → IsTrue (list_all (element_test s) es) ↔ AllByRecursion (IsElement s) es
elements_tested s = each_tested _ _ there back
  where
    there : (e : Element) → element_test s e ≡ true → IsElement s e
    there e h = grind arith

    back : (e : Element) → IsElement s e → element_test s e ≡ true
    back e h = six_back _ _ _ _ _ _ (lt-ltb e.id s.next h.id) (lt-ltb _ _ h.home) (lt-ltb _ _ h.origin) (grind arith)
        (grind arith) (mark_back s e.mark h.unit)

-- Operations.

pub registrants_tested : (s : State) (rs : List Registrant)
    → IsTrue (list_all (registrant_test s) rs) ↔ AllByRecursion (IsRegistrant s) rs
registrants_tested s = each_tested _ _ (λ r h. grind arith) (λ r h. grind arith)

pub notes_tested : (s : State) (ns : List Note) → IsTrue (list_all (note_test s) ns) ↔ AllByRecursion (IsNote s) ns
notes_tested s = each_tested _ _ there back
  where
    there : (n : Note) → note_test s n ≡ true → IsNote s n
    there n h = grind arith

    back : (n : Note) → IsNote s n → note_test s n ≡ true
    back n h = grind arith
