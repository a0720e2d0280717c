-- What a call that spells returns.
use Rattle.std.specs.Prelude.{◌≡◌, ◌<◌, ◌^◌, ℕ, List, ◌++◌, length, map, Result, Ok, Err, ⊤}
use Rattle.std.specs.Int.{w64, to_be_bytes}
use Rattle.rq_model.specs.StateSpelling.{counted, definition_bytes}
use Rattle.rq_state.specs.Views.{unit_of}
use Rattle.rq_state.specs.declared.lent_state.LentState.{LentState}

-- the text is appended, or memory ran out on the way
abbrev pub PutsSpelling : {A E : Type 0} → List ℕ → List ℕ → List ℕ → Result A E → Type 0
PutsSpelling old new text (Ok x) = new ≡ old ++ text
PutsSpelling old new text (Err e) = ⊤

-- the spelling of a state whose members are spelled so
abbrev pub text_of : {R E N : Type 0} → (R → List ℕ) → (E → List ℕ) → (N → List ℕ) → LentState R E N → List ℕ
text_of registrant element note s =
    to_be_bytes w64 s.next
    ++ (to_be_bytes w64 s.greatest ++ (to_be_bytes w64 s.committed ++ (to_be_bytes w64 s.aborted
    ++ (counted definition_bytes s.definitions.now
    ++ (counted (to_be_bytes w64) (map unit_of s.units.now) ++ (counted registrant s.registrants.now
    ++ (counted element s.elements.now ++ counted note s.notes.now)))))))

-- each list is counted in four bytes
pub record AreCountable {R E N : Type 0} (s : LentState R E N) : Type 0 where
  pub definitions : length s.definitions.now < 2 ^ 32
  pub units : length s.units.now < 2 ^ 32
  pub registrants : length s.registrants.now < 2 ^ 32
  pub elements : length s.elements.now < 2 ^ 32
  pub notes : length s.notes.now < 2 ^ 32
