-- What a spelled state must keep, piece by piece as it is tested.
use Rattle.std.specs.Prelude.{◌≡◌, ◌+◌, ◌<◌, ◌≤◌, ⊤, ℕ, true, false, length, Result, Ok, Err}
use Rattle.std.specs.List.{AllByRecursion}
use Rattle.std.specs.Str.{bytes_eq}
use Rattle.rq_model.specs.Records.{Version}
use Rattle.rq_model.specs.States.{State, registrant_before}
use Rattle.rq_model.specs.WellFormed.{Ordered, AreDefinitions, IsElement, IsNote, IsRegistrant}
use Rattle.rq_model.specs.StateSpelling.{IsDeepFor}
use Rattle.rq_record.specs.declared.fault.Fault.{Fault}
use Rattle.rq_record.specs.declared.fault.Fault.TheVariants.{Resources, BadCheckpoint}

-- it holds, or it does not, or memory ran out
abbrev pub TellsWhether : {A : Type 0} → Type 0 → Result A Fault → Type 0
TellsWhether P (Ok x) = P
TellsWhether P (Err BadCheckpoint) = P → ⊥
TellsWhether P (Err Resources) = ⊤
TellsWhether P (Err e) = ⊥

pub record KeepsNumbers (most : ℕ) (s : State) : Type 0 where
  pub next : s.next ≤ most
  pub few : length s.definitions ≤ 4096
  pub counts : s.committed + s.aborted + length s.units ≤ s.next
  pub registrants_few : length s.registrants ≤ s.next

pub record KeepsDefinitions (version : Version) (s : State) : Type 0 where
  pub numbered : AreDefinitions 0 s.definitions
  pub deep : IsDeepFor version s
  pub names : Ordered (λ d e. bytes_eq d.name e.name ≡ false) s.definitions

pub record KeepsUnits (s : State) : Type 0 where
  pub units : AllByRecursion (λ u. (1 ≤ u) × (u ≤ s.greatest)) s.units
  pub units_rise : Ordered (λ u v. u < v) s.units

pub record KeepsRegistrants (s : State) : Type 0 where
  pub registrants : AllByRecursion (IsRegistrant s) s.registrants
  pub registrants_rise : Ordered (λ r t. registrant_before r t ≡ true) s.registrants

pub record KeepsElements (s : State) : Type 0 where
  pub elements : AllByRecursion (IsElement s) s.elements
  pub elements_rise : Ordered (λ e f. e.id < f.id) s.elements

pub record KeepsNotes (s : State) : Type 0 where
  pub notes : AllByRecursion (IsNote s) s.notes
  pub notes_rise : Ordered (λ n m. n.last.place < m.last.place) s.notes

-- all of it
pub record KeepsAll (most : ℕ) (version : Version) (s : State) : Type 0 where
  pub numbers : KeepsNumbers most s
  pub definitions : KeepsDefinitions version s
  pub units : KeepsUnits s
  pub registrants : KeepsRegistrants s
  pub elements : KeepsElements s
  pub notes : KeepsNotes s
