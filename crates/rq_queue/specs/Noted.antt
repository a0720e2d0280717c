-- How the notes of a queue are kept: by place, and under each unit and registrant the places of its
-- notes.
use Rattle.std.specs.Prelude.{◌≡◌, ◌≢◌, ◌<◌, ◌==◌, ℕ, Bool, true, false, not, ◌&&◌, List, Option}
use Rattle.std.specs.Prelude.{Some, None, [], ◌∷◌, ◌++◌, filter}
use Rattle.std.specs.BTreeMap.{is_at}
use Rattle.std.specs.List.{AllByRecursion, list_any}
use Rattle.std.specs.Global.{Vec}
use Rattle.std.specs.Map.{lookup, values_of}
use Rattle.std.specs.Ordering.{nat_cmp}
use Rattle.std.specs.declared.cmp.Ordering.{Ordering}
use Rattle.rq_model.specs.States.{Note, is_note_of}
use Rattle.rq_model.specs.WellFormed.{Ordered}
use Rattle.rq_queue.specs.declared.whose.Whose.{Whose}
use Rattle.rq_queue.specs.declared.whose.Whose.TheVariants.{OfUnit, OfRegistrant}
use Rattle.rq_state.specs.Orders.{key_cmp, put_in_order, place_before}

-- each put in by its place
abbrev pub by_place : List Note → List Note
by_place ns = put_in_order place_before ns

-- no two of the notes have one place
abbrev pub Apart : List Note → Type 0
Apart ns = Ordered (λ a b. a.last.place ≢ b.last.place) ns

-- the places of the notes rise
abbrev pub Rises : List Note → Type 0
Rises ns = Ordered (λ a b. a.last.place < b.last.place) ns

-- a place, with the note at it
abbrev pub NoteEntry : Type 0
NoteEntry = ℕ × Note

-- each note is at its place, and the places rise
pub record AreByPlace (es : List NoteEntry) : Type 0 where
  pub placed : AllByRecursion (λ (e : NoteEntry). e.0 ≡ e.1.last.place) es
  pub rising : Ordered (λ (a b : NoteEntry). a.0 < b.0) es

-- whether the place is one of these
abbrev pub has_place : ℕ → List ℕ → Bool
has_place p ps = list_any (λ q. q == p) ps

abbrev pub list_of : Option (Vec ℕ) → List ℕ
list_of None = []
list_of (Some places) = places.items

-- the places under a key
abbrev pub filed : {K : Type 0} → (K → K → Ordering) → K → List (K × Vec ℕ) → List ℕ
filed R k es = list_of (lookup (is_at (R k)) es)

-- each place of a note is under its unit and under its registrant; other places there may be out of
-- date
pub record AreKept (all : List NoteEntry) (units : List (ℕ × Vec ℕ))
    (names : List ((ℕ × List ℕ) × Vec ℕ)) : Type 0 where
  pub by_place : AreByPlace all
  pub by_unit : AllByRecursion
      (λ (e : NoteEntry). has_place e.0 (filed nat_cmp e.1.unit units) ≡ true) all
  pub by_name : AllByRecursion
      (λ (e : NoteEntry). has_place e.0 (filed key_cmp (e.1.queue, e.1.name) names) ≡ true) all

-- whether the note is one of theirs
abbrev pub is_own : Whose → Note → Bool
is_own (OfUnit unit) n = n.unit == unit.0
is_own (OfRegistrant queue name) n = is_note_of queue.0 name n

abbrev pub has_own : Whose → Option Note → Bool
has_own whose None = false
has_own whose (Some n) = is_own whose n

-- what is left without their notes at these places
abbrev pub left : Whose → List ℕ → List NoteEntry → List NoteEntry
left whose places es = filter (λ (e : NoteEntry). not (has_place e.0 places && is_own whose e.1)) es

-- a note among the others
pub record Among (n : Note) (whole others : List Note) : Type 0 where
  pub front : List Note
  pub back : List Note
  pub whole_is : whole ≡ front ++ n ∷ back
  pub others_are : others ≡ front ++ back

-- a note of theirs was taken out of the lines, or nothing was
abbrev pub Drawn : Whose → Option Note → List NoteEntry → List NoteEntry → Type 0
Drawn whose None old new = new ≡ old
Drawn whose (Some n) old new = (is_own whose n ≡ true) × Among n (values_of old) (values_of new)
