-- If what is read keeps what it must, it is the state that the bytes spell; what is read from a
-- state's bytes always does.
use Rattle.std.proofs.Common.{◌≡◌, ℕ, List, [], Option, Some, None, Err, refl, sym, ◌∙◌, arith}
use Rattle.std.proofs.lemmas.Option.{same_Some}
use Rattle.rq_model.specs.Records.{Version}
use Rattle.rq_model.specs.States.{Registrant, State}
use Rattle.rq_model.specs.StateSpelling.{state_bytes, FitsRegistrant, Fits, IsCounted, SpellsUpTo}
use Rattle.rq_bytes.specs.Readers.{alone, after_of, IsBytes}
use Rattle.rq_bytes.proofs.Together.{reads_alone, spelled_by, read_again}
use Rattle.rq_model.specs.Reading.{state_read}
use Rattle.rq_model.proofs.Lists.{each_weaker}
use Rattle.rq_model.proofs.StateReaders.{IsRegistrantSpelled, IsSpelled, reads_state}
use Rattle.rq_model.proofs.StateCodes.{is_spelled}
use Rattle.rq_record.specs.declared.fault.Fault.{Fault}
use Rattle.rq_record.specs.declared.fault.Fault.TheVariants as faults
use Rattle.rq_state.specs.Keeping.{TellsWhether, KeepsAll}
use Rattle.rq_state.specs.Spelling.{ReadsUpTo}
use Rattle.rq_state.specs.Reading.{FailsAsCheckpoint, form_read}
use Rattle.rq_state.proofs.Passing.{form_is}

optional_tag : (r : Registrant) → IsRegistrantSpelled r → FitsRegistrant r
optional_tag r h = grind arith

-- what is read keeps the widths
fits : (s : State) → IsSpelled s → Fits s
fits s h = record {
  greatest = h.greatest;
  definitions = each_weaker _ _ (λ d x. x.2) _ h.definitions.1;
  registrants = each_weaker _ _ optional_tag _ h.registrants.1;
  elements = each_weaker _ _ (λ e x. (x.priority, omega arith)) s.elements h.elements.1;
  notes = each_weaker _ _ (λ n x. (x.2, x.3.1)) s.notes h.notes.1;
}

-- and each count its own
counted_so : (s : State) → IsSpelled s → IsCounted s
counted_so s h = record {
  next = h.next;
  definitions = h.definitions.0;
  units = h.units.0;
  registrants = h.registrants.0;
  elements = h.elements.0;
  notes = h.notes.0;
}

again : (most : ℕ) (version : Version) (s : State) (bytes : List ℕ) → SpellsUpTo most version s bytes
    → alone state_read bytes ≡ Some (s, [])
again most version s bytes h = read_again bytes s (reads_alone reads_state) (is_spelled most version s bytes h) h.spelling

no_state : (most : ℕ) (version : Version) (bytes : List ℕ) → alone state_read bytes ≡ None → (s : State)
    → SpellsUpTo most version s bytes → ⊥
no_state most version bytes nothing s h = let clash =
    again most version s bytes h in absurd cc

-- bytes without the form spell no state
pub not_formed : (most : ℕ) (version : Version) (bytes : List ℕ) → None ≡ after_of (form_read bytes) → (s : State)
    → SpellsUpTo most version s bytes → ⊥
not_formed most version bytes nothing = no_state most version bytes (none _ (nothing ∙ form_is.after bytes))
  where
    none : (o : Option (State × List ℕ)) → None ≡ after_of o → o ≡ None
    none (Some s) e = absurd cc
    none None e = refl

spelled : (bytes : List ℕ) (s : State × List ℕ) → IsBytes bytes → alone state_read bytes ≡ Some s
    → (t : State) × Fits t × (bytes ≡ state_bytes t)
spelled bytes s byte is = let taken = spelled_by bytes s (reads_alone reads_state) byte is in
    (s.0, fits s.0 taken.0, taken.1)

formed : (bytes : List ℕ) → IsBytes bytes → Some [] ≡ after_of (form_read bytes)
    → (s : State) × Fits s × (bytes ≡ state_bytes s)
formed bytes byte is = from _ refl (is ∙ form_is.after bytes)
  where
    from : (o : Option (State × List ℕ)) → alone state_read bytes ≡ o → Some [] ≡ after_of o
        → (s : State) × Fits s × (bytes ≡ state_bytes s)
    from (Some s) e h = spelled bytes s byte e
    from None e h = absurd cc

-- nor do those that are not read
pub not_read : (most : ℕ) (version : Version) (bytes : List ℕ) (e : Fault) → IsBytes bytes
    → Some [] ≡ after_of (form_read bytes) → FailsAsCheckpoint e (alone state_read bytes)
    → ReadsUpTo most version bytes (Err e)
not_read most version bytes faults.BadCheckpoint byte form nothing = no_state most version bytes nothing
not_read most version bytes faults.Resources byte form nothing = formed bytes byte form
not_read most version bytes e byte form nothing = grind arith

-- nor do bytes from which something is read that does not keep it all
pub not_kept : (most : ℕ) (version : Version) (bytes : List ℕ) (t : State) (e : Fault) → IsBytes bytes
    → alone state_read bytes ≡ Some (t, []) → TellsWhether {A = Unit {0}} (KeepsAll most version t) (Err e)
    → ReadsUpTo most version bytes (Err e)
not_kept most version bytes t faults.BadCheckpoint byte is told =
    λ s h. let same = same_Some _ _ (sym (again most version s bytes h) ∙ is) in
    told (grind arith)
not_kept most version bytes t faults.Resources byte is told = spelled bytes _ byte is
not_kept most version bytes t e byte is told = absurd told

-- if there is no room for what is read and keeps it all
pub not_built : (most : ℕ) (version : Version) (bytes : List ℕ) (t : State) (e : Fault) → IsBytes bytes
    → alone state_read bytes ≡ Some (t, []) → e ≡ faults.Resources → ReadsUpTo most version bytes (Err e)
not_built most version bytes t e byte is refused = grind (arith, spelled bytes _ byte is)

-- what is read and keeps it all is spelled by the bytes
pub is_read : (most : ℕ) (version : Version) (bytes : List ℕ) (t : State) → IsBytes bytes
    → alone state_read bytes ≡ Some (t, []) → KeepsAll most version t → SpellsUpTo most version t bytes
is_read most version bytes t byte is k =
    let taken = spelled_by bytes _ (reads_alone reads_state) byte is in
    record {
      next = k.numbers.next;
      counted = counted_so t taken.0;
      keeps = grind arith;
      fits = fits t taken.0;
      deep = grind arith;
      spelling = taken.1;
    }
