-- Runs of frames: where one ends another stands or the bytes end, and a body spells a record or none.
use Rattle.std.proofs.Common.{◌≡◌, ℕ, List, Bool, Option, Some, None, length, refl, sym, subst, inl, inr, ◌∙◌}
use Rattle.std.specs.Prelude.{is_some, IsTrue, ◌↔◌, MatchOption}
use Rattle.rq_bytes.specs.Readers.{IsBytes}
use Rattle.rq_bytes.proofs.Together.{spelled_by, read_again}
use Rattle.rq_model.specs.Records.{Record, Version}
use Rattle.rq_model.specs.Reading.{record_read}
use Rattle.rq_model.proofs.RecordReaders.{reads_record}
use Rattle.rq_behind.specs.Runs.{EndsOr, SpellsSome, frame_end}

-- where the bytes do not end, what stands there decides
pub stands_there : {Q : Type 0} (P : ℕ → Type 0) (b : List ℕ) (at next : ℕ) (t : Bool) → Q → next ≡ frame_end b at
    → (next ≡ length b → ⊥) → IsTrue t ↔ P next → IsTrue t ↔ (Q × EndsOr P b at)
stands_there {Q} P b at next t q e apart decides = (
  λ true. (q, inr (subst P e (decides.0 true))),
  λ both. elim both.1 [ inl h ↦ absurd (apart (e ∙ h)) | inr h ↦ decides.1 (subst P (sym e) h) ],
)

-- whether there is an end tells whether the frame is there
pub ends_there : {Q : Type 0} (R S : ℕ → Type 0) (end : Option ℕ) → MatchOption end (Q → ⊥) (λ x. Q × R x × S x)
    → IsTrue (is_some end) ↔ Q
ends_there R S None none = (λ some. absurd cc, λ q. absurd (none q))
ends_there R S (Some x) there = (λ some. there.0, λ q. refl)

read_exactly : (version : Version) (body : List ℕ) (read : Option (Record × List ℕ)) → IsBytes body
    → record_read version body ≡ read → IsTrue (is_some read) ↔ SpellsSome version body
read_exactly version body (Some x) fits e =
    (λ some. (x.0, spelled_by body x (reads_record version) fits e), λ spells. refl)
read_exactly version body None fits e = (
  λ some. absurd cc,
  λ spells. let again = read_again body spells.0 (reads_record version) spells.1.0 spells.1.1 in absurd cc,
)

pub spells_exactly : (version : Version) (body : List ℕ) → IsBytes body
    → IsTrue (is_some (record_read version body)) ↔ SpellsSome version body
spells_exactly version body fits = read_exactly version body (record_read version body) fits refl
