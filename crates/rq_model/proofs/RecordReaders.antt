-- The law of records: what is read of a body was spelled that way, and what is spelled is read. So a body spells at
-- most one record.
use Rattle.std.proofs.Common.{◌≡◌, ℕ, ◌≤◌, List, ◌∷◌, ◌++◌, length, Option, Some, None, refl, sym, ap, arith, subst}
use Rattle.std.proofs.Common.{◌∙◌}
use Rattle.std.specs.Prelude.{IsTrue, drop}
use Rattle.std.specs.Int.{w64, to_be_bytes}
use Rattle.std.proofs.lemmas.Bool.{eqb-true, ne_eqb, leb-true, le-leb}
use Rattle.std.proofs.lemmas.List.{length-append}
use Rattle.rq_bytes.specs.Readers.{Reader, number, piece, ◌then◌, made, tested, tagged, Reads, Any, End}
use Rattle.rq_bytes.proofs.Single.{reads_byte, reads_piece, reads_u16, reads_u32, reads_u64, reads_all}
use Rattle.rq_bytes.proofs.Together.{reads_then, reads_tested, reads_alone, alike, TakesBehind, at_byte, in_case}
use Rattle.rq_bytes.proofs.Together.{in_no_case, again_made, reads_tagged, spells_one}
use Rattle.rq_model.specs.Records.{By, Record, Define, Register, Deregister, Begin, Enqueue, Dequeue, Commit, Abort}
use Rattle.rq_model.specs.Records.{Checkpoint, Kill, Version, One, Two}
use Rattle.rq_model.specs.Spelling.{is_name, who, IsWho, body_of, IsRecord, Spells}
use Rattle.rq_model.specs.Frames.{IsBodyLength}
use Rattle.rq_model.specs.Reading.{name_left, at_most, is_zero, nobody, somebody, who_behind, who_read, define_read}
use Rattle.rq_model.specs.Reading.{registration_read, unit_read, enqueue_read, dequeue_read, checkpoint_read, kill_read}
use Rattle.rq_model.specs.Reading.{define_from, register_from, deregister_from, enqueue_from, dequeue_from, kill_from}
use Rattle.rq_model.specs.Reading.{record_behind, record_read}

-- a name has 1 to 64 bytes
pub name_long : (name : List ℕ) → IsTrue (is_name name) → (1 ≤ length name) × (length name ≤ 64)
name_long name h = grind arith

pub reads_name_left : Reads (λ name. IsTrue (is_name name)) (λ name. name) End name_left
unfolding name_left
reads_name_left = alike (λ name. IsTrue (is_name name)) (λ name h. h.1) (λ name h. (tt, h)) (reads_tested reads_all)

pub reads_at_most : (limit : ℕ) → Reads (λ (bytes : List ℕ). length bytes ≤ limit) (λ bytes. bytes) End (at_most limit)
unfolding at_most
reads_at_most limit = alike (λ bytes. length bytes ≤ limit) (λ bytes h. leb-true _ _ h.1)
    (λ bytes h. (tt, le-leb _ _ h)) (reads_tested reads_all)

named : TakesBehind IsWho who Any (λ n. made somebody (tested is_name (piece n) then number 8))
named n bytes x fits e = at_byte n somebody (reads_then (reads_tested (reads_piece n)) reads_u64)
    (λ y h. ((h.0.1, h.1), ap (λ (size : ℕ). size ∷ (y.0 ++ to_be_bytes w64 y.1)) (sym h.0.0))) bytes x fits e

who_again : (by : Option By) (rest : List ℕ) → IsWho by → Any rest
    → tagged who_behind (who by ++ rest) ≡ Some (by, rest)
who_again None rest h ends = again_made nobody (reads_tested {test = is_zero} reads_u64) 0 rest (omega arith, refl) ends
who_again (Some by) rest h ends =
    let long = name_long by.name h.0 in
    let some = ne_eqb _ _ (λ (e : length by.name ≡ 0). omega arith) in
    rw some (again_made somebody (reads_then (reads_tested (reads_piece (length by.name))) reads_u64)
    (by.name, by.tag) rest ((refl, h.0), h.1) ends)

pub reads_who : Reads IsWho who Any who_read
unfolding who_read
reads_who = reads_tagged (in_case 0 nobody (reads_tested reads_u64)
    (λ tag h. (tt, ap (λ (t : ℕ). 0 ∷ to_be_bytes w64 t) (eqb-true tag 0 h.1))) named) who_again

-- The fields of each kind, to the end of the body.

abbrev pub ReadsFields : {X : Type 0} → Version → (X → Record) → Reader X → Type 0
ReadsFields version make reader = Reads (λ x. IsRecord version (make x)) (λ x. drop 1 (body_of (make x))) End reader

reads_define : (version : Version) → ReadsFields version define_from define_read
unfolding define_read
reads_define version = alike _ (λ x h. (h.0, h.1.0, h.1.1)) (λ x h. (h.0, (h.1, h.2)))
    (reads_then reads_u16 (reads_then reads_u32 reads_name_left))

reads_registration : (version : Version) → ReadsFields version register_from registration_read
unfolding registration_read
reads_registration version = reads_then reads_u32 reads_name_left

reads_unit : (version : Version) → ReadsFields version Begin unit_read
unfolding unit_read
reads_unit version = reads_alone reads_u64

reads_enqueue : (version : Version) → ReadsFields version enqueue_from enqueue_read
unfolding enqueue_read
reads_enqueue version = alike _ (λ x h. (h.0, h.1.0, h.1.1.0, h.1.1.1.0, h.1.1.1.1))
    (λ x h. (h.0, (h.1, (h.2, (h.3, h.4)))))
    (reads_then reads_u64 (reads_then reads_u32 (reads_then reads_byte (reads_then reads_who (reads_at_most 65535)))))

reads_dequeue : (version : Version) → ReadsFields version dequeue_from dequeue_read
unfolding dequeue_read
reads_dequeue version = alike _ (λ x h. (h.0, h.1.0, h.1.1)) (λ x h. (h.0, (h.1, h.2)))
    (reads_alone (reads_then reads_u64 (reads_then reads_u32 reads_who)))

reads_checkpoint : (version : Version) → ReadsFields version Checkpoint checkpoint_read
unfolding checkpoint_read
reads_checkpoint version = reads_at_most 268435455

reads_kill : (version : Version) → ReadsFields version kill_from (kill_read version)
unfolding kill_read
reads_kill One = record { takes = λ bytes x fits e. absurd cc; again = λ x rest fits ends. absurd fits }
reads_kill Two = reads_alone (reads_then reads_u32 reads_u64)

record_takes : (version : Version) → TakesBehind (IsRecord version) body_of End (record_behind version)
unfolding record_behind
record_takes version =
    in_case 1 define_from (reads_define version) (λ x h. (h, refl))
    (in_case 2 register_from (reads_registration version) (λ x h. (h, refl))
    (in_case 3 deregister_from (reads_registration version) (λ x h. (h, refl))
    (in_case 4 Begin (reads_unit version) (λ x h. (h, refl))
    (in_case 5 enqueue_from (reads_enqueue version) (λ x h. (h, refl))
    (in_case 6 dequeue_from (reads_dequeue version) (λ x h. (h, refl))
    (in_case 7 Commit (reads_unit version) (λ x h. (h, refl))
    (in_case 8 Abort (reads_unit version) (λ x h. (h, refl))
    (in_case 9 Checkpoint (reads_checkpoint version) (λ x h. (h, refl))
    (in_case 10 kill_from (reads_kill version) (λ x h. (h, refl)) in_no_case)))))))))

record_again : (version : Version) (r : Record) (rest : List ℕ) → IsRecord version r → End rest
    → tagged (record_behind version) (body_of r ++ rest) ≡ Some (r, rest)
unfolding record_behind
record_again version (Define limit error name) rest =
    again_made define_from (reads_define version) (limit, (error, name)) rest
record_again version (Register queue name) rest =
    again_made register_from (reads_registration version) (queue, name) rest
record_again version (Deregister queue name) rest =
    again_made deregister_from (reads_registration version) (queue, name) rest
record_again version (Begin unit) rest = again_made Begin (reads_unit version) unit rest
record_again version (Enqueue unit queue priority by payload) rest =
    again_made enqueue_from (reads_enqueue version) (unit, (queue, (priority, (by, payload)))) rest
record_again version (Dequeue unit queue by) rest =
    again_made dequeue_from (reads_dequeue version) (unit, (queue, by)) rest
record_again version (Commit unit) rest = again_made Commit (reads_unit version) unit rest
record_again version (Abort unit) rest = again_made Abort (reads_unit version) unit rest
record_again version (Checkpoint bytes) rest = again_made Checkpoint (reads_checkpoint version) bytes rest
record_again version (Kill queue element) rest = again_made kill_from (reads_kill version) (queue, element) rest

pub reads_record : (version : Version) → Reads (IsRecord version) body_of End (record_read version)
unfolding record_read
reads_record version = reads_tagged (record_takes version) (record_again version)

who_long : (by : Option By) → IsWho by → length (who by) ≤ 73
who_long None h = omega arith
who_long (Some by) h = omega (arith, length-append by.name (to_be_bytes w64 by.tag), (name_long by.name h.0).1)

pub body_fits : (version : Version) (r : Record) → IsRecord version r → IsBodyLength (length (body_of r))
body_fits version (Define limit error name) h = let long = name_long name h.2 in (omega arith, omega (arith, long.1))
body_fits version (Register queue name) h = let long = name_long name h.1 in (omega arith, omega (arith, long.1))
body_fits version (Deregister queue name) h = let long = name_long name h.1 in (omega arith, omega (arith, long.1))
body_fits version (Begin unit) h = (omega arith, omega arith)
body_fits version (Enqueue unit queue priority by payload) h = let long = who_long by h.3 in
    (omega arith, omega (arith, long, h.4, length-append (who by) payload))
body_fits version (Dequeue unit queue by) h = let long = who_long by h.2 in (omega arith, omega (arith, long))
body_fits version (Commit unit) h = (omega arith, omega arith)
body_fits version (Abort unit) h = (omega arith, omega arith)
body_fits version (Checkpoint bytes) h = (omega arith, omega (arith, h))
body_fits version (Kill queue element) h = (omega arith, omega arith)

pub one_record : (version : Version) (r s : Record) (body : List ℕ) → Spells version r body → Spells version s body
    → r ≡ s
one_record version r s body a b = spells_one (reads_record version) r s a.0 b.0 (sym a.1 ∙ b.1)

pub one_body : (version : Version) (r : Record) (a b : List ℕ) → Spells version r a → Spells version r b
    → (a ≡ b) × IsBodyLength (length a)
one_body version r a b h k =
    (h.1 ∙ sym k.1, subst (λ (x : List ℕ). IsBodyLength (length x)) (sym h.1) (body_fits version r h.0))
