-- The parts of the frame at an offset, and what its digest is taken over.
use Rattle.std.proofs.Common.{◌≡◌, ℕ, ◌+◌, ◌-◌, ◌≤◌, false, ltb, List, ◌++◌, length, take, drop, refl, sym}
use Rattle.std.proofs.Common.{ap, ◌∙◌, append_assoc, arith}
use borrow.Rule.Slice.PartMut.{put_mid}
use Rattle.std.specs.Int.{w32, to_be_bytes}
use Rattle.std.specs.Prelude.{◌↔◌, slice_range}
use Rattle.std.proofs.lemmas.Bool.{le-ltb}
use Rattle.std.proofs.lemmas.List.{length-take, length-drop, drop-drop, drop_at, take_at}
use Rattle.std.proofs.Math.Seq.{take-add}
use Rattle.sha2.specs.Sha256.{sha256}
use Rattle.rq_bytes.specs.Readers.{IsBytes}
use Rattle.rq_bytes.proofs.Single.{reads_u32, IsBytes-drop}
use Rattle.rq_model.specs.Records.{Version, One, Two}
use Rattle.rq_model.specs.Frames.{stated, body_in, digest_in, HasFrame, HasRightFrame, HasHeader, before, magic}
use Rattle.rq_model.specs.Carrying.{HasCarriedHeader, carried_magic}
use Rattle.rq_model.proofs.Runs.{length-sha256}

-- bytes that begin with the header are at least 40
pub log_long : (version : Version) (b : List ℕ) → HasHeader version b → 40 ≤ length b
log_long One b e = omega (arith, ap length e, length-take 40 b, length-sha256 (magic One))
log_long Two b e = omega (arith, ap length e, length-take 40 b, length-sha256 (magic Two))

-- and so are those that begin with the header of a carried file
pub file_long : (version : Version) (b : List ℕ) → HasCarriedHeader version b → 40 ≤ length b
file_long One b e = omega (arith, ap length e, length-take 40 b, length-sha256 (carried_magic One))
file_long Two b e = omega (arith, ap length e, length-take 40 b, length-sha256 (carried_magic Two))

-- eight bytes and their digest in place of the first 40
pub put_header : (magic first last b : List ℕ) → length magic ≡ 8 → first ≡ magic → last ≡ sha256 magic
    → put_mid 8 32 (first ++ drop 8 b) last ≡ (magic ++ sha256 magic) ++ drop 40 b
put_header magic first last b long is digest_is =
    let size : length first ≡ 8 = ap length is ∙ long in
    let front : take 8 (first ++ drop 8 b) ≡ magic = take_at first (drop 8 b) 8 size ∙ is in
    let rest : drop 32 (drop 8 (first ++ drop 8 b)) ≡ drop 40 b =
    ap (drop 32) (drop_at first (drop 8 b) 8 size) ∙ drop-drop 32 8 b in
    (λ i. front i ++ (digest_is i ++ rest i)) ∙ sym (append_assoc magic (sha256 magic) (drop 40 b))

pub body_long : (bytes : List ℕ) → HasFrame bytes → length (body_in bytes) ≡ stated bytes
body_long bytes frame = omega (arith, length-take (stated bytes) (drop 4 bytes), length-drop 4 bytes, frame.room)

-- the length and the body
front_is : (bytes : List ℕ) → IsBytes bytes → HasFrame bytes
    → take (4 + stated bytes) bytes ≡ to_be_bytes w32 (length (body_in bytes)) ++ body_in bytes
front_is bytes fits frame =
    let long : ltb (length bytes) 4 ≡ false = le-ltb _ _ (omega (arith, frame.room)) in
    let read = reads_u32.takes bytes (stated bytes, drop 4 bytes) fits (rw long refl) in
    let four : take 4 bytes ≡ to_be_bytes w32 (length (body_in bytes)) =
    ap (take 4) read.parts ∙ ap (to_be_bytes w32) (sym (body_long bytes frame)) in
    take-add 4 (stated bytes) bytes ∙ ap (λ (x : List ℕ). x ++ body_in bytes) four

-- the 32 bytes before the frame, the length and the body
head_is : (b : List ℕ) (at len : ℕ) → IsBytes b → 32 ≤ at → HasFrame (drop at b) → len ≡ stated (drop at b)
    → slice_range b (at - 32) (at + 4 + len)
    ≡ before at b ++ (to_be_bytes w32 (length (body_in (drop at b))) ++ body_in (drop at b))
head_is b at len fits low frame is =
    let from = drop (at - 32) b in
    let size : at + 4 + len - (at - 32) ≡ 32 + (4 + stated (drop at b)) = omega (arith, is) in
    let place : at - 32 + 32 ≡ at = omega arith in
    let past : drop 32 from ≡ drop at b = drop-drop 32 (at - 32) b ∙ ap (λ (k : ℕ). drop k b) place in
    ap (λ (k : ℕ). take k from) size ∙ take-add 32 (4 + stated (drop at b)) from
    ∙ ap (λ (x : List ℕ). before at b ++ take (4 + stated (drop at b)) x) past
    ∙ ap (λ (x : List ℕ). before at b ++ x) (front_is (drop at b) (IsBytes-drop at b fits) frame)

-- the 32 bytes after the body
sum_is : (b : List ℕ) (at len : ℕ) → len ≡ stated (drop at b)
    → slice_range b (at + 4 + len) (at + 36 + len) ≡ digest_in (drop at b)
sum_is b at len is =
    let size : at + 36 + len - (at + 4 + len) ≡ 32 = omega arith in
    let place : at + 4 + len ≡ at + (4 + stated (drop at b)) = omega (arith, is) in
    ap (λ (k : ℕ). take k (drop (at + 4 + len) b)) size ∙ ap (λ (k : ℕ). take 32 (drop k b)) place
    ∙ ap (take 32) (sym (drop-drop (4 + stated (drop at b)) at b))

pub right_exactly : (b : List ℕ) (at len : ℕ) → IsBytes b → 32 ≤ at → HasFrame (drop at b) → len ≡ stated (drop at b)
    → (sha256 (slice_range b (at - 32) (at + 4 + len)) ≡ slice_range b (at + 4 + len) (at + 36 + len))
    ↔ HasRightFrame (before at b) (drop at b)
right_exactly b at len fits low frame is =
    let head = head_is b at len fits low frame is in
    let sum = sum_is b at len is in (
      λ same. record { whole = frame; right = sym sum ∙ sym same ∙ ap sha256 head },
      λ right. ap sha256 head ∙ sym right.right ∙ sym sum,
    )
