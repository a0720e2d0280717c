-- The first such byte cuts.
use Rattle.std.proofs.Common.{◌≡◌, ℕ, zero, suc, ◌+◌, ◌<◌, true, List, [], ◌∷◌, length, take, drop, Some, None, refl, sym, arith, ◌-◌, add-one, take_all}
use Rattle.std.proofs.lemmas.List.{length-drop}
use Rattle.memchr.specs.Find.{Nowhere, NoneBefore, Passes, is_byte}
use Rattle.rq_writer.specs.Reading.{cut_at}

-- no byte of the rest is it either
nowhere_behind : (byte b : ℕ) (bytes : List ℕ) (end : ℕ) → Nowhere (Passes (is_byte byte) (b ∷ bytes)) 0 (suc end)
    → Nowhere (Passes (is_byte byte) bytes) 0 end
nowhere_behind byte b bytes end none = λ k low high p. none (suc k) (omega arith) (omega arith) p

pub none_cuts : (byte : ℕ) (bytes : List ℕ) → Nowhere (Passes (is_byte byte) bytes) 0 (length bytes) → cut_at byte bytes ≡ None
none_cuts byte [] none = refl
none_cuts byte (b ∷ bytes) none =
    let later = none_cuts byte bytes (nowhere_behind byte b bytes (length bytes) none) in
    let isnt : (is_byte byte b ≡ true → ⊥) = none 0 (omega arith) (omega arith) in
    grind (arith, later, isnt)

first_cuts_at : (byte : ℕ) (bytes : List ℕ) (at : ℕ) → at < length bytes → Nowhere (Passes (is_byte byte) bytes) 0 at
    → Passes (is_byte byte) bytes at → cut_at byte bytes ≡ Some (take at bytes, drop (suc at) bytes)
first_cuts_at byte [] at inside none here = absurd (omega (arith, inside))
first_cuts_at byte (b ∷ bytes) zero inside none here = grind (arith, here)
first_cuts_at byte (b ∷ bytes) (suc at) inside none here =
    let later = first_cuts_at byte bytes at (omega (arith, inside)) (nowhere_behind byte b bytes at none) here in
    let isnt : (is_byte byte b ≡ true → ⊥) = none 0 (omega arith) (omega arith) in
    grind (arith, later, isnt)

-- as a slice is seen
pub first_cuts : (byte : ℕ) (bytes : List ℕ) (at : ℕ) → NoneBefore (Passes (is_byte byte) bytes) 0 (length bytes) at
    → Passes (is_byte byte) bytes at
    → Some (take at bytes, take (length bytes - (at + 1)) (drop (at + 1) bytes)) ≡ cut_at byte bytes
first_cuts byte bytes at before here =
    let all : take (length bytes - (at + 1)) (drop (at + 1) bytes) ≡ drop (at + 1) bytes
    = take_all _ _ (omega (arith, length-drop (at + 1) bytes)) in
    rw (all, add-one at) (sym (first_cuts_at byte bytes at before.high before.before here))
