-- The blocks of a padded message, from where its bytes lie.
use Rattle.std.proofs.Common.{◌≡◌, ℕ, ◌+◌, ◌-◌, ◌*◌, ◌%◌, ◌^◌, ◌≤◌, List, ◌∷◌, ◌++◌, length, take, drop, replicate}
use Rattle.std.proofs.Common.{refl, sym, ap, ◌∙◌, arith, length-append, length-take, length-drop, ◌/◌, zero, suc, ◌<◌}
use Rattle.std.proofs.Common.{slice_index}
use Rattle.std.proofs.lemmas.List.{append_assoc, take_at, length-replicate, drop-append-le, take-append-le, drop-drop}
use Rattle.std.proofs.lemmas.List.{drop-take, take-take}
use Rattle.std.proofs.lemmas.Slice.{take-put_mid}
use Rattle.std.specs.Int.{w64, to_be_bytes}
use Rattle.sha2.specs.Sha256.{padding, padded_message, hash_after, compress, initial_hash_256}
use borrow.Rule.Slice.PartMut.{put_mid}
use Rattle.sha2.proofs.Absorbing256.{hash_after_next}
use Rattle.rq_lanes.specs.declared.lanes.Message.{Message}
use Rattle.rq_lanes.specs.declared.lanes.Lane.{Lane}
use Rattle.rq_lanes.specs.Messages.{word_in, lane, Fills, HasTakenIn, block_at, text}

pub tail_is : (len : ℕ) (rest base y1 y2 y3 : List ℕ) (k2 k3 e n : ℕ) → length rest ≡ len % 64 → y1 ≡ rest
    → y2 ≡ 0x80 ∷ replicate ((119 - length rest) % 64) 0 → y3 ≡ to_be_bytes w64 (len * 8 % 2 ^ 64)
    → e ≡ length rest + ((119 - length rest) % 64 + 1) → n ≡ e + 8
    → take n (put_mid e k3 (put_mid (length rest) k2 (y1 ++ drop (length rest) base) y2) y3) ≡ rest ++ padding len
tail_is len rest base y1 y2 y3 k2 k3 e n short e1 e2 e3 ee en =
    let r : ℕ = length rest in
    let o1 : List ℕ = y1 ++ drop r base in
    let o2 : List ℕ = put_mid r k2 o1 y2 in
    let l1 : length y1 ≡ r = ap length e1 in
    let l2 : length y2 ≡ (119 - r) % 64 + 1 =
    ap length e2 ∙ omega (arith, length-replicate {A = ℕ} ((119 - r) % 64) 0) in
    let l3 : length y3 ≡ 8 = rw e3 refl in
    let s1 : take r o1 ≡ rest = take_at y1 (drop r base) r (omega arith) ∙ e1 in
    let s2 : take e o2 ≡ take r o1 ++ y2 =
    take-put_mid r k2 o1 y2 e (omega arith) (omega (arith, length-append y1 (drop r base))) in
    let front : length (take e o2) ≡ e = ap length (s2 ∙ ap (λ (x : List ℕ). x ++ y2) s1)
    ∙ omega (arith, length-append rest y2) in
    let s3 : take n (put_mid e k3 o2 y3) ≡ take e o2 ++ y3 =
    take-put_mid e k3 o2 y3 n (omega arith) (omega (arith, length-take e o2)) in
    let all : take n (put_mid e k3 o2 y3) ≡ (rest ++ y2) ++ y3 = rw (s3, s2, s1) refl in
    all ∙ append_assoc rest y2 y3 ∙ rw (e2, e3, short) refl

-- a whole block of the message is that block of the padded message
pub block_whole : (m : List ℕ) (n : ℕ) → n * 64 + 64 ≤ length m
    → take 64 (drop (n * 64) (padded_message m)) ≡ take 64 (drop (n * 64) m)
block_whole m n h =
    let fits : 64 ≤ length (drop (n * 64) m) = omega (arith, length-drop (n * 64) m) in
    ap (take 64) (drop-append-le (n * 64) m (padding (length m)) (omega arith))
    ∙ take-append-le 64 (drop (n * 64) m) (padding (length m)) fits

-- a block from the last whole one on is one of the tail: p bytes of the tail are its padded end
pub block_tail : (m tail : List ℕ) (w k p : ℕ) → w ≡ length m / 64 → take p tail ≡ drop (w * 64) m ++ padding (length m)
    → k * 64 + 64 ≤ p
    → take 64 (drop ((w + k) * 64) (padded_message m)) ≡ take 64 (drop (k * 64) tail)
block_tail m tail w k p ew et h =
    let split : (w + k) * 64 ≡ w * 64 + k * 64 = omega arith in
    let front : drop (w * 64) (padded_message m) ≡ take p tail =
    drop-append-le (w * 64) m (padding (length m)) (omega arith) ∙ sym et in
    let moved : drop ((w + k) * 64) (padded_message m) ≡ drop (k * 64) (take p tail) =
    ap (λ (n : ℕ). drop n (padded_message m)) split ∙ sym (drop-drop (k * 64) (w * 64) (padded_message m))
    ∙ ap (drop (k * 64)) front in
    let room : p ≡ k * 64 + (p - k * 64) = omega arith in
    let cut : drop (k * 64) (take p tail) ≡ take (p - k * 64) (drop (k * 64) tail) =
    ap (λ (n : ℕ). drop (k * 64) (take n tail)) room ∙ drop-take (k * 64) (p - k * 64) tail in
    ap (take 64) (moved ∙ cut) ∙ take-take 64 (p - k * 64) (drop (k * 64) tail) (omega arith)

-- how many blocks the padded message has
pub padded_blocks : (m : List ℕ) → length (padded_message m) ≡ (length m / 64 + (length m % 64 + 72) / 64) * 64
padded_blocks m =
    let zeros : length (replicate {A = ℕ} ((119 - length m % 64) % 64) 0) ≡ (119 - length m % 64) % 64 =
    length-replicate {A = ℕ} ((119 - length m % 64) % 64) 0 in
    let field : length (to_be_bytes w64 (length m * 8 % 2 ^ 64)) ≡ 8 = refl in
    omega (
      arith,
      length-append m (padding (length m)),
      zeros,
      field,
      length-append (replicate {A = ℕ} ((119 - length m % 64) % 64) 0) (to_be_bytes w64 (length m * 8 % 2 ^ 64)),
    )

pub length-text : (b : List ℕ) (m : Message) → m.start + m.len ≤ length b → length (text b m) ≡ m.len
length-text b m le = omega (arith, length-take (m.start + m.len - m.start) (drop m.start b), length-drop m.start b)

-- a block that lies wholly in the message
pub block_of_text : (b : List ℕ) (m : Message) (k from : ℕ) (x : List ℕ) → m.start + m.len ≤ length b
    → k * 64 + 64 ≤ m.len → from ≡ m.start + k * 64
    → x ≡ take (from + 64 - from) (drop from b) → x ≡ take 64 (drop (k * 64) (padded_message (text b m)))
block_of_text b m k from x le fits at e =
    let long = length-text b m le in
    let width : from + 64 - from ≡ 64 = omega arith in
    let span : m.start + m.len - m.start ≡ k * 64 + (m.len - k * 64) = omega arith in
    let inner : drop (k * 64) (text b m) ≡ take (m.len - k * 64) (drop (k * 64) (drop m.start b)) =
    ap (λ (n : ℕ). drop (k * 64) (take n (drop m.start b))) span
    ∙ drop-take (k * 64) (m.len - k * 64) (drop m.start b) in
    let there : drop (k * 64) (drop m.start b) ≡ drop from b =
    drop-drop (k * 64) m.start b ∙ ap (λ (n : ℕ). drop n b) (sym at) in
    let cut = take-take 64 (m.len - k * 64) (drop from b) (omega arith) in
    e ∙ ap (λ (n : ℕ). take n (drop from b)) width
    ∙ sym (block_whole (text b m) k (omega (arith, long)) ∙ ap (take 64) (inner ∙ ap (take (m.len - k * 64)) there)
    ∙ cut)

-- how many blocks a lane's message has
pub blocks_of_lane : (b : List ℕ) (l : Lane) → Fills b l
    → l.due - l.born ≡ l.message.len / 64 + (l.message.len % 64 + 72) / 64
blocks_of_lane b l f =
    let long = length-text b l.message (omega (arith, f.within)) in
    omega (arith, f.count, padded_blocks (text b l.message), long)

-- the block that the tail begins with
pub block_first_tail : (b : List ℕ) (l : Lane) (k : ℕ) → Fills b l → k ≡ l.message.len / 64
    → take 64 l.tail ≡ take 64 (drop (k * 64) (padded_message (text b l.message)))
block_first_tail b l k f at =
    let long = length-text b l.message (omega (arith, f.within)) in
    let n = l.message.len in
    let t = block_tail (text b l.message) l.tail (n / 64) 0 (n % 64 + (119 - n % 64) % 64 + 9)
    (omega (arith, long)) f.tail (omega arith) in
    let place : (n / 64 + 0) * 64 ≡ k * 64 = omega arith in
    sym (ap (λ (i : ℕ). take 64 (drop i (padded_message (text b l.message)))) (sym place) ∙ t)

-- the block after it
pub block_second_tail : (b : List ℕ) (l : Lane) (k : ℕ) → Fills b l → l.message.len / 64 < k → k < l.due - l.born
    → take 64 (drop 64 l.tail) ≡ take 64 (drop (k * 64) (padded_message (text b l.message)))
block_second_tail b l k f above below =
    let long = length-text b l.message (omega (arith, f.within)) in
    let count = blocks_of_lane b l f in
    let n = l.message.len in
    let t = block_tail (text b l.message) l.tail (n / 64) 1 (n % 64 + (119 - n % 64) % 64 + 9)
    (omega (arith, long)) f.tail (omega (arith, count)) in
    let place : (n / 64 + 1) * 64 ≡ k * 64 = omega (arith, count) in
    sym (ap (λ (i : ℕ). take 64 (drop i (padded_message (text b l.message)))) (sym place) ∙ t)

-- one more block
pub runs_on : (b : List ℕ) (l : Lane) (clock : ℕ) (words block next : List ℕ) → HasTakenIn b l clock words
    → clock < l.due
    → block ≡ block_at b l clock → next ≡ compress words block → HasTakenIn b l (clock + 1) next
runs_on b l clock words block next r lt at e =
    let p = padded_message (text b l.message) in
    let count : clock + 1 - l.born ≡ clock - l.born + 1 = omega (arith, r.begun) in
    record {
      fills = r.fills;
      begun = omega (arith, r.begun);
      ending = omega arith;
      hash = e ∙ ap (λ (w : List ℕ). compress w block) r.hash
          ∙ ap (compress (hash_after initial_hash_256 p (clock - l.born))) at
          ∙ sym (hash_after_next initial_hash_256 p (clock - l.born)) ∙ ap (hash_after initial_hash_256 p) (sym count);
    }

-- what holds below eight
pub below_eight : (P : ℕ → Type 0) → P 0 → P 1 → P 2 → P 3 → P 4 → P 5 → P 6 → P 7 → (j : ℕ) → j < 8 → P j
below_eight P p0 p1 p2 p3 p4 p5 p6 p7 zero h = p0
below_eight P p0 p1 p2 p3 p4 p5 p6 p7 (suc zero) h = p1
below_eight P p0 p1 p2 p3 p4 p5 p6 p7 (suc (suc zero)) h = p2
below_eight P p0 p1 p2 p3 p4 p5 p6 p7 (suc (suc (suc zero))) h = p3
below_eight P p0 p1 p2 p3 p4 p5 p6 p7 (suc (suc (suc (suc zero)))) h = p4
below_eight P p0 p1 p2 p3 p4 p5 p6 p7 (suc (suc (suc (suc (suc zero))))) h = p5
below_eight P p0 p1 p2 p3 p4 p5 p6 p7 (suc (suc (suc (suc (suc (suc zero)))))) h = p6
below_eight P p0 p1 p2 p3 p4 p5 p6 p7 (suc (suc (suc (suc (suc (suc (suc zero))))))) h = p7
below_eight P p0 p1 p2 p3 p4 p5 p6 p7 (suc (suc (suc (suc (suc (suc (suc (suc n)))))))) h = absurd (omega arith)

-- word i of a lane is in row i
pub word_of_lane : (hash : List (List ℕ)) (j i : ℕ) → i < 8 → slice_index (lane j hash) i ≡ word_in hash i j
word_of_lane hash j = below_eight (λ i. slice_index (lane j hash) i ≡ word_in hash i j) refl refl refl refl refl refl
    refl refl
