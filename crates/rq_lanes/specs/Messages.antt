-- Messages in some bytes, each with its digest after it, and the lanes that take them in: rows of
-- words side by side, of which column j has the words of lane j.
use Rattle.std.specs.Prelude.{ℕ, List, [], ◌∷◌, map, slice_index, slice_index_or, ◌≡◌, ◌⊎◌, ◌+◌, ◌-◌, ◌*◌, ◌/◌, ◌%◌}
use Rattle.std.specs.Prelude.{◌≤◌, ◌<◌, ◌++◌, true, false, length, take, drop, get_or, slice_range, All}
use Rattle.sha2.specs.Sha256.{hash_after, initial_hash_256, padded_message, padding, sha256}
use Rattle.rq_lanes.specs.declared.lanes.Message.{Message}
use Rattle.rq_lanes.specs.declared.lanes.Lane.{Lane}
use Rattle.rq_lanes.specs.declared.lanes.Lanes.{Lanes}

-- the word of lane j in row k
abbrev pub word_in : List (List ℕ) → ℕ → ℕ → ℕ
word_in rows k j = slice_index (slice_index_or rows k []) j

-- the eight words of lane j
abbrev pub lane : ℕ → List (List ℕ) → List ℕ
lane j rows = word_in rows 0 j ∷ word_in rows 1 j ∷ word_in rows 2 j ∷ word_in rows 3 j
    ∷ word_in rows 4 j ∷ word_in rows 5 j ∷ word_in rows 6 j ∷ word_in rows 7 j ∷ []

-- all words of lane j
abbrev pub window : ℕ → List (List ℕ) → List ℕ
window j rows = map (λ row. slice_index row j) rows

-- the bytes of a message
abbrev pub text : List ℕ → Message → List ℕ
text b m = slice_range b m.start (m.start + m.len)

-- the 32 bytes after the message are its digest
pub record HasDigestBehind (b : List ℕ) (m : Message) : Type 0 where
  pub within : m.start + m.len + 32 ≤ length b
  pub digest : slice_range b (m.start + m.len) (m.start + m.len + 32) ≡ sha256 (text b m)

-- the lane's message, its number of blocks, and the bytes from its last whole block on with the
-- padding
pub record Fills (b : List ℕ) (l : Lane) : Type 0 where
  pub within : l.message.start + l.message.len + 32 ≤ length b
  pub count : (l.due - l.born) * 64 ≡ length (padded_message (text b l.message))
  pub tail : take (l.message.len % 64 + (119 - l.message.len % 64) % 64 + 9) l.tail
      ≡ drop (l.message.len / 64 * 64) (text b l.message) ++ padding (length (text b l.message))

-- the block of the lane's padded message that is taken in at this clock
abbrev pub block_at : List ℕ → Lane → ℕ → List ℕ
block_at b l clock = take 64 (drop ((clock - l.born) * 64) (padded_message (text b l.message)))

-- the hash value has taken in the blocks of the lane's message before the clock
pub record HasTakenIn (b : List ℕ) (l : Lane) (clock : ℕ) (words : List ℕ) : Type 0 where
  pub fills : Fills b l
  pub begun : l.born ≤ clock
  pub ending : clock ≤ l.due
  pub hash : words
      ≡ hash_after initial_hash_256 (padded_message (text b l.message)) (clock - l.born)

-- the lane at an index
abbrev pub held : List Lane → ℕ → Lane
held lanes j = get_or lanes j
    (record { message = record { start = 0; len = 0 }; born = 0; due = 0; busy = false; tail = [] })

-- a lane has the message
pub record IsInLane (lanes : List Lane) (m : Message) : Type 0 where
  pub index : ℕ
  pub low : index < length lanes
  pub busy : (held lanes index).busy ≡ true
  pub same : (held lanes index).message ≡ m

-- each message that these lanes were given is right or in a lane, unless a wrong one was seen
pub record AccountsFor {n : ℕ} (b : List ℕ) (s : Lanes n) (ms : List Message) : Type 0 where
  pub each : (j : ℕ) → j < length s.lanes → (held s.lanes j).busy ≡ true
      → HasTakenIn b (held s.lanes j) s.clock (lane j s.hash)
  pub known : s.right ≡ true → All (λ m. HasDigestBehind b m ⊎ IsInLane s.lanes m) ms
