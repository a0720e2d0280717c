-- Messages in lanes.
use Rattle.std.proofs.Common.{◌≡◌, ◌≢◌, ℕ, ◌+◌, ◌-◌, ◌*◌, ◌/◌, ◌%◌, ◌≤◌, ◌<◌, true, false, List, [], ◌∷◌, ◌++◌, length}
use Rattle.std.proofs.Common.{take, drop, sym, ap, subst, ◌∙◌, arith, slice_set, slice_index_or, inl, inr}
use Rattle.std.specs.Prelude.{All, ◌⊎◌}
use Rattle.std.proofs.lemmas.List.{get_or-set_same, get_or-set_other, length-set, drop-drop, drop-take}
use Rattle.std.proofs.lemmas.List.Elements.{All-append, All-cons, All-nil}
use Rattle.std.proofs.lemmas.Bool.{cases_lt, cases_eq}
use Rattle.sha2.specs.Sha256.{digest_bytes, hash_after, initial_hash_256, padded_message, sha256}
use Rattle.rq_lanes.specs.Messages.{lane}
use Rattle.rq_lanes.specs.Messages.{Fills, AccountsFor, IsInLane, HasDigestBehind, HasTakenIn, block_at, held, text}
use Rattle.rq_lanes.specs.declared.lanes.Message.{Message}
use Rattle.rq_lanes.specs.declared.lanes.Lane.{Lane}
use Rattle.rq_lanes.specs.declared.lanes.Lanes.{Lanes}

-- one more lane's block
pub more_blocks : (b : List ℕ) (lanes : List Lane) (clock : ℕ) (blocks : List (List ℕ)) (j : ℕ) (x : List ℕ) (k : ℕ)
    (words : List ℕ) → j < length blocks
    → ((ws : List ℕ) → HasTakenIn b (held lanes j) clock ws → clock < (held lanes j).due
    → x ≡ block_at b (held lanes j) clock)
    → ((ws : List ℕ) → k < j → HasTakenIn b (held lanes k) clock ws → clock < (held lanes k).due
    → slice_index_or blocks k [] ≡ block_at b (held lanes k) clock)
    → k < j + 1 → HasTakenIn b (held lanes k) clock words → clock < (held lanes k).due
    → slice_index_or (slice_set blocks j x) k [] ≡ block_at b (held lanes k) clock
more_blocks b lanes clock blocks j x k words low here before lt run below =
    elim (cases_lt k j) [
      | inl a ↦ get_or-set_other blocks j k x [] (omega arith) ∙ before words a run below
      | inr c ↦
          let e : k ≡ j = omega arith in
          let at = ap (λ (i : ℕ). slice_index_or (slice_set blocks j x) i []) e ∙ get_or-set_same blocks j x [] low in
          at ∙ here words (subst (λ (i : ℕ). HasTakenIn b (held lanes i) clock words) e run)
          (subst (λ (i : ℕ). clock < (held lanes i).due) e below)
          ∙ sym (ap (λ (i : ℕ). block_at b (held lanes i) clock) e)
    ]

-- the digest of a message that has ended
pub ended : (b : List ℕ) (l : Lane) (clock : ℕ) (words : List ℕ) → HasTakenIn b l clock words → l.due ≤ clock
    → digest_bytes words 8 ≡ sha256 (text b l.message)
unfolding sha256
ended b l clock words r late =
    let p = padded_message (text b l.message) in
    let count : clock - l.born ≡ length p / 64 = omega (arith, r.fills.count, r.begun, r.ending) in
    ap (λ (h : List ℕ). digest_bytes h 8) (r.hash ∙ ap (hash_after initial_hash_256 p) count)

-- a message whose first block comes next
pub starts : (b : List ℕ) (l : Lane) (clock : ℕ) (words : List ℕ) → Fills b l → l.born ≡ clock → clock ≤ l.due
    → words ≡ initial_hash_256 → HasTakenIn b l clock words
unfolding hash_after
starts b l clock words fills born late e =
    let p = padded_message (text b l.message) in
    let none : clock - l.born ≡ 0 = omega arith in
    record {
      fills = fills;
      begun = omega arith;
      ending = late;
      hash =
          e ∙ sym (ap (hash_after initial_hash_256 p) none);
    }

-- the bytes after the last whole block of a message
pub rest_of_text : (b : List ℕ) (m : Message) → m.start + m.len ≤ length b
    → take (m.start + m.len - (m.start + m.len - m.len % 64)) (drop (m.start + m.len - m.len % 64) b)
    ≡ drop (m.len / 64 * 64) (text b m)
rest_of_text b m le =
    let k = m.len / 64 * 64 in
    let width : m.start + m.len - (m.start + m.len - m.len % 64) ≡ m.len - k = omega arith in
    let at : m.start + m.len - m.len % 64 ≡ m.start + k = omega arith in
    let span : m.start + m.len - m.start ≡ k + (m.len - k) = omega arith in
    let inner : drop k (text b m) ≡ take (m.len - k) (drop k (drop m.start b)) =
    ap (λ (n : ℕ). drop k (take n (drop m.start b))) span ∙ drop-take k (m.len - k) (drop m.start b) in
    ap (λ (n : ℕ). take n (drop (m.start + m.len - m.len % 64) b)) width
    ∙ ap (λ (n : ℕ). take (m.len - k) (drop n b)) at
    ∙ sym (inner ∙ ap (take (m.len - k)) (drop-drop k m.start b))

same_lane : (lanes : List Lane) (j k : ℕ) (l : Lane) → k ≢ j → held (slice_set lanes j l) k ≡ held lanes k
same_lane lanes j k l ne = get_or-set_other lanes j k l _ ne

new_lane : (lanes : List Lane) (j : ℕ) (l : Lane) → j < length lanes → held (slice_set lanes j l) j ≡ l
new_lane lanes j l low = get_or-set_same lanes j l _ low

-- a message in another lane stays there
stays : (lanes : List Lane) (j : ℕ) (l : Lane) (m : Message) (at : IsInLane lanes m) → at.index ≢ j
    → IsInLane (slice_set lanes j l) m
stays lanes j l m at ne =
    let same = same_lane lanes j at.index l ne in
    record {
      index = at.index;
      low = omega (arith, at.low, length-set lanes j l);
      busy = ap (λ (x : Lane). x.busy) same ∙ at.busy;
      same = ap (λ (x : Lane). x.message) same ∙ at.same;
    }

module _ {n : ℕ} (b : List ℕ) (s : Lanes n) (ms : List Message) where
  -- a lane that no longer has a message
  pub released : (j : ℕ) (l : Lane) → j < length s.lanes → l.busy ≡ false → AccountsFor b s ms
      → (s.right ≡ true → (held s.lanes j).busy ≡ true → HasDigestBehind b (held s.lanes j).message)
      → AccountsFor {n = n} b
      (record { lanes = slice_set s.lanes j l; hash = s.hash; clock = s.clock; right = s.right }) ms
  released j l low idle h right = record {
    each = λ k lt busy. elim (cases_eq k j) [
      | inl e ↦
          let here = ap (held (slice_set s.lanes j l)) e ∙ new_lane s.lanes j l low in
          let bad : false ≡ true = sym idle ∙ sym (ap (λ (x : Lane). x.busy) here) ∙ busy in
          cc
      | inr ne ↦
          let same = same_lane s.lanes j k l ne in
          subst (λ (x : Lane). HasTakenIn b x s.clock (lane k s.hash)) (sym same)
          (h.each k (omega (arith, lt, length-set s.lanes j l)) (sym (ap (λ (x : Lane). x.busy) same) ∙ busy))
    ];
    known = λ truth. λ k d lt. elim (h.known truth k d lt) [
      | inl r ↦ inl r
      | inr at ↦ elim (cases_eq at.index j) [
        | inl e ↦
            let busy = sym (ap (λ (i : ℕ). (held s.lanes i).busy) e) ∙ at.busy in
            let is = sym (ap (λ (i : ℕ). (held s.lanes i).message) e) ∙ at.same in
            inl (subst (HasDigestBehind b) is (right truth busy))
        | inr ne ↦ inr (stays s.lanes j l _ at ne)
      ]
    ];
  }

  -- a lane that was given a message
  pub placed : (hash : List (List ℕ)) (j : ℕ) (l : Lane) (m : Message) → j < length s.lanes
      → (held s.lanes j).busy ≡ false → l.busy ≡ true → l.message ≡ m
      → HasTakenIn b l s.clock (lane j hash) → ((k : ℕ) → k ≢ j → lane k hash ≡ lane k s.hash) → AccountsFor b s ms
      → AccountsFor {n = n} b (record { lanes = slice_set s.lanes j l; hash = hash; clock = s.clock; right = s.right })
      (ms ++ m ∷ [])
  placed hash j l m low free busy is run others h =
      let here = new_lane s.lanes j l low in
      let Known : Message → Type 0 = λ x. HasDigestBehind b x ⊎ IsInLane (slice_set s.lanes j l) x in
      record {
        each = λ k lt full. elim (cases_eq k j) [
          | inl e ↦
              subst (λ (i : ℕ). HasTakenIn b (held (slice_set s.lanes j l) i) s.clock (lane i hash)) (sym e)
              (subst (λ (x : Lane). HasTakenIn b x s.clock (lane j hash)) (sym here) run)
          | inr ne ↦
              let same = same_lane s.lanes j k l ne in
              let before = h.each k (omega (arith, lt, length-set s.lanes j l))
              (sym (ap (λ (x : Lane). x.busy) same) ∙ full) in
              subst (λ (x : Lane). HasTakenIn b x s.clock (lane k hash)) (sym same)
              (subst (λ (w : List ℕ). HasTakenIn b (held s.lanes k) s.clock w) (sym (others k ne)) before)
        ];
        known = λ truth. All-append Known ms (m ∷ [])
            (λ k d lt. elim (h.known truth k d lt) [
              | inl r ↦ inl r
              | inr at ↦ elim (cases_eq at.index j) [
                | inl e ↦
                    let bad : false ≡ true = sym free ∙ sym (ap (λ (i : ℕ). (held s.lanes i).busy) e) ∙ at.busy in
                    cc
                | inr ne ↦ inr (stays s.lanes j l _ at ne)
              ]
            ])
            (All-cons Known m [] (inr (record {
              index = j;
              low = omega (arith, low, length-set s.lanes j l);
              busy = ap (λ (x : Lane). x.busy) here ∙ busy;
              same = ap (λ (x : Lane). x.message) here ∙ is;
            })) (All-nil Known));
      }

  -- lanes that have taken in more
  pub ran : (t : Lanes n) (end : ℕ) → t.lanes ≡ s.lanes → t.right ≡ s.right → length s.lanes ≡ n
      → ((k : ℕ) → k < n → end ≤ (held s.lanes k).due)
      → ((j : ℕ) → j < n → HasTakenIn b (held s.lanes j) s.clock (lane j s.hash) → end ≤ (held s.lanes j).due
      → HasTakenIn b (held s.lanes j) t.clock (lane j t.hash))
      → AccountsFor b s ms → AccountsFor b t ms
  ran t end lanes right size first more h = record {
    each = λ k lt busy.
        let low : k < n = omega (arith, lt, size, ap length lanes) in
        let full : (held s.lanes k).busy ≡ true = sym (ap (λ (ls : List Lane). (held ls k).busy) lanes) ∙ busy in
        subst (λ (ls : List Lane). HasTakenIn b (held ls k) t.clock (lane k t.hash)) (sym lanes)
        (more k low (h.each k (omega (arith, low, size)) full) (first k low));
    known = λ truth. subst (λ (ls : List Lane). All (λ m. HasDigestBehind b m ⊎ IsInLane ls m) ms) (sym lanes)
        (h.known (sym right ∙ truth));
  }

  -- after a wrong digest was seen, whatever the messages are
  pub wrong_seen : (more : List Message) → AccountsFor b s ms
      → AccountsFor {n = n} b (record { lanes = s.lanes; hash = s.hash; clock = s.clock; right = false }) more
  wrong_seen more h = record { each = h.each; known = λ (truth : false ≡ true). cc }

  -- if no lane has a message and no wrong digest was seen, each message is right
  pub all_right : s.right ≡ true → ((k : ℕ) → k < length s.lanes → (held s.lanes k).busy ≡ false) → AccountsFor b s ms
      → All (HasDigestBehind b) ms
  all_right truth idle h = λ k d lt. elim (h.known truth k d lt) [
    | inl r ↦ r
    | inr at ↦ let bad : false ≡ true = sym (idle at.index at.low) ∙ at.busy in cc
  ]
