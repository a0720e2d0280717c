-- Going past members one after the other, and past the lists of a whole state.
use Rattle.std.proofs.Common.{◌≡◌, ℕ, suc, ◌-◌, ◌+◌, ◌≤◌, ◌<◌, List, ◌∷◌, Option, Some, None, refl, sym, ap, ◌∙◌, arith}
use Rattle.std.specs.Prelude.{⊤}
use Rattle.rq_bytes.specs.Readers.{Reader, ◌>>=◌, number, ◌then◌, made, alone, members, counted_members, after_of}
use Rattle.rq_model.specs.Reading.{definition_read, registrant_read, element_read, note_read, state_from, state_read}
use Rattle.rq_state.specs.Reading.{passed, form_read}

-- the members that are left, whether the first is there or missing
one_more : {X : Type 0} (reader : Reader X) (n : ℕ) (bytes : List ℕ) (first : Option (⊤ × List ℕ))
    → passed reader bytes ≡ first → passed (members reader (suc n)) bytes
    ≡ (first >>= λ x. passed (members reader n) x.1)
unfolding members
one_more {X} reader n bytes first e = at_first (reader bytes) refl
    ∙ ap (λ (o : Option (⊤ × List ℕ)). o >>= λ x. passed (members reader n) x.1) e
  where
    more : X → List X × List ℕ → Option (List X × List ℕ)
    more x ys = Some (x ∷ ys.0, ys.1)

    none_of : List X × List ℕ → Option (⊤ × List ℕ)
    none_of ys = Some (tt, ys.1)

    others : (x : X) (ms : Option (List X × List ℕ))
        → ((ms >>= λ ys. more x ys) >>= λ ys. none_of ys) ≡ (ms >>= λ ys. none_of ys)
    others x (Some ms) = refl
    others x None = refl

    at_first : (o : Option (X × List ℕ)) → reader bytes ≡ o
        → passed (members reader (suc n)) bytes ≡ (passed reader bytes >>= λ x. passed (members reader n) x.1)
    at_first (Some x) e = rw e (others x.0 (members reader n x.1))
    at_first None e = rw e refl

-- what passing this many members gives is the total
pub record Passing {X : Type 0} (reader : Reader X) (n : ℕ) (bytes : List ℕ)
    (total : Option (⊤ × List ℕ)) : Type 0 where
  pub left : passed (members reader n) bytes ≡ total

pub passes_on : {X : Type 0} {reader : Reader X} {count i : ℕ} {bytes : List ℕ} {total : Option (⊤ × List ℕ)} (x : X)
    (after : List ℕ) → Passing reader (count - i) bytes total → i < count → Some (x, after) ≡ reader bytes
    → Passing reader (count - (i + 1)) after total
passes_on {X} {reader} {count} {i} {bytes} x after so_far lt h =
    record {
      left = sym (one_more _ _ bytes (Some (tt, after)) (rw (← h) refl))
          ∙ grind arith;
    }

pub goes_past : {X : Type 0} {reader : Reader X} {count i : ℕ} {bytes : List ℕ} {total : Option (⊤ × List ℕ)} (x : ⊤)
    (after : List ℕ) → Passing reader (count - i) bytes total → i < count → Some (x, after) ≡ passed reader bytes
    → Passing reader (count - (i + 1)) after total
goes_past {X} {reader} {count} {i} {bytes} x after so_far lt h =
    record { left = sym (one_more _ _ bytes (Some (x, after)) (sym h)) ∙ grind arith }

pub stopped : {X : Type 0} {reader : Reader X} {count i : ℕ} {bytes : List ℕ} {total : Option (⊤ × List ℕ)}
    → Passing reader (count - i) bytes total → i < count → None ≡ passed reader bytes → None ≡ total
stopped {X} {reader} {count} {i} {bytes} so_far lt h =
    sym (one_more reader (count - (i + 1)) bytes None (sym h)) ∙ grind arith

pub stops : {X : Type 0} {reader : Reader X} {count i : ℕ} {bytes : List ℕ} {total : Option (⊤ × List ℕ)}
    → Passing reader (count - i) bytes total → i < count → None ≡ reader bytes → None ≡ total
stops {X} {reader} {count} {i} {bytes} so_far lt h =
    sym (one_more reader (count - (i + 1)) bytes None (rw (← h) refl)) ∙ grind arith

pub is_past : {X : Type 0} {reader : Reader X} {count i : ℕ} {bytes : List ℕ} {total : Option (⊤ × List ℕ)}
    → Passing reader (count - i) bytes total → count ≤ i → Some (tt, bytes) ≡ total
unfolding members
is_past {X} {reader} {count} {i} {bytes} so_far le =
    let k : count - i ≡ 0 = omega arith in
    ap (λ (n : ℕ). passed (members reader n) bytes) (sym k) ∙ so_far.left

-- what a loop past members needs
pub ruleset passing = (passes_on, goes_past, stopped, stops, is_past)

-- Readers that read to the same place.

pub record SamePlace {X Y : Type 0} (r : Reader X) (s : Reader Y) : Type 0 where
  pub after : (bytes : List ℕ) → after_of (r bytes) ≡ after_of (s bytes)

same : {X : Type 0} (r : Reader X) → SamePlace r r
same r = grind arith

same_then : {X Y A B : Type 0} {r : Reader X} {s : Reader Y} {q : Reader A} {t : Reader B} → SamePlace r s
    → SamePlace q t → SamePlace (r then q) (s then t)
same_then {X} {Y} {A} {B} {r} {s} {q} {t} h k = grind arith

same_made : {X Y : Type 0} (f : X → Y) (r : Reader X) → SamePlace (made f r) r
same_made {X} {Y} f r = grind arith

past : {X : Type 0} (r : Reader X) → SamePlace (passed r) r
past r = same_made _ r

into_made : {X Y Z : Type 0} {r : Reader X} {s : Reader Y} (f : Y → Z) → SamePlace r s → SamePlace r (made f s)
into_made {X} {Y} {Z} {r} {s} f h = grind arith

same_alone : {X Y : Type 0} {r : Reader X} {s : Reader Y} → SamePlace r s → SamePlace (alone r) (alone s)
same_alone {X} {Y} {r} {s} h = grind arith

-- if a state is read, its form is there
pub form_is : SamePlace form_read (alone state_read)
unfolding form_read state_read
form_is = same_alone (into_made state_from
    (same_then (same (number 8)) (same_then (same (number 8)) (same_then (same (number 8)) (same_then (same (number 8))
    (same_then (past (counted_members definition_read))
    (same_then (past (counted_members (number 8)))
    (same_then (past (counted_members registrant_read))
    (same_then (past (counted_members element_read)) (past (counted_members note_read)))))))))))
