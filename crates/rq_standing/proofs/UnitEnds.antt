-- The end of a unit: over the queues that it named, what arrives from there, and the state behind it.
use Rattle.std.proofs.Common.{◌≡◌, ℕ, suc, ◌+◌, ◌<◌, ◌^◌, ◌++◌, Bool, true, false, cond, ◌&&◌, ◌||◌, List, [], ◌∷◌, map}
use Rattle.std.proofs.Common.{length, refl, sym, ap, subst, ◌∙◌, arith, take, get_or, ◌≢◌, reverse, ◌≤◌}
use Rattle.std.specs.Prelude.{◌==◌, nat_lt, IsPermutation}
use Rattle.std.specs.List.{list_any, AllByRecursion, filter}
use Rattle.std.proofs.Math.Seq.{take-suc}
use Rattle.std.proofs.lemmas.List.{append-nil, reverse-append}
use Rattle.std.proofs.lemmas.List.Elements.{filter-append}
use Rattle.std.proofs.lemmas.List.Sorted.{IsPermutation-refl, IsPermutation-trans, IsPermutation-append_left}
use Rattle.rq_model.specs.Records.{Record, Abort, Commit}
use Rattle.rq_model.specs.States.{Element, State, definition_at}
use Rattle.rq_model.specs.Machine.{returned, step, leaves, moved}
use Rattle.rq_model.specs.Queues.{Part, Move, Transfer, moves_of, part_of, is_engaged, transfers_at}
use Rattle.rq_model.specs.Redo.{act, sent, receive, AreNew}
use Rattle.rq_model.specs.StepLaws.{coming, going, UnitEndsByParts, aborted_part, StepByParts}
use Rattle.rq_model.proofs.Lists.{by_cases, each_map, each_filter, each_of, each_weaker, filter_none}
use Rattle.rq_standing.specs.Parts.{part_at, Ended, Send, Sends, Room, Received, CanArrive, HaveArrived, ArePartsOf}
use Rattle.std.proofs.lemmas.Bool.{lt-ltb, eq-eqb, false≢true, false_from_ne_true, ltb-true, ltb-false, eqb-true}
use Rattle.rq_model.specs.WellFormed.{IsWellFormed, IsElement}

joined : (f : Part → Part) (p : Part) → f (f p) ≡ f p → (a b l : Bool)
    → cond ((b || false) && l) (f (cond (a && l) (f p) p)) (cond (a && l) (f p) p) ≡ cond ((a || b) && l) (f p) p
joined f p h true true true = h
joined f p h true true false = refl
joined f p h true false true = refl
joined f p h true false false = refl
joined f p h false true true = refl
joined f p h false true false = refl
joined f p h false false true = refl
joined f p h false false false = refl

any_end : (xs : List ℕ) (x q : ℕ) → list_any (λ v. v == q) (xs ++ x ∷ []) ≡ (list_any (λ v. v == q) xs || (x == q))
any_end [] x q = or_false (x == q)
  where
    or_false : (b : Bool) → (b || false) ≡ b
    or_false true = refl
    or_false false = refl
any_end (y ∷ xs) x q = ap (λ b. (y == q) || b) (any_end xs x q) ∙ or_assoc (y == q) (list_any (λ v. v == q) xs) (x == q)
  where
    or_assoc : (a b c : Bool) → (a || (b || c)) ≡ ((a || b) || c)
    or_assoc true b c = refl
    or_assoc false b c = refl

-- one queue more of those over which a loop goes
pub one_further : (i d : ℕ) (queues : List ℕ) → i < length queues
    → take (i + 1) queues ≡ take i queues ++ get_or queues i d ∷ []
one_further i d queues h = ap (λ k. take k queues) up ∙ take-suc queues i d h
  where
    up : i + 1 ≡ suc i
    up = omega arith

-- a turn of the loop
pub end_next : (place : ℕ) (end : Record) → ((p : Part) → act place end (act place end p) ≡ act place end p)
    → (i d : ℕ) (queues : List ℕ) (old mid new : List Part) → i < length queues → length mid ≡ length old
    → Ended place end (take i queues) old mid → Ended place end (get_or queues i d ∷ []) mid new
    → Ended place end (take (i + 1) queues) old new
end_next place end once i d queues old mid new h size before now q =
    now q
    ∙ (λ j. cond (((get_or queues i d == q) || false) && nat_lt q (size j)) (act place end (before q j)) (before q j))
    ∙ joined (act place end) (part_at old q) (once (part_at old q)) (list_any (λ v. v == q) (take i queues))
    (get_or queues i d == q) (nat_lt q (length old))
    ∙ ap (λ b. cond (b && nat_lt q (length old)) (act place end (part_at old q)) (part_at old q))
    (sym (ap (list_any (λ v. v == q)) (one_further i d queues h) ∙ any_end (take i queues) (get_or queues i d) q))

-- What was sent so far is what goes from the queues so far.

sends_more : UnitEndsByParts → (done : List ℕ) (queue : ℕ) (ts : List Transfer) (before now : List Move)
    → list_any (λ v. v == queue) done ≡ false → now ≡ moves_of queue ts → Sends done ts before
    → Sends (done ++ queue ∷ []) ts (before ++ now)
sends_more law done queue ts before now new is sends home =
    subst (λ (xs : List Move). IsPermutation (going (done ++ queue ∷ []) home ts) xs)
    (ap (λ ms. coming home before ++ coming home ms) (sym is)
    ∙ sym (filter-append (λ (m : Move). m.element.home == home) before now))
    (IsPermutation-trans _ _ _ (law.one_more done queue home ts new)
    (IsPermutation-append_left (coming home (moves_of queue ts)) (going done home ts) (coming home before) (sends home)))

sends_nothing : UnitEndsByParts → (done : List ℕ) (queue : ℕ) (ts : List Transfer) (before now : List Move)
    → list_any (λ v. v == queue) done ≡ true → now ≡ [] → Sends done ts before
    → Sends (done ++ queue ∷ []) ts (before ++ now)
sends_nothing law done queue ts before now old none sends home =
    subst (λ (xs : List Move). IsPermutation xs (coming home (before ++ now))) (sym (law.one_again done queue home ts old))
    (subst (λ (xs : List Move). IsPermutation (going done home ts) (coming home xs))
    (sym (append-nil before) ∙ ap (λ ms. before ++ ms) (sym none)) (sends home))

pub sends_next : UnitEndsByParts → (place unit i d : ℕ) (queues : List ℕ) (old mid : List Part) (before after : List Move)
    (ts : List Transfer) → i < length queues → length mid ≡ length old
    → Ended place (Abort unit) (take i queues) old mid → Send place unit old ts
    → after ≡ before ++ cond (nat_lt (get_or queues i d) (length mid)) (sent place (Abort unit) (part_at mid (get_or queues i d))) []
    → Sends (take i queues) ts before → Sends (take (i + 1) queues) ts after
sends_next law place unit i d queues old mid before after ts h size ended send is sends =
    subst (λ (qs : List ℕ). Sends qs ts after) (sym (one_further i d queues h))
    (subst (Sends (done ++ queue ∷ []) ts) (sym is)
    (by_cases (list_any (λ v. v == queue) done)
    (λ b. list_any (λ v. v == queue) done ≡ b → Sends (done ++ queue ∷ []) ts (before ++ now))
    (λ t _. sends_nothing law done queue ts before now t (again t) sends)
    (λ f _. sends_more law done queue ts before now f (first f) sends) refl))
  where
    done : List ℕ
    done = take i queues

    queue : ℕ
    queue = get_or queues i d

    now : List Move
    now = cond (nat_lt queue (length mid)) (sent place (Abort unit) (part_at mid queue)) []

    first : list_any (λ v. v == queue) done ≡ false → now ≡ moves_of queue ts
    first f = (λ j. cond (nat_lt queue (size j)) (sent place (Abort unit) (ended queue j)) [])
        ∙ ap (λ b. cond (nat_lt queue (length old)) (sent place (Abort unit)
        (cond (b && nat_lt queue (length old)) (act place (Abort unit) (part_at old queue)) (part_at old queue))) []) f
        ∙ sym (send queue)

    nothing : (l : Bool) → cond l (sent place (Abort unit)
        (cond (true && l) (act place (Abort unit) (part_at old queue)) (part_at old queue))) [] ≡ []
    nothing true = law.sends_once place unit (part_at old queue)
    nothing false = refl

    again : list_any (λ v. v == queue) done ≡ true → now ≡ []
    again t = (λ j. cond (nat_lt queue (size j)) (sent place (Abort unit) (ended queue j)) [])
        ∙ ap (λ b. cond (nat_lt queue (length old)) (sent place (Abort unit)
        (cond (b && nat_lt queue (length old)) (act place (Abort unit) (part_at old queue)) (part_at old queue))) []) t
        ∙ nothing (nat_lt queue (length old))

-- An element may return twice.

returned_room : (unit : ℕ) (e : Element) → e.attempts + 2 < 2 ^ 64 → (returned unit e).attempts + 1 < 2 ^ 64
returned_room unit e h = grind (arith, h)

aborted_room : (place unit : ℕ) (p : Part) → Room 2 p → Room 1 (act place (Abort unit) p)
aborted_room place unit p h = each_map (λ (e : Element). e.attempts + 2 < 2 ^ 64) (λ (e : Element). e.attempts + 1 < 2 ^ 64)
    (returned unit) (returned_room unit) _ (each_filter (λ (e : Element). e.attempts + 2 < 2 ^ 64) _ p.elements h)

less_room : (p : Part) → Room 2 p → Room 1 p
less_room p h = each_weaker (λ (e : Element). e.attempts + 2 < 2 ^ 64) (λ (e : Element). e.attempts + 1 < 2 ^ 64)
    (λ e l. omega (arith, l)) p.elements h

pub room_next : (place unit : ℕ) (done : List ℕ) (old mid : List Part) → Ended place (Abort unit) done old mid
    → (queue : ℕ) → Room 2 (part_at old queue) → Room 1 (part_at mid queue)
room_next place unit done old mid ended queue h = subst (Room 1) (sym (ended queue))
    (by_cases (list_any (λ v. v == queue) done && nat_lt queue (length old))
    (λ b. Room 1 (cond b (act place (Abort unit) (part_at old queue)) (part_at old queue)))
    (λ _. aborted_room place unit (part_at old queue) h) (λ _. less_room (part_at old queue) h))

-- Nothing was sent from no queue.
pub none_sent : (ts : List Transfer) → Sends [] ts []
none_sent ts home = subst (λ (ts : List Transfer). IsPermutation (coming home (map (λ (t : Transfer). t.move) ts)) [])
    (sym (filter_none (λ (t : Transfer). false) ts (each_of (λ (t : Transfer). false ≡ false) (λ _. refl) ts)))
    (IsPermutation-refl [])

-- these are left of all that arrive
pub record AreLeft (rest all : List Move) (old now : List Part) : Type 0 where
  pub size : length now ≡ length old
  pub can : CanArrive rest now
  pub same : (queue : ℕ) → queue < length old
      → receive (coming queue rest) (part_at now queue) ≡ receive (coming queue all) (part_at old queue)

pub all_left : (all : List Move) (old : List Part) → CanArrive all old → AreLeft all all old old
all_left all old can = record { size = refl; can = can; same = λ queue l. refl }

pub none_left : (all coming : List Move) (old now : List Part) → length coming ≡ 0
    → AreLeft (reverse coming) all old now → HaveArrived all old now
none_left all [] old now h left queue within = left.same queue within
none_left all (m ∷ coming) old now h left queue within = absurd (let no : ⊥ = grind (arith, h) in no)

-- the next one is new where it arrives
pub next_new : (m : Move) (rest all : List Move) (old now : List Part) → AreLeft (m ∷ rest) all old now
    → m.element.home < length now
    → AllByRecursion (λ (e : Element). e.id ≢ m.element.id) (part_at now m.element.home).elements
next_new m rest all old now left within =
    (subst (λ b. AreNew (cond b (m ∷ coming m.element.home rest) (coming m.element.home rest))
    (part_at now m.element.home).elements) (eq-eqb m.element.home m.element.home refl)
    (left.can m.element.home within)).0

pub left_next : (m : Move) (rest all : List Move) (old mid new : List Part) → AreLeft (m ∷ rest) all old mid
    → length new ≡ length mid → Received m mid new → AreLeft rest all old new
left_next m rest all old mid new left size received = record {
  size = size ∙ left.size;
  can = λ queue within. let here : queue < length mid = subst (λ n. queue < n) size within in
      by_cases (m.element.home == queue)
      (λ b. part_at new queue ≡ cond (b && true) (receive (m ∷ []) (part_at mid queue)) (part_at mid queue)
      → AreNew (cond b (m ∷ coming queue rest) (coming queue rest)) (part_at mid queue).elements
      → AreNew (coming queue rest) (part_at new queue).elements)
      (λ _ e new. subst (λ (p : Part). AreNew (coming queue rest) p.elements) (sym e) new.1)
      (λ _ e new. subst (λ (p : Part). AreNew (coming queue rest) p.elements) (sym e) new)
      (put queue here) (left.can queue here);
  same = λ queue within. let here : queue < length mid = subst (λ n. queue < n) (sym left.size) within in
      by_cases (m.element.home == queue)
      (λ b. part_at new queue ≡ cond (b && true) (receive (m ∷ []) (part_at mid queue)) (part_at mid queue)
      → receive (cond b (m ∷ coming queue rest) (coming queue rest)) (part_at mid queue)
      ≡ receive (coming queue all) (part_at old queue)
      → receive (coming queue rest) (part_at new queue) ≡ receive (coming queue all) (part_at old queue))
      (λ _ e same. ap (receive (coming queue rest)) e ∙ same)
      (λ _ e same. ap (receive (coming queue rest)) e ∙ same)
      (put queue here) (left.same queue within);
}
  where
    put : (queue : ℕ) → queue < length mid → part_at new queue
        ≡ cond ((m.element.home == queue) && true) (receive (m ∷ []) (part_at mid queue)) (part_at mid queue)
    put queue here = received queue
        ∙ ap (λ b. cond ((m.element.home == queue) && b) (receive (m ∷ []) (part_at mid queue)) (part_at mid queue))
        (lt-ltb queue (length mid) here)

-- the last of a list goes, and what is left is read backwards
pub popped : (old new : List Move) (m : Move) → old ≡ new ++ m ∷ [] → reverse old ≡ m ∷ reverse new
popped old new m h = ap reverse h ∙ reverse-append new (m ∷ [])

or_false : (b : Bool) → (b || false) ≡ b
or_false true = refl
or_false false = refl

and_true : (b : Bool) → (b && true) ≡ b
and_true true = refl
and_true false = refl

-- A COMMIT.

pub committed_parts : StepByParts → (s : State) (u : ℕ) (queues : List ℕ) (old new : List Part) → IsWellFormed s
    → length old ≡ length s.definitions → ArePartsOf s old
    → ((q : ℕ) → is_engaged s q u ≡ true → list_any (λ v. v == q) queues ≡ true)
    → Ended 0 (Commit u) queues old new → ArePartsOf (step s (Commit u)) new
committed_parts law s u queues old new well size parts named done q within =
    done q
    ∙ ap (λ b. cond (list_any (λ v. v == q) queues && b) (act 0 (Commit u) (part_at old q)) (part_at old q))
    (lt-ltb q (length old) (subst (λ n. q < n) (sym size) within))
    ∙ ap (λ (p : Part). cond (list_any (λ v. v == q) queues && true) (act 0 (Commit u) p) p) (parts q within)
    ∙ by_cases (list_any (λ v. v == q) queues)
    (λ b. (is_engaged s q u ≡ true → b ≡ true) → cond (b && true) (act 0 (Commit u) (part_of s q)) (part_of s q) ≡ part_of (step s (Commit u)) q)
    (λ _ _. sym (law.acts s (Commit u) q well within tt))
    (λ _ no. sym (law.rests s (Commit u) q well within
    (or_false (is_engaged s q u) ∙ false_from_ne_true (is_engaged s q u) (λ t. false≢true (no t)))))
    (named q)

-- An ABORT.

not_home : (n k : ℕ) → k < n → (q : ℕ) → nat_lt q n ≡ false → (k == q) ≡ false
not_home n k l q h = false_from_ne_true (k == q)
    (λ t. let e : k ≡ q = eqb-true k q t in let m : n ≤ q = ltb-false q n h in let no : ⊥ = omega (arith, e, l, m) in no)

-- nothing leaves a queue that is not there
none_leave : StepByParts → (s : State) (u q : ℕ) → IsWellFormed s → nat_lt q (length s.definitions) ≡ false
    → moves_of q (transfers_at s (Abort u)) ≡ []
none_leave law s u q well out = law.sends s (Abort u) q tt
    ∙ ap (λ (es : List Element). map (λ (e : Element). record { place = s.next; element = moved (definition_at s.definitions q) e })
    (filter (leaves (definition_at s.definitions q) u) es))
    (filter_none (λ (e : Element). e.home == q) s.elements
    (each_weaker (IsElement s) (λ (e : Element). (e.home == q) ≡ false)
    (λ e h. not_home (length s.definitions) e.home h.home q out) s.elements well.elements))

pub all_send : StepByParts → (s : State) (u : ℕ) (old : List Part) → IsWellFormed s → length old ≡ length s.definitions
    → ArePartsOf s old → Send s.next u old (transfers_at s (Abort u))
all_send law s u old well size parts q = by_cases (nat_lt q (length old))
    (λ b. nat_lt q (length old) ≡ b → moves_of q (transfers_at s (Abort u)) ≡ cond b (sent s.next (Abort u) (part_at old q)) [])
    (λ _ t. law.sends s (Abort u) q tt ∙ ap (sent s.next (Abort u))
    (sym (parts q (subst (λ n. q < n) size (ltb-true q (length old) t)))))
    (λ _ f. none_leave law s u q well (ap (nat_lt q) (sym size) ∙ f)) refl

-- the parts without what arrives
pub midway : (s : State) (u : ℕ) (queues : List ℕ) (old mid : List Part) → length old ≡ length s.definitions → ArePartsOf s old
    → Ended s.next (Abort u) queues old mid → (q : ℕ) → q < length s.definitions
    → part_at mid q ≡ aborted_part s u q (list_any (λ v. v == q) queues)
midway s u queues old mid size parts ended q within = ended q
    ∙ ap (λ b. cond (list_any (λ v. v == q) queues && b) (act s.next (Abort u) (part_at old q)) (part_at old q))
    (lt-ltb q (length old) (subst (λ n. q < n) (sym size) within))
    ∙ ap (λ b. cond b (act s.next (Abort u) (part_at old q)) (part_at old q)) (and_true (list_any (λ v. v == q) queues))
    ∙ ap (λ (p : Part). cond (list_any (λ v. v == q) queues) (act s.next (Abort u) p) p) (parts q within)

-- what an ABORT goes over, and what was sent
pub record Aborting (s : State) (u : ℕ) (queues : List ℕ) (ms : List Move) (old mid : List Part) : Type 0 where
  pub well : IsWellFormed s
  pub after : IsWellFormed (step s (Abort u))
  pub size : length old ≡ length s.definitions
  pub same : length mid ≡ length old
  pub parts : ArePartsOf s old
  pub named : (q : ℕ) → is_engaged s q u ≡ true → list_any (λ v. v == q) queues ≡ true
  pub ended : Ended s.next (Abort u) queues old mid
  pub sends : Sends queues (transfers_at s (Abort u)) ms

pub can_arrive : UnitEndsByParts → (s : State) (u : ℕ) (queues : List ℕ) (ms : List Move) (old mid : List Part)
    → Aborting s u queues ms old mid → CanArrive ms mid
can_arrive law s u queues ms old mid a q within =
    let here : q < length s.definitions = subst (λ n. q < n) (a.same ∙ a.size) within in
    subst (λ (p : Part). AreNew (coming q ms) p.elements) (sym (midway s u queues old mid a.size a.parts a.ended q here))
    (law.arrives s u q queues ms a.well a.after here a.named (a.sends q)).1

pub aborted_parts : UnitEndsByParts → (s : State) (u : ℕ) (queues : List ℕ) (ms : List Move) (old mid new : List Part)
    → Aborting s u queues ms old mid → HaveArrived ms mid new → ArePartsOf (step s (Abort u)) new
aborted_parts law s u queues ms old mid new a arrived q within =
    arrived q (subst (λ n. q < n) (sym (a.same ∙ a.size)) within)
    ∙ ap (receive (coming q ms)) (midway s u queues old mid a.size a.parts a.ended q within)
    ∙ (law.arrives s u q queues ms a.well a.after within a.named (a.sends q)).0

-- attempts are fewer than records
pub room_of : (s : State) (old : List Part) → IsWellFormed s → length old ≡ length s.definitions → ArePartsOf s old
    → s.next + 2 < 2 ^ 64 → (q : ℕ) → q < length old → Room 2 (part_at old q)
room_of s old well size parts fits q within =
    subst (Room 2) (sym (parts q (subst (λ n. q < n) size within)))
    (each_filter (λ (e : Element). e.attempts + 2 < 2 ^ 64) (λ (e : Element). e.home == q) s.elements
    (each_weaker (IsElement s) (λ (e : Element). e.attempts + 2 < 2 ^ 64)
    (λ e h. let few : e.attempts ≤ s.next = h.attempts in omega (arith, few, fits)) s.elements well.elements))
