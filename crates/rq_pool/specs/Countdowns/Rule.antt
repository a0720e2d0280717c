-- The rule of a countdown, what each of its steps tells, and what the view of a pass has of the
-- arrivals that the pass remembers.
-- Word 0 is the number of sources that were not counted, word 1 + i the flag of the source i, and
-- slot i its outbox.
use Rattle.std.specs.Prelude.{◌≡◌, ℕ, ◌+◌, ◌-◌, ◌<◌, ◌⊎◌, ◌≢◌, eqb, Bool, true, false, List, []}
use Rattle.std.specs.Prelude.{◌∷◌, ◌++◌, map, length, Option, Some, None, flat_map}
use mathlib.Core.Option.{some}
use lib.ListN.{get_elem?}
use Rattle.atomic_table.specs.Table.{State, Me, Step}
use Rattle.rq_pool.specs.declared.countdown.arrival.Entry.{Entry}
use Rattle.rq_pool.specs.declared.countdown.arrival.Arrival.{Arrival}
use Rattle.rq_pool.specs.declared.countdown.arrival.Arrival.TheVariants.{Twice, NotLast, Last}
use Rattle.rq_pool.specs.declared.countdown.plays.Made.{Made}
use Rattle.rq_pool.specs.declared.countdown.plays.View.{View}
use Rattle.rq_pool.specs.declared.countdown.plays.Terms.{Terms}
use Rattle.rq_pool.specs.Countdowns.History.{Fit, if_twice}
use Rattle.rq_pool.specs.Countdowns.Phases.{total, Phase, gone, back, flag, is_away, is_done}
use Rattle.rq_pool.specs.Countdowns.Phases.{is_shut, outbox_of, place, count, indexed}

abbrev pub one_if : Bool → ℕ
one_if true = 1
one_if false = 0

abbrev pub here : ℕ → Option ℕ → ℕ
here i None = 0
here i (Some k) = one_if (eqb k i)

abbrev pub count_told : {A : Type 0} → Option A → ℕ
count_told None = 0
count_told (Some x) = 1

module _ {T : Type 0} where
  abbrev pub made_of : ℕ → T → Option (List T) → Made T
  made_of i x ys = record { source = i; outbox = x; told = ys }

  abbrev pub names : ℕ → Made T → ℕ
  names i m = one_if (eqb m.source i)

  abbrev pub times_told : Made T → ℕ
  times_told m = count_told m.told

  abbrev pub HasMade : ℕ → T → List (Made T) → Type 0
  HasMade i x ms = (k : ℕ) × (m : Made T)
      × (get_elem? ms k ≡ some m) × (m.source ≡ i) × (m.outbox ≡ x)

  abbrev pub HasLast : List T → List (Made T) → Type 0
  HasLast ys ms = (k : ℕ) × (m : Made T) × (get_elem? ms k ≡ some m) × (m.told ≡ Some ys)

  -- the source's flag is set
  abbrev pub IsSet : List (Phase T) → ℕ → Type 0
  IsSet ps i = (p : Phase T) × (get_elem? ps i ≡ some p) × (flag p ≡ 1)

module _ {T K : Type 0} where
  abbrev pub view : ℕ → Option K → Option ℕ → List (Made T) → List ℕ → View T K
  view n k a ms rs = record { parts = n; key = k; at = a; made = ms; refused = rs }

  abbrev pub parts : View T K → ℕ
  parts v = v.parts

  -- whether the pass is between its two steps at the source i
  abbrev pub stands_at : ℕ → View T K → ℕ
  stands_at i v = here i v.at

  -- how many of its arrivals for the source i were not answered Twice
  abbrev pub made_for : ℕ → View T K → ℕ
  made_for i v = total (names i) v.made

  -- how many of its arrivals were told Last
  abbrev pub lasts : View T K → ℕ
  lasts v = total times_told v.made

  -- some pass has it
  abbrev pub SomeView : (List (Made T) → Type 0) → List (View T K) → Type 0
  SomeView P views = (j : ℕ) × (v : View T K) × (get_elem? views j ≡ some v) × P v.made

  pub record AtSource (fit : ℕ → T → Type 0) (views : List (View T K)) (i : ℕ) (p : Phase T)
      : Type 0 where
    pub standing : total (stands_at i) views ≡ is_away p
    pub done : total (made_for i) views ≡ is_done p
    pub holding : (x : T) → outbox_of p ≡ some x → fit i x × SomeView (HasMade i x) views

  pub record Knows (key : K) (ps : List (Phase T)) (v : View T K) : Type 0 where
    pub same_key : 0 < v.parts → v.key ≡ Some key
    pub idle : v.parts ≡ 0 → (v.made ≡ []) × (v.at ≡ None) × (v.refused ≡ [])
    pub set_before : (k i : ℕ) → get_elem? v.refused k ≡ some i → IsSet ps i

  pub record IsOpen (views : List (View T K)) (ps : List (Phase T)) : Type 0 where
    pub waiting : 0 < count ps
    pub nobody : total lasts views ≡ 0
    pub none_shut : (i : ℕ) (p : Phase T) → get_elem? ps i ≡ some p → is_shut p ≡ 0

  pub record IsShut (views : List (View T K)) (ps : List (Phase T)) : Type 0 where
    pub outboxes : List T
    pub all_shut : (ps ≡ map gone outboxes) ⊎ (ps ≡ map back outboxes)
    pub one : total lasts views ≡ 1
    pub has_it : SomeView (HasLast outboxes) views

  pub record Held (fits : K → ℕ → T → Type 0) (terms : Terms K) (s : State (Option T) (View T K))
      : Type 0 where
    pub phases : List (Phase T)
    pub words_are : s.words ≡ count phases ∷ map flag phases
    pub homes_are : s.homes ≡ map place phases
    pub all_parts : total parts s.views ≡ terms.passes
    pub each_source : (i : ℕ) (p : Phase T) → get_elem? phases i ≡ some p
        → AtSource (fits terms.key) s.views i p
    pub each_pass : (j : ℕ) (v : View T K) → get_elem? s.views j ≡ some v → Knows terms.key phases v
    pub told_once : IsOpen s.views phases ⊎ IsShut s.views phases

  -- If the flag was clear, nobody was told Last, and the pass has the slot. Otherwise the source is
  -- one more that was refused
  abbrev pub claimed : Step (Option T) → Me (Option T) (View T K)
      → ℕ → Me (Option T) (View T K) → Type 0
  claimed st me found me' = let i : ℕ = st.word - 1 in let v = me.0 in
      (found ≡ 0
      → (lasts v ≡ 0) × (me' ≡ (view v.parts v.key (Some i) v.made v.refused, (i, None) ∷ me.1)))
      × (found ≢ 0 → me' ≡ (view v.parts v.key None v.made (v.refused ++ i ∷ []), me.1))

  -- the view after an arrival that was counted
  abbrev pub after : View T K → ℕ → T → Option (List T) → View T K
  after v i x ys = view v.parts v.key None (v.made ++ made_of i x ys ∷ []) v.refused

  -- The last takes all slots, in the order of the sources. Any other gives its own back
  abbrev pub tallied : (K → ℕ → T → Type 0) → Step (Option T)
      → Me (Option T) (View T K) → ℕ → Me (Option T) (View T K) → Type 0
  tallied fits st me found me' = (i : ℕ) (x : T) → me.1 ≡ (i, Some x) ∷ []
      → (found ≢ 1 → me' ≡ (after me.0 i x None, []))
      × (found ≡ 1 → (lasts me.0 ≡ 0)
      × ((ys : List T) × (length ys ≡ st.slots) × ((k : K) → me.0.key ≡ Some k → Fit (fits k) ys)
      × (me' ≡ (after me.0 i x (Some ys), indexed 0 (map Some ys)))))

  -- a pass is cut from another, which keeps what it made
  abbrev pub left_of : View T K → View T K
  left_of v = view (v.parts - 1) v.key v.at v.made v.refused

  abbrev pub right_of : View T K → View T K
  right_of v = view 1 v.key None [] []

  -- two passes are made one: what the second made comes before what the first made
  abbrev pub both_of : View T K → View T K → View T K
  both_of v w = view (v.parts + w.parts) v.key None (w.made ++ v.made) (w.refused ++ v.refused)

  abbrev pub spent_view : View T K
  spent_view = view 0 None None [] []

  -- the slots of the last are home again
  abbrev pub hands_back : Step (Option T) → Me (Option T) (View T K)
      → ℕ → Me (Option T) (View T K) → Type 0
  hands_back st me found me' = me' ≡ (me.0, [])

module _ {T : Type 0} where
  -- the arrival, if it was not answered Twice
  abbrev pub made_by : ℕ → T → Arrival T → List (Made T)
  made_by i x (Twice y) = []
  made_by i x NotLast = made_of i x None ∷ []
  made_by i x (Last ys) = made_of i x (Some ys.items) ∷ []

  -- the arrivals that were not answered Twice
  abbrev pub made_in : List (Entry T) → List (Made T)
  made_in = flat_map (λ e. made_by e.source e.outbox e.answer)

  -- the sources of the arrivals that were answered Twice
  abbrev pub refused_in : List (Entry T) → List ℕ
  refused_in = flat_map (λ e. if_twice e.source e.answer)

module _ {T K : Type 0} where
  -- what the passes made, in their order
  abbrev pub all_made : List (View T K) → List (Made T)
  all_made = flat_map (λ v. v.made)

  -- the sources for which they were answered Twice
  abbrev pub all_refused : List (View T K) → List ℕ
  all_refused = flat_map (λ v. v.refused)
