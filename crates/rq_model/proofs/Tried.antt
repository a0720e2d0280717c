-- The attempts of an element are its tries at its home.
use Rattle.std.proofs.Common.{◌≡◌, ◌≢◌, inl, inr, ⊎_elim, ℕ, zero, suc, ◌+◌, ◌<◌, ◌≤◌, Bool, true, false, not, ◌&&◌}
use Rattle.std.proofs.Common.{◌||◌, List, [], ◌∷◌, length, refl, sym, ap, ◌∙◌, subst, arith}
use Rattle.std.specs.Prelude.{◌==◌, if◌then◌else◌}
use Rattle.std.specs.List.{list_any, AllByRecursion}
use Rattle.std.proofs.lemmas.Bool.{and_parts, eqb-true, eq-eqb, ne_eqb, cases_Bool, eqb-false}
use Rattle.rq_model.specs.Records.{Record, Define, Register, Deregister, Begin, Enqueue, Dequeue, Commit, Abort}
use Rattle.rq_model.specs.Records.{Checkpoint, Kill, Version}
use Rattle.rq_model.specs.States.{Mark, Free, Held, Element, Definition, State, empty, definition_at, is_fresh}
use Rattle.rq_model.specs.States.{is_held, no_definition}
use Rattle.rq_model.specs.Machine.{is_best, marked, leaves, moved, returned, all_lawful, step, run}
use Rattle.rq_model.specs.WellFormed.{Ordered, IsIn, IsWellFormed, IsElement, AreDefinitions}
use Rattle.rq_model.proofs.Lists.{by_cases, each_weaker, each_append, each_map, each_filter, each_both}
use Rattle.rq_model.proofs.Sound.{limit_not_0}
use Rattle.rq_model.proofs.Texts.{all_in}
use Rattle.rq_model.proofs.Kept.{step_kept, empty_is_well_formed}
use Rattle.std.proofs.lemmas.List.{get_or_append_left}
use Rattle.rq_model.specs.Queues.{defined_by}
use Rattle.rq_model.proofs.ByQueue.{run_definitions}
use Rattle.rq_model.proofs.Balance.{swapped}
use Rattle.rq_model.specs.Fates.{has_id, counted, is_try_at, is_leave, IsBounded}
use Rattle.rq_model.specs.FateLaws.{BoundedTries, AttemptsAreTries}

-- The definitions that there are at the end.

abbrev pub Agrees : List Definition → State → Type 0
Agrees all s = (k : ℕ) → k < length s.definitions → definition_at all k ≡ definition_at s.definitions k

pub agrees_run : (s : State) (rs : List Record) → Agrees (run s rs).definitions s
agrees_run s rs k l = ap (λ (ds : List Definition). definition_at ds k) (run_definitions s rs)
    ∙ get_or_append_left s.definitions (defined_by rs) no_definition k l

-- T counts the tries so far, M the moves.
abbrev One : (ℕ → ℕ → ℕ) → Element → Type 0
One T e = (e.attempts ≡ T e.id e.home) × ((h : ℕ) → h < e.home → T e.id h ≡ 0)

record Tried (ds : List Definition) (T M : ℕ → ℕ → ℕ) (s : State) : Type 0 where
  pub each : AllByRecursion (One T) s.elements
  pub bound : (p h : ℕ) → (definition_at ds h).limit ≢ 0 → IsBounded (definition_at ds h).limit (T p h) (M p h)
  pub new : (p h : ℕ) → s.next ≤ p → T p h ≡ 0

retold : (ds : List Definition) (T M T' M' : ℕ → ℕ → ℕ) (s : State) → ((p h : ℕ) → T p h ≡ T' p h)
    → ((p h : ℕ) → M p h ≡ M' p h) → Tried ds T M s → Tried ds T' M' s
retold ds T M T' M' s t m x = record {
  each = each_weaker (One T) (One T') (λ e y. (
    y.0 ∙ t e.id e.home,
    λ h l. sym (t e.id h)
        ∙ y.1 h l,
  )) s.elements x.each;
  bound = λ p h l. subst (λ (z : ℕ). IsBounded (definition_at ds h).limit z (M' p h)) (t p h)
      (subst (λ (z : ℕ). IsBounded (definition_at ds h).limit (T p h) z) (m p h) (x.bound p h l));
  new = λ p h l. sym (t p h) ∙ x.new p h l;
}

-- Numbers fall.

falls : (n : ℕ) (ds : List Definition) (k : ℕ) → AreDefinitions n ds → k < length ds
    → ((definition_at ds k).limit ≡ 0 → ⊥) → (definition_at ds k).error < n + k
falls n [] k h l z = absurd (omega arith)
falls n (d ∷ ds) zero h l z = ⊎_elim (λ x. absurd (z x.0)) (λ x. omega (arith, x.2)) h.0
falls n (d ∷ ds) (suc k) h l z = let more = falls (n + 1) ds k h.1 (omega arith) z in omega (arith, more)

-- Members.

pub any_in : {X : Type 0} (b : X → Bool) (xs : List X) → list_any b xs ≡ true → (x : X) × IsIn x xs × (b x ≡ true)
any_in b [] h = absurd (grind arith)
any_in b (x ∷ xs) h = by_cases (b x) (λ t. b x ≡ t → (t || list_any b xs) ≡ true → (y : _) × IsIn y (x ∷ xs) × (b y
    ≡ true))
    (λ _ e _. (x, inl refl, e)) (λ _ _ k. let more = any_in b xs k in (more.0, inr more.1, more.2)) refl h

-- ids are distinct, so a test of an id looks at one element
none_has : (p : ℕ) (g : Element → Bool) (es : List Element) → AllByRecursion (λ (f : Element). p < f.id) es
    → list_any (λ f. has_id p f && g f) es ≡ false
none_has p g [] h = refl
none_has p g (f ∷ es) h =
    let more = none_has p g es h.1 in
    let apart : (f.id == p) ≡ false = ne_eqb f.id p (λ e. let l = h.0 in omega (arith, l, e)) in
    grind (arith, more, apart)

pub only : (g : Element → Bool) (es : List Element) → Ordered (λ (e f : Element). e.id < f.id) es
    → AllByRecursion (λ e. list_any (λ f. has_id e.id f && g f) es ≡ g e) es
only g [] rise = tt
only g (x ∷ xs) rise = (
  (let none = none_has x.id g xs rise.0 in let same = eq-eqb x.id x.id refl in
      grind (arith, none, same, cases_Bool (g x))),
  each_weaker (λ (e : Element). (list_any (λ f. has_id e.id f && g f) xs ≡ g e) × (x.id < e.id))
      (λ (e : Element). list_any (λ f. has_id e.id f && g f) (x ∷ xs) ≡ g e)
      (λ e k. let apart : (x.id == e.id) ≡ false = ne_eqb x.id e.id (λ i. let l = k.1 in omega (arith, l, i)) in
      let same = k.0 in grind (arith, same, apart)) xs
      (each_both _ _ xs (only g xs rise.1) rise.0),
)

-- Records that abort nothing.

same_one : (T : ℕ → ℕ → ℕ) (m : Mark) (b : Bool) (e : Element) → One T e → One T (if b then marked m e else e)
same_one T m true e x = x
same_one T m false e x = x

still : (ds : List Definition) (T M : ℕ → ℕ → ℕ) (s t : State) → t.next ≡ s.next + 1 → AllByRecursion
    (One T) t.elements
    → Tried ds T M s → Tried ds T M t
still ds T M s t next each x =
    record { each = each; bound = x.bound; new = λ p h l. x.new p h (omega (arith, next, l)) }

nothing : (ds : List Definition) (T M : ℕ → ℕ → ℕ) (t : State) → Tried ds T M t
    → Tried ds (λ p h. T p h + 0) (λ p h. M p h + 0) t
nothing ds T M t x = retold ds T M (λ p h. T p h + 0) (λ p h. M p h + 0) t (λ p h. omega arith) (λ p h. omega arith) x

-- ABORT

abbrev pub bit : Bool → ℕ
bit b = if b then 1 else 0

same_bound : (limit t m t' m' : ℕ) → t ≡ t' → m ≡ m' → IsBounded limit t m → IsBounded limit t' m'
same_bound limit t m t' m' e k x = subst (λ (z : ℕ). IsBounded limit z m') e (subst (λ
    (z : ℕ). IsBounded limit t z) k x)

any_weaker : {X : Type 0} (a b : X → Bool) → ((x : X) → a x ≡ true → b x ≡ true) → (xs : List X) → list_any a xs
    ≡ true
    → list_any b xs ≡ true
any_weaker a b f [] h = h
any_weaker a b f (x ∷ xs) h = by_cases (a x) (λ t. a x ≡ t → (t || list_any a xs) ≡ true → (b x || list_any b xs)
    ≡ true)
    (λ _ e _. ap (λ t. t || list_any b xs) (f x e))
    (λ _ _ k. let more = any_weaker a b f xs k in grind (arith, more, cases_Bool (b x))) refl h

module _ (ds : List Definition) (T M : ℕ → ℕ → ℕ) (s : State) (u : ℕ) (w : IsWellFormed s) (agree : Agrees ds s)
    (x : Tried ds T M s) where
  abbrev try_at : ℕ → ℕ → Bool
  try_at p h = list_any (λ e. has_id p e && ((e.home == h) && is_held u e.mark)) s.elements

  abbrev move_at : ℕ → ℕ → Bool
  move_at p h = list_any (λ e. has_id p e && ((e.home == h) && leaves (definition_at s.definitions h) u e)) s.elements

  abbrev Now : ℕ → ℕ → ℕ
  Now p h = T p h + bit (try_at p h)

  abbrev Moved : ℕ → ℕ → ℕ
  Moved p h = M p h + bit (move_at p h)

  -- what the tests say about an element that is there
  record Alone (e : Element) : Type 0 where
    pub tries : (h : ℕ) → try_at e.id h ≡ ((e.home == h) && is_held u e.mark)
    pub moves : (h : ℕ) → move_at e.id h ≡ ((e.home == h) && leaves (definition_at s.definitions h) u e)
    pub one : One T e
    pub element : IsElement s e

  alone : AllByRecursion Alone s.elements
  alone =
      let a = swapped (λ (h : ℕ) (e : Element). try_at e.id h ≡ ((e.home == h) && is_held u e.mark)) s.elements
      (λ h. only (λ e. (e.home == h) && is_held u e.mark) s.elements w.elements_rise) in
      let b = swapped (λ (h : ℕ) (e : Element). move_at e.id h ≡ ((e.home == h) && leaves
      (definition_at s.definitions h) u e))
      s.elements (λ h. only (λ e. (e.home == h) && leaves
      (definition_at s.definitions h) u e) s.elements w.elements_rise) in
      each_weaker _ Alone (λ e y. record { tries = y.0.0; moves = y.0.1; one = y.1.0; element = y.1.1 }) s.elements
      (each_both _ _ s.elements (each_both _ _ s.elements a b) (each_both (One T)
      (IsElement s) s.elements x.each w.elements))

  quiet : (e : Element) → Alone e → (h : ℕ) → h < e.home → Now e.id h ≡ 0
  quiet e y h l =
      let z : T e.id h ≡ 0 = y.one.1 h l in
      let apart : (e.home == h) ≡ false = ne_eqb e.home h (λ i. omega (arith, i, l)) in
      let none : try_at e.id h ≡ false = y.tries h ∙ ap (λ b. b && is_held u e.mark) apart in
      ap (λ b. T e.id h + bit b) none ∙ omega (arith, z)

  back : (e : Element) → Alone e → One Now (returned u e)
  back e y = by_cases (is_held u e.mark) (λ b. is_held u e.mark ≡ b → One Now (if b then record {
    id = e.id;
    home = e.home;
    origin = e.origin;
    priority = e.priority;
    attempts = e.attempts + 1;
    payload = e.payload;
    mark = Free;
  } else e))
      (λ _ h. (
        (let z = y.one.0 in let is : try_at e.id e.home ≡ true = y.tries e.home ∙ ap (λ b. b && is_held u e.mark)
            (eq-eqb e.home e.home refl) ∙ h in
            omega (arith, z) ∙ ap (λ b. T e.id e.home + bit b) (sym is)),
        quiet e y,
      ))
      (λ _ h. (
        (let z = y.one.0 in let is : try_at e.id e.home ≡ false = y.tries e.home ∙ ap (λ b. b && is_held u e.mark)
            (eq-eqb e.home e.home refl) ∙ h in
            omega (arith, z) ∙ ap (λ b. T e.id e.home + bit b) (sym is)),
        quiet e y,
      )) refl

  gone : (e : Element) → Alone e → One Now (if leaves (definition_at s.definitions e.home) u e
      then moved (definition_at s.definitions e.home) e else returned u e)
  gone e y =
      let d = definition_at s.definitions e.home in
      by_cases (leaves d u e) (λ b. leaves d u e ≡ b → One Now (if b then moved d e else returned u e))
      (λ _ t. let low : d.error < 0 + e.home = falls 0 s.definitions e.home w.definitions y.element.home
      (limit_not_0 d u e t) in
      (sym (quiet e y d.error (omega (arith, low))), λ h l. quiet e y h (omega (arith, l, low))))
      (λ _ _. back e y) refl

  at_home : (f : Element) → Alone f → is_held u f.mark ≡ true → (definition_at ds f.home).limit ≢ 0
      → IsBounded (definition_at ds f.home).limit (Now f.id f.home) (Moved f.id f.home)
  at_home f y held limit =
      let d = definition_at s.definitions f.home in
      let same : definition_at ds f.home ≡ d = agree f.home y.element.home in
      let l : (definition_at ds f.home).limit ≡ d.limit = ap (λ (z : Definition). z.limit) same in
      let home = eq-eqb f.home f.home refl in
      let is : try_at f.id f.home ≡ true = y.tries f.home ∙ ap (λ b. b && is_held u f.mark) home ∙ held in
      let mv : move_at f.id f.home ≡ leaves d u f = y.moves f.home ∙ ap (λ b. b && leaves d u f) home in
      let z : f.attempts ≡ T f.id f.home = y.one.0 in
      let now : Now f.id f.home ≡ f.attempts + 1 = ap (λ b. T f.id f.home + bit b) is ∙ omega (arith, z) in
      let below : f.attempts < d.limit = ⊎_elim (λ e. absurd (limit (l ∙ e))) (λ k. k) y.element.limit in
      let none : M f.id f.home ≡ 0 = ⊎_elim (λ k. k.1) (λ k. let e = k.0 in
      absurd (omega (arith, e, z, l, below))) (x.bound f.id f.home limit) in
      let nonzero : (d.limit == 0) ≡ false = ne_eqb d.limit 0 (λ e. limit (l ∙ e)) in
      by_cases (f.attempts + 1 == d.limit) (λ b. (f.attempts + 1 == d.limit) ≡ b
      → IsBounded (definition_at ds f.home).limit (Now f.id f.home) (Moved f.id f.home))
      (λ _ e. let full = eqb-true (f.attempts + 1) d.limit e in
      let lv : leaves d u f ≡ true = grind (arith, held, nonzero, e) in
      inr (now ∙ full ∙ sym l, ap (λ b. M f.id f.home + bit b) (mv ∙ lv) ∙ omega (arith, none)))
      (λ _ e. let lv : leaves d u f ≡ false = grind (arith, held, nonzero, e) in
      let apart : f.attempts + 1 ≢ d.limit = eqb-false (f.attempts + 1) d.limit e in
      inl (omega (arith, now, below, l, apart), ap (λ b. M f.id f.home + bit b) (mv ∙ lv) ∙ omega (arith, none))) refl

  bound_now : (p h : ℕ) → (definition_at ds h).limit ≢ 0 → IsBounded (definition_at ds h).limit (Now p h) (Moved p h)
  bound_now p h limit = by_cases (try_at p h) (λ b. try_at p h ≡ b → IsBounded (definition_at ds h).limit (Now p h)
      (Moved p h))
      (λ _ e. let (f, there, k) = any_in _ s.elements e in
      let is = eqb-true f.id p (and_parts _ _ k).0 in
      let home = eqb-true f.home h (and_parts _ _ (and_parts _ _ k).1).0 in
      let held = (and_parts _ _ (and_parts _ _ k).1).1 in
      let y = all_in Alone f s.elements alone there in
      subst (λ (q : ℕ). IsBounded (definition_at ds h).limit (Now q h) (Moved q h)) is
      (subst (λ (g : ℕ). (definition_at ds g).limit ≢ 0 → IsBounded (definition_at ds g).limit (Now f.id g)
      (Moved f.id g)) home
      (at_home f y held) limit))
      (λ _ e. let none : move_at p h ≡ false = by_cases (move_at p h) (λ b. move_at p h ≡ b → move_at p h ≡ false)
      (λ _ m. let t : try_at p h ≡ true = any_weaker _ _ (λ f k. grind (arith, k)) s.elements m in
      absurd (true_false (sym t ∙ e))) (λ _ m. m) refl in
      same_bound (definition_at ds h).limit (T p h) (M p h) (Now p h) (Moved p h)
      (sym (ap (λ b. T p h + bit b) e ∙ omega arith)) (sym (ap (λ b. M p h + bit b) none ∙ omega arith))
      (x.bound p h limit)) refl
    where
      true_false : true ≡ false → ⊥
      true_false e = grind (arith, e)

  new_now : (p h : ℕ) → s.next + 1 ≤ p → Now p h ≡ 0
  new_now p h l = by_cases (try_at p h) (λ b. try_at p h ≡ b → T p h + bit b ≡ 0)
      (λ _ e. let (f, there, k) = any_in _ s.elements e in
      let is = eqb-true f.id p (and_parts _ _ k).0 in
      let low = (all_in (IsElement s) f s.elements w.elements there).id in absurd (omega (arith, is, low, l)))
      (λ _ _. let z = x.new p h (omega (arith, l)) in omega (arith, z)) refl

  abort_tried : Tried ds Now Moved (step s (Abort u))
  abort_tried = record {
    each = each_map Alone (One Now) _ gone _ (each_filter Alone (λ e. not (is_fresh u e.mark)) s.elements alone);
    bound = bound_now;
    new = new_now;
  }

step_tried : (ds : List Definition) (T M : ℕ → ℕ → ℕ) (s : State) (r : Record) (rs : List Record)
    → IsWellFormed s → Agrees ds s → Tried ds T M s → Tried ds (λ p h. T p h + bit (is_try_at p h s (r ∷ rs)))
    (λ p h. M p h + bit (is_leave p h s (r ∷ rs))) (step s r)
step_tried ds T M s (Abort u) rs w agree x = abort_tried ds T M s u w agree x
step_tried ds T M s (Define limit error name) rs w agree x = nothing ds T M (step s (Define limit error name))
    (still ds T M s _ refl x.each x)
step_tried ds T M s (Register q name) rs w agree x = nothing ds T M (step s (Register q name))
    (still ds T M s _ refl x.each x)
step_tried ds T M s (Deregister q name) rs w agree x = nothing ds T M (step s (Deregister q name))
    (still ds T M s _ refl x.each x)
step_tried ds T M s (Begin u) rs w agree x = nothing ds T M (step s (Begin u)) (still ds T M s _ refl x.each x)
step_tried ds T M s (Checkpoint bytes) rs w agree x = nothing ds T M (step s (Checkpoint bytes))
    (still ds T M s _ refl x.each x)
step_tried ds T M s (Enqueue u q priority by payload) rs w agree x =
    nothing ds T M (step s (Enqueue u q priority by payload)) (still ds T M s _ refl (each_append
    (One T) s.elements _ x.each
    ((sym (x.new s.next q (omega arith)), λ h l. x.new s.next h (omega arith)), tt)) x)
step_tried ds T M s (Dequeue u q by) rs w agree x =
    nothing ds T M (step s (Dequeue u q by)) (still ds T M s _ refl (each_map (One T) (One T) _
    (λ e y. same_one T (Held u) (is_best q s.elements e) e y) s.elements x.each) x)
step_tried ds T M s (Commit u) rs w agree x =
    nothing ds T M (step s (Commit u)) (still ds T M s _ refl (each_map (One T) (One T) _
    (λ e y. same_one T Free (is_fresh u e.mark) e y) _ (each_filter (One T) (λ e. not
    (is_held u e.mark)) s.elements x.each)) x)
step_tried ds T M s (Kill q i) rs w agree x =
    nothing ds T M (step s (Kill q i)) (still ds T M s _ refl (each_filter (One T) _ s.elements x.each) x)

run_tried : (version : Version) (T M : ℕ → ℕ → ℕ) (s : State) (rs : List Record) → IsWellFormed s
    → all_lawful version s rs ≡ true → Tried (run s rs).definitions T M s
    → Tried (run s rs).definitions (λ p h. T p h + counted (is_try_at p h) s rs) (λ p h. M p h + counted
    (is_leave p h) s rs) (run s rs)
run_tried version T M s [] w lawful x = nothing s.definitions T M s x
run_tried version T M s (r ∷ rs) w lawful x =
    let ds = (run s (r ∷ rs)).definitions in
    let T' : ℕ → ℕ → ℕ = λ p h. T p h + bit (is_try_at p h s (r ∷ rs)) in
    let M' : ℕ → ℕ → ℕ = λ p h. M p h + bit (is_leave p h s (r ∷ rs)) in
    retold ds (λ p h. T' p h + counted (is_try_at p h) (step s r) rs) (λ p h. M' p h + counted (is_leave p h)
    (step s r) rs)
    (λ p h. T p h + counted (is_try_at p h) s (r ∷ rs)) (λ p h. M p h + counted (is_leave p h) s (r ∷ rs)) (run s
    (r ∷ rs))
    (λ p h. omega arith) (λ p h. omega arith)
    (run_tried version T' M' (step s r) rs (step_kept version s r (and_parts _ _ lawful).0 w) (and_parts _ _ lawful).1
    (step_tried ds T M s r rs w (agrees_run s (r ∷ rs)) x))

none_yet : (ds : List Definition) → Tried ds (λ p h. 0) (λ p h. 0) empty
none_yet ds = record { each = tt; bound = λ p h l. inl (omega (arith, l), refl); new = λ p h l. refl }

pub bounded_tries : BoundedTries
bounded_tries version rs p home lawful limit =
    let ds = (run empty rs).definitions in
    let T = counted (is_try_at p home) empty rs in
    let M = counted (is_leave p home) empty rs in
    same_bound (definition_at ds home).limit (0 + T) (0 + M) T M (omega arith) (omega arith)
    ((run_tried version (λ p h. 0) (λ p h. 0) empty rs empty_is_well_formed lawful (none_yet ds)).bound p home limit)

pub attempts_are_tries : AttemptsAreTries
attempts_are_tries version rs lawful =
    let x = run_tried version (λ p h. 0) (λ p h. 0) empty rs empty_is_well_formed lawful (none_yet
    (run empty rs).definitions) in
    each_weaker (One (λ p h. 0 + counted (is_try_at p h) empty rs)) (λ (e : Element). e.attempts ≡ counted
    (is_try_at e.id e.home) empty rs)
    (λ e y. let z = y.0 in omega (arith, z)) (run empty rs).elements x.each
