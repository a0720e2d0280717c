-- Each element is where its fate says.
use Rattle.std.proofs.Common.{◌≡◌, ◌≢◌, ℕ, ◌<◌, ◌+◌, ◌==◌, Bool, true, false, cond, not, ◌&&◌, List, [], ◌∷◌, ◌++◌, map}
use Rattle.std.proofs.Common.{Some, None, inl, inr, ⊎_elim, refl, sym, ap, ◌∙◌, subst, arith}
use Rattle.std.specs.List.{AllByRecursion, filter, flat_map}
use Rattle.std.proofs.lemmas.Bool.{false≢true, and_parts, eq-eqb}
use Rattle.rq_model.specs.Machine.{is_free_at, leaves, marked, moved, returned, step}
use Rattle.rq_model.specs.Records.{Record, Commit, Abort}
use Rattle.rq_model.specs.States.{State, Element, Definition, Mark, Free, Fresh, Held, definition_at, is_fresh, is_held}
use Rattle.rq_model.specs.WellFormed.{IsIn, Ordered}
use Rattle.rq_model.proofs.Lists.{by_cases, each_append, each_map}
use Rattle.rq_model.proofs.Steps.{returned_id}
use Rattle.rq_model.proofs.Texts.{all_in}
use Rattle.rq_queue.specs.Fates.{fate_under, at_commit, at_abort}
use Rattle.rq_queue.specs.declared.fates.Fate.{Fate}
use Rattle.rq_queue.specs.declared.fates.Fate.TheVariants.{Freed, Gone, Undone, Back, Moved}
use Rattle.rq_standing.specs.Ends.{fated}
use Rattle.rq_standing.specs.Fates.{FatesComeTrue, IsFateOf}
use Rattle.rq_standing.proofs.Ending.{each_in}

-- What a filter and a map leave.

stays : (f : Element → Element) (p : Element → Bool) (e : Element) (es : List Element) → IsIn e es → p e ≡ true
    → IsIn (f e) (map f (filter p es))
stays f p e [] h t = absurd h
stays f p e (x ∷ es) h t = by_cases (p x) (λ b. p x ≡ b → IsIn (f e) (map f (cond b (x ∷ filter p es) (filter p es))))
    (λ _ _. ⊎_elim (λ same. inl (ap f same)) (λ more. inr (stays f p e es more t)) h)
    (λ _ n. ⊎_elim (λ same. absurd (false≢true (sym n ∙ sym (ap p same) ∙ t))) (λ more. stays f p e es more t) h) refl

same_by_id : (es : List Element) → Ordered (λ (a b : Element). a.id < b.id) es → (x y : Element) → IsIn x es → IsIn y es
    → x.id ≡ y.id → x ≡ y
same_by_id [] up x y i j h = absurd i
same_by_id (e ∷ es) up x y i j h =
    ⊎_elim (λ a. ⊎_elim (λ b. a ∙ sym b)
    (λ m. let l : e.id < y.id = all_in (λ (f : Element). e.id < f.id) y es up.0 m in
    let k : e.id ≡ x.id = ap (λ (f : Element). f.id) (sym a) in absurd (let no : ⊥ = omega (arith, l, k, h) in no)) j)
    (λ n. ⊎_elim (λ b. let l : e.id < x.id = all_in (λ (f : Element). e.id < f.id) x es up.0 n in
    let k : e.id ≡ y.id = ap (λ (f : Element). f.id) (sym b) in absurd (let no : ⊥ = omega (arith, l, k, h) in no))
    (λ m. same_by_id es up.1 x y n m h) j) i

others : (p : Element → Bool) (e : Element) (all : List Element) → p e ≡ false
    → ((x : Element) → IsIn x all → x.id ≡ e.id → x ≡ e) → (es : List Element) → ((x : Element) → IsIn x es → IsIn x all)
    → AllByRecursion (λ (x : Element). x.id ≢ e.id) (filter p es)
others p e all n one [] within = tt
others p e all n one (x ∷ es) within = by_cases (p x)
    (λ b. p x ≡ b → AllByRecursion (λ (x : Element). x.id ≢ e.id) (cond b (x ∷ filter p es) (filter p es)))
    (λ _ t. (
      (λ same. false≢true (sym n ∙ sym (ap p (one x (within x (inl refl)) same)) ∙ t)),
      others p e all n one es (λ y i. within y (inr i)),
    ))
    (λ _ _. others p e all n one es (λ y i. within y (inr i))) refl

gone : (f : Element → Element) (p : Element → Bool) → ((x : Element) → (f x).id ≡ x.id) → (e : Element) (es : List Element)
    → Ordered (λ (a b : Element). a.id < b.id) es → IsIn e es → p e ≡ false
    → AllByRecursion (λ (x : Element). x.id ≢ e.id) (map f (filter p es))
gone f p kept e es up i n = each_map (λ (x : Element). x.id ≢ e.id) (λ (x : Element). x.id ≢ e.id) f
    (λ x other same. other (sym (kept x) ∙ same)) (filter p es)
    (others p e es n (λ x j same. same_by_id es up x e j i same) es (λ x j. j))

-- Marks.

fresh_unheld : (unit : ℕ) (m : Mark) → is_fresh unit m ≡ true → is_held unit m ≡ false
fresh_unheld unit Free h = absurd (false≢true h)
fresh_unheld unit (Fresh v) h = refl
fresh_unheld unit (Held v) h = absurd (false≢true h)

held_unfresh : (unit : ℕ) (m : Mark) → is_held unit m ≡ true → is_fresh unit m ≡ false
held_unfresh unit Free h = absurd (false≢true h)
held_unfresh unit (Fresh v) h = absurd (false≢true h)
held_unfresh unit (Held v) h = refl

free_there : (queue home : ℕ) → home ≡ queue → (true && (home == queue)) ≡ true
free_there queue home h = eq-eqb home queue h

-- COMMIT

commit_tells : (s : State) (unit : ℕ) → Ordered (λ (a b : Element). a.id < b.id) s.elements → (e : Element)
    → IsIn e s.elements
    → AllByRecursion (λ (p : ℕ × Fate). IsFateOf (step s (Commit unit)) p.0 p.1) (fated e.id (at_commit unit e))
commit_tells s unit up e i = by_cases (is_fresh unit e.mark)
    (λ b. is_fresh unit e.mark ≡ b → AllByRecursion (λ (p : ℕ × Fate). IsFateOf (step s (Commit unit)) p.0 p.1)
    (fated e.id (cond b (Some (Freed (record { 0 = e.home }))) (cond (is_held unit e.mark) (Some Gone) None))))
    (λ _ t. (freed t, tt))
    (λ _ _. by_cases (is_held unit e.mark)
    (λ b. is_held unit e.mark ≡ b → AllByRecursion (λ (p : ℕ × Fate). IsFateOf (step s (Commit unit)) p.0 p.1)
    (fated e.id (cond b (Some Gone) None)))
    (λ _ t. (gone f kept ids e s.elements up i (ap not t), tt)) (λ _ _. tt) refl) refl
  where
    f : Element → Element
    f x = cond (is_fresh unit x.mark) (marked Free x) x

    kept : Element → Bool
    kept x = not (is_held unit x.mark)

    ids : (x : Element) → (f x).id ≡ x.id
    ids x = by_cases (is_fresh unit x.mark) (λ b. (cond b (marked Free x) x).id ≡ x.id) (λ _. refl) (λ _. refl)

    freed : is_fresh unit e.mark ≡ true → IsFateOf (step s (Commit unit)) e.id (Freed (record { 0 = e.home }))
    freed t = (
      marked Free e,
      subst (λ (x : Element). IsIn x (map f (filter kept s.elements))) (ap (λ b. cond b (marked Free e) e) t)
          (stays f kept e s.elements i (ap not (fresh_unheld unit e.mark t))),
      refl,
      free_there e.home e.home refl,
    )

-- ABORT

abort_tells : (s : State) (unit : ℕ) → Ordered (λ (a b : Element). a.id < b.id) s.elements → (e : Element)
    → IsIn e s.elements
    → AllByRecursion (λ (p : ℕ × Fate). IsFateOf (step s (Abort unit)) p.0 p.1)
    (fated e.id (at_abort (definition_at s.definitions e.home) unit e))
abort_tells s unit up e i = by_cases (is_fresh unit e.mark)
    (λ b. is_fresh unit e.mark ≡ b → AllByRecursion (λ (p : ℕ × Fate). IsFateOf (step s (Abort unit)) p.0 p.1)
    (fated e.id (cond b (Some Undone) (cond (leaves home unit e) (Some (Moved (record { 0 = home.error })))
    (cond (is_held unit e.mark) (Some (Back (record { 0 = e.home }) (e.attempts + 1))) None)))))
    (λ _ t. (gone f kept ids e s.elements up i (ap not t), tt))
    (λ _ _. by_cases (leaves home unit e)
    (λ b. leaves home unit e ≡ b → AllByRecursion (λ (p : ℕ × Fate). IsFateOf (step s (Abort unit)) p.0 p.1)
    (fated e.id (cond b (Some (Moved (record { 0 = home.error })))
    (cond (is_held unit e.mark) (Some (Back (record { 0 = e.home }) (e.attempts + 1))) None))))
    (λ _ t. (sent t, tt))
    (λ _ stayed. by_cases (is_held unit e.mark)
    (λ b. is_held unit e.mark ≡ b → AllByRecursion (λ (p : ℕ × Fate). IsFateOf (step s (Abort unit)) p.0 p.1)
    (fated e.id (cond b (Some (Back (record { 0 = e.home }) (e.attempts + 1))) None)))
    (λ _ t. (back stayed t, tt)) (λ _ _. tt) refl) refl) refl
  where
    home : Definition
    home = definition_at s.definitions e.home

    f : Element → Element
    f x = cond (leaves (definition_at s.definitions x.home) unit x) (moved (definition_at s.definitions x.home) x) (returned unit x)

    kept : Element → Bool
    kept x = not (is_fresh unit x.mark)

    ids : (x : Element) → (f x).id ≡ x.id
    ids x = by_cases (leaves (definition_at s.definitions x.home) unit x)
        (λ b. (cond b (moved (definition_at s.definitions x.home) x) (returned unit x)).id ≡ x.id)
        (λ _. refl) (λ _. returned_id unit x)

    here : (y : Element) → f e ≡ y → is_held unit e.mark ≡ true → IsIn y (map f (filter kept s.elements))
    here y is t = subst (λ (x : Element). IsIn x (map f (filter kept s.elements))) is
        (stays f kept e s.elements i (ap not (held_unfresh unit e.mark t)))

    sent : leaves home unit e ≡ true → IsFateOf (step s (Abort unit)) e.id (Moved (record { 0 = home.error }))
    sent t = (
      moved home e,
      here (moved home e) (ap (λ b. cond b (moved home e) (returned unit e)) t) (and_parts _ _ t).0,
      refl,
      free_there home.error home.error refl,
      refl,
    )

    given_back : Element
    given_back = record e { attempts = e.attempts + 1; mark = Free }

    back : leaves home unit e ≡ false → is_held unit e.mark ≡ true
        → IsFateOf (step s (Abort unit)) e.id (Back (record { 0 = e.home }) (e.attempts + 1))
    back stayed t = (
      given_back,
      here given_back (ap (λ b. cond b (moved home e) (returned unit e)) stayed ∙ ap (λ b. cond b given_back e) t) t,
      refl,
      free_there e.home e.home refl,
      refl,
    )

-- All of them.

told : (s : State) (r : Record) → Ordered (λ (a b : Element). a.id < b.id) s.elements → (e : Element) → IsIn e s.elements
    → AllByRecursion (λ (p : ℕ × Fate). IsFateOf (step s r) p.0 p.1)
    (fated e.id (fate_under r (definition_at s.definitions e.home) e))
told s (Commit unit) up e i = commit_tells s unit up e i
told s (Abort unit) up e i = abort_tells s unit up e i
told s _ up e i = tt

each_flat : {X Y : Type 0} (P : Y → Type 0) (f : X → List Y) (xs : List X) → AllByRecursion (λ x. AllByRecursion P (f x)) xs
    → AllByRecursion P (flat_map f xs)
each_flat P f [] h = tt
each_flat P f (x ∷ xs) h = each_append P (f x) (flat_map f xs) h.0 (each_flat P f xs h.1)

pub come_true : FatesComeTrue
come_true s r well = each_flat (λ (p : ℕ × Fate). IsFateOf (step s r) p.0 p.1)
    (λ (e : Element). fated e.id (fate_under r (definition_at s.definitions e.home) e)) s.elements
    (each_in (λ (e : Element). AllByRecursion (λ (p : ℕ × Fate). IsFateOf (step s r) p.0 p.1)
    (fated e.id (fate_under r (definition_at s.definitions e.home) e))) s.elements
    (λ e i. told s r well.elements_rise e i))
