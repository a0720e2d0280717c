-- Elements with distinct ids, and one more put in.
use Rattle.std.proofs.Common.{◌≢◌, Bool, cond, not, List, [], ◌∷◌, ◌++◌, sym}
use Rattle.std.specs.List.{filter, AllByRecursion}
use Rattle.rq_model.specs.States.{Element, put, id_before}
use Rattle.rq_model.specs.WellFormed.{Ordered}
use Rattle.rq_model.specs.Queues.{Move}
use Rattle.rq_model.specs.Redo.{put_all, AreNew}
use Rattle.rq_model.proofs.Lists.{by_cases, each_weaker}

abbrev pub Apart : List Element → Type 0
Apart es = Ordered (λ a b. a.id ≢ b.id) es

-- what holds for both halves holds for all
each_half : (P : Element → Type 0) (p : Element → Bool) (xs : List Element)
    → AllByRecursion P (filter p xs ++ filter (λ y. not (p y)) xs) → AllByRecursion P xs
each_half P p [] h = tt
each_half P p (x ∷ xs) h = by_cases (p x)
    (λ b. AllByRecursion P
    (cond b (x ∷ filter p xs) (filter p xs) ++ cond (not b) (x ∷ filter (λ y. not (p y)) xs)
    (filter (λ y. not (p y)) xs)) → AllByRecursion P (x ∷ xs))
    (λ _ k. (k.0, each_half P p xs k.1))
    (λ _ k. let out = without P _ x _ k in (out.0, each_half P p xs out.1)) h
  where
    without : (P : Element → Type 0) (xs : List Element) (y : Element) (ys : List Element)
        → AllByRecursion P (xs ++ y ∷ ys) → P y × AllByRecursion P (xs ++ ys)
    without P [] y ys h = h
    without P (x ∷ xs) y ys h = let rest = without P xs y ys h.1 in (rest.0, (h.0, rest.1))

-- one in the middle, and the others
middle : (xs : List Element) (y : Element) (ys : List Element) → Apart (xs ++ y ∷ ys)
    → AllByRecursion (λ z. z.id ≢ y.id) (xs ++ ys) × Apart (xs ++ ys)
middle [] y ys h = (each_weaker (λ z. y.id ≢ z.id) (λ z. z.id ≢ y.id) (λ z n e. n (sym e)) ys h.0, h.1)
middle (x ∷ xs) y ys h =
    let rest = middle xs y ys h.1 in
    let here = parted (λ z. x.id ≢ z.id) xs y ys h.0 in
    ((here.0, rest.0), (here.1, rest.1))
  where
    parted : (P : Element → Type 0) (xs : List Element) (y : Element) (ys : List Element)
        → AllByRecursion P (xs ++ y ∷ ys) → P y × AllByRecursion P (xs ++ ys)
    parted P [] y ys h = h
    parted P (x ∷ xs) y ys h = let rest = parted P xs y ys h.1 in (rest.0, (h.0, rest.1))

apart_halves : (p : Element → Bool) (xs : List Element) → Apart (filter p xs ++ filter (λ y. not (p y)) xs) → Apart xs
apart_halves p [] h = tt
apart_halves p (x ∷ xs) h = by_cases (p x)
    (λ b. Apart (cond b (x ∷ filter p xs) (filter p xs)
    ++ cond (not b) (x ∷ filter (λ y. not (p y)) xs) (filter (λ y. not (p y)) xs)) → Apart (x ∷ xs))
    (λ _ k. (each_half (λ z. x.id ≢ z.id) p xs k.0, apart_halves p xs k.1))
    (λ _ k. let out = middle _ x _ k in (
      each_weaker (λ z. z.id ≢ x.id) (λ z. x.id ≢ z.id) (λ z n e. n (sym e)) xs
          (each_half (λ z. z.id ≢ x.id) p xs out.0),
      apart_halves p xs out.1,
    )) h

-- if all ids differ after one was put in, its id was new
put_apart : (e : Element) (es : List Element) → Apart (put id_before e es)
    → AllByRecursion (λ z. z.id ≢ e.id) es × Apart es
put_apart e es h =
    let out = middle _ e _ h in
    (each_half _ _ es out.0, apart_halves (λ y. id_before y e) es out.1)

pub are_new : (ms : List Move) (es : List Element) → Apart (put_all ms es) → AreNew ms es × Apart es
are_new [] es h = (tt, h)
are_new (m ∷ ms) es h =
    let later = are_new ms (put id_before m.element es) h in
    let here = put_apart m.element es later.1 in
    ((here.0, later.0), here.1)

pub new_append : (xs ys : List Move) (es : List Element) → AreNew xs es → AreNew ys (put_all xs es)
    → AreNew (xs ++ ys) es
new_append [] ys es h k = k
new_append (x ∷ xs) ys es h k = (h.0, new_append xs ys (put id_before x.element es) h.1 k)
