-- Each element has its ENQUEUE, its home is reached from there, and its tries are the limits that
-- it left behind plus its attempts.
use Rattle.std.proofs.Common.{◌≡◌, ◌≢◌, ℕ, ◌+◌, ◌≤◌, Bool, true, false, not, ◌&&◌, List, [], ◌∷◌, ◌++◌, length, refl}
use Rattle.std.proofs.Common.{sym, ap, ◌∙◌, subst, arith, append_assoc, length-append}
use Rattle.std.specs.Prelude.{if◌then◌else◌, ◌==◌}
use Rattle.std.specs.List.{AllByRecursion}
use Rattle.std.proofs.lemmas.Bool.{and_parts, eqb-true}
use Rattle.std.proofs.lemmas.List.{append-nil}
use Rattle.rq_model.specs.Records.{Record, Define, Register, Deregister, Begin, Enqueue, Dequeue, Commit, Abort}
use Rattle.rq_model.specs.Records.{Checkpoint, Kill, Version}
use Rattle.rq_model.specs.States.{Mark, Free, Held, Element, Definition, State, empty, definition_at}
use Rattle.rq_model.specs.States.{is_fresh, is_held}
use Rattle.rq_model.specs.Machine.{is_best, marked, leaves, moved, returned, all_lawful, step, run}
use Rattle.rq_model.specs.WellFormed.{IsWellFormed, IsElement}
use Rattle.rq_model.specs.Fates.{IsAt, IsEnqueued, has_id, counted, is_try, IsNextHome, IsPath, limits_left}
use Rattle.rq_model.specs.FateLaws.{AllAsEnqueued, IsAsEnqueued}
use Rattle.rq_model.proofs.Lists.{by_cases, each_weaker, each_append, each_map, each_filter, each_both}
use Rattle.rq_model.proofs.Sound.{limit_not_0}
use Rattle.rq_model.proofs.Texts.{all_in}
use Rattle.rq_model.proofs.Kept.{step_kept, empty_is_well_formed}
use Rattle.rq_model.proofs.Tried.{Agrees, agrees_run, any_in, only, bit}

-- Later records.

later_at : (past : List Record) (r : Record) (p : ℕ) (before : List Record) (x : Record) → IsAt past p before x
    → IsAt (past ++ r ∷ []) p before x
later_at past r p before x h = record {
  after = h.after ++ r ∷ [];
  whole = ap (λ (z : List Record). z ++ r ∷ []) h.whole ∙ append_assoc before (x ∷ h.after) (r ∷ []);
  place = h.place;
}

later_enqueued : (past : List Record) (r : Record) (p unit queue priority : ℕ) (payload : List ℕ)
    → IsEnqueued past p unit queue priority payload → IsEnqueued (past ++ r ∷ []) p unit queue priority payload
later_enqueued past r p unit queue priority payload h =
    record { before = h.before; by = h.by; there = later_at past r p h.before _ h.there }

-- One more home.

path_on : (ds : List Definition) (queue : ℕ) (homes : List ℕ) (home next : ℕ) → IsPath ds queue homes home
    → IsNextHome ds home next → IsPath ds queue (homes ++ next ∷ []) next
path_on ds queue [] home next h k = (subst (λ (q : ℕ). IsNextHome ds q next) h k, refl)
path_on ds queue (first ∷ homes) home next h k = (h.0, path_on ds first homes home next h.1 k)

left_on : (ds : List Definition) (queue : ℕ) (homes : List ℕ) (home next : ℕ) → IsPath ds queue homes home
    → limits_left ds queue (homes ++ next ∷ []) ≡ limits_left ds queue homes + (definition_at ds home).limit
left_on ds queue [] home next h = ap (λ (q : ℕ). (definition_at ds q).limit + 0) (sym h) ∙ omega arith
left_on ds queue (first ∷ homes) home next h =
    let more = left_on ds first homes home next h.1 in omega (arith, more)

-- what is kept, with the definitions of the end and the tries so far
record As (past : List Record) (ds : List Definition) (T : ℕ → ℕ) (e : Element) : Type 0 where
  pub unit : ℕ
  pub enqueued : IsEnqueued past e.id unit e.origin e.priority e.payload
  pub homes : List ℕ
  pub path : IsPath ds e.origin homes e.home
  pub tried : T e.id ≡ limits_left ds e.origin homes + e.attempts

later_as : (past : List Record) (r : Record) (ds : List Definition) (T : ℕ → ℕ) (e : Element) → As past ds T e
    → As (past ++ r ∷ []) ds T e
later_as past r ds T e h = record {
  unit = h.unit;
  enqueued = later_enqueued past r e.id h.unit e.origin e.priority e.payload h.enqueued;
  homes = h.homes;
  path = h.path;
  tried = h.tried;
}

-- the element with another mark
marked_as : (past : List Record) (ds : List Definition) (T : ℕ → ℕ) (m : Mark) (b : Bool) (e : Element)
    → As past ds T e
    → As past ds (λ p. T p + 0) (if b then marked m e else e)
marked_as past ds T m b e h = by_cases b (λ t. As past ds (λ p. T p + 0) (if t then marked m e else e))
    (λ _. record {
      unit = h.unit;
      enqueued = h.enqueued;
      homes = h.homes;
      path = h.path;
      tried = (let z = h.tried in
          omega (arith, z));
    })
    (λ _. record {
      unit = h.unit;
      enqueued = h.enqueued;
      homes = h.homes;
      path = h.path;
      tried = (let z = h.tried in
          omega (arith, z));
    })

same_as : (past : List Record) (ds : List Definition) (T : ℕ → ℕ) (es : List Element) → AllByRecursion
    (As past ds T) es
    → AllByRecursion (As past ds (λ p. T p + 0)) es
same_as past ds T es all = each_weaker (As past ds T) (As past ds (λ p. T p + 0))
    (λ e h. marked_as past ds T Free false e h) es all

module _ (past : List Record) (ds : List Definition) (T U : ℕ → ℕ) (u : ℕ) (d : Definition) (e : Element)
    (h : As past ds T e) (more : U e.id ≡ T e.id + bit (is_held u e.mark)) where
  moved_as : definition_at ds e.home ≡ d → leaves d u e ≡ true → As past ds U (moved d e)
  moved_as is t =
      let held : is_held u e.mark ≡ true = (and_parts (is_held u e.mark) _ t).0 in
      let last = eqb-true (e.attempts + 1) d.limit (and_parts (not (d.limit == 0)) _ (and_parts
      (is_held u e.mark) _ t).1).1 in
      let before = h.tried in
      let one : U e.id ≡ T e.id + 1 = more ∙ ap (λ b. T e.id + bit b) held in
      let left = left_on ds e.origin h.homes e.home d.error h.path
      ∙ ap (λ (z : Definition). limits_left ds e.origin h.homes + z.limit) is in
      record {
        unit = h.unit;
        enqueued = h.enqueued;
        homes = h.homes ++ d.error ∷ [];
        path = path_on ds e.origin h.homes e.home d.error h.path (
          subst (λ (z : Definition). z.limit ≢ 0) (sym is) (limit_not_0 d u e t),
          ap (λ (z : Definition). z.error) (sym is),
        );
        tried = omega (arith, one, before, last, left);
      }

  returned_as : As past ds U (returned u e)
  returned_as =
      let before = h.tried in
      by_cases (is_held u e.mark) (λ b. is_held u e.mark ≡ b → As past ds U (if b then record {
        id = e.id;
        home = e.home;
        origin = e.origin;
        priority = e.priority;
        attempts = e.attempts + 1;
        payload = e.payload;
        mark = Free;
      } else e))
      (λ _ k. let one : U e.id ≡ T e.id + 1 = more ∙ ap (λ b. T e.id + bit b) k in record {
        unit = h.unit;
        enqueued = h.enqueued;
        homes = h.homes;
        path = h.path;
        tried = omega (arith, one, before);
      })
      (λ _ k. let none : U e.id ≡ T e.id + 0 = more ∙ ap (λ b. T e.id + bit b) k in record {
        unit = h.unit;
        enqueued = h.enqueued;
        homes = h.homes;
        path = h.path;
        tried = omega (arith, none, before);
      }) refl

step_as : (past : List Record) (ds : List Definition) (T : ℕ → ℕ) (s : State) (r : Record) (rs : List Record)
    → IsWellFormed s → Agrees ds s → s.next ≡ length past → T s.next ≡ 0
    → AllByRecursion (As (past ++ r ∷ []) ds T) s.elements
    → AllByRecursion (As (past ++ r ∷ []) ds (λ p. T p + bit (is_try p s (r ∷ rs)))) (step s r).elements
step_as past ds T s (Define limit error name) rs h agree next new all = same_as _ ds T s.elements all
step_as past ds T s (Register q name) rs h agree next new all = same_as _ ds T s.elements all
step_as past ds T s (Deregister q name) rs h agree next new all = same_as _ ds T s.elements all
step_as past ds T s (Begin u) rs h agree next new all = same_as _ ds T s.elements all
step_as past ds T s (Enqueue u q priority by payload) rs h agree next new all =
    let now = past ++ Enqueue u q priority by payload ∷ [] in
    each_append (As now ds (λ p. T p + 0)) s.elements _ (same_as now ds T s.elements all) (
      record {
        unit = u;
        enqueued = record { before = past; by = by; there = record { after = []; whole = refl; place = next } };
        homes = [];
        path = refl;
        tried = omega (arith, new);
      },
      tt,
    )
step_as past ds T s (Dequeue u q by) rs h agree next new all =
    let now = past ++ Dequeue u q by ∷ [] in
    each_map (As now ds T) (As now ds (λ p. T p + 0)) _
    (λ e x. marked_as now ds T (Held u) (is_best q s.elements e) e x) s.elements all
step_as past ds T s (Commit u) rs h agree next new all =
    let now = past ++ Commit u ∷ [] in
    each_map (As now ds T) (As now ds (λ p. T p + 0)) _ (λ e x. marked_as now ds T Free (is_fresh u e.mark) e x) _
    (each_filter (As now ds T) (λ e. not (is_held u e.mark)) s.elements all)
step_as past ds T s (Abort u) rs h agree next new all =
    let now = past ++ Abort u ∷ [] in
    let U : ℕ → ℕ = λ p. T p + bit (is_try p s (Abort u ∷ rs)) in
    let Known : Element → Type 0 = λ e. As now ds T e × (IsElement s e × (is_try e.id s (Abort u ∷ rs)
    ≡ is_held u e.mark)) in
    each_map Known (As now ds U) _
    (λ e x. let d = definition_at s.definitions e.home in
    let more : U e.id ≡ T e.id + bit (is_held u e.mark) = ap (λ b. T e.id + bit b) x.1.1 in
    by_cases (leaves d u e) (λ b. leaves d u e ≡ b → As now ds U (if b then moved d e else returned u e))
    (λ _ t. moved_as now ds T U u d e x.0 more (agree e.home x.1.0.home) t)
    (λ _ _. returned_as now ds T U u d e x.0 more) refl) _
    (each_filter Known (λ e. not (is_fresh u e.mark)) s.elements
    (each_both (As now ds T) _ s.elements all
    (each_both (IsElement s) _ s.elements h.elements (only (λ e. is_held u e.mark) s.elements h.elements_rise))))
step_as past ds T s (Checkpoint bytes) rs h agree next new all = same_as _ ds T s.elements all
step_as past ds T s (Kill q i) rs h agree next new all =
    let now = past ++ Kill q i ∷ [] in
    each_filter (As now ds (λ p. T p + 0)) _ s.elements (same_as now ds T s.elements all)

-- what comes later was not tried yet
new_try : (p : ℕ) (s : State) (r : Record) (rs : List Record) → IsWellFormed s → s.next ≤ p → is_try p s (r ∷ rs)
    ≡ false
new_try p s (Abort u) rs w l = by_cases (is_try p s (Abort u ∷ rs)) (λ b. is_try p s (Abort u ∷ rs) ≡ b → b ≡ false)
    (λ _ e. let (f, there, k) = any_in (λ f. has_id p f && is_held u f.mark) s.elements e in
    let is = eqb-true f.id p (and_parts (f.id == p) (is_held u f.mark) k).0 in
    let low = (all_in (IsElement s) f s.elements w.elements there).id in
    absurd (omega (arith, is, low, l))) (λ _ _. refl) refl
new_try p s (Define limit error name) rs w l = refl
new_try p s (Register q name) rs w l = refl
new_try p s (Deregister q name) rs w l = refl
new_try p s (Begin u) rs w l = refl
new_try p s (Enqueue u q priority by payload) rs w l = refl
new_try p s (Dequeue u q by) rs w l = refl
new_try p s (Commit u) rs w l = refl
new_try p s (Checkpoint bytes) rs w l = refl
new_try p s (Kill q i) rs w l = refl

retold_as : (past all : List Record) (ds : List Definition) (T U : ℕ → ℕ) (e : Element) → past ≡ all → T e.id ≡ U e.id
    → As past ds T e → As all ds U e
retold_as past all ds T U e same tries h = record {
  unit = h.unit;
  enqueued = subst (λ (z : List Record). IsEnqueued z e.id h.unit e.origin e.priority e.payload) same h.enqueued;
  homes = h.homes;
  path = h.path;
  tried = sym tries ∙ h.tried;
}

run_as : (version : Version) (past : List Record) (T : ℕ → ℕ) (s : State) (rs : List Record) → IsWellFormed s
    → all_lawful version s rs ≡ true → s.next ≡ length past → ((p : ℕ) → s.next ≤ p → T p ≡ 0)
    → AllByRecursion (As past (run s rs).definitions T) s.elements
    → AllByRecursion (As (past ++ rs) (run s rs).definitions (λ p. T p + counted (is_try p) s rs)) (run s rs).elements
run_as version past T s [] h lawful next new all = each_weaker _ _
    (λ e x. retold_as past (past ++ []) s.definitions T (λ p. T p + 0) e (sym (append-nil past))
    (omega arith) x) s.elements all
run_as version past T s (r ∷ rs) h lawful next new all =
    let ds = (run s (r ∷ rs)).definitions in
    let now = past ++ r ∷ [] in
    let U : ℕ → ℕ = λ p. T p + bit (is_try p s (r ∷ rs)) in
    let here = step_as past ds T s r rs h (agrees_run s (r ∷ rs)) next (new s.next (omega arith))
    (each_weaker (As past ds T) (As now ds T) (later_as past r ds T) s.elements all) in
    let new_too : (p : ℕ) → s.next + 1 ≤ p → U p ≡ 0 =
    λ p l. ap (λ b. T p + bit b) (new_try p s r rs h (omega (arith, l))) ∙ (let z = new p (omega (arith, l)) in
    omega (arith, z)) in
    each_weaker _ _ (λ e x. retold_as (now ++ rs) (past ++ r ∷ rs) ds (λ p. U p + counted (is_try p) (step s r) rs)
    (λ p. T p + counted (is_try p) s (r ∷ rs)) e (append_assoc past (r ∷ []) rs) (omega arith) x) (run s
    (r ∷ rs)).elements
    (run_as version now U (step s r) rs (step_kept version s r (and_parts _ _ lawful).0 h) (and_parts _ _ lawful).1
    (omega (arith, next, length-append past (r ∷ []))) new_too here)

pub all_as_enqueued : AllAsEnqueued
all_as_enqueued version rs lawful =
    each_weaker (As rs (run empty rs).definitions (λ p. 0 + counted (is_try p) empty rs)) (IsAsEnqueued rs
    (run empty rs))
    (λ e x. record {
      unit = x.unit;
      enqueued = x.enqueued;
      homes = x.homes;
      path = x.path;
      tried = (let z = x.tried in omega (arith, z));
    }) (run empty rs).elements
    (run_as version [] (λ p. 0) empty rs empty_is_well_formed lawful refl (λ p l. refl) tt)
