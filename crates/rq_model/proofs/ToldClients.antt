-- Which lines of a report begin with `r `, under which queue.
use Rattle.std.proofs.Common.{◌≡◌, ◌⊎◌, inl, inr, ℕ, ◌+◌, ◌<◌, ◌≤◌, ◌^◌, Bool, true, false, cond, ◌||◌, List, []}
use Rattle.std.proofs.Common.{◌∷◌, ◌++◌, length, map, None, refl, sym, ap, ◌∙◌, subst, arith, append_assoc}
use Rattle.std.proofs.lemmas.List.{append-nil}
use Rattle.std.specs.Prelude.{◌==◌, ◌≢◌, if◌then◌else◌, take, codes, IsTrue}
use Rattle.std.specs.List.{filter, list_all, list_any, flat_map, AllByRecursion}
use Rattle.std.specs.Fmt.{decimal}
use Rattle.std.specs.Str.{bytes_eq}
use Rattle.std.proofs.lemmas.Bool.{and_parts, and_from, cases_Bool, cases_lt, eqb-true, eqb-false, ne_eqb}
use Rattle.std.proofs.lemmas.Slice.Eq.{bytes_eq-Decides}
use Rattle.rq_model.specs.Records.{Record}
use Rattle.rq_model.specs.Spelling.{is_name, is_name_byte}
use Rattle.rq_model.specs.States.{Definition, Element, Registrant, State, empty, is_registrant, registrant_before}
use Rattle.rq_model.specs.Machine.{is_free_at, is_registered, latest}
use Rattle.rq_model.specs.WellFormed.{Ordered}
use Rattle.rq_model.specs.StateSpelling.{FitsDefinition, FitsRegistrant}
use Rattle.rq_model.specs.Fronts.{Restarted}
use Rattle.rq_model.specs.Reports.{element_line, error_text, front_line, last_text, queue_line, queue_text}
use Rattle.rq_model.specs.Reports.{registrant_line, units_line}
use Rattle.rq_model.specs.WorkedLogs.{in_order, queues_made, text_made}
use Rattle.rq_model.specs.Fates.{hears, remains}
use Rattle.rq_model.specs.FateLaws.{begins_with}
use Rattle.rq_model.specs.ClientLines.{how_far_line, IsClientLine, lines_of, lines_under, registrant_lines, client_lines}
use Rattle.rq_model.specs.ClientLines.{TellsClients, with_first}
use Rattle.rq_model.proofs.Lists.{by_cases, each_both, each_filter, each_map, each_passes, each_weaker}
use Rattle.rq_model.proofs.Lists.{filter_comm, filter_none}
use Rattle.rq_model.proofs.WellFormedRuns.{none_passes}
use Rattle.rq_model.proofs.ReportLines.{IsLine, IsInside, inside, begins_itself, element_is_line, front_is_line}
use Rattle.rq_model.proofs.ReportLines.{queue_is_line, registrant_is_line, spaced, spaced_as, units_is_line}
use Rattle.rq_model.proofs.Clients.{any_none, filter_and, itself, single}

-- Lines.

line_there : (body rest : List ℕ) → IsInside body
    → lines_of ((body ++ 10 ∷ []) ++ rest) ≡ (body ++ 10 ∷ []) ∷ lines_of rest
line_there [] rest h = refl
line_there (b ∷ body) rest h =
    let p = and_parts (inside b) (list_all inside body) h in
    let more = line_there body rest p.1 in
    by_cases (b == 10) (λ t. (b == 10) ≡ t → (if t then (10 ∷ []) ∷ lines_of ((body ++ 10 ∷ []) ++ rest)
    else with_first b (lines_of ((body ++ 10 ∷ []) ++ rest))) ≡ (b ∷ body ++ 10 ∷ []) ∷ lines_of rest)
    (λ _ e. absurd (grind (arith, p.0, e))) (λ _ _. ap (with_first b) more) refl

first_line : (line rest : List ℕ) → IsLine line → lines_of (line ++ rest) ≡ line ∷ lines_of rest
first_line line rest (body, e, h) =
    subst (λ (z : List ℕ). lines_of (z ++ rest) ≡ z ∷ lines_of rest) (sym e) (line_there body rest h)

-- the lines that begin with `r ` under the queue; `here` says whether the text begins there
abbrev told : ℕ → Bool → List ℕ → List (List ℕ)
told q here text = filter (begins_with (codes "r ")) (lines_under q here (lines_of text))

-- those of lines of which the first begins otherwise
abbrev told_of : ℕ → Bool → List (List ℕ) → List (List ℕ)
told_of q here lines = filter (begins_with (codes "r ")) (lines_under q here lines)

passed : (q : ℕ) (here : Bool) (line rest : List ℕ) → IsLine line → begins_with (codes "queue ") line ≡ false
    → begins_with (codes "r ") line ≡ false → told q here (line ++ rest) ≡ told q here rest
passed q here line rest is other none =
    ap (told_of q here) (first_line line rest is)
    ∙ ap (λ t. filter (begins_with (codes "r ")) (if t
    then lines_under q (begins_with (codes "queue " ++ (decimal q ++ codes " ")) line) (lines_of rest)
    else (if here then line ∷ lines_under q here (lines_of rest) else lines_under q here (lines_of rest)))) other
    ∙ by_cases here (λ t. filter (begins_with (codes "r "))
    (if t then line ∷ lines_under q here (lines_of rest) else lines_under q here (lines_of rest)) ≡ told q here rest)
    (λ _. ap (λ t. cond t (line ∷ told q here rest) (told q here rest)) none) (λ _. refl)

queue_passed : (q i : ℕ) (here : Bool) (d : Definition) (rest : List ℕ) → FitsDefinition d → q < 2 ^ 64 → i < 2 ^ 64
    → told q here (queue_line i d ++ rest) ≡ told q (i == q) rest
queue_passed q i here d rest fits low there =
    let more : List ℕ = d.name ++ (codes " limit " ++ (decimal d.limit ++ (codes " error " ++ (error_text d.error
    ++ codes "\n")))) in
    ap (told_of q here) (first_line (queue_line i d) rest (queue_is_line i d fits))
    ∙ ap (λ t. told_of q t (lines_of rest)) (spaced_as q i more low there)

registrant_told : (q : ℕ) (here : Bool) (r : Registrant) (rest : List ℕ) → FitsRegistrant r
    → told q here (registrant_line r ++ rest) ≡ (if here then registrant_line r ∷ [] else []) ++ told q here rest
registrant_told q here r rest fits =
    ap (told_of q here) (first_line (registrant_line r) rest (registrant_is_line r fits))
    ∙ by_cases here (λ t. filter (begins_with (codes "r ")) (if t then registrant_line r ∷ lines_under q here (lines_of rest)
    else lines_under q here (lines_of rest)) ≡ (if t then registrant_line r ∷ [] else []) ++ told q here rest)
    (λ _. refl) (λ _. refl)

elements_passed : (q : ℕ) (here : Bool) (es : List Element) (rest : List ℕ)
    → told q here (flat_map element_line es ++ rest) ≡ told q here rest
elements_passed q here [] rest = refl
elements_passed q here (e ∷ es) rest =
    ap (told q here) (append_assoc (element_line e) (flat_map element_line es) rest)
    ∙ passed q here (element_line e) (flat_map element_line es ++ rest) (element_is_line e) refl refl
    ∙ elements_passed q here es rest

abbrev if_here : Bool → List Registrant → List (List ℕ)
if_here here rs = if here then map registrant_line rs else []

registrants_told : (q : ℕ) (here : Bool) (rs : List Registrant) (rest : List ℕ) → AllByRecursion FitsRegistrant rs
    → told q here (flat_map registrant_line rs ++ rest) ≡ if_here here rs ++ told q here rest
registrants_told q here [] rest h = by_cases here (λ t. told q here rest ≡ if_here t [] ++ told q here rest)
    (λ _. refl) (λ _. refl)
registrants_told q here (r ∷ rs) rest h =
    ap (told q here) (append_assoc (registrant_line r) (flat_map registrant_line rs) rest)
    ∙ registrant_told q here r (flat_map registrant_line rs ++ rest) h.0
    ∙ ap (λ (z : List (List ℕ)). (if here then registrant_line r ∷ [] else []) ++ z) (registrants_told q here rs rest h.1)
    ∙ by_cases here (λ t. (if t then registrant_line r ∷ [] else []) ++ (if_here t rs ++ told q here rest)
    ≡ if_here t (r ∷ rs) ++ told q here rest) (λ _. refl) (λ _. refl)

abbrev of_queue : ℕ → List Registrant → List Registrant
of_queue q rs = filter (λ r. r.queue == q) rs

queue_told : (q i : ℕ) (here : Bool) (d : Definition) (listing : List Element) (rs : List Registrant) (rest : List ℕ)
    → FitsDefinition d → AllByRecursion FitsRegistrant rs → q < 2 ^ 64 → i < 2 ^ 64
    → told q here (queue_text i d listing rs ++ rest) ≡ if_here (i == q) (of_queue i rs) ++ told q (i == q) rest
queue_told q i here d listing rs rest fits named low there =
    let mine = of_queue i rs in
    let xs = flat_map element_line listing in
    let ys = flat_map registrant_line mine in
    ap (told q here) (append_assoc (queue_line i d) (xs ++ ys) rest)
    ∙ queue_passed q i here d ((xs ++ ys) ++ rest) fits low there
    ∙ ap (told q (i == q)) (append_assoc xs ys rest)
    ∙ elements_passed q (i == q) listing (ys ++ rest)
    ∙ registrants_told q (i == q) mine rest (each_filter FitsRegistrant (λ r. r.queue == i) rs named)

-- the lines of the queues, from one of them on
abbrev picked : ℕ → ℕ → List Definition → List Registrant → List (List ℕ)
picked q i [] rs = []
picked q i (d ∷ ds) rs = if_here (i == q) (of_queue i rs) ++ picked q (i + 1) ds rs

queues_told : (q i : ℕ) (here : Bool) (ds : List Definition) (s : State) → AllByRecursion FitsDefinition ds
    → AllByRecursion FitsRegistrant s.registrants → q < 2 ^ 64 → i + length ds < 2 ^ 64
    → told q here (queues_made i ds s) ≡ picked q i ds s.registrants
queues_told q i here [] s fits named low few = refl
queues_told q i here (d ∷ ds) s fits named low few =
    queue_told q i here d (in_order (filter (is_free_at i) s.elements)) s.registrants (queues_made (i + 1) ds s) fits.0
    named low (omega (arith, few))
    ∙ ap (λ (z : List (List ℕ)). if_here (i == q) (of_queue i s.registrants) ++ z)
    (queues_told q (i + 1) (i == q) ds s fits.1 named low (omega (arith, few)))

picked_none : (q i : ℕ) (ds : List Definition) (rs : List Registrant) → (q < i) ⊎ (i + length ds ≤ q)
    → picked q i ds rs ≡ []
picked_none q i [] rs h = refl
picked_none q i (d ∷ ds) rs h =
    let apart : (i == q) ≡ false = ne_eqb i q (λ e. out e h) in
    ap (λ t. if_here t (of_queue i rs) ++ picked q (i + 1) ds rs) apart ∙ picked_none q (i + 1) ds rs (on h)
  where
    out : i ≡ q → (q < i) ⊎ (i + length (d ∷ ds) ≤ q) → ⊥
    out e (inl l) = omega (arith, e, l)
    out e (inr l) = omega (arith, e, l)

    on : (q < i) ⊎ (i + length (d ∷ ds) ≤ q) → (q < i + 1) ⊎ (i + 1 + length ds ≤ q)
    on (inl l) = inl (omega (arith, l))
    on (inr l) = inr (omega (arith, l))

picked_one : (q i : ℕ) (ds : List Definition) (rs : List Registrant) → i ≤ q → q < i + length ds
    → picked q i ds rs ≡ map registrant_line (of_queue q rs)
picked_one q i [] rs low high = absurd (omega (arith, low, high))
picked_one q i (d ∷ ds) rs low high = by_cases (i == q) (λ t. (i == q) ≡ t
    → if_here t (of_queue i rs) ++ picked q (i + 1) ds rs ≡ map registrant_line (of_queue q rs))
    (λ _ e. let same = eqb-true i q e in
    ap (λ (z : List (List ℕ)). map registrant_line (of_queue i rs) ++ z)
    (picked_none q (i + 1) ds rs (inl (omega (arith, same))))
    ∙ append-nil (map registrant_line (of_queue i rs))
    ∙ ap (λ (z : ℕ). map registrant_line (of_queue z rs)) same)
    (λ _ e. let apart : i ≢ q = eqb-false i q e in
    picked_one q (i + 1) ds rs (omega (arith, low, apart)) (omega (arith, high))) refl

-- all lines of the text that begin with `r ` under the queue
all_told : (q : ℕ) (r : Restarted) → AllByRecursion FitsDefinition r.state.definitions
    → AllByRecursion FitsRegistrant r.state.registrants
    → AllByRecursion (λ (t : Registrant). t.queue < length r.state.definitions) r.state.registrants
    → length r.state.definitions ≤ 4096 → q < 2 ^ 64
    → registrant_lines q (text_made r) ≡ map registrant_line (of_queue q r.state.registrants)
all_told q r fits named defined few low =
    let ds = r.state.definitions in
    let rs = r.state.registrants in
    let queues = queues_made 0 ds r.state in
    passed q false (front_line r) (units_line r ++ queues) (front_is_line r) refl refl
    ∙ passed q false (units_line r) queues (units_is_line r) refl refl
    ∙ queues_told q 0 false ds r.state fits named low (omega (arith, few))
    ∙ elim (cases_lt q (length ds)) [
      | inl within ↦ picked_one q 0 ds rs (omega arith) (omega (arith, within))
      | inr beyond ↦
          picked_none q 0 ds rs (inr (omega (arith, beyond)))
          ∙ sym (ap (map registrant_line) (filter_none (λ (t : Registrant). t.queue == q) rs
          (each_weaker (λ (t : Registrant). t.queue < length ds) (λ (t : Registrant). (t.queue == q) ≡ false)
          (λ t l. ne_eqb t.queue q (λ e. omega (arith, e, l, beyond))) rs defined)))
    ]

-- Names.

is_spelt : (name : List ℕ) → IsTrue (is_name name) → list_all is_name_byte name ≡ true
is_spelt name h = (and_parts _ (list_all is_name_byte name) h).1

begins_named : (name : List ℕ) (r : Registrant) → IsTrue (is_name name) → FitsRegistrant r
    → begins_with (codes "r " ++ (name ++ codes " ")) (registrant_line r) ≡ bytes_eq r.name name
begins_named name r is fits =
    let more : List ℕ = last_text r.last ++ codes "\n" in
    by_cases (bytes_eq r.name name) (λ t. bytes_eq r.name name ≡ t → meets r.name more ≡ t)
    (λ _ e. subst (λ (z : List ℕ). meets z more ≡ true) (sym ((bytes_eq-Decides r.name name).0 e))
    ((bytes_eq-Decides (take (length (name ++ 32 ∷ [])) (name ++ 32 ∷ more)) (name ++ 32 ∷ [])).1
    (begins_itself name more)))
    (λ _ e. by_cases (meets r.name more) (λ t. meets r.name more ≡ t → t ≡ false)
    (λ _ k. absurd (true_false (sym ((bytes_eq-Decides r.name name).1
    (sym (spaced name r.name more (is_spelt name is) (is_spelt r.name fits.0) k))) ∙ e)))
    (λ _ _. refl) refl) refl
  where
    meets : List ℕ → List ℕ → Bool
    meets z more = bytes_eq (take (length (name ++ 32 ∷ [])) (z ++ 32 ∷ more)) (name ++ 32 ∷ [])

    true_false : true ≡ false → ⊥
    true_false e = grind (arith, e)

named_told : (name : List ℕ) (rs : List Registrant) → IsTrue (is_name name) → AllByRecursion FitsRegistrant rs
    → filter (begins_with (codes "r " ++ (name ++ codes " "))) (map registrant_line rs)
    ≡ map registrant_line (filter (λ r. bytes_eq r.name name) rs)
named_told name [] is h = refl
named_told name (r ∷ rs) is h =
    let more = named_told name rs is h.1 in
    let xs = filter (begins_with (codes "r " ++ (name ++ codes " "))) (map registrant_line rs) in
    ap (λ t. cond t (registrant_line r ∷ xs) xs) (begins_named name r is h.0)
    ∙ by_cases (bytes_eq r.name name) (λ t. cond t (registrant_line r ∷ xs) xs
    ≡ map registrant_line (cond t (r ∷ filter (λ x. bytes_eq x.name name) rs) (filter (λ x. bytes_eq x.name name) rs)))
    (λ _. ap (λ (z : List (List ℕ)). registrant_line r ∷ z) more) (λ _. more)

-- Clients.

abbrev IsTold : List Record → Registrant → Type 0
IsTold rs r = r.last ≡ latest None (hears r.queue r.name empty rs)

some_pass : {X : Type 0} (p : X → Bool) (x : X) (xs : List X) → filter p xs ≡ x ∷ [] → list_any p xs ≡ true
some_pass p x xs e = elim (cases_Bool (list_any p xs)) [
  | inl there ↦ there
  | inr away ↦ let none : x ∷ [] ≡ [] = sym e ∙ filter_none p xs (none_passes p xs away) in absurd cc
]

-- the line of the one registrant
line_is : (q : ℕ) (name : List ℕ) (rs : List Record) (r : Registrant) → is_registrant q name r ≡ true → IsTold rs r
    → registrant_line r ≡ how_far_line q name rs
line_is q name rs r is last =
    let p = and_parts (r.queue == q) _ is in
    let queue = eqb-true r.queue q p.0 in
    let named : r.name ≡ name = (bytes_eq-Decides r.name name).0 p.1 in
    let far : r.last ≡ latest None (hears q name empty rs) =
    last ∙ (λ i. latest None (hears (queue i) (named i) empty rs)) in
    (λ i. codes "r " ++ (named i ++ (codes " " ++ (last_text (far i) ++ codes "\n"))))

client_told : (q : ℕ) (name : List ℕ) (rs : List Record) (s : State)
    → (filter (is_registrant q name) s.registrants ≡ [])
    ⊎ ((r : Registrant) × (filter (is_registrant q name) s.registrants ≡ r ∷ []))
    → is_registered s q name ≡ remains q name rs → AllByRecursion (IsTold rs) s.registrants
    → map registrant_line (filter (is_registrant q name) s.registrants)
    ≡ (if remains q name rs then how_far_line q name rs ∷ [] else [])
client_told q name rs s (inl none) registered lasts =
    let away : remains q name rs ≡ false = sym registered ∙ any_none (is_registrant q name) s.registrants none in
    ap (map registrant_line) none ∙ sym (ap (λ t. if t then how_far_line q name rs ∷ [] else []) away)
client_told q name rs s (inr (r, one)) registered lasts =
    let there : remains q name rs ≡ true = sym registered ∙ some_pass (is_registrant q name) r s.registrants one in
    let is = (subst (AllByRecursion (λ (t : Registrant). is_registrant q name t ≡ true)) one
    (each_passes (λ (t : Registrant). is_registrant q name t ≡ true) (is_registrant q name) (λ t k. k) s.registrants)).0 in
    let last = (subst (AllByRecursion (IsTold rs)) one
    (each_filter (IsTold rs) (is_registrant q name) s.registrants lasts)).0 in
    ap (map registrant_line) one ∙ ap (λ (z : List ℕ). z ∷ []) (line_is q name rs r is last)
    ∙ sym (ap (λ t. if t then how_far_line q name rs ∷ [] else []) there)

-- each registrant is registered
each_there : (rs : List Registrant)
    → AllByRecursion (λ (r : Registrant). list_any (is_registrant r.queue r.name) rs ≡ true) rs
each_there [] = tt
each_there (r ∷ rs) = (
  ap (λ t. t || list_any (is_registrant r.queue r.name) rs) (itself r.queue r.name r.last),
  each_weaker (λ (t : Registrant). list_any (is_registrant t.queue t.name) rs ≡ true)
      (λ (t : Registrant). list_any (is_registrant t.queue t.name) (r ∷ rs) ≡ true)
      (λ t k. ap (λ b. is_registrant t.queue t.name r || b) k ∙ or_true (is_registrant t.queue t.name r)) rs
      (each_there rs),
)
  where
    or_true : (b : Bool) → (b || true) ≡ true
    or_true true = refl
    or_true false = refl

-- what is asked of the state that a text is of
pub record Asked (rs : List Record) (s : State) : Type 0 where
  pub definitions : AllByRecursion FitsDefinition s.definitions
  pub named : AllByRecursion FitsRegistrant s.registrants
  pub defined : AllByRecursion (λ (t : Registrant). t.queue < length s.definitions) s.registrants
  pub few : length s.definitions ≤ 4096
  pub rise : Ordered (λ r t. registrant_before r t ≡ true) s.registrants
  pub registered : (queue : ℕ) (name : List ℕ) → is_registered s queue name ≡ remains queue name rs
  pub lasts : AllByRecursion (IsTold rs) s.registrants

one_client : (rs : List Record) (r : Restarted) → Asked rs r.state → (q : ℕ) (name : List ℕ) → q < 2 ^ 64
    → IsTrue (is_name name) → client_lines q name (text_made r)
    ≡ (if remains q name rs then how_far_line q name rs ∷ [] else [])
one_client rs r h q name low is =
    let regs = r.state.registrants in
    let head : List ℕ = codes "r " ++ (name ++ codes " ") in
    ap (filter (begins_with head)) (all_told q r h.definitions h.named h.defined h.few low)
    ∙ named_told name (of_queue q regs) is (each_filter FitsRegistrant (λ t. t.queue == q) regs h.named)
    ∙ ap (map registrant_line) (filter_comm (λ (t : Registrant). bytes_eq t.name name) (λ (t : Registrant). t.queue == q) regs
    ∙ filter_and (λ (t : Registrant). t.queue == q) (λ (t : Registrant). bytes_eq t.name name) regs)
    ∙ client_told q name rs r.state (single q name regs h.rise) (h.registered q name) h.lasts

only_clients : (rs : List Record) (r : Restarted) → Asked rs r.state → (q : ℕ) → q < 2 ^ 64
    → AllByRecursion (IsClientLine q rs) (registrant_lines q (text_made r))
only_clients rs r h q low =
    let regs = r.state.registrants in
    let told_there = each_both (IsTold rs)
    (λ (t : Registrant). list_any (is_registrant t.queue t.name) regs ≡ true) regs h.lasts (each_there regs) in
    let mine = each_both (λ (t : Registrant). (t.queue == q) ≡ true)
    (λ (t : Registrant). IsTold rs t × (list_any (is_registrant t.queue t.name) regs ≡ true)) (of_queue q regs)
    (each_passes (λ (t : Registrant). (t.queue == q) ≡ true) (λ t. t.queue == q) (λ t k. k) regs)
    (each_filter _ (λ t. t.queue == q) regs told_there) in
    subst (AllByRecursion (IsClientLine q rs)) (sym (all_told q r h.definitions h.named h.defined h.few low))
    (each_map _ (IsClientLine q rs) registrant_line (λ t (at, (last, there)).
    let queue = eqb-true t.queue q at in
    record {
      name = t.name;
      registered = ap (λ (z : ℕ). remains z t.name rs) (sym queue) ∙ sym (h.registered t.queue t.name) ∙ there;
      is = line_is q t.name rs t (and_from (t.queue == q) _ at ((bytes_eq-Decides t.name t.name).1 refl)) last;
    }) (of_queue q regs) mine)

pub tells_clients : (rs : List Record) (r : Restarted) → Asked rs r.state → TellsClients rs (text_made r)
tells_clients rs r h = record { client = one_client rs r h; only = only_clients rs r h }
