-- How many lines of a report begin with `e p `.
use Rattle.std.proofs.Common.{◌≡◌, ◌≢◌, ℕ, zero, suc, ◌+◌, ◌<◌, ◌≤◌, ◌^◌, ◌/◌, ◌%◌, Bool, true, false, cond, not}
use Rattle.std.proofs.Common.{◌&&◌, List, [], ◌∷◌, ◌++◌, length, refl, sym, ap, ◌∙◌, subst, arith, append_assoc}
use Rattle.std.proofs.Common.{Option, Some, None}
use Rattle.std.specs.Prelude.{◌==◌, nat_lt, if◌then◌else◌, take, codes, filter, IsTrue}
use Rattle.std.specs.List.{list_all, flat_map, AllByRecursion}
use Rattle.std.specs.Str.{bytes_eq}
use Rattle.std.specs.Fmt.{decimal, digits, digits_onto, digit_glyph}
use Rattle.std.proofs.lemmas.Bool.{and_parts, eqb-true, eqb-false, eq-eqb, ne_eqb, cases_Bool}
use Rattle.std.proofs.lemmas.Slice.Eq.{bytes_eq-Decides}
use Rattle.std.proofs.lemmas.Fmt.{decimal_injective}
use Rattle.rq_model.specs.Spelling.{is_name, is_name_byte}
use Rattle.rq_model.specs.States.{Kind, Enqueued, Dequeued, Element, Last, Definition, Registrant, State, is_free}
use Rattle.rq_model.specs.Machine.{comes_first, is_free_at}
use Rattle.rq_model.specs.StateSpelling.{FitsDefinition, FitsRegistrant}
use Rattle.rq_model.specs.Fronts.{Why, Ends, Form, Law, Restarted}
use Rattle.rq_model.specs.Frames.{Whole, Cut, Length, Digest}
use Rattle.rq_model.specs.Reports.{hex_of, payload_text, error_text, element_text, why_text, front_line, units_line}
use Rattle.rq_model.specs.Reports.{queue_line, element_line, kind_text, last_text, registrant_line, queue_text}
use Rattle.rq_model.specs.WorkedLogs.{in_order, queues_made, text_made}
use Rattle.rq_model.specs.Fates.{has_id}
use Rattle.rq_model.specs.FateLaws.{begins_with, lines_that_begin}
use Rattle.rq_model.proofs.Lists.{by_cases, each_append, each_filter}

-- Bytes that end no line.

abbrev pub inside : ℕ → Bool
inside b = not (b == 10)

abbrev pub IsInside : List ℕ → Type 0
IsInside bytes = list_all inside bytes ≡ true

both_inside : (xs ys : List ℕ) → IsInside xs → IsInside ys → IsInside (xs ++ ys)
both_inside [] ys h k = k
both_inside (x ∷ xs) ys h k =
    let p = and_parts (inside x) (list_all inside xs) h in
    let more = both_inside xs ys p.1 k in
    let here = p.0 in grind (arith, here, more)

glyph_inside : (d : ℕ) → inside (digit_glyph false d) ≡ true
glyph_inside d = by_cases (nat_lt d 10) (λ b. not ((if b then 48 + d else 87 + d) == 10) ≡ true)
    (λ _. far (48 + d) (omega arith)) (λ _. far (87 + d) (omega arith))
  where
    far : (n : ℕ) → 10 < n → not (n == 10) ≡ true
    far n l = by_cases (n == 10) (λ b. (n == 10) ≡ b → not b ≡ true)
        (λ _ e. absurd (omega (arith, l, eqb-true n 10 e))) (λ _ _. refl) refl

onto_inside : (k n : ℕ) (acc : List ℕ) → IsInside acc → IsInside (digits_onto k 10 false n acc)
onto_inside zero n acc h = h
onto_inside (suc k) n acc h =
    let glyph = glyph_inside (n % 10) in
    let here : IsInside (digit_glyph false (n % 10) ∷ acc) =
    ap (λ b. b && list_all inside acc) glyph ∙ h in
    by_cases (n / 10 == 0) (λ b. IsInside (if b then digit_glyph false (n % 10) ∷ acc
    else digits_onto k 10 false (n / 10) (digit_glyph false (n % 10) ∷ acc)))
    (λ _. here) (λ _. onto_inside k (n / 10) (digit_glyph false (n % 10) ∷ acc) here)

decimal_inside : (n : ℕ) → IsInside (decimal n)
unfolding digits
decimal_inside n = onto_inside 64 n [] refl

name_byte_inside : (b : ℕ) → is_name_byte b ≡ true → inside b ≡ true
name_byte_inside b h = by_cases (b == 10) (λ t. (b == 10) ≡ t → not t ≡ true)
    (λ _ e. let no : is_name_byte 10 ≡ true = subst (λ (z : ℕ). is_name_byte z ≡ true) (eqb-true b 10 e) h in
    absurd (grind (arith, no)))
    (λ _ _. refl) refl

bytes_inside : (bs : List ℕ) → list_all is_name_byte bs ≡ true → IsInside bs
bytes_inside [] h = refl
bytes_inside (b ∷ bs) h =
    let p = and_parts (is_name_byte b) (list_all is_name_byte bs) h in
    ap (λ t. t && list_all inside bs) (name_byte_inside b p.0) ∙ bytes_inside bs p.1

name_inside : (name : List ℕ) → IsTrue (is_name name) → IsInside name
name_inside name h = bytes_inside name (and_parts _ (list_all is_name_byte name) h).1

hex_inside : (bytes : List ℕ) → IsInside (flat_map hex_of bytes)
hex_inside [] = refl
hex_inside (b ∷ bytes) =
    let more = hex_inside bytes in
    let high = glyph_inside (b / 16) in
    let low = glyph_inside (b % 16) in
    ap (λ t. t && (inside (digit_glyph false (b % 16)) && list_all inside (flat_map hex_of bytes))) high
    ∙ ap (λ t. t && list_all inside (flat_map hex_of bytes)) low ∙ more

payload_inside : (payload : List ℕ) → IsInside (payload_text payload)
payload_inside [] = refl
payload_inside (b ∷ bytes) = hex_inside (b ∷ bytes)

-- Lines.

-- bytes that end no line, and an LF
abbrev pub IsLine : List ℕ → Type 0
IsLine line = (body : List ℕ) × (line ≡ body ++ 10 ∷ []) × IsInside body

ends_line : IsLine (codes "\n")
ends_line = ([], refl, refl)

further : (xs : List ℕ) {line : List ℕ} → IsInside xs → IsLine line → IsLine (xs ++ line)
further xs {line} h (body, e, k) =
    (xs ++ body, ap (λ (z : List ℕ). xs ++ z) e ∙ sym (append_assoc xs body (10 ∷ [])), both_inside xs body h k)

why_inside : (why : Why) → IsInside (why_text why)
why_inside (Ends Whole) = refl
why_inside (Ends Cut) = refl
why_inside (Ends Length) = refl
why_inside (Ends Digest) = refl
why_inside Form = refl
why_inside Law = refl

number : (n : ℕ) {line : List ℕ} → IsLine line → IsLine (decimal n ++ line)
number n is = further (decimal n) (decimal_inside n) is

pub front_is_line : (r : Restarted) → IsLine (front_line r)
front_is_line r = further (codes "front ") refl (number r.records (further (codes " records, ") refl
    (number r.used (further (codes " of ") refl (number r.total (further (codes " bytes, ") refl
    (further (why_text r.why) (why_inside r.why) ends_line)))))))

pub units_is_line : (r : Restarted) → IsLine (units_line r)
units_is_line r = further (codes "units ") refl (number r.committed (further (codes " committed, ") refl
    (number r.aborted (further (codes " aborted, ") refl (number r.cut_off (codes " cut off", refl, refl))))))

error_inside : (error : ℕ) → IsInside (error_text error)
error_inside error = by_cases (error == 4294967295) (λ b. IsInside (if b then codes "-" else decimal error))
    (λ _. refl) (λ _. decimal_inside error)

pub queue_is_line : (queue : ℕ) (d : Definition) → FitsDefinition d → IsLine (queue_line queue d)
queue_is_line queue d fits = further (codes "queue ") refl (number queue (further (codes " ") refl
    (further d.name (name_inside d.name fits) (further (codes " limit ") refl (number d.limit
    (further (codes " error ") refl (further (error_text d.error) (error_inside d.error) ends_line)))))))

pub element_is_line : (e : Element) → IsLine (element_line e)
element_is_line e = further (codes "e ") refl (number e.id (further (codes " from ") refl (number e.origin
    (further (codes " priority ") refl (number e.priority (further (codes " attempts ") refl (number e.attempts
    (further (codes " ") refl (further (payload_text e.payload) (payload_inside e.payload) ends_line)))))))))

id_inside : (id : Option ℕ) → IsInside (element_text id)
id_inside None = refl
id_inside (Some id) = decimal_inside id

last_inside : (last : Option Last) → IsInside (last_text last)
last_inside None = refl
last_inside (Some l) =
    let id : List ℕ = codes " element " ++ element_text l.element in
    let tag : List ℕ = codes " tag " ++ (decimal l.tag ++ id) in
    both_inside (kind_text l.kind) tag (kind l.kind) (both_inside (codes " tag ") (decimal l.tag ++ id) refl
    (both_inside (decimal l.tag) id (decimal_inside l.tag)
    (both_inside (codes " element ") (element_text l.element) refl (id_inside l.element))))
  where
    kind : (k : Kind) → IsInside (kind_text k)
    kind Enqueued = refl
    kind Dequeued = refl

pub registrant_is_line : (r : Registrant) → FitsRegistrant r → IsLine (registrant_line r)
registrant_is_line r fits = further (codes "r ") refl (further r.name (name_inside r.name fits.0)
    (further (codes " ") refl (further (last_text r.last) (last_inside r.last) ends_line)))

-- Counting.

in_line : (head body rest : List ℕ) → IsInside body
    → lines_that_begin head false (body ++ 10 ∷ rest) ≡ lines_that_begin head true rest
in_line head [] rest h = omega arith
in_line head (b ∷ body) rest h =
    let p = and_parts (inside b) (list_all inside body) h in
    let no : (b == 10) ≡ false = by_cases (b == 10) (λ t. not t ≡ true → t ≡ false) (λ _ k. absurd (grind
    (arith, k))) (λ _ _. refl) p.0 in
    let more = in_line head body rest p.1 in
    ap (λ t. 0 + lines_that_begin head t (body ++ 10 ∷ rest)) no ∙ omega (arith, more)

after_body : (head body rest : List ℕ) → IsInside body
    → lines_that_begin head true (body ++ 10 ∷ rest)
    ≡ (if begins_with head (body ++ 10 ∷ rest) then 1 else 0) + lines_that_begin head true rest
after_body head [] rest h = refl
after_body head (b ∷ body) rest h =
    let p = and_parts (inside b) (list_all inside body) h in
    let no : (b == 10) ≡ false = by_cases (b == 10) (λ t. not t ≡ true → t ≡ false) (λ _ k. absurd (grind
    (arith, k))) (λ _ _. refl) p.0 in
    ap (λ (t : ℕ). (if begins_with head (b ∷ body ++ 10 ∷ rest) then 1 else 0) + t)
    (ap (λ t. lines_that_begin head t (body ++ 10 ∷ rest)) no ∙ in_line head body rest p.1)

after_line : (head line rest : List ℕ) → IsLine line
    → lines_that_begin head true (line ++ rest)
    ≡ (if begins_with head (line ++ rest) then 1 else 0) + lines_that_begin head true rest
after_line head line rest (body, e, h) =
    let whole : line ++ rest ≡ body ++ 10 ∷ rest = ap (λ (z : List ℕ). z ++ rest) e ∙ append_assoc body
    (10 ∷ []) rest in
    subst (λ (z : List ℕ). lines_that_begin head true z ≡ (if begins_with head z then 1 else 0)
    + lines_that_begin head true rest)
    (sym whole) (after_body head body rest h)

-- a line that begins otherwise
passed_line : (head line rest : List ℕ) → IsLine line → begins_with head (line ++ rest) ≡ false
    → lines_that_begin head true (line ++ rest) ≡ lines_that_begin head true rest
passed_line head line rest is other = after_line head line rest is
    ∙ ap (λ b. (if b then 1 else 0) + lines_that_begin head true rest) other ∙ omega arith

-- Numbers before a space.

not_space : (y : ℕ) → is_name_byte y ≡ true → y ≡ 32 → ⊥
not_space y h e = let no : is_name_byte 32 ≡ true = subst (λ (z : ℕ). is_name_byte z ≡ true) e h in grind (arith, no)

pub spaced : (xs ys more : List ℕ) → list_all is_name_byte xs ≡ true → list_all is_name_byte ys ≡ true
    → bytes_eq (take (length (xs ++ 32 ∷ [])) (ys ++ 32 ∷ more)) (xs ++ 32 ∷ []) ≡ true → xs ≡ ys
spaced [] [] more h k e = refl
spaced [] (y ∷ ys) more h k e =
    absurd (not_space y (and_parts (is_name_byte y) _ k).0 (eqb-true y 32 (and_parts (y == 32) true e).0))
spaced (x ∷ xs) [] more h k e =
    absurd (not_space x (and_parts (is_name_byte x) _ h).0 (sym (eqb-true 32 x (and_parts (32 == x) _ e).0)))
spaced (x ∷ xs) (y ∷ ys) more h k e =
    let p = and_parts (y == x) _ e in
    let tails = spaced xs ys more (and_parts (is_name_byte x) _ h).1 (and_parts (is_name_byte y) _ k).1 p.1 in
    let here = sym (eqb-true y x p.0) in
    (λ i. here i ∷ tails i)

onto_digits : (k n : ℕ) (acc : List ℕ) → list_all is_name_byte acc ≡ true
    → list_all is_name_byte (digits_onto k 10 false n acc) ≡ true
onto_digits zero n acc h = h
onto_digits (suc k) n acc h =
    let here : list_all is_name_byte (digit_glyph false (n % 10) ∷ acc) ≡ true =
    ap (λ b. b && list_all is_name_byte acc) (glyph (n % 10) (omega arith)) ∙ h in
    by_cases (n / 10 == 0) (λ b. list_all is_name_byte (if b then digit_glyph false (n % 10) ∷ acc
    else digits_onto k 10 false (n / 10) (digit_glyph false (n % 10) ∷ acc)) ≡ true)
    (λ _. here) (λ _. onto_digits k (n / 10) (digit_glyph false (n % 10) ∷ acc) here)
  where
    glyph : (d : ℕ) → d < 10 → is_name_byte (digit_glyph false d) ≡ true
    glyph zero l = refl
    glyph (suc zero) l = refl
    glyph (suc (suc zero)) l = refl
    glyph (suc (suc (suc zero))) l = refl
    glyph (suc (suc (suc (suc zero)))) l = refl
    glyph (suc (suc (suc (suc (suc zero))))) l = refl
    glyph (suc (suc (suc (suc (suc (suc zero)))))) l = refl
    glyph (suc (suc (suc (suc (suc (suc (suc zero))))))) l = refl
    glyph (suc (suc (suc (suc (suc (suc (suc (suc zero)))))))) l = refl
    glyph (suc (suc (suc (suc (suc (suc (suc (suc (suc zero))))))))) l = refl
    glyph (suc (suc (suc (suc (suc (suc (suc (suc (suc (suc d)))))))))) l = absurd (omega (arith, l))

decimal_digits : (n : ℕ) → list_all is_name_byte (decimal n) ≡ true
unfolding digits
decimal_digits n = onto_digits 64 n [] refl

pub begins_itself : (xs more : List ℕ) → take (length (xs ++ 32 ∷ [])) (xs ++ 32 ∷ more) ≡ xs ++ 32 ∷ []
begins_itself [] more = refl
begins_itself (x ∷ xs) more = ap (λ (z : List ℕ). x ∷ z) (begins_itself xs more)

-- what a line `e p ..` begins with
abbrev pub head_of : ℕ → List ℕ
head_of p = codes "e " ++ (decimal p ++ codes " ")

pub spaced_as : (p id : ℕ) (more : List ℕ) → p < 2 ^ 64 → id < 2 ^ 64
    → bytes_eq (take (length (decimal p ++ 32 ∷ [])) (decimal id ++ 32 ∷ more)) (decimal p ++ 32 ∷ []) ≡ (id == p)
spaced_as p id more low there =
    by_cases (id == p) (λ b. (id == p) ≡ b → meets id ≡ b)
    (λ _ e. subst (λ (z : ℕ). meets z ≡ true) (sym (eqb-true id p e))
    ((bytes_eq-Decides (take (length (decimal p ++ 32 ∷ [])) (decimal p ++ 32 ∷ more)) (decimal p ++ 32 ∷ [])).1
    (begins_itself (decimal p) more)))
    (λ _ e. by_cases (meets id) (λ b. meets id ≡ b → b ≡ false)
    (λ _ k. let same : p ≡ id = decimal_injective p id low there
    (spaced (decimal p) (decimal id) more (decimal_digits p) (decimal_digits id) k) in
    absurd (true_false (sym (eq-eqb id p (sym same)) ∙ e))) (λ _ _. refl) refl) refl
  where
    meets : ℕ → Bool
    meets z = bytes_eq (take (length (decimal p ++ 32 ∷ [])) (decimal z ++ 32 ∷ more)) (decimal p ++ 32 ∷ [])

    true_false : true ≡ false → ⊥
    true_false e = grind (arith, e)

begins_as : (p : ℕ) (e : Element) (rest : List ℕ) → p < 2 ^ 64 → e.id < 2 ^ 64
    → begins_with (head_of p) (element_line e ++ rest) ≡ (e.id == p)
begins_as p e rest low there =
    let more : List ℕ = codes "from " ++ (decimal e.origin ++ (codes " priority " ++ (decimal e.priority
    ++ (codes " attempts " ++ (decimal e.attempts ++ (codes " " ++ (payload_text e.payload ++ codes "\n"))))))) in
    ap (λ (z : List ℕ). bytes_eq (take (length (decimal p ++ 32 ∷ [])) z) (decimal p ++ 32 ∷ []))
    (append_assoc (decimal e.id) (32 ∷ more) rest)
    ∙ spaced_as p e.id (more ++ rest) low there

-- Elements.

abbrev tally : (Element → Bool) → List Element → ℕ
tally f [] = 0
tally f (e ∷ es) = (if f e then 1 else 0) + tally f es

tally-append : (f : Element → Bool) (xs ys : List Element) → tally f (xs ++ ys) ≡ tally f xs + tally f ys
tally-append f [] ys = omega arith
tally-append f (x ∷ xs) ys = omega (arith, tally-append f xs ys)

tally_split : (f b : Element → Bool) (xs : List Element)
    → tally f xs ≡ tally f (filter b xs) + tally f (filter (λ x. not (b x)) xs)
tally_split f b [] = refl
tally_split f b (x ∷ xs) =
    let more = tally_split f b xs in
    by_cases (b x) (λ t. tally f (x ∷ xs) ≡ tally f (cond t (x ∷ filter b xs) (filter b xs))
    + tally f (cond (not t) (x ∷ filter (λ x. not (b x)) xs) (filter (λ x. not (b x)) xs)))
    (λ _. omega (arith, more)) (λ _. omega (arith, more))

tally_order : (f : Element → Bool) (es : List Element) → tally f (in_order es) ≡ tally f es
tally_order f [] = refl
tally_order f (e ∷ es) =
    let xs = in_order es in
    let b : Element → Bool = λ y. comes_first y e in
    let more = tally_order f es in
    let parts = tally_split f b xs in
    let whole = tally-append f (filter b xs) (e ∷ filter (λ y. not (b y)) xs) in
    omega (arith, more, parts, whole)

pub tally_length : (f : Element → Bool) (es : List Element) → length (filter f es) ≡ tally f es
tally_length f [] = refl
tally_length f (e ∷ es) =
    let more = tally_length f es in
    by_cases (f e) (λ b. length (cond b (e ∷ filter f es) (filter f es)) ≡ (if b then 1 else 0) + tally f es)
    (λ _. omega (arith, more)) (λ _. omega (arith, more))

each_order : (P : Element → Type 0) (es : List Element) → AllByRecursion P es → AllByRecursion P (in_order es)
each_order P [] h = tt
each_order P (e ∷ es) h =
    let more = each_order P es h.1 in
    each_append P (filter (λ y. comes_first y e) (in_order es)) _ (each_filter P _ (in_order es) more)
    (h.0, each_filter P _ (in_order es) more)

abbrev pub IsNarrow : Element → Type 0
IsNarrow e = e.id < 2 ^ 64

elements_told : (p : ℕ) (es : List Element) (rest : List ℕ) → p < 2 ^ 64 → AllByRecursion IsNarrow es
    → lines_that_begin (head_of p) true (flat_map element_line es ++ rest)
    ≡ tally (has_id p) es + lines_that_begin (head_of p) true rest
elements_told p [] rest low h = omega arith
elements_told p (e ∷ es) rest low h =
    let more = elements_told p es rest low h.1 in
    let others = flat_map element_line es ++ rest in
    let here = ap (lines_that_begin (head_of p) true) (append_assoc (element_line e) (flat_map element_line es) rest)
    ∙ after_line (head_of p) (element_line e) others (element_is_line e)
    ∙ ap (λ b. (if b then 1 else 0) + lines_that_begin (head_of p) true others) (begins_as p e others low h.0) in
    omega (arith, here, more)

registrants_told : (p : ℕ) (rs : List Registrant) (rest : List ℕ) → AllByRecursion FitsRegistrant rs
    → lines_that_begin (head_of p) true (flat_map registrant_line rs ++ rest) ≡ lines_that_begin (head_of p) true rest
registrants_told p [] rest h = refl
registrants_told p (r ∷ rs) rest h =
    ap (lines_that_begin (head_of p) true) (append_assoc (registrant_line r) (flat_map registrant_line rs) rest)
    ∙ passed_line (head_of p) (registrant_line r) (flat_map registrant_line rs ++ rest)
    (registrant_is_line r h.0) refl
    ∙ registrants_told p rs rest h.1

queue_told : (p queue : ℕ) (d : Definition) (listing : List Element) (rs : List Registrant) (rest : List ℕ)
    → p < 2 ^ 64 → FitsDefinition d → AllByRecursion IsNarrow listing → AllByRecursion FitsRegistrant rs
    → lines_that_begin (head_of p) true (queue_text queue d listing rs ++ rest)
    ≡ tally (has_id p) listing + lines_that_begin (head_of p) true rest
queue_told p queue d listing rs rest low fits narrow named =
    let mine = filter (λ r. r.queue == queue) rs in
    let xs = flat_map element_line listing in
    let ys = flat_map registrant_line mine in
    let one = ap (lines_that_begin (head_of p) true) (append_assoc (queue_line queue d) (xs ++ ys) rest)
    ∙ passed_line (head_of p) (queue_line queue d) ((xs ++ ys) ++ rest) (queue_is_line queue d fits) refl
    ∙ ap (lines_that_begin (head_of p) true) (append_assoc xs ys rest) in
    let two = elements_told p listing (ys ++ rest) low narrow in
    let three = registrants_told p mine rest (each_filter FitsRegistrant (λ r. r.queue == queue) rs named) in
    omega (arith, one, two, three)

-- the elements of the queues, from one of them on
abbrev at_queues : (Element → Bool) → ℕ → List Definition → List Element → ℕ
at_queues f queue [] es = 0
at_queues f queue (d ∷ ds) es = tally f (filter (is_free_at queue) es) + at_queues f (queue + 1) ds es

queues_told : (p queue : ℕ) (ds : List Definition) (s : State) → p < 2 ^ 64 → AllByRecursion FitsDefinition ds
    → AllByRecursion FitsRegistrant s.registrants → AllByRecursion IsNarrow s.elements
    → lines_that_begin (head_of p) true (queues_made queue ds s) ≡ at_queues (has_id p) queue ds s.elements
queues_told p queue [] s low fits named narrow = refl
queues_told p queue (d ∷ ds) s low fits named narrow =
    let free = filter (is_free_at queue) s.elements in
    let more = queues_told p (queue + 1) ds s low fits.1 named narrow in
    let here = queue_told p queue d (in_order free) s.registrants (queues_made (queue + 1) ds s) low fits.0
    (each_order IsNarrow free (each_filter IsNarrow (is_free_at queue) s.elements narrow)) named in
    let order = tally_order (has_id p) free in
    omega (arith, more, here, order)

-- one element, which is in one queue
abbrev at_one : (Element → Bool) → ℕ → List Definition → Element → ℕ
at_one f queue [] e = 0
at_one f queue (d ∷ ds) e = (if is_free_at queue e && f e then 1 else 0) + at_one f (queue + 1) ds e

first_apart : (f : Element → Bool) (queue : ℕ) (ds : List Definition) (e : Element) (es : List Element)
    → at_queues f queue ds (e ∷ es) ≡ at_one f queue ds e + at_queues f queue ds es
first_apart f queue [] e es = omega arith
first_apart f queue (d ∷ ds) e es =
    let more = first_apart f (queue + 1) ds e es in
    by_cases (is_free_at queue e) (λ b. tally f (cond b (e ∷ filter (is_free_at queue) es) (filter
    (is_free_at queue) es))
    + at_queues f (queue + 1) ds (e ∷ es) ≡ ((if b && f e then 1 else 0) + at_one f (queue + 1) ds e)
    + (tally f (filter (is_free_at queue) es) + at_queues f (queue + 1) ds es))
    (λ _. omega (arith, more)) (λ _. omega (arith, more))

none_ahead : (f : Element → Bool) (queue : ℕ) (ds : List Definition) (e : Element) → e.home < queue
    → at_one f queue ds e ≡ 0
none_ahead f queue [] e l = refl
none_ahead f queue (d ∷ ds) e l =
    let more = none_ahead f (queue + 1) ds e (omega (arith, l)) in
    let apart : (e.home == queue) ≡ false = ne_eqb e.home queue (λ i. omega (arith, i, l)) in
    let other : (is_free_at queue e && f e) ≡ false = grind (
      arith,
      apart,
      cases_Bool (is_free e.mark),
      cases_Bool
          (f e),
    ) in
    ap (λ b. (if b then 1 else 0) + at_one f (queue + 1) ds e) other ∙ omega (arith, more)

one_within : (f : Element → Bool) (queue : ℕ) (ds : List Definition) (e : Element) → is_free e.mark ≡ true
    → queue ≤ e.home → e.home < queue + length ds → at_one f queue ds e ≡ (if f e then 1 else 0)
one_within f queue [] e free l h = absurd (omega (arith, l, h))
one_within f queue (d ∷ ds) e free l h = by_cases (e.home == queue) (λ b. (e.home == queue) ≡ b
    → at_one f queue (d ∷ ds) e ≡ (if f e then 1 else 0))
    (λ _ k. let none = none_ahead f (queue + 1) ds e (omega (arith, eqb-true e.home queue k)) in
    let here : (is_free_at queue e && f e) ≡ f e = grind (arith, free, k, cases_Bool (f e)) in
    ap (λ b. (if b then 1 else 0) + at_one f (queue + 1) ds e) here ∙ omega (arith, none))
    (λ _ k. let apart : e.home ≢ queue = eqb-false e.home queue k in
    let more = one_within f (queue + 1) ds e free (omega (arith, l, apart)) (omega (arith, h)) in
    let other : (is_free_at queue e && f e) ≡ false = grind (
      arith,
      k,
      cases_Bool (is_free e.mark),
      cases_Bool
          (f e),
    ) in
    ap (λ b. (if b then 1 else 0) + at_one f (queue + 1) ds e) other ∙ omega (arith, more)) refl

pub record StandsIn (ds : List Definition) (e : Element) : Type 0 where
  pub free : is_free e.mark ≡ true
  pub home : e.home < length ds

none_at : (f : Element → Bool) (queue : ℕ) (ds : List Definition) → at_queues f queue ds [] ≡ 0
none_at f queue [] = refl
none_at f queue (d ∷ ds) = omega (arith, none_at f (queue + 1) ds)

all_at : (f : Element → Bool) (ds : List Definition) (es : List Element) → AllByRecursion (StandsIn ds) es
    → at_queues f 0 ds es ≡ tally f es
all_at f ds [] h = none_at f 0 ds
all_at f ds (e ∷ es) h =
    let more = all_at f ds es h.1 in
    let here = one_within f 0 ds e h.0.free (omega arith) (omega (arith, h.0.home)) in
    let apart = first_apart f 0 ds e es in
    omega (arith, more, here, apart)

-- how many lines of the text of a restart begin with `e p `
pub text_told : (p : ℕ) (r : Restarted) → p < 2 ^ 64 → AllByRecursion FitsDefinition r.state.definitions
    → AllByRecursion FitsRegistrant r.state.registrants → AllByRecursion IsNarrow r.state.elements
    → AllByRecursion (StandsIn r.state.definitions) r.state.elements
    → lines_that_begin (head_of p) true (text_made r) ≡ length (filter (has_id p) r.state.elements)
text_told p r low fits named narrow stand =
    let s = r.state in
    let queues = queues_made 0 s.definitions s in
    passed_line (head_of p) (front_line r) (units_line r ++ queues) (front_is_line r) refl
    ∙ passed_line (head_of p) (units_line r) queues (units_is_line r) refl
    ∙ queues_told p 0 s.definitions s low fits named narrow
    ∙ all_at (has_id p) s.definitions s.elements stand
    ∙ sym (tally_length (has_id p) s.elements)
