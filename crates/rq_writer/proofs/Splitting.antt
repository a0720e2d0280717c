-- The front of a log of records, some of which may be unlawful, and as the code has it.
use Rattle.std.proofs.Common.{◌≡◌, ◌+◌, ◌≤◌, Bool, true, false, List, [], ◌∷◌, ◌++◌, length, refl, sym, ap, subst}
use Rattle.std.proofs.Common.{◌∙◌, append_assoc, arith, ℕ, map}
use Rattle.std.specs.Prelude.{nat_lt}
use Rattle.std.specs.List.{AllByRecursion}
use Rattle.std.proofs.lemmas.List.{append-nil, length-append, map-append, length-map}
use Rattle.rq_model.specs.Records.{Record, Version}
use Rattle.rq_model.specs.Spelling.{IsRecord, body_of}
use Rattle.rq_model.specs.Frames.{start, header, bodies_of, frames_of, log_of, IsBodyLength, IsRun, Whole}
use Rattle.rq_model.specs.LogLaws.{RunStops, RecordHasOneBody, RunGivesFront}
use Rattle.rq_model.specs.States.{State, empty}
use Rattle.rq_model.specs.Machine.{all_lawful, lawful_front, run}
use Rattle.rq_model.proofs.Lists.{each_map}
use Rattle.rq_model.proofs.Restarts.{run_join, lawful_join, next_run, each_cut, frames_many}
use Rattle.rq_catalog.proofs.Fronts.{IsParted, Stops, parted, is_more, more_is}
use Rattle.rq_writer.specs.Made.{IsStateOf}
use Rattle.rq_writer.specs.Fronts.{Splits, AreLogged}
use Rattle.rq_record.specs.Views as code
use Rattle.rq_record.specs.Views.{record_of}

-- One record more.

pub open_keeps : (version : Version) (s : State) (since rs : List Record) (r : Record) → Splits version s since false rs
    → Splits version s (since ++ r ∷ []) false (rs ++ r ∷ [])
open_keeps version s since rs r h = (h.0, ap (λ l. l ++ r ∷ []) h.1 ∙ append_assoc h.0 since (r ∷ []), h.2, h.3)

pub ended_keeps : (version : Version) (s : State) (since rs : List Record) (r : Record) → Splits version s since true rs
    → Splits version s since true (rs ++ r ∷ [])
ended_keeps version s since rs r h =
    (h.0, h.1, h.2 ++ r ∷ [], ap (λ l. l ++ r ∷ []) h.3 ∙ append_assoc h.0 (h.1 ∷ h.2) (r ∷ []), h.4, h.5, h.6)

-- The records after the state are run as far as they are lawful.
pub caught_up : (version : Version) (s : State) (since rs : List Record) → Splits version s since false rs
    → Splits version (run s (lawful_front version s since))
    [] (nat_lt (length (lawful_front version s since)) (length since)) rs
caught_up version s since rs h = subst (λ b. Splits version (run s front) [] b rs) (sym below)
    (at p.more p.whole p.stop)
  where
    front : List Record
    front = lawful_front version s since

    p : IsParted version s since front
    p = parted version s since

    lawful : all_lawful version empty (h.0 ++ front) ≡ true
    lawful = lawful_join version empty h.0 front h.2 (subst (λ t. all_lawful version t front ≡ true) h.3 p.lawful)

    state : run s front ≡ run empty (h.0 ++ front)
    state = ap (λ t. run t front) h.3 ∙ sym (run_join empty h.0 front)

    below : nat_lt (length front) (length since) ≡ is_more p.more
    below = ap (λ l. nat_lt (length front) (length l)) p.whole ∙ more_is front p.more

    behind : (more : List Record) → since ≡ front ++ more → rs ≡ (h.0 ++ front) ++ more
    behind more whole = h.1 ∙ ap (λ l. h.0 ++ l) whole ∙ sym (append_assoc h.0 front more)

    at : (more : List Record) → since ≡ front ++ more → Stops version (run s front) more
        → Splits version (run s front) [] (is_more more) rs
    at [] whole stop = (h.0 ++ front, behind [] whole, lawful, state)
    at (r ∷ more) whole stop = (h.0 ++ front, r, more, behind (r ∷ more) whole, lawful, stop, state)

-- How many there are.

records_few : (version : Version) (rs : List Record) → length rs ≤ length (log_of version rs)
records_few version rs =
    omega (arith, frames_many (start version) rs, length-append (header version) (frames_of (start version) rs))

pub open_fits : (version : Version) (s : State) (since rs : List Record) → Splits version s since false rs
    → AreLogged version rs → s.next + length since ≤ 4294967295
open_fits version s since rs h logged =
    let next : s.next ≡ 0 + length h.0 = ap (λ t. t.next) h.3 ∙ next_run empty h.0 in
    omega (arith, next, ap length h.1, length-append h.0 since, records_few version rs, logged.fits)

pub state_fits : (version : Version) (rs : List Record) (s : State) → IsStateOf version rs s → s.next ≤ 4294967295
state_fits version rs s h =
    let next : s.next ≡ 0 + length h.0 = ap (λ t. t.next) h.3 ∙ next_run empty h.0 in
    let whole = h.2.longest.begins.whole in
    omega (
      arith,
      next,
      frames_many (start version) h.0,
      ap length whole,
      length-append (frames_of (start version) h.0) h.1,
      ap length h.2.whole,
      length-append (header version) h.2.bytes,
      h.2.short,
    )

-- The front.

-- what it rests on
pub record FrontLaws : Type 0 where
  pub stops : RunStops
  pub body : RecordHasOneBody
  pub gives : RunGivesFront

module _ (version : Version) (laws : FrontLaws) where
  whole_run : (rs : List Record) → AllByRecursion (IsRecord version) rs
      → IsRun (start version) (frames_of (start version) rs) (bodies_of rs) []
  whole_run rs h =
      let are = each_map (IsRecord version) (λ body. IsBodyLength (length body)) body_of
      (λ r is. (laws.body version r (body_of r) (body_of r) (is, refl) (is, refl)).1) rs h in
      laws.stops (start version) (frames_of (start version) rs) [] (bodies_of rs) Whole are
      (sym (append-nil (frames_of (start version) rs))) refl

  -- if nothing follows the state, it is the state after the front
  pub split_is_state : (s : State) (ended : Bool) (rs : List Record) → Splits version s [] ended rs
      → AreLogged version rs → IsStateOf version rs s
  split_is_state s false rs (done, whole, lawful, e) logged =
      let same : rs ≡ done = whole ∙ append-nil done in
      let bytes = frames_of (start version) rs in
      let longest = laws.gives.used version empty (start version) bytes [] rs Whole (whole_run rs logged.records) refl
      logged.records (rw same lawful) in
      (rs, [], record { short = logged.fits; bytes = bytes; whole = refl; longest = longest }, rw same e)
  split_is_state s true rs (done, first, more, same, lawful, unlawful, e) logged =
      let bytes = frames_of (start version) rs in
      let are = each_cut (IsRecord version) done (first ∷ more) (rw same at logged.records) in
      let run_is : IsRun (start version) bytes (bodies_of done ++ body_of first ∷ bodies_of more) [] =
      subst (λ bodies. IsRun (start version) bytes bodies [])
      (ap bodies_of same ∙ map-append body_of done (first ∷ more)) (whole_run rs logged.records) in
      let ends = laws.gives.law version empty (start version) bytes [] done (body_of first) (bodies_of more) first
      run_is are.0 lawful (are.1.0, refl) (rw e at unlawful) in
      (done, _, record { short = logged.fits; bytes = bytes; whole = refl; longest = ends.0 }, e)

pub pushed : (version : Version) (s : State) (old new : List code.Record) (r : code.Record) (ended : Bool)
    (rs : List Record) → ended ≡ false → new ≡ old ++ r ∷ [] → Splits version s (map record_of old) ended rs
    → Splits version s (map record_of new) ended (rs ++ record_of r ∷ [])
pushed version s old new r ended rs isnt e h =
    rw (isnt, e, map-append record_of old (r ∷ []))
    (open_keeps version s (map record_of old) rs (record_of r) (rw isnt at h))

pub let_go : (version : Version) (s : State) (since : List code.Record) (r : code.Record) (ended : Bool) (rs : List Record)
    → ended ≡ true → Splits version s (map record_of since) ended rs
    → Splits version s (map record_of since) ended (rs ++ record_of r ∷ [])
let_go version s since r ended rs so h =
    rw so (ended_keeps version s (map record_of since) rs (record_of r) (rw so at h))

pub behind_fits : (version : Version) (s : State) (since : List code.Record) (ended : Bool) (rs : List Record)
    → ended ≡ false → Splits version s (map record_of since) ended rs → AreLogged version rs
    → s.next + length since ≤ 4294967295
behind_fits version s since ended rs isnt h logged =
    omega (arith, open_fits version s (map record_of since) rs (rw isnt at h) logged, length-map since record_of)

pub ended_is : (version : Version) → FrontLaws → (s : State) (since : List code.Record) (ended : Bool)
    (rs : List Record) → ended ≡ true → Splits version s (map record_of since) ended rs → AreLogged version rs
    → IsStateOf version rs s
ended_is version laws s since ended rs so h logged = split_is_state version laws s true rs (rw so at h) logged

pub caught : (version : Version) → FrontLaws → (s t : State) (since given left : List code.Record) (ended after : Bool)
    (count : ℕ) (rs : List Record) → ended ≡ false → given ≡ since
    → t ≡ run s (lawful_front version s (map record_of given))
    → count ≡ length (lawful_front version s (map record_of given)) → after ≡ nat_lt count (length given) → left ≡ []
    → Splits version s (map record_of since) ended rs → AreLogged version rs
    → Splits version t (map record_of left) after rs × IsStateOf version rs t
caught version laws s t since given left ended after count rs isnt same is many e none h logged =
    let split : Splits version t [] after rs = rw (is, e, many, same, ← length-map since record_of)
    (caught_up version s (map record_of since) rs (rw isnt at h)) in
    (rw none split, split_is_state version laws t after rs split logged)
