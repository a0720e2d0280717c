-- Records taken up to the first that is not lawful.
use Rattle.std.proofs.Common.{◌≡◌, ◌+◌, ◌<◌, ◌≤◌, ℕ, Bool, true, false, List, ◌∷◌, [], ◌++◌, length, map, take, drop}
use Rattle.std.proofs.Common.{refl, sym, ap, subst, ◌∙◌, append_assoc, arith}
use Rattle.std.specs.Prelude.{if◌then◌else◌, slice_index_or, Result, Ok, Err, IfOk, IfSome}
use Rattle.std.proofs.lemmas.List.{length-append, length-map, length-take, take-append-drop, take_all}
use Rattle.std.proofs.lemmas.List.{take-map}
use Rattle.rq_model.specs.Records.{Record, Version}
use Rattle.rq_model.specs.States.{State}
use Rattle.rq_model.specs.Machine.{is_lawful, step, run, all_lawful, lawful_front}
use Rattle.rq_record.specs.Views.{Record as Own, record_of}
use Rattle.rq_catalog.proofs.Fronts.{kept_is, parted, IsParted}
use Rattle.rq_catalog.proofs.Runs.{front_stops, front_whole, lawful_push}
use Rattle.rq_restart.specs.Taking.{TakesOne}
use Rattle.rq_restart.proofs.Walks.{one_more, run_further}
use Rattle.std.specs.Result.{result_ok}
use Rattle.rq_model.proofs.Restarts.{lawful_join, next_run, run_join}
use Rattle.rq_record.specs.declared.fault.Fault.{Fault}
use Rattle.rq_exchange.specs.Gathering.{ComesTo}

-- t is the state i records behind s, and these are lawful
abbrev pub HasTaken : Version → State → List Own → ℕ → State → Type 0
HasTaken version s all i t = (all_lawful version s (take i (map record_of all)) ≡ true)
    × (t ≡ run s (take i (map record_of all)))

-- the state after a record, whether or not it is lawful
after : (version : Version) (s t u : State) (r : Record) (lawful : Bool) → t ≡ s → TakesOne version t r u lawful
    → (lawful ≡ is_lawful version s r) × (u ≡ (if lawful then step s r else s))
after version s t u r lawful is one = (
  one.judged ∙ ap (λ (x : State). is_lawful version x r) is,
  one.state ∙ ap (λ (x : State). if lawful then step x r else x) is,
)

pub one_further : (version : Version) (s t u : State) (all : List Own) (i : ℕ) (r : Own) (lawful : Bool)
    → i < length all → r ≡ slice_index_or all i r → HasTaken version s all i t
    → TakesOne version t (record_of r) u lawful → lawful ≡ true → HasTaken version s all (i + 1) u
one_further version s t u all i r lawful lt is had one taken =
    let rs = map record_of all in
    let behind = run s (take i rs) in
    let next = after version behind t u (record_of r) lawful had.1 one in (
      ap (all_lawful version s) (one_more all i r lt is)
          ∙ lawful_push version s (take i rs) (record_of r) had.0 (sym next.0 ∙ taken),
      next.1 ∙ ap (λ (b : Bool). if b then step behind (record_of r) else behind) taken ∙ run_further s all i r lt is,
    )

-- the records up to one that is not lawful
ends_before : (version : Version) (s : State) (all : List Own) (i : ℕ) (r : Own) → i < length all
    → r ≡ slice_index_or all i r → all_lawful version s (take i (map record_of all)) ≡ true
    → is_lawful version (run s (take i (map record_of all))) (record_of r) ≡ false
    → take i (map record_of all) ≡ lawful_front version s (map record_of all)
ends_before version s all i r lt is so broken =
    let rs = map record_of all in
    sym (front_stops version s (take i rs) (record_of r) (drop (i + 1) rs) so broken)
    ∙ ap (lawful_front version s) (sym (append_assoc (take i rs) (record_of r ∷ []) (drop (i + 1) rs))
    ∙ ap (λ (xs : List Record). xs ++ drop (i + 1) rs) (sym (one_more all i r lt is)) ∙ take-append-drop (i + 1) rs)

pub ends_there : (version : Version) (s t u : State) (all : List Own) (i : ℕ) (r : Own) (lawful : Bool)
    → i < length all → r ≡ slice_index_or all i r → HasTaken version s all i t
    → TakesOne version t (record_of r) u lawful → lawful ≡ false → ComesTo version s (map record_of all) u i
ends_there version s t u all i r lawful lt is had one broken =
    let rs = map record_of all in
    let behind = run s (take i rs) in
    let next = after version behind t u (record_of r) lawful had.1 one in
    let front = ends_before version s all i r lt is had.0 (sym next.0 ∙ broken) in
    record {
      count = omega (arith, lt, length-map all record_of, length-take i rs, ap length front);
      state = next.1 ∙ ap (λ (b : Bool). if b then step behind (record_of r) else behind) broken ∙ ap (run s) front;
    }

pub all_taken : (version : Version) (s t : State) (all : List Own) (i : ℕ) → length all ≤ i
    → HasTaken version s all i t → ComesTo version s (map record_of all) t (length all)
all_taken version s t all i end had =
    let rs = map record_of all in
    let whole : take i rs ≡ rs = take_all i rs (omega (arith, end, length-map all record_of)) in
    let front = front_whole version s rs (sym (ap (all_lawful version s) whole) ∙ had.0) in
    record {
      count = sym (ap length front ∙ length-map all record_of);
      state = had.1 ∙ ap (run s) (whole ∙ sym front);
    }
