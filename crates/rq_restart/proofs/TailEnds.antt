-- The end of a front that was found, from the start of a log or from a checkpoint on, with the aborts behind it.
use Rattle.std.proofs.Common.{◌≡◌, ℕ, ◌+◌, ◌-◌, ◌/◌, ◌<◌, ◌≤◌, List, ◌∷◌, ◌++◌, length, map, take, drop, refl, sym, ap}
use Rattle.std.proofs.Common.{subst, ◌∙◌, arith, inl, inr}
use Rattle.std.specs.Prelude.{Result, Ok, Err, IfOk, IfErr}
use Rattle.std.proofs.lemmas.List.{length-append, length-take}
use Rattle.rq_model.specs.Records.{Record, Checkpoint, Abort, Version}
use Rattle.rq_model.specs.Frames.{log_limit, start, before, frames_of, last_of}
use Rattle.rq_model.specs.States.{State, empty}
use Rattle.rq_model.specs.StateSpelling.{carried_next}
use Rattle.rq_model.specs.Machine.{run, aborts}
use Rattle.rq_model.specs.Fronts.{IsWhy}
use Rattle.rq_record.specs.declared.fault.Fault.{Fault}
use Rattle.rq_record.specs.declared.fault.Fault.TheVariants as faults
use Rattle.rq_record.specs.Views.{record_of, version_of}
use Rattle.rq_judged.specs.Refusals.{RefusedCarried}
use Rattle.rq_judged.specs.Views.{why_of}
use Rattle.rq_judged.proofs.Starts.{started}
use Rattle.rq_judged.proofs.Checkpoints.{from_checkpoint, HasFrom}
use Rattle.rq_restart.specs.RedoneFronts.{IsFoundAt, IsFoundFront}
use Rattle.rq_restart.specs.Tails.{EndsLog, EndsLogAt, IsCrowded, IsEnding, IsEndingAt, IsEndingOf, StaysOpen}
use Rattle.rq_restart.specs.Tails.{StaysOpenAt, tail_at, tail_behind}
use Rattle.rq_restart.specs.declared.restarts.FoundFront.{FoundFront}
use Rattle.rq_restart.specs.declared.tails.Ending.{Ending}
use Rattle.rq_restart.proofs.Endings.{aborts_long, closed_by, front_of, no_memory}
use Rattle.rq_restart.proofs.RedoneFronts.{from_empty}

abbrev records : FoundFront → List Record
records f = map record_of f.front.records.items

-- more units are open than there is room for
pub crowded : (b : List ℕ) (f : FoundFront) (units : List ℕ) (count : ℕ)
    → units ≡ (run f.state (map record_of f.front.records.items)).units → count ≡ length units
    → (4294967295 - f.front.end) / 45 < count → IsCrowded b f faults.TooLarge
crowded b f units count are_open count_is more =
    let long = aborts_long (before f.front.end b) (run f.state (records f)).units in
    let many : count ≡ length (run f.state (records f)).units = count_is ∙ ap length are_open in
    inl (refl, omega (arith, long, many, more))

-- no more are
pub fits : (b : List ℕ) (f : FoundFront) (units : List ℕ) (e : Ending)
    → e ≡ record {
      version = f.version;
      end = record { used = f.front.end; records = e.end.records; why = f.front.why };
      units = e.units;
      tail = e.tail;
    } → e.end.records ≡ length (records f) → f.front.end ≤ 4294967295
    → units ≡ (run f.state (map record_of f.front.records.items)).units → e.units ≡ length units
    → e.units ≤ (4294967295 - f.front.end) / 45 → e.tail.items ≡ frames_of (before f.front.end b) (map Abort units)
    → IsEndingOf b f e
fits b f units e is all short are_open count few wrote =
    let tail : e.tail.items ≡ tail_behind b f =
    wrote ∙ ap (λ (us : List ℕ). frames_of (before f.front.end b) (map Abort us)) are_open in
    let many : e.units ≡ length (run f.state (records f)).units = count ∙ ap length are_open in
    let long = aborts_long (before f.front.end b) (run f.state (records f)).units in
    record {
      is = is;
      count = all;
      units = many;
      tail = tail;
      room = omega (arith, long, many, few, short, ap length tail);
    }

-- the end of all of a log
is_ending : (b : List ℕ) (f : FoundFront) → IsFoundFront b f → (e : Ending) → IsEndingOf b f e → IsEnding b e
is_ending b f is e h =
    let version = version_of f.version in
    let rs = records f in
    let end = f.front.end in
    let why = why_of f.front.why in
    let from = from_empty b f is in
    let front = front_of version is.ends b rs end why is.found.short is.header from in
    let tail : e.tail.items ≡ frames_of (last_of (start version) rs) (aborts (run empty rs)) =
    h.tail ∙ (λ i. frames_of (front.last i) (aborts (run (is.start i) rs))) in
    subst (IsEnding b) (sym h.is) (record {
      log = (is.found.short, (version, is.header));
      records = rs;
      front = front.front;
      ends = subst (λ (p : List ℕ). IsWhy version (run empty rs) (last_of p rs) (drop end b) why)
          (started version is.ends b is.header).chained from.ends;
      used = omega (arith, from.within, length-take end b, ap length front.bytes);
      count = h.count;
      after = omega (arith, from.few);
      within = from.within;
      units = h.units ∙ (λ i. length (run (is.start i) rs).units);
      closed = closed_by version b e.tail.items rs end front tail;
      room = omega (arith, h.room, length-append (take end b) e.tail.items, length-take end b, from.within);
    })

-- why there is none
stays_open : (b : List ℕ) (f : FoundFront) → IsFoundFront b f → (e : Fault) → IsCrowded b f e → StaysOpen b e
stays_open b f is e crowd = elim crowd [
  | inl h ↦ (let version = version_of f.version in
      let rs = records f in
      let end = f.front.end in
      let from = from_empty b f is in
      let front = front_of version is.ends b rs end (why_of f.front.why) is.found.short is.header from in
      let tail : List ℕ = frames_of (last_of (start version) rs) (aborts (run empty rs)) in
      let same : tail_behind b f ≡ tail = (λ i. frames_of (front.last i) (aborts (run (is.start i) rs))) in
      subst (StaysOpen b) (sym h.0) (
        (is.found.short, (version, is.header)),
        take end b ++ tail,
        (tail, closed_by version b tail rs end front refl),
        omega (arith, h.1, ap length same, length-append (take end b) tail, length-take end b, from.within),
      ))
  | inr memory ↦ no_memory b e memory
]

pub ends_log : (b : List ℕ) (f : FoundFront) → IsFoundFront b f → (result : Result Ending Fault)
    → IfOk result (IsEndingOf b f) → IfErr result (IsCrowded b f) → EndsLog b result
ends_log b f is (Ok e) ends crowd = is_ending b f is e ends
ends_log b f is (Err e) ends crowd = stays_open b f is e crowd

-- the end of a front from a checkpoint on
from_there : (b : List ℕ) (offset : ℕ) (f : FoundFront) (is : IsFoundAt carried_next b offset f)
    → HasFrom carried_next b offset (record { version = f.version; found = is.chain; state = f.state }) is.begun.kept (records f) f.front.end (why_of f.front.why)
from_there b offset f is =
    from_checkpoint carried_next b offset (record { version = f.version; found = is.chain; state = f.state }) is.begun (records f)
    f.front.end (why_of f.front.why) is.found.front

same_tail : (b : List ℕ) (offset : ℕ) (f : FoundFront) (is : IsFoundAt carried_next b offset f)
    → tail_behind b f ≡ tail_at b offset f.state is.begun.kept (from_there b offset f is).after
same_tail b offset f is =
    let has = from_there b offset f is in
    λ i. frames_of (has.from.last i) (aborts (run f.state (has.are i)))

is_ending_at : (b : List ℕ) (offset : ℕ) (f : FoundFront) → IsFoundAt carried_next b offset f → (e : Ending) → IsEndingOf b f e
    → IsEndingAt b offset e
is_ending_at b offset f is e h =
    let has = from_there b offset f is in
    let at = has.from in
    subst (IsEndingAt b offset) (sym h.is) (record {
      base = f.state;
      kept = is.begun.kept;
      after = has.after;
      front = at.front;
      ends = at.ends;
      used = at.used;
      count = h.count ∙ ap length has.are;
      past_header = omega (arith, is.found.behind, is.found.front.few);
      within = is.found.front.within;
      units = h.units ∙ (λ i. length (run f.state (has.are i)).units);
      tail = h.tail ∙ same_tail b offset f is;
      room = h.room;
    })

stays_open_at : (b : List ℕ) (offset : ℕ) (f : FoundFront) → IsFoundAt carried_next b offset f → (e : Fault) → IsCrowded b f e
    → StaysOpenAt b offset e
stays_open_at b offset f is e crowd = elim crowd [
  | inl h ↦ (let has = from_there b offset f is in
      let at = has.from in
      subst (StaysOpenAt b offset) (sym h.0) (record {
        version = version_of f.version;
        base = f.state;
        kept = is.begun.kept;
        after = has.after;
        rest = drop f.front.end b;
        front = at.front;
        long = omega (arith, h.1, at.used, ap length (same_tail b offset f is));
      }))
  | inr memory ↦ subst (StaysOpenAt b offset) (sym memory) tt
]

pub ends_log_at : (b : List ℕ) (offset : ℕ) (f : FoundFront) → IsFoundAt carried_next b offset f → (result : Result Ending Fault)
    → IfOk result (IsEndingOf b f) → IfErr result (IsCrowded b f) → EndsLogAt b offset result
ends_log_at b offset f is (Ok e) ends crowd = is_ending_at b offset f is e ends
ends_log_at b offset f is (Err e) ends crowd = stays_open_at b offset f is e crowd

-- without a front there is no end
pub refused_there : (b : List ℕ) (offset : ℕ) (e : Fault) → RefusedCarried b offset e → StaysOpenAt b offset e
refused_there b offset faults.TooLarge refused = absurd refused
refused_there b offset _ refused = refused
