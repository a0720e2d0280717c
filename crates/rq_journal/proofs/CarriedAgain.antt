-- A log that goes on from the front of one that was carried on.
use Rattle.std.proofs.Common.{◌≡◌, ℕ, ◌-◌, ◌≤◌, List, [], ◌∷◌, ◌++◌, length, drop, sym, ap, subst, ◌∙◌, arith, inr}
use Rattle.std.specs.Prelude.{Result, Ok, Err}
use Rattle.std.specs.Global.{Vec}
use Rattle.std.proofs.lemmas.List.{drop-append-le, length-drop, length-take}
use Rattle.rq_model.specs.Records.{Record, Checkpoint, Version}
use Rattle.rq_model.specs.Frames.{start, frame, frames_of, bodies_of, last_of, before, body_in}
use Rattle.rq_model.specs.LogLaws.{BytesSpellOneState}
use Rattle.rq_model.specs.States.{State, empty}
use Rattle.rq_model.specs.Machine.{run}
use Rattle.rq_model.specs.StateSpelling.{carried_next, state_bytes, SpellsCarried}
use Rattle.rq_model.specs.Appending.{MayFollow}
use Rattle.rq_model.specs.Fronts.{IsLongest}
use Rattle.rq_model.specs.Carrying.{IsCarriedFront, carried_at, carried_file, as_log, StartsAnew, IsNoLog, ReadsAsLog, FilesJoin}
use Rattle.rq_model.proofs.Runs.{last_at_end}
use Rattle.rq_model.proofs.Longest.{last_of_join}
use Rattle.rq_model.proofs.Restarts.{both_follow, run_join, spelt_after}
use Rattle.rq_model.proofs.StateCodes.{short_is_counted}
use Rattle.rq_record.specs.Views.{version_of}
use Rattle.rq_record.specs.declared.fault.Fault.{Fault}
use Rattle.rq_record.specs.declared.fault.Fault.TheVariants as faults
use Rattle.rq_restart.specs.declared.redone.RedoneFront.{RedoneFront}
use Rattle.rq_restart.specs.RedoneFronts.{IsRedoneAt}
use Rattle.rq_judged.proofs.Passes.{frame_more, part_more}
use Rattle.rq_journal.specs.Checkpoints.{HasNoCheckpointOf, IsCheckpointOf}
use Rattle.rq_journal.specs.Carries.{BeginsFile, CarriesAgain, IsBegunIn, IsCarriedAgain, IsCarriedState, JoinsBehind, StaysThere}
use Rattle.rq_journal.proofs.CarriedOn.{begun_in}

module _ (b : List ℕ) (f : RedoneFront) (h : IsRedoneAt b carried_at f) where
  abbrev version : Version
  version = version_of f.version

  abbrev xs : List Record
  xs = Checkpoint h.kept ∷ h.after

  abbrev link : List ℕ
  link = last_of (before carried_at b) xs

  abbrev state : State
  state = run h.base xs

  may : MayFollow version h.base xs
  may = record { records = h.front.front.begins.records; lawful = h.front.front.begins.lawful }

  spelt : f.state.next ≤ carried_next → length (state_bytes state) ≤ 268435455
      → SpellsCarried version state (state_bytes state)
  spelt low small =
      let spells = h.front.spells in
      let next = subst (λ (z : State). z.next ≤ carried_next) h.state low in
      spelt_after carried_next version h.base xs spells.keeps spells.fits spells.deep may next
      (short_is_counted state (omega (arith, next)) (omega (arith, small)))

  long : length link ≡ 32
  long =
      let p_long : length (before carried_at b) ≡ 32 =
      omega (
        arith,
        length-take 32 (drop (carried_at - 32) b),
        length-drop (carried_at - 32) b,
        length-drop carried_at b,
        h.front.checkpoint.frame.whole.room,
      ) in
      (last_at_end [] (before carried_at b) (bodies_of xs) p_long).2

  -- the checkpoint that the file begins with is read again, whatever stands behind it
  joins : BytesSpellOneState → ReadsAsLog → FilesJoin → (new : List ℕ) → IsBegunIn version link state new
      → (records : List Record) → MayFollow version empty records → before carried_at b ≡ last_of (start version) records
      → SpellsCarried version (run empty records) h.kept → JoinsBehind version (records ++ xs) new
  joins one reads join new begun records old linked spelled = λ more s kept after left read.
      let all : List Record = records ++ xs in
      let log = as_log version new in
      let grown : as_log version (new ++ more) ≡ log ++ more = reads.more version new more begun.headed in
      let at = subst (λ (z : List ℕ). IsCarriedFront z carried_at version s kept after left) grown read in
      let base_is : h.base ≡ run empty records =
      one carried_next carried_next version version h.base (run empty records) h.kept h.front.spells spelled in
      let follow = both_follow version empty records xs old (subst (λ (z : State). MayFollow version z xs) base_is may) in
      let state_is : state ≡ run empty all = ap (λ (z : State). run z xs) base_is ∙ sym (run_join empty records xs) in
      let link_is : link ≡ last_of (start version) all =
      ap (λ (z : List ℕ). last_of z xs) linked ∙ sym (last_of_join (start version) records xs) in
      let first = begun.there.checkpoint in
      let high : carried_at ≤ length log = omega (arith, first.frame.whole.room, length-drop carried_at log) in
      let ahead : before carried_at (log ++ more) ≡ link = part_more log more 40 32 (omega (arith, high)) ∙ begun.linked in
      let kept_is : kept ≡ state_bytes state =
      ap (drop 1)
      (sym at.checkpoint.body ∙ ap body_in (drop-append-le carried_at log more high)
      ∙ (frame_more (drop carried_at log) more first.frame.whole).body ∙ first.body) in
      let spells = subst (SpellsCarried version state) (sym kept_is) begun.there.spells in
      let joined = join carried_next carried_next (log ++ more) carried_at version s kept all after left follow at (ahead ∙ link_is)
      (subst (λ (z : State). SpellsCarried version z kept) state_is spells) in (
        subst (λ (z : List ℕ). IsLongest version empty (start version) (frames_of (start version) all ++ drop carried_at z)
            (all ++ Checkpoint kept ∷ after) left) (sym grown) joined.0,
        joined.1,
      )

  carried_again : (new body : List ℕ) → f.state.next ≤ carried_next → IsCheckpointOf f.state body → BytesSpellOneState
      → StartsAnew → IsNoLog → ReadsAsLog → FilesJoin → new ≡ carried_file version f.last (frame f.last body)
      → IsCarriedAgain b new
  carried_again new body low is one starts apart reads join new_is =
      let here = subst (λ (z : State). IsCheckpointOf z body) h.state is in
      let all = new_is ∙ ap (λ (z : List ℕ). carried_file version z (frame z body)) h.last in
      let begun = begun_in version link state body long here (spelt low here.small) starts apart reads new all in
      record {
        version = version;
        base = h.base;
        kept = h.kept;
        after = h.after;
        rest = drop f.end.used b;
        front = h.front;
        begun = begun;
        joins = joins one reads join new begun;
      }

  pub carries_again : (body : List ℕ) → f.state.next ≤ carried_next → IsCheckpointOf f.state body
      → (result : Result (Vec ℕ) Fault) → BytesSpellOneState → StartsAnew → IsNoLog → ReadsAsLog → FilesJoin
      → BeginsFile version f.last body result → CarriesAgain b result
  carries_again body low is (Ok v) one starts apart reads join begun =
      carried_again v.items body low is one starts apart reads join begun
  carries_again body low is (Err e) one starts apart reads join begun = subst (StaysThere b) (sym begun) tt

  state_of : IsCarriedState b f.state
  state_of = record {
    version = version;
    base = h.base;
    kept = h.kept;
    after = h.after;
    rest = drop f.end.used b;
    front = h.front;
    state = h.state;
  }

  -- a state behind which no other is spelled is not carried
  pub no_number : carried_next ≤ f.state.next → StaysThere b faults.TooLong
  no_number high = inr (f.state, state_of, high)

  -- nor is one without a checkpoint
  pub no_checkpoint : (e : Fault) → HasNoCheckpointOf f.state e → StaysThere b e
  no_checkpoint faults.TooLong high = no_number (omega (arith, high))
  no_checkpoint faults.TooLarge large = (f.state, state_of, large.0, large.1)
  no_checkpoint faults.Resources none = tt
  no_checkpoint _ none = absurd none
