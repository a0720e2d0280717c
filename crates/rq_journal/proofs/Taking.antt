-- A record that is taken, and one that is not.
use Rattle.std.proofs.Common.{◌≡◌, ℕ, ◌+◌, ◌≤◌, true, List, [], ◌∷◌, ◌++◌, length, refl, sym, ap, subst}
use Rattle.std.proofs.Common.{◌∙◌, arith}
use Rattle.std.proofs.lemmas.Bool.{and_from}
use Rattle.std.proofs.lemmas.List.{length-append}
use Rattle.rq_model.specs.Records.{Record, Define, Register, Deregister, Begin, Enqueue, Dequeue, Commit, Abort}
use Rattle.rq_model.specs.Records.{Checkpoint, Kill, Version, One, Two}
use Rattle.rq_model.specs.Spelling.{body_of, IsRecord, Spells}
use Rattle.rq_model.specs.Frames.{log_limit, IsBodyLength, digest, frame, frames_of, last_of}
use Rattle.rq_model.specs.LogLaws.{RecordHasOneBody}
use Rattle.rq_model.specs.States.{State}
use Rattle.rq_model.specs.Machine.{is_lawful, step, run}
use Rattle.rq_model.specs.Appending.{MayFollow}
use Rattle.rq_model.proofs.Lists.{each_append}
use Rattle.rq_model.proofs.Runs.{frame_long}
use Rattle.rq_model.proofs.Longest.{frames_of_join, last_of_join}
use Rattle.rq_model.proofs.Restarts.{run_join, next_run, lawful_join, lawful_cut, each_cut}
use Rattle.rq_record.specs.Writing.{HasKind}
use Rattle.rq_catalog.specs.declared.judge.Judge.{Judge}
use Rattle.rq_front.specs.Framers.{Place, Frames, length_with}
use Rattle.rq_catalog.specs.Judges.{StandsIn, KeepsStanding}
use Rattle.rq_journal.specs.declared.appender.Appender.{Appender}
use Rattle.rq_journal.specs.Appenders.{IsAppenderAt, AppendsOne}

-- a body fits into a frame
pub body_fits : (r : Record) → RecordHasOneBody
    → ((version : Version) → HasKind version r → Spells version r (body_of r)) → IsBodyLength (length (body_of r))
body_fits r one spelled = (one Two r (body_of r) (body_of r) (spelled Two tt) (spelled Two tt)).1

-- a lawful record has a kind of its version
has_kind : (version : Version) (s : State) (r : Record) → is_lawful version s r ≡ true → HasKind version r
has_kind One s (Define limit error name) h = tt
has_kind One s (Register queue name) h = tt
has_kind One s (Deregister queue name) h = tt
has_kind One s (Begin unit) h = tt
has_kind One s (Enqueue unit queue priority by payload) h = tt
has_kind One s (Dequeue unit queue by) h = tt
has_kind One s (Commit unit) h = tt
has_kind One s (Abort unit) h = tt
has_kind One s (Checkpoint bytes) h = tt
has_kind Two s (Define limit error name) h = tt
has_kind One s (Kill queue element) h = absurd cc
has_kind Two s _ h = tt

-- how long the log is with one record more
pub one_longer : (at : Place) (rs : List Record) (r : Record)
    → length_with at (rs ++ r ∷ []) ≡ length_with at rs + (36 + length (body_of r))
one_longer at rs r =
    let f = frame (last_of at.link rs) (body_of r) in
    omega (
      arith,
      ap length (frames_of_join at.link rs (r ∷ [])),
      length-append (frames_of at.link rs) (frames_of (last_of at.link rs) (r ∷ [])),
      length-append f [],
      frame_long (last_of at.link rs) (body_of r),
    )

-- a judge that still stands where it stood
pub stands_still : (at : Place) (rs : List Record) (a : Appender) (j : Judge) → KeepsStanding a.judge j
    → IsAppenderAt at rs a → IsAppenderAt at rs (record { judge = j; framer = a.framer; next = a.next })
stands_still at rs a j kept h = record {
  may = h.may;
  short = h.short;
  judge = kept at.version (run at.state rs) h.judge;
  framer = h.framer;
  number = h.number;
}

-- a record that is judged and framed moves it on
pub moves_on : (a b : Appender) (r : Record) (old new : List ℕ)
    → ((version : Version) → HasKind version r → Spells version r (body_of r))
    → ((version : Version) (s : State) → StandsIn version a.judge s → is_lawful version s r ≡ true)
    → ((version : Version) (s : State) → StandsIn version a.judge s → StandsIn version b.judge (step s r))
    → Frames a.framer b.framer (body_of r) old new → a.framer.len + (36 + length (body_of r)) ≤ log_limit
    → b.next ≡ a.next + 1 → AppendsOne a b r old new
moves_on a b r old new spelled lawful stands framed room next at rs h =
    let here = run at.state rs in
    let allowed = lawful at.version here h.judge in
    let longer = one_longer at rs r in (
      record {
        may = record {
          records = each_append (IsRecord at.version) rs (r ∷ []) h.may.records
              ((spelled at.version (has_kind at.version here r allowed)).0, tt);
          lawful = lawful_join at.version at.state rs (r ∷ []) h.may.lawful (and_from _ _ allowed refl);
        };
        short = omega (arith, room, h.framer.len, longer);
        judge = subst (StandsIn at.version b.judge) (sym (run_join at.state rs (r ∷ [])))
            (stands at.version here h.judge);
        framer = record {
          last = framed.last ∙ ap (λ (q : List ℕ). digest q (body_of r)) h.framer.last
              ∙ sym (last_of_join at.link rs (r ∷ []));
          len = omega (arith, framed.len, h.framer.len, longer);
        };
        number = omega (
          arith,
          next,
          h.number,
          next_run at.state rs,
          next_run at.state (rs ++ r ∷ []),
          length-append rs (r ∷ []),
        );
      },
      framed.bytes ∙ ap (λ (q : List ℕ). old ++ frame q (body_of r)) h.framer.last,
    )

-- what stands behind others may follow them
pub later : (at : Place) (rs xs : List Record) (a : Appender) → IsAppenderAt at (rs ++ xs) a
    → MayFollow at.version (run at.state rs) xs
later at rs xs a h = record {
  records = (each_cut (IsRecord at.version) rs xs h.may.records).1;
  lawful = (lawful_cut at.version at.state rs xs h.may.lawful).1;
}
