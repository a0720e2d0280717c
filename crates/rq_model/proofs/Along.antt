-- What is kept along with a log.
use Rattle.std.proofs.Common.{◌≡◌, ℕ, List, ◌++◌, length, drop, refl, sym, ap, subst, ◌∙◌, append_assoc, arith}
use Rattle.std.proofs.lemmas.List.{length-append, length-drop}
use Rattle.rq_model.specs.Frames.{header, start, log_of, frames_of, last_of, before}
use Rattle.rq_model.specs.States.{empty}
use Rattle.rq_model.specs.Machine.{run}
use Rattle.rq_model.specs.Fronts.{Begins, IsWhy, IsFront}
use Rattle.rq_model.specs.Appending.{AlongIsFront, WindowGoesOn}
use Rattle.rq_model.proofs.Longest.{front_stops, last_of_join, log_joins, log_ends}
use Rattle.rq_model.proofs.FromCheckpoints.{linked}
use Rattle.rq_model.proofs.Restarts.{header_long, follows, both_follow, why_joins}
use Rattle.rq_model.proofs.Carried.{goes_on}

pub along_is_front : AlongIsFront
along_is_front b version records rest why h short =
    let p = start version in
    let bytes = frames_of p records ++ rest in
    let begins : Begins version empty p bytes records rest =
    record { records = h.may.records; lawful = h.may.lawful; whole = refl } in
    let front : IsFront b version records rest = record {
      short = short;
      bytes = bytes;
      whole = h.whole ∙ append_assoc (header version) (frames_of p records) rest;
      longest = front_stops version empty p bytes rest records why begins h.ends;
    } in (
      front,
      record {
        version = version;
        records = records;
        rest = rest;
        why = why;
        front = front;
        ends = h.ends;
        answer = refl;
      },
    )

pub window_goes_on : WindowGoesOn
window_goes_on b more window version records xs rest end old why h is high longest ends =
    let first = start version in
    let p = last_of first records in
    let (kept, log_end, long) = log_ends version records in
    let left = drop end window in
    let goes = goes_on version p (rest ++ more) window long is in
    let ahead = goes.at.ahead in
    let behind = goes.at.behind in
    let begins = longest.begins in
    let parts : rest ++ more ≡ frames_of p xs ++ left =
    sym behind ∙ begins.whole ∙ ap (λ (q : List ℕ). frames_of q xs ++ left) ahead in
    let new = follows version (run empty records) (before 72 window) (drop 72 window) left xs begins in
    let whole : b ++ more ≡ log_of version (records ++ xs) ++ left =
    ap (λ (z : List ℕ). z ++ more) h.whole ∙ append_assoc (log_of version records) rest more
    ∙ ap (λ (z : List ℕ). log_of version records ++ z) parts
    ∙ sym (append_assoc (log_of version records) (frames_of p xs) left)
    ∙ ap (λ (z : List ℕ). z ++ left) (sym (log_joins version records xs)) in
    let why_is = subst (λ (q : List ℕ). IsWhy version (run (run empty records) xs) (last_of q xs) left why) ahead ends in
    let whole_window = is ∙ ap (λ (z : List ℕ). header version ++ (p ++ z)) parts in
    let at = linked window (header version) p xs left end long whole_window
    (omega (
      arith,
      header_long version,
      ap length parts,
      length-append (frames_of p xs) left,
      goes.size,
      length-drop end window,
      high,
    )) in
    let link : before end window ≡ last_of first (records ++ xs) = at.ahead ∙ sym (last_of_join first records xs) in (
      record {
        may = both_follow version empty records xs h.may new;
        whole = whole;
        ends = why_joins version empty first left records xs why why_is;
      },
      ap (λ (z : List ℕ). header version ++ (z ++ left)) link,
    )
