-- A log that is opened behind its front.
use Rattle.std.proofs.Common.{◌≡◌, ◌≤◌, ℕ, Bool, List, Option, length, drop, ap, sym, subst, ◌∙◌, arith}
use Rattle.std.specs.Prelude.{Result, Ok, Err, IfOk, IfErr}
use Rattle.std.proofs.lemmas.List.{length-append}
use Rattle.rq_model.specs.Frames.{header, frames_of, log_of, start}
use Rattle.rq_model.proofs.Longest.{front_whole}
use Rattle.rq_model.proofs.Restarts.{header_long}
use Rattle.rq_record.specs.Views.{version_of}
use Rattle.rq_record.specs.declared.fault.Fault.TheVariants.{NotALog, Resources}
use Rattle.rq_judged.specs.Views.{why_of}
use Rattle.rq_front.specs.Chains.{Refused}
use Rattle.rq_journal.specs.LeftBehind.{IsDamage}
use Rattle.rq_journal.specs.declared.left_behind.Damage.{Damage}
use Rattle.rq_reopen.specs.declared.found_log.FoundLog.{FoundLog}
use Rattle.rq_reopen.specs.declared.openings.Opening.{Opening}
use Rattle.rq_reopen.specs.declared.openings.NotOpened.{NotOpened}
use Rattle.rq_reopen.specs.declared.openings.NotOpened.TheVariants.{Log, Damaged}
use Rattle.rq_reopen.specs.Openings.{CutsBehind, IsFound, IsNotShut, MayBeCut, OpensLog, OpensBehind}

-- what is handed back may go
pub opens_behind : (c : List ℕ) (l : FoundLog) (drops : Bool) (damage : Option Damage)
    (result : Result Opening NotOpened)
    → CutsBehind c l damage result → MayBeCut c l drops damage → OpensBehind c l drops result
opens_behind c l drops damage (Ok o) cut may = (cut.0, cut.1, subst (MayBeCut c l drops) (sym cut.2) may)
opens_behind c l drops damage (Err (Log fault)) cut may = cut
opens_behind c l drops damage (Err (Damaged found other)) cut may = absurd cut

-- behind the front that was found
pub opens_there : (c : List ℕ) (l : FoundLog) (drops : Bool) → IsFound c l → (result : Result Opening NotOpened)
    → OpensBehind c l drops result → OpensLog c drops result
opens_there c l drops found (Ok o) is = (
  subst (IsFound c) (sym is.0) found,
  is.1 ∙ ap (λ (x : FoundLog). drop x.end.used c) (sym is.0),
  subst (λ (x : FoundLog). MayBeCut c x drops o.damage) (sym is.0) is.2,
)
opens_there c l drops found (Err (Log fault)) is = subst (Refused c) (sym is) tt
opens_there c l drops found (Err (Damaged x damage)) is = (
  subst (IsFound c) (sym is.0) found,
  is.1,
  subst (λ (z : FoundLog). IsDamage c z.end.used (why_of z.end.why) damage) (sym is.0) is.2,
)

-- and what is known of that holds of what is opened
pub opened_so : (P : FoundLog → Type 0) (c : List ℕ) (l : FoundLog) (drops : Bool) (result : Result Opening NotOpened)
    → OpensBehind c l drops result → P l → IfOk result (λ (o : Opening). P o.found)
opened_so P c l drops (Ok o) is h = subst P (sym is.0) h
opened_so P c l drops (Err e) is h = tt

-- memory was refused, if anything
pub opened_headed : (c : List ℕ) (l : FoundLog) (drops : Bool) (result : Result Opening NotOpened)
    → OpensBehind c l drops result → IfErr result (IsNotShut c)
opened_headed c l drops (Ok o) is = tt
opened_headed c l drops (Err (Log fault)) is = λ version rs m w managed safe stored left none. apart (sym is ∙ none)
  where
    apart : Resources ≡ NotALog → ⊥
    apart e = absurd cc
opened_headed c l drops (Err (Damaged found damage)) is = tt

-- a front is longer than a link, and stands within the bytes
pub found_within : (c : List ℕ) (l : FoundLog) → IsFound c l → (32 ≤ l.end.used) × (l.end.used ≤ length c)
found_within c l is =
    let log = log_of (version_of l.version) is.records in
    let long = length-append (header (version_of l.version)) (frames_of (start (version_of l.version)) is.records) in
    let size = header_long (version_of l.version) in (
      omega (arith, is.used, long, size),
      omega (
        arith,
        is.used,
        ap length (front_whole c (version_of l.version) is.records (drop l.end.used c) is.front),
        length-append log (drop l.end.used c),
      ),
    )
